use Rattle.report_text.specs.Totals.{held_totals_text}
use Rattle.report_text.proofs.EntryLemmas.{worded_after}
use Rattle.report_text.proofs.totals.add_held_totals.Goals as goal

pub returns-clause-added : goal.returns-clause-added
unfolding held_totals_text
returns-clause-added c = worded_after c.worded-2.result c.args.text.now.begun c.worded.new.self.begun c.worded-2.new.self.begun _ _ c.in_ok-worded.ensures.added c.worded-2.ensures.added
