use Rattle.std.proofs.Common.{rules}
use Rattle.pool_types.specs.Texts.{names_of}
use Rattle.report_text.proofs.EntryLemmas.{entries_text-added}
use Rattle.report_text.proofs.report.Report.add.Goals as goal

pub returns-in-Ok-clause-entries : goal.returns-in-Ok-clause-entries
returns-in-Ok-clause-entries c =
    entries_text-added c.args.self.now (names_of c.self.inside.names.items) c.close.new.self.whole c.args.entry (search rules) (search rules)
