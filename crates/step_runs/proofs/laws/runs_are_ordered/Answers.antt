use Rattle.pool_words.specs.declared.words.Word.{Word}
use Rattle.pool_words.specs.declared.actions.Action.TheVariants.{Load}
use Rattle.std.proofs.Common.{◌∙◌, sym}
use Rattle.step_depot.specs.Steps.{key_of}
use Rattle.word_laws.proofs.CallerLemmas.{actions_act_by_kind}
use Rattle.step_runs.proofs.Ordered.{run_stands}
use Rattle.step_runs.proofs.laws.runs_are_ordered.Goals as goal

pub returns : goal.returns
returns g c policy limits raw words home entries run =
    let stands = run_stands run in
    let acts = actions_act_by_kind (key_of policy limits) words (Load Word.OfficeLock) stands.sized in
    record {
      sized = stands.sized;
      seats = stands.seats;
      desks = stands.desks;
      free = λ e. stands.free (sym acts.sees ∙ e);
    }
