use Rattle.std.proofs.Common.{List, [], ℕ, drop, map, subst}
use Rattle.std.specs.Prelude.{Result, Ok, Err}
use Rattle.arrayvec.specs.ArrayVec.{ArrayVec}
use Rattle.trace_reader.specs.declared.acts.PoolOption.{PoolOption}
use Rattle.trace_reader.specs.declared.refusal.Refusal.{Refusal}
use Rattle.trace_reader.specs.Words.{bytes_in}
use Rattle.trace_reader.specs.Options.{IsReadAsOptions}
use Rattle.trace_reader.proofs.OneSlot.{not_both}
use Rattle.trace_reader.proofs.OneOption.{options_one}
use Rattle.trace_reader.proofs.context.Context.make.Goals as goal

pub unreachable-requires : goal.unreachable-requires
unreachable-requires c =
    let words : List (List ℕ) = drop 2 (map bytes_in c.args.words.now) in
    not_both (options_one [] words (Ok c.requires.1.0) (Err c.in_default.field-0) c.requires.1.1
    (subst (λ (read : Result (ArrayVec PoolOption) Refusal). IsReadAsOptions words read) c.in_default.is c.options_from.ensures))
