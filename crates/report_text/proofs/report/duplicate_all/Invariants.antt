use Rattle.std.proofs.Common.{◌≡◌, take}
use Rattle.pool_types.specs.Texts.{names_of}
use Rattle.report_text.proofs.report.duplicate_all.Given as goal

abbrev pub invariant-loop-name : goal.invariant-loop-name
invariant-loop-name l = names_of l.kept.items ≡ names_of (take l.name-index l.names)
