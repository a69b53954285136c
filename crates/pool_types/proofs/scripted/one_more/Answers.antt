-- One entry fewer is left.
use Rattle.std.proofs.Common.{sym}
use Rattle.std.proofs.lemmas.List.{drop-drop}
use Rattle.pool_types.proofs.scripted.one_more.Goals as goal

pub returns-then-taken-script : goal.returns-then-taken-script
returns-then-taken-script g c = sym (drop-drop 1 c.args.taken c.args.script.now)
