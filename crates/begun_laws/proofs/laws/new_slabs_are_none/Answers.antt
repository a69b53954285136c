use Rattle.begun_laws.proofs.Hands.{new_slabs_are_none}
use Rattle.begun_laws.proofs.laws.new_slabs_are_none.Goals as goal

pub returns : goal.returns
returns c = new_slabs_are_none
