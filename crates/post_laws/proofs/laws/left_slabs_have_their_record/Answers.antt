use Rattle.post_laws.proofs.Premises.{left_slabs_have_their_record}
use Rattle.post_laws.proofs.laws.left_slabs_have_their_record.Goals as goal

pub returns : goal.returns
returns c = left_slabs_have_their_record
