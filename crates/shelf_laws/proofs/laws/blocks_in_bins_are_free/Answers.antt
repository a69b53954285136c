use Rattle.shelf_laws.proofs.Keeps.{blocks_in_bins_are_free}
use Rattle.shelf_laws.proofs.laws.blocks_in_bins_are_free.Goals as goal

pub returns : goal.returns
returns c = blocks_in_bins_are_free
