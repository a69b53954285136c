use Rattle.bin_laws.proofs.Counts.{scans_count_blocks}
use Rattle.bin_laws.proofs.laws.scans_count_blocks.Goals as goal

pub returns : goal.returns
returns c = scans_count_blocks
