-- What laws above cite.
pub use Rattle.region_laws.proofs.Keeps.{blocks_lie_in_one_region}
