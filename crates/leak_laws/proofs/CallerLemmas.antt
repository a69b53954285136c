-- What laws above cite.
pub use Rattle.leak_laws.proofs.Leaks.{leaks_were_granted}
