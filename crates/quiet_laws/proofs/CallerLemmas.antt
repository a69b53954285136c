-- What crates above cite.
pub use Rattle.quiet_laws.proofs.Turns.{resets_go_on}
pub use Rattle.quiet_laws.proofs.Begun.{resets_begin}
pub use Rattle.quiet_laws.proofs.Homes.{leaves_away, lies_at_home}
