-- What laws above cite.
pub use Rattle.orphan_laws.proofs.Seats.{Rely, OnlyAt, Apart, rely_only, fits_at}
pub use Rattle.orphan_laws.proofs.Seats.{hand-is, taken-is, returned-is, front-in}
pub use Rattle.orphan_laws.proofs.Rows.{way_orphan, way_taken, way_fits, row_keeps, word_keeps, hand_keeps, stand_keeps}
pub use Rattle.orphan_laws.proofs.Pushing.{pushed_keeps}
pub use Rattle.orphan_laws.proofs.Returning.{leaves-as, returns-as, spares_keep}
pub use Rattle.orphan_laws.proofs.Adopting.{adopt_stand, settled, adopted, spare_has_room}
pub use Rattle.orphan_laws.proofs.Taking.{left-is, takes-as, spared-as}
pub use Rattle.orphan_laws.proofs.Asides.{IsMoved, IsHeld, Beside, beside_keeps}
pub use Rattle.orphan_laws.proofs.Mails.{asides-as}
pub use Rattle.orphan_laws.proofs.Slabs.{owned_first, joined, rested, begun-as, ended-as, records-as}
pub use Rattle.orphan_laws.proofs.Keeps.{steps_keep_orphans, runs_keep_orphans}
pub use Rattle.orphan_laws.proofs.Examples.{has_one}
