-- What proofs of other crates cite of these.
pub use Rattle.slab_core.proofs.HeaderLemmas.{HasRoom, has_room, record_in-header}
