-- What laws above cite.
pub use Rattle.slab_places.proofs.Lies.{begins_keep_slabs, fresh_slabs_lie, silence_keeps_slabs, turns_keep_slabs}
