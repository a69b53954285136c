-- What laws above cite.
pub use Rattle.word_laws.proofs.CallerLemmas.{put-same, put-other, each, both}
pub use Rattle.slab_laws.proofs.Units.{room, unit-at, unit-inside, unit-below, units-once}
pub use Rattle.slab_laws.proofs.Records.{capped-is, handed-few, after_take-private, after_take-rest, after_take-none}
pub use Rattle.slab_laws.proofs.Records.{record-of-slab, header_tells}
pub use Rattle.slab_laws.proofs.OneSlab.{takes, frees, joins, one_slab_by_its_lists}
pub use Rattle.slab_laws.proofs.Heaps.{Elsewhere, book-set, kinds-set}
pub use Rattle.slab_laws.proofs.Steps.{by_one, there_by, headed_else, headed_here, private_taken_else, rest_taken_else}
pub use Rattle.slab_laws.proofs.Steps.{rest_here, keeper_else, begun_else, begun_here, ended_else, kinds_stored, with_parts}
pub use Rattle.slab_laws.proofs.Taking.{header_gives}
pub use Rattle.slab_laws.proofs.Keeps.{steps_keep_slabs, runs_keep_slabs}
pub use Rattle.slab_laws.proofs.Examples.{kind_none, none_kept, empty_fits, begun_slabs_have_no_objects}
