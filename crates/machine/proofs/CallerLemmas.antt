-- What proofs of other crates cite of these.
pub use Rattle.machine.proofs.Covers.{lies_in_any-some_part, lies_in_any-append}
pub use Rattle.machine.proofs.FirstRegion.{first_number, first_gap}
pub use Rattle.machine.proofs.Mallocs.{malloc_accepted, nothing_moved, plain_aligned, enough_usable}
pub use Rattle.machine.proofs.Moving.{each-all, lies_within, none_apart, none_whole, one_whole, two_apart, two_whole}
pub use Rattle.machine.proofs.Shapes.{each-append, each-map, each-parts_of, each-some_part}
