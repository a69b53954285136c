-- What proofs of other crates cite of these.
pub use Rattle.size_classes.proofs.Sizes.{class_size-past, class_size-least, class_size-most, class_size-eights}
pub use Rattle.size_classes.proofs.Sizes.{class_objects-fit, class_objects-least, class_objects-most}
pub use Rattle.size_classes.proofs.Positions.{class_of-some, class_of-found}
pub use Rattle.size_classes.proofs.Serving.{served_plain-small}
pub use Rattle.size_classes.proofs.Places.{bytes-next, objects-room, object_offset-eights, object_offset-sixteens}
