-- the parts so far, with those of the objects that are left
use Rattle.std.proofs.Common.{◌≡◌, ℕ}
use Rattle.word_parts.specs.Parts.{privates}
use Rattle.word_parts.proofs.parts.add_privates.Given as goal

abbrev pub decreases-loop-left : goal.decreases-loop-left
decreases-loop-left l = l.left

abbrev pub invariant-loop-left : goal.invariant-loop-left
invariant-loop-left l =
    privates l.handed l.key l.words l.initial.parts.items l.hand l.slab l.class
    ≡ privates l.left l.key l.words l.parts.items l.hand l.slab l.class
