-- What the next step of a seat is, where it is one of orphans; each other step is on none of their words.
use Rattle.std.specs.Prelude.{◌≡◌, Some}
use Rattle.pool_words.specs.declared.words.Word.{Word}
use Rattle.pool_words.specs.declared.actions.Action.{Action}
use Rattle.pool_words.specs.declared.actions.Action.TheVariants.{Store, Swap}
use Rattle.word_codes.specs.declared.owns.Own.{Own}
use Rattle.word_codes.specs.declared.publics.Public.{Public}
use Rattle.word_codes.specs.Owns.{own_word}
use Rattle.word_codes.specs.Publics.{public_word}
use Rattle.heap_slabs.specs.declared.records.HeapSlab.{HeapSlab}
use Rattle.heap_slabs.specs.Records.{to_header}
use Rattle.heap_slabs.specs.Slabs.{record_at}
use Rattle.public_list.specs.declared.joining.JoinAt.{JoinAt}
use Rattle.orphans.specs.Adopting.{adopt_course}
use Rattle.orphans.specs.Leaving.{leave_course}
use Rattle.orphan_laws.specs.Steps.{IsApart, adopt_of, return_of}
use Rattle.step_local.specs.declared.frames.At.{At}
use Rattle.step_local.specs.declared.frames.Local.{Local}
use Rattle.step_local.specs.declared.frames.SmallAt.{SmallAt}

-- a slab is left with the record that the heap has of it; the own word of a new slab names the seat
abbrev pub OrphanStepAt : Local → At → Action → Type 0
OrphanStepAt l (At.Leave slab at) action = (kept : HeapSlab) → record_at l.heap.slabs.records slab ≡ Some kept
    → action ≡ leave_course (record { slab = slab; class = kept.class; header = to_header kept }) at
OrphanStepAt l (At.Adopt at) action = action ≡ adopt_course (adopt_of l.seat l.fetch.class) at
OrphanStepAt l (At.Join slab rest JoinAt.Take) action = action ≡ Swap (Word.Public slab) (public_word Public.Null)
OrphanStepAt l (At.Spare at) action = action ≡ leave_course (return_of l.fetch.class l.fetch.spare) at
OrphanStepAt l (At.Small (SmallAt.Own slab)) action = action ≡ Store (Word.Own slab) (own_word (Own.Kept l.seat))
OrphanStepAt l _ action = IsApart action
