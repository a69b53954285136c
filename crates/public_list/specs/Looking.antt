-- Looking at a place.
use Rattle.std.specs.Prelude.{ℕ, ◌%◌, Bool, true, false, cond, ◌||◌, eqb, Option, Some, None}
use Rattle.pool_types.specs.declared.values.Found.{Found}
use Rattle.pool_types.specs.declared.values.Found.TheVariants.{NoPlace, NoGrant, Other}
use Rattle.pool_words.specs.declared.words.Word.{Word}
use Rattle.pool_words.specs.declared.actions.Action.{Action}
use Rattle.pool_words.specs.declared.actions.Action.TheVariants.{Load}
use Rattle.word_codes.specs.declared.marks.Mark.{Mark}
use Rattle.word_codes.specs.declared.kinds.Kind.{Kind}
use Rattle.word_codes.specs.declared.region_words.RegionWord.{RegionWord}
use Rattle.word_codes.specs.Marks.{mark_of}
use Rattle.word_codes.specs.Kinds.{kind_of}
use Rattle.word_codes.specs.RegionWords.{region_of, has_number, unit_in}
use Rattle.word_codes.specs.Places.{granule_of, slab_granule, slot_of}
use Rattle.public_list.specs.declared.looking.LookAt.{LookAt}
use Rattle.public_list.specs.declared.looking.LookCall.{LookCall}
use Rattle.public_list.specs.declared.looking.LookFor.{LookFor}
use Rattle.public_list.specs.declared.looking.LookNext.{LookNext}
use Rattle.public_list.specs.declared.looking.LookNext.TheVariants.{Goes, Held, Differs, NotHeld}

abbrev pub look_course : LookCall → LookAt → Action
look_course c LookAt.Region = Load (Word.Region (slot_of c.number))
look_course c (LookAt.Mark u) = Load (Word.Mark u)
look_course c (LookAt.Again u m) = Load (Word.Region (slot_of c.number))
look_course c (LookAt.Kind u m) = Load (Word.Kind (slab_granule (granule_of u)))
look_course c (LookAt.Odd u m) = Load (Word.Kind (granule_of u))
look_course c (LookAt.Base u m k) = Load (Word.Base (slot_of c.number))
look_course c (LookAt.Second u m k base) = Load (Word.Mark u)
look_course c (LookAt.Gone m) = Load (Word.Region (slot_of c.number))

-- what a mark names
abbrev pub found_by : Mark → Found
found_by Mark.Unmarked = NoGrant
found_by (Mark.Granted g) = Other g
found_by (Mark.Hand seat) = NoGrant
found_by (Mark.Link u) = NoGrant
found_by Mark.End = NoGrant
found_by Mark.EndUnusable = NoGrant

-- what was found at a place whose slot has this region word, where the unit had this mark
abbrev pub found_at : ℕ → ℕ → ℕ → Found
found_at region number m = cond (has_number (region_of region) number) (found_by (mark_of m)) NoPlace

abbrev pub look_placed : Option ℕ → LookNext
look_placed (Some u) = Goes (LookAt.Mark u)
look_placed None = NotHeld NoPlace

abbrev pub look_granted : ℕ → ℕ → Mark → LookNext
look_granted u m Mark.Unmarked = NotHeld NoGrant
look_granted u m (Mark.Granted g) = Goes (LookAt.Kind u m)
look_granted u m (Mark.Hand seat) = NotHeld NoGrant
look_granted u m (Mark.Link v) = NotHeld NoGrant
look_granted u m Mark.End = NotHeld NoGrant
look_granted u m Mark.EndUnusable = NotHeld NoGrant

abbrev pub look_marked : ℕ → ℕ → LookNext
look_marked u m = look_granted u m (mark_of m)

abbrev pub look_held : LookFor → ℕ → ℕ → Kind → LookNext
look_held LookFor.Free u m k = Held u m k 0
look_held LookFor.Size u m k = Goes (LookAt.Second u m k 0)
look_held LookFor.Pool u m k = Goes (LookAt.Second u m k 0)
look_held LookFor.Realloc u m k = Goes (LookAt.Base u m k)

abbrev pub is_slab : Kind → Bool
is_slab Kind.Nothing = false
is_slab (Kind.Slab class) = true
is_slab Kind.CachedSlab = false
is_slab (Kind.Large first granules) = false

-- the kind at the even granule counts where it is a slab, or where the unit is in that granule
abbrev pub look_kinded : LookFor → ℕ → ℕ → Kind → LookNext
look_kinded why u m k = cond (is_slab k || eqb (granule_of u % 2) 0) (look_held why u m k) (Goes (LookAt.Odd u m))

abbrev pub look_again : LookFor → ℕ → LookNext
look_again LookFor.Free m = Goes (LookAt.Gone m)
look_again LookFor.Size m = Goes (LookAt.Gone m)
look_again LookFor.Pool m = Differs
look_again LookFor.Realloc m = Goes (LookAt.Gone m)

abbrev pub look_region : LookCall → RegionWord → LookNext
look_region c r = cond (has_number r c.number) (look_placed (unit_in r c.offset)) (NotHeld NoPlace)

abbrev pub look_learn : LookCall → LookAt → ℕ → LookNext
look_learn c LookAt.Region f = look_region c (region_of f)
look_learn c (LookAt.Mark u) f = Goes (LookAt.Again u f)
look_learn c (LookAt.Again u m) f = cond (has_number (region_of f) c.number) (look_marked u m) (NotHeld NoPlace)
look_learn c (LookAt.Kind u m) f = look_kinded c.reason u m (kind_of f)
look_learn c (LookAt.Odd u m) f = look_held c.reason u m (kind_of f)
look_learn c (LookAt.Base u m k) f = Goes (LookAt.Second u m k f)
look_learn c (LookAt.Second u m k base) f = cond (eqb f m) (Held u m k base) (look_again c.reason f)
look_learn c (LookAt.Gone m) f = NotHeld (found_at f c.number m)
