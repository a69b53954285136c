-- The objects of a slab that are held become private.
use Rattle.std.specs.Prelude.{ℕ, ◌+◌, cond, eqb, ltb, ◌&&◌, Option, Some, None}
use Rattle.pool_types.specs.Sums.{capped}
use Rattle.pool_words.specs.declared.words.Word.{Word}
use Rattle.pool_words.specs.declared.actions.Action.{Action}
use Rattle.pool_words.specs.declared.actions.Action.TheVariants.{Load, Exchange}
use Rattle.word_codes.specs.declared.marks.Mark.{Mark}
use Rattle.word_codes.specs.Marks.{mark_of, private_link}
use Rattle.heap_slabs.specs.declared.records.HeapSlab.{HeapSlab}
use Rattle.heap_slabs.specs.Records.{unit_of}
use Rattle.reset_steps.specs.declared.strip.StripAt.{StripAt}
use Rattle.reset_steps.specs.declared.strip.StripNext.{StripNext}
use Rattle.reset_steps.specs.declared.strip.StripNext.TheVariants.{Goes, Freed, Stripped}

-- the unit at which an object of the slab begins
abbrev pub object_unit : HeapSlab → ℕ → ℕ
object_unit s object = unit_of s.slab s.class object

-- the objects from this number on are looked at, as long as one is held
abbrev pub strip_from : HeapSlab → ℕ → Option StripAt
strip_from s object = cond (ltb 0 s.count && ltb object s.handed) (Some (StripAt.Mark object)) None

abbrev pub strip_goes : Option StripAt → StripNext
strip_goes (Some at) = Goes at
strip_goes None = Stripped

abbrev pub strip_behind : HeapSlab → ℕ → StripNext
strip_behind s object = strip_goes (strip_from s (capped (object + 1)))

abbrev pub strip_course : HeapSlab → StripAt → Action
strip_course s (StripAt.Mark object) = Load (Word.Mark (object_unit s object))
strip_course s (StripAt.End object mark) = Exchange (Word.Mark (object_unit s object)) mark (private_link s.head)

abbrev pub strip_marked : HeapSlab → ℕ → ℕ → Mark → StripNext
strip_marked s object m (Mark.Granted grant) = Goes (StripAt.End object m)
strip_marked s object m Mark.Unmarked = strip_behind s object
strip_marked s object m (Mark.Hand seat) = strip_behind s object
strip_marked s object m (Mark.Link unit) = strip_behind s object
strip_marked s object m Mark.End = strip_behind s object
strip_marked s object m Mark.EndUnusable = strip_behind s object

abbrev pub strip_learn : HeapSlab → StripAt → ℕ → StripNext
strip_learn s (StripAt.Mark object) f = strip_marked s object f (mark_of f)
strip_learn s (StripAt.End object mark) f =
    cond (eqb f mark) (Freed object (object_unit s object)) (Goes (StripAt.Mark object))
