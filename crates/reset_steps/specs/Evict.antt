-- The large objects of a region come into the seat's hand, one after another.
use Rattle.std.specs.Prelude.{ℕ, ◌+◌, ◌-◌, ◌*◌, ◌/◌, cond, eqb, ltb}
use Rattle.pool_types.specs.Geometry.{unit_bytes, line_bytes, granule_bytes}
use Rattle.pool_types.specs.Sums.{capped}
use Rattle.pool_words.specs.declared.words.Word.{Word}
use Rattle.pool_words.specs.declared.actions.Action.{Action}
use Rattle.pool_words.specs.declared.actions.Action.TheVariants.{Load, Exchange}
use Rattle.word_codes.specs.declared.kinds.Kind.{Kind}
use Rattle.word_codes.specs.declared.marks.Mark.{Mark}
use Rattle.word_codes.specs.Kinds.{kind_of}
use Rattle.word_codes.specs.Marks.{mark_of, mark_word}
use Rattle.word_codes.specs.Places.{granule_units}
use Rattle.backend_bins.specs.declared.blocks.Block.{Block}
use Rattle.backend_bins.specs.Blocks.{block, block_end}
use Rattle.reset_steps.specs.declared.evict.EvictAt.{EvictAt}
use Rattle.reset_steps.specs.declared.evict.EvictCall.{EvictCall}
use Rattle.reset_steps.specs.declared.evict.EvictNext.{EvictNext}
use Rattle.reset_steps.specs.declared.evict.EvictNext.TheVariants.{Goes, Ended, Passed}

-- how many units a line has
abbrev pub line_units : ℕ
line_units = line_bytes / unit_bytes

-- the last line of a granule
abbrev pub last_line : ℕ
last_line = granule_bytes / line_bytes - 1

-- the unit at which a line of a granule begins
abbrev pub unit_at : ℕ → ℕ → ℕ
unit_at granule line = capped (capped (granule * granule_units) + capped (line * line_units))

-- the region's granules from this one on are looked at
abbrev pub evict_from : EvictCall → ℕ → EvictNext
evict_from c granule = cond (ltb granule (block_end c.region)) (Goes (EvictAt.Kind granule)) Passed

abbrev pub evict_course : EvictCall → EvictAt → Action
evict_course c (EvictAt.Kind granule) = Load (Word.Kind granule)
evict_course c (EvictAt.Mark granule b line) = Load (Word.Mark (unit_at granule line))
evict_course c (EvictAt.End granule b line mark) =
    Exchange (Word.Mark (unit_at granule line)) mark (mark_word (Mark.Hand c.seat))

-- in a granule in which a large object began, each line may be the begin of one
abbrev pub evict_kinded : EvictCall → ℕ → Kind → EvictNext
evict_kinded c granule (Kind.Large first granules) = Goes (EvictAt.Mark granule (block first granules) 0)
evict_kinded c granule (Kind.Slab class) = evict_from c (capped (granule + 1))
evict_kinded c granule Kind.Nothing = evict_from c (capped (granule + 1))
evict_kinded c granule Kind.CachedSlab = evict_from c (capped (granule + 1))

-- the next line, or the next granule
abbrev pub evict_lined : EvictCall → ℕ → Block → ℕ → EvictNext
evict_lined c granule b line =
    cond (ltb line last_line) (Goes (EvictAt.Mark granule b (line + 1))) (evict_from c (capped (granule + 1)))

abbrev pub evict_marked : EvictCall → ℕ → Block → ℕ → ℕ → Mark → EvictNext
evict_marked c granule b line m (Mark.Granted grant) = Goes (EvictAt.End granule b line m)
evict_marked c granule b line m Mark.Unmarked = evict_lined c granule b line
evict_marked c granule b line m (Mark.Hand seat) = evict_lined c granule b line
evict_marked c granule b line m (Mark.Link unit) = evict_lined c granule b line
evict_marked c granule b line m Mark.End = evict_lined c granule b line
evict_marked c granule b line m Mark.EndUnusable = evict_lined c granule b line

abbrev pub evict_learn : EvictCall → EvictAt → ℕ → EvictNext
evict_learn c (EvictAt.Kind granule) f = evict_kinded c granule (kind_of f)
evict_learn c (EvictAt.Mark granule b line) f = evict_marked c granule b line f (mark_of f)
evict_learn c (EvictAt.End granule b line mark) f =
    cond (eqb f mark) (Ended b (capped (granule + 1))) (Goes (EvictAt.Mark granule b line))
