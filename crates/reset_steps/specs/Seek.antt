-- The region whose number comes next is looked for in all slots.
use Rattle.std.specs.Prelude.{ℕ, ◌+◌, ◌-◌, Bool, true, cond, leb, ltb, ◌&&◌, Option, Some, None}
use Rattle.pool_types.specs.Limits.{most_regions}
use Rattle.pool_words.specs.declared.words.Word.{Word}
use Rattle.pool_words.specs.declared.actions.Action.{Action}
use Rattle.pool_words.specs.declared.actions.Action.TheVariants.{Load}
use Rattle.word_codes.specs.declared.region_words.RegionWord.{RegionWord}
use Rattle.word_codes.specs.RegionWords.{region_of}
use Rattle.reset_steps.specs.declared.seek.Seek.{Seek}
use Rattle.reset_steps.specs.declared.seek.SeekAt.{SeekAt}
use Rattle.reset_steps.specs.declared.seek.SeekNext.{SeekNext}
use Rattle.reset_steps.specs.declared.seek.SeekNext.TheVariants.{Goes, Found, Nothing}

abbrev pub last_slot : ℕ
last_slot = most_regions - 1

abbrev pub seek_begins : Seek → SeekAt
seek_begins seek = record { seek = seek; slot = 0; best = None }

abbrev pub is_sought : Seek → ℕ → Bool
is_sought (Seek.From least) number = leb least number
is_sought (Seek.Under end) number = ltb number end

-- whether a number comes before another
abbrev pub comes_first : Seek → ℕ → ℕ → Bool
comes_first (Seek.From least) number other = ltb number other
comes_first (Seek.Under end) number other = ltb other number

abbrev pub is_better : Seek → RegionWord → Option RegionWord → Bool
is_better seek region None = true
is_better seek region (Some best) = comes_first seek region.number best.number

-- the best of a slot's region and of those before it
abbrev pub seek_best : SeekAt → RegionWord → Option RegionWord
seek_best at region =
    cond (region.live && (is_sought at.seek region.number && is_better at.seek region at.best)) (Some region) at.best

abbrev pub seek_course : SeekAt → Action
seek_course at = Load (Word.Region at.slot)

abbrev pub sought : Option RegionWord → SeekNext
sought (Some region) = Found region
sought None = Nothing

abbrev pub seek_on : SeekAt → Option RegionWord → SeekNext
seek_on at best =
    cond (ltb at.slot last_slot) (Goes (record at { slot = at.slot + 1; best = best })) (sought best)

abbrev pub seek_learn : SeekAt → ℕ → SeekNext
seek_learn at f = seek_on at (seek_best at (region_of f))
