-- The course of a seat at the office, and what it learns.
use Rattle.std.specs.Prelude.{ℕ, ◌+◌, ◌-◌, Bool, true, false, cond, ◌==◌, nat_lt, Option, Some, None}
use Rattle.pool_types.specs.Limits.{most_regions}
use Rattle.pool_types.specs.declared.policy.RegionRec.{RegionRec}
use Rattle.pool_words.specs.declared.words.Word.{Word}
use Rattle.pool_words.specs.declared.actions.Action.{Action}
use Rattle.pool_words.specs.declared.actions.Action.TheVariants.{Load, Store, Exchange, TakeOffice, GiveOffice}
use Rattle.pool_words.specs.declared.actions.OfficeJob.{OfficeJob}
use Rattle.pool_words.specs.declared.actions.OfficeJob.TheVariants.{Obtain, Give}
use Rattle.pool_words.specs.declared.actions.Seen.{Seen}
use Rattle.pool_words.specs.Actions.{word_seen}
use Rattle.word_codes.specs.Guards.{guard_word}
use Rattle.word_codes.specs.declared.guards.Guard.{Guard}
use Rattle.word_codes.specs.Locks.{lock_word}
use Rattle.word_codes.specs.Places.{slot_of}
use Rattle.word_codes.specs.RegionWords.{region_of, region_word, has_granule}
use Rattle.word_codes.specs.declared.region_words.RegionWord.{RegionWord}
use Rattle.region_steps.specs.declared.office.OfficeCall.{OfficeCall}
use Rattle.region_steps.specs.declared.office.OfficeEnd.{OfficeEnd}
use Rattle.region_steps.specs.declared.office.OfficeAt.{OfficeAt}
use Rattle.region_steps.specs.declared.office.OfficeNext.{OfficeNext}
use Rattle.region_steps.specs.declared.office.OfficeNext.TheVariants.{Goes, Waits, Left}

-- the index behind a region's last granule, which is its wall's
abbrev pub wall_of : RegionRec → ℕ
wall_of one = one.first + one.granules

-- what a region's word says
abbrev pub region_word_of : RegionRec → RegionWord
region_word_of one = record {
  live = true;
  number = one.number;
  first = one.first;
  granules = one.granules;
  waste = one.waste;
}

-- the slot of the region that is given back; where none has the block, a slot that is none
abbrev pub given_slot : Option ℕ → ℕ
given_slot (Some slot) = slot
given_slot None = most_regions

abbrev pub office_course : OfficeCall → OfficeAt → Action
office_course c OfficeAt.Lock = Exchange Word.OfficeLock 0 (lock_word c.seat)
office_course c (OfficeAt.Region slot given) = Load (Word.Region slot)
office_course c (OfficeAt.Take given) = TakeOffice c.job
office_course c (OfficeAt.Base one) = Store (Word.Base (slot_of one.number)) one.region.base
office_course c (OfficeAt.Enter one) = Store (Word.Region (slot_of one.number)) (region_word (region_word_of one))
office_course c (OfficeAt.WallSize one) = Store (Word.Size (wall_of one)) (guard_word Guard.Wall)
office_course c (OfficeAt.WallLeft one) = Store (Word.Left one.first) (guard_word Guard.Wall)
office_course c (OfficeAt.FirstSize one) = Store (Word.Size one.first) (guard_word Guard.Used)
office_course c (OfficeAt.LastLeft one) = Store (Word.Left (wall_of one)) (guard_word Guard.Used)
office_course c (OfficeAt.Remove given) = Store (Word.Region (given_slot given)) 0
office_course c (OfficeAt.Back end) = GiveOffice
office_course c (OfficeAt.Unlock end) = Store Word.OfficeLock 0

-- the word is that of the region that is given back
abbrev pub office_gives : OfficeJob → ℕ → Bool
office_gives (Obtain granules) word = false
office_gives (Give first) word = has_granule (region_of word) first

-- the next slot's word, and behind the last one the office
abbrev pub office_after : ℕ → Option ℕ → OfficeAt
office_after slot given = cond (nat_lt slot (most_regions - 1)) (OfficeAt.Region (slot + 1) given) (OfficeAt.Take given)

abbrev pub office_looked : OfficeJob → ℕ → Option ℕ → ℕ → OfficeAt
office_looked job slot given word = office_after slot (cond (office_gives job word) (Some slot) given)

abbrev pub office_entered : RegionRec → OfficeAt
office_entered one = OfficeAt.Back (OfficeEnd.Obtained one)

-- a region without a granule has no block
abbrev pub office_walled : RegionRec → OfficeAt
office_walled one = cond (one.granules == 0) (office_entered one) (OfficeAt.FirstSize one)

abbrev pub office_taken : Option ℕ → Seen → OfficeNext
office_taken given (Seen.Word word) = Waits
office_taken given Seen.Done = Waits
office_taken given Seen.OfficeOut = Waits
office_taken given (Seen.Obtained one) = Goes (OfficeAt.Base one)
office_taken given (Seen.Refused error) = Goes (OfficeAt.Back (OfficeEnd.Refused error))
office_taken given Seen.Given = Goes (OfficeAt.Remove given)

abbrev pub office_learn : OfficeCall → OfficeAt → Seen → OfficeNext
office_learn c OfficeAt.Lock s = cond (word_seen s == 0) (Goes (OfficeAt.Region 0 None)) Waits
office_learn c (OfficeAt.Region slot given) s = Goes (office_looked c.job slot given (word_seen s))
office_learn c (OfficeAt.Take given) s = office_taken given s
office_learn c (OfficeAt.Base one) s = Goes (OfficeAt.Enter one)
office_learn c (OfficeAt.Enter one) s = Goes (OfficeAt.WallSize one)
office_learn c (OfficeAt.WallSize one) s = Goes (OfficeAt.WallLeft one)
office_learn c (OfficeAt.WallLeft one) s = Goes (office_walled one)
office_learn c (OfficeAt.FirstSize one) s = Goes (OfficeAt.LastLeft one)
office_learn c (OfficeAt.LastLeft one) s = Goes (office_entered one)
office_learn c (OfficeAt.Remove given) s = Goes (OfficeAt.Back OfficeEnd.Given)
office_learn c (OfficeAt.Back end) s = Goes (OfficeAt.Unlock end)
office_learn c (OfficeAt.Unlock end) s = Left end
