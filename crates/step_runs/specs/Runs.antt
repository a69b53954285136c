-- The states that a pool comes to: each step is one row of one seat's course.
use Rattle.std.specs.Prelude.{◌≡◌, ℕ, true, List, replicate, Option, Some, None, Result, Ok, Err}
use Rattle.pool_types.specs.declared.policy.RegionRec.{RegionRec}
use Rattle.pool_types.specs.declared.values.Request.{Request}
use Rattle.regions.specs.declared.errors.ObtainError.{ObtainError}
use Rattle.pool_words.specs.declared.words.Key.{Key}
use Rattle.pool_words.specs.declared.actions.Action.TheVariants.{TakeOffice, GiveOffice, Nothing}
use Rattle.pool_words.specs.declared.actions.OfficeJob.{OfficeJob}
use Rattle.pool_words.specs.declared.actions.Seen.{Seen}
use Rattle.pool_words.specs.Actions.{finds, after_action}
use Rattle.pool_words.specs.Words.{words_of}
use Rattle.word_laws.specs.Memory.{put}
use Rattle.step_local.specs.declared.frames.Local.{Local}
use Rattle.step_local.specs.declared.frames.Reset.{Reset}
use Rattle.step_local.specs.Course.{course}
use Rattle.step_local.specs.Getting.{begun, reset_begun}
use Rattle.step_local.specs.Learn.{learn}
use Rattle.step_runs.specs.declared.entry.Entry.{Entry}
use Rattle.step_runs.specs.Places.{has_word, Move, stays, takes, gives, move_of, passed_of}
use Rattle.step_runs.specs.Entries.{learnt, first_entry}

-- the office of a pool: what it may answer where a region for so many granules is asked, and what it is where the
-- region that begins at an index was passed to the callback
pub record Callback (D : Type 0) : Type 1 where
  pub asks : D → ℕ → Result RegionRec ObtainError → D → Type 0
  pub puts : D → ℕ → D → Type 0

-- what a seat is told of the office's answer
abbrev pub seen_answer : Result RegionRec ObtainError → Seen
seen_answer (Ok came) = Seen.Obtained came
seen_answer (Err error) = Seen.Refused error

abbrev pub PassesTo : {D : Type 0} → Callback D → ℕ → Option D → Option D → Type 0
PassesTo {D} c first (Some desk) after = (desk' : D) × (after ≡ Some desk') × c.puts desk first desk'
PassesTo c first None after = after ≡ None

-- the office that a seat has in hand passes the region to the callback, where there is one to pass
abbrev pub Passes : {D : Type 0} → Callback D → Option ℕ → Option D → Option D → Type 0
Passes c (Some first) desk after = PassesTo c first desk after
Passes c None desk after = after ≡ desk

-- what the local and the desk of a seat come to behind its last step on a word, and before its next one
pub data Silent {D : Type 0} (c : Callback D) (l : Local) (d : Option D) : Local → Option D → Type 0 where
  rests : {after : Option D} → Passes c (passed_of l) d after → Silent c l d l after
  begins : {now : Local} {desk : Option D} → Silent c l d now desk → (request : Request)
      → Silent c l d (begun now request).0 desk
  resets : {now : Local} {desk : Option D} → Silent c l d now desk → (reset : Reset)
      → Silent c l d (reset_begun now reset).0 desk
  answers : {now : Local} {desk : Option D} → Silent c l d now desk → course now ≡ Nothing
      → Silent c l d (learn now Seen.Done).0 desk
  obtains : {now : Local} {desk : D} → Silent c l d now (Some desk) → (granules : ℕ)
      (answer : Result RegionRec ObtainError) (after : D) → course now ≡ TakeOffice (OfficeJob.Obtain granules)
      → c.asks desk granules answer after → Silent c l d (learn now (seen_answer answer)).0 (Some after)
  takes_out : {now : Local} {desk : D} → Silent c l d now (Some desk) → (first : ℕ)
      → course now ≡ TakeOffice (OfficeJob.Give first) → Silent c l d (learn now Seen.Given).0 (Some desk)
  puts_back : {now : Local} {desk : Option D} → Silent c l d now desk → course now ≡ GiveOffice
      → Silent c l d (learn now Seen.Done).0 desk

-- what lies at home after a step of a seat with this desk
abbrev pub home_after : {D : Type 0} → Move → Option D → Option D → Option D
home_after stays home desk = home
home_after takes home desk = None
home_after gives home desk = desk

-- the words, what lies in the office's slot where no seat has taken it, and the entries of the seats
pub data Run {D : Type 0} (c : Callback D) (k : Key) (first : D) : List ℕ → Option D → (ℕ → Entry D) → Type 0 where
  opened : Run c k first (replicate (words_of k) 0) (Some first) (first_entry k)
  stepped : {words : List ℕ} {home : Option D} {entries : ℕ → Entry D} → Run c k first words home entries
      → (seat : ℕ) (l : Local) (desk : Option D) → Silent c (entries seat).local (entries seat).desk l desk
      → has_word (course l) ≡ true
      → Run c k first (after_action k words (course l))
      (home_after (move_of l.at (finds k words (course l))) home desk)
      (put entries seat (learnt (entries seat) l home desk (finds k words (course l))))
