-- What is read of a quiet pool.
use Rattle.std.specs.Prelude.{◌≡◌, List, length, Option, Some}
use Rattle.pool_types.specs.declared.raw.Raw.{Ghosts}
use Rattle.pool_words.specs.declared.words.Key.{Key}
use Rattle.pool_words.specs.Words.{words_of}
use Rattle.regions.specs.Offices.{Desk}
use Rattle.word_totals.specs.Reading.{Still}
use Rattle.atomic_table.specs.Seated.{TableId}
use Rattle.atomic_table.specs.Table.{Me}
use Rattle.atomic_driver.specs.declared.rule.Note.{Note}
use Rattle.atomic_driver.specs.declared.rule.Plan.{Plan}
use Rattle.atomic_driver.specs.declared.rule.View.{View}
use Rattle.atomic_driver.specs.declared.seat.DriverSeat.{DriverSeat}
use Rattle.atomic_driver.specs.Rule.{key_by, IsTable}
use Rattle.quiet_pool.specs.Held.{locals_of}
use Rattle.quiet_pool.specs.Quiet.{words_noted}

abbrev pub still_by : {R : Type 0} {raw : Ghosts R} → Key → Me (Option (Desk R)) (View (Desk R))
    → List (DriverSeat R raw) → Still
still_by k me heaps = record { key = k; words = words_noted me.0.note; locals = locals_of heaps }

-- a place of this table that notes all words
pub record CanRead {D : Type 0} (table place : TableId) (about plan : Plan) (k : Key) (me : Me (Option D) (View D))
    : Type 0 where
  pub same_table : place ≡ table
  pub sizes : IsTable table k
  pub same_plan : about ≡ plan
  pub key_is : k ≡ key_by plan
  pub note : Note D
  pub is_noted : me.0.note ≡ Some note
  pub sized : length note.words ≡ words_of k
