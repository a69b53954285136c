-- A line that destroys a pool, and what a pool has at the end of a trace.
use Rattle.std.specs.Prelude.{◌≡◌, ℕ, zero, suc, ◌+◌, ◌&&◌, Bool, true, false, cond, eqb, List, [], ◌∷◌, ◌++◌, length, Option, Some, None, Ok}
use Rattle.cache_ages.specs.declared.CacheNumbers.{CacheNumbers}
use Rattle.pool_types.specs.Script.{Script, Puts}
use Rattle.pool_types.specs.declared.endings.Destroyed.{Destroyed}
use Rattle.report_text.specs.declared.entry.BinNumbers.{BinNumbers}
use Rattle.report_text.specs.declared.entry.ReportEntry.TheVariants as entry
use Rattle.report_text.specs.Reports.{ReportView}
use Rattle.run_report.specs.declared.book.Book.{Book}
use Rattle.run_report.specs.Books.{noted}
use Rattle.run_report.specs.Left.{left_noted}
use Rattle.step_core.specs.Counts.{still_of}
use Rattle.step_core.specs.Endings.{Destroys as Destroyed_as}
use Rattle.step_core.specs.Machines.{Machine, held_back}
use Rattle.trace_calls.specs.Entries.{pool_end, with_entries}
use Rattle.word_totals.specs.Caching.{cache_numbers}
use Rattle.word_totals.specs.Leaking.{leaks_of}
use Rattle.word_totals.specs.Reading.{Still}
use Rattle.line_runs.specs.Pools.{Pool}
use Rattle.line_runs.specs.Turning.{out_of, faults_of}

-- a machine is destroyed, and what became of its regions is written
pub record Ends (line number : ℕ) (old : Machine Script) (book last : Book) : Type 0 where
  pub ended : Destroyed
  pub raw : Script
  pub destroys : Destroyed_as out_of faults_of Puts old (Ok (ended, raw))
  pub after : last ≡ left_noted book line number ended (length (leaks_of (still_of old))) old.stock.desk.records

abbrev pub DestroysBy : Option ℕ → ℕ → ℕ → Pool → Book → Option Pool → Book → Type 0
DestroysBy (Some seat) line number old book left last =
    (left ≡ Some old) × (last ≡ noted book (entry.CallOpenOf line seat))
DestroysBy None line number old book left last = (left ≡ None) × Ends line number old.machine book last

-- a line that destroys the pool of this number, and what is left of it: none is destroyed where a seat is in a call
abbrev pub Destroys : ℕ → ℕ → Pool → Book → Option Pool → Book → Type 0
Destroys line number old book left last = DestroysBy (held_back old.machine) line number old book left last

-- each number of a cache bin is 0, and no item lies in it
abbrev pub is_fresh : CacheNumbers → Bool
is_fresh bin = eqb bin.used 0
    && (eqb bin.mean 0
    && (eqb bin.threshold 0 && (eqb bin.get 0 && (eqb bin.cleaned 0 && eqb (length bin.ages.items) 0))))

abbrev pub bin_numbers : ℕ → CacheNumbers → BinNumbers
bin_numbers granules bin = record {
  granules = granules;
  used = bin.used;
  items = length bin.ages.items;
  mean = bin.mean;
  threshold = bin.threshold;
  get = bin.get;
  cleaned = bin.cleaned;
}

-- these, and one more that is not fresh
abbrev pub with_bin : List BinNumbers → ℕ → CacheNumbers → List BinNumbers
with_bin bins granules bin = cond (is_fresh bin) bins (bins ++ bin_numbers granules bin ∷ [])

-- the bins that are not fresh, for blocks of up to so many granules
unfoldable pub bins_to : Still → ℕ → List BinNumbers
bins_to s zero = []
bins_to s (suc granules) = with_bin (bins_to s granules) (granules + 1) (cache_numbers s (granules + 1))

-- the most granules that a block of the cache has
unfoldable pub most_bins : ℕ
most_bins = 1023

-- a report, and what the pool of this number has at the end: its totals, its cache, and what is still held
unfoldable pub ended_report : ReportView → ℕ → Machine Script → ReportView
ended_report report number m =
    with_entries report (pool_end number m.totals (bins_to (still_of m) most_bins) (leaks_of (still_of m)))
