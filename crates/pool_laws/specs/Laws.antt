-- The laws of a whole pool.
use Rattle.std.specs.Prelude.{◌≡◌, ◌⊎◌, ℕ, ◌^◌, ◌<◌, ◌≤◌, Some}
use Rattle.pool_words.specs.declared.words.Key.{Key}
use Rattle.word_codes.specs.Places.{granule_of}
use Rattle.guards.specs.declared.win.Taking.{Taking}
use Rattle.chain_laws.specs.Chains.{tally}
use Rattle.chain_laws.specs.Named.{ten_key}
use Rattle.guard_laws.specs.Blocks.{Use, Place}
use Rattle.slab_laws.specs.Books.{Keeper}
use Rattle.slab_laws.specs.Heaps.{slab_of}
use Rattle.object_laws.specs.Objects.{Held, grant_by}
use Rattle.mail_laws.specs.Mail.{Mail}
use Rattle.office_laws.specs.Named.{third}
use Rattle.cache_laws.specs.Bins.{blocks_of}
use Rattle.use_laws.specs.Apart.{HasUnit}
use Rattle.shelf_laws.specs.Laws.{LiesFree}
use Rattle.region_laws.specs.Laws.{IsInRegion}
use Rattle.free_laws.specs.Places.{LiesOutside, LiesIn}
use Rattle.post_laws.specs.Laws.{IsBack, StandsOnce, IsUnderWay}
use Rattle.pool_laws.specs.Wholes.{Whole, WholeGood, shelf_of, regions_of, space_of, post_of}
use Rattle.pool_laws.specs.Moves.{Moves}
use Rattle.pool_laws.specs.Steps.{WholeStep, WholeRun}
use Rattle.pool_laws.specs.Named.{fresh_whole, region_whole, named_whole, first_unit}

-- runs of all groups from one whole to another keep what holds of all groups
abbrev pub MovesKeepWhole : Type 0
MovesKeepWhole = (k : Key) (w later : Whole) → WholeGood k w → Moves k w later → WholeGood k later

-- each step of a seat is a run of each group's own steps, to one and the same whole
abbrev pub StepsMove : Type 0
StepsMove = (k : Key) (seat : ℕ) (w later : Whole) → WholeGood k w → WholeStep k seat w later → Moves k w later

-- each step of each seat keeps what holds of all groups
abbrev pub StepsKeepWhole : Type 0
StepsKeepWhole =
    (k : Key) (seat : ℕ) (w later : Whole) → WholeGood k w → WholeStep k seat w later → WholeGood k later

abbrev pub RunsKeepWhole : Type 0
RunsKeepWhole = (k : Key) (w later : Whole) → WholeGood k w → WholeRun k w later → WholeGood k later

-- a new pool
abbrev pub FreshWholesAreGood : Type 0
FreshWholesAreGood = (k : Key) → k.seats ≤ 64 → k.span < 2 ^ 32 → WholeGood k (fresh_whole k)

-- what each whole is that seats' steps lead to from a new pool
pub record HoldsTogether (k : Key) (w : Whole) : Type 0 where
  -- no unit is of two objects, and each unit of an object lies in a region that the office's words say
  pub apart : (u v unit : ℕ) → HasUnit w.pool u unit → HasUnit w.pool v unit → u ≡ v
  pub regions : (u unit : ℕ) → HasUnit w.pool u unit → IsInRegion (regions_of w) (granule_of unit)
  -- each granule lies outside of all blocks or in one, which is one thing
  pub places : (z : ℕ) → LiesOutside (space_of w) z ⊎ LiesIn (space_of w) z
  -- no object lies in a block of the cache's bins
  pub shelves : (b x : ℕ) → 0 < tally x (blocks_of (w.shelves b).items) → LiesFree k (shelf_of w) b x
  -- no object that was given back is lost
  pub back : (u : ℕ) → IsBack (w.pool.objects.held u)
      → StandsOnce (post_of w) u
      × (w.pool.objects.held u ≡ Held.Listed → IsUnderWay (post_of w) (slab_of u))

abbrev pub WholesHoldTogether : Type 0
WholesHoldTogether =
    (k : Key) (w : Whole) → k.seats ≤ 64 → k.span < 2 ^ 32 → WholeRun k (fresh_whole k) w → HoldsTogether k w

-- the named region is a whole, and steps of one seat lead from it to one with a slab, an object and a block in hand
pub record IsNamed : Type 0 where
  pub region : WholeGood ten_key region_whole
  pub run : WholeRun ten_key region_whole named_whole
  pub good : WholeGood ten_key named_whole
  pub live : named_whole.office.live 3 ≡ Some third
  pub slab : named_whole.pool.locals.book.keeper 2 ≡ Keeper.By 1
  pub object : named_whole.pool.objects.held first_unit ≡ Held.Object (grant_by 1 1)
  pub mail : named_whole.ways.mail.mail 2 ≡ Mail.Rest
  pub hand : named_whole.pool.blocks.place 4 ≡ Place.Block 4 3 (Use.Held 1 Taking.ForUse)

abbrev pub NamedWholeStands : Type 0
NamedWholeStands = IsNamed
