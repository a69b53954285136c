-- Jobs of a reset, and of the office.
use Rattle.std.proofs.Common.{Bool, List, None, Option, Some, [], arith, cond, eqb, false, ltb, true, ℕ, ◌&&◌}
use Rattle.std.proofs.Common.{◌*◌, ◌+◌, ◌-◌, ◌<◌, ◌≡◌, ◌≤◌}
use Rattle.std.specs.Prelude.{nat_lt, ⊤, ◌==◌}
use Rattle.pool_types.specs.Geometry.{class_count}
use Rattle.pool_types.specs.Limits.{most_regions}
use Rattle.pool_types.specs.Sums.{capped}
use Rattle.pool_types.specs.declared.policy.RegionRec.{RegionRec}
use Rattle.size_classes.specs.Classes.{class_size}
use Rattle.pool_words.specs.Actions.{finds, word_seen}
use Rattle.pool_words.specs.Words.{cache_counts}
use Rattle.pool_words.specs.declared.actions.Seen.{Seen}
use Rattle.pool_words.specs.declared.words.Key.{Key}
use Rattle.pool_words.specs.declared.words.Word.{Word}
use Rattle.word_codes.specs.Guards.{guard_of}
use Rattle.word_codes.specs.Kinds.{kind_of}
use Rattle.word_codes.specs.Links.{link_of}
use Rattle.word_codes.specs.Marks.{mark_of}
use Rattle.word_codes.specs.RegionWords.{region_of}
use Rattle.word_codes.specs.declared.guards.Guard.{Guard}
use Rattle.word_codes.specs.declared.kinds.Kind.{Kind}
use Rattle.word_codes.specs.declared.marks.Mark.{Mark}
use Rattle.word_codes.specs.declared.region_words.RegionWord.{RegionWord}
use Rattle.heap_slabs.specs.Records.{unit_of}
use Rattle.heap_slabs.specs.declared.records.HeapSlab.{HeapSlab}
use Rattle.locked_chain.specs.Locks.{free_lock}
use Rattle.guards.specs.Win.{win_learn}
use Rattle.guards.specs.declared.win.WinNext.{WinNext}
use Rattle.backend_bins.specs.Bin.{bin_learn}
use Rattle.backend_bins.specs.Blocks.{block_end, fits}
use Rattle.backend_bins.specs.declared.bin.BinNext.{BinNext}
use Rattle.backend_bins.specs.declared.blocks.Block.{Block}
use Rattle.region_steps.specs.Office.{office_after, office_course, office_gives, office_learn, office_taken}
use Rattle.region_steps.specs.Office.{office_walled, region_word_of, wall_of}
use Rattle.region_steps.specs.declared.office.OfficeAt.{OfficeAt}
use Rattle.region_steps.specs.declared.office.OfficeCall.{OfficeCall}
use Rattle.region_steps.specs.declared.office.OfficeNext.{OfficeNext}
use Rattle.word_laws.specs.Memory.{Valid}
use Rattle.reset_steps.specs.Clear.{clear_course, clear_headed, clear_learn, clear_walked, number_after}
use Rattle.reset_steps.specs.Clear.{number_word, zeroed}
use Rattle.reset_steps.specs.Evict.{evict_course, evict_from, evict_kinded, evict_learn, evict_lined}
use Rattle.reset_steps.specs.Evict.{evict_marked, last_line, unit_at}
use Rattle.reset_steps.specs.Seek.{is_better, is_sought, seek_best, seek_course, seek_learn, seek_on}
use Rattle.reset_steps.specs.Strip.{object_unit, strip_course, strip_from, strip_goes, strip_learn}
use Rattle.reset_steps.specs.Strip.{strip_marked}
use Rattle.reset_steps.specs.Unite.{unite_course, unite_from, unite_learn, unite_sized, unite_unlinked}
use Rattle.reset_steps.specs.Unite.{unite_win, unite_won}
use Rattle.reset_steps.specs.Unqueue.{unqueue_course, unqueue_from, unqueue_learn}
use Rattle.reset_steps.specs.declared.clear.ClearAt.{ClearAt}
use Rattle.reset_steps.specs.declared.clear.ClearCall.{ClearCall}
use Rattle.reset_steps.specs.declared.clear.ClearNext.{ClearNext}
use Rattle.reset_steps.specs.declared.clear.Number.{Number}
use Rattle.reset_steps.specs.declared.evict.EvictAt.{EvictAt}
use Rattle.reset_steps.specs.declared.evict.EvictCall.{EvictCall}
use Rattle.reset_steps.specs.declared.evict.EvictNext.{EvictNext}
use Rattle.reset_steps.specs.declared.seek.SeekAt.{SeekAt}
use Rattle.reset_steps.specs.declared.seek.SeekNext.{SeekNext}
use Rattle.reset_steps.specs.declared.strip.StripAt.{StripAt}
use Rattle.reset_steps.specs.declared.strip.StripNext.{StripNext}
use Rattle.reset_steps.specs.declared.unite.UniteAt.{UniteAt}
use Rattle.reset_steps.specs.declared.unite.UniteCall.{UniteCall}
use Rattle.reset_steps.specs.declared.unite.UniteNext.{UniteNext}
use Rattle.reset_steps.specs.declared.unqueue.UnqueueAt.{UnqueueAt}
use Rattle.reset_steps.specs.declared.unqueue.UnqueueNext.{UnqueueNext}
use Rattle.step_ranges.proofs.Codes.{end_fits, exchanges, free_fits, hand_fits, loads, lock_fits}
use Rattle.step_ranges.proofs.Codes.{no_block_fits, none_fits, private_fits, region_fits, stores_in, swaps}
use Rattle.step_ranges.proofs.Codes.{used_left, used_size, wall_left, wall_size}
use Rattle.step_ranges.proofs.Lists.{BinNextFits, bin_fits, bin_on, block_end_is, end_there, win_fits}
use Rattle.step_ranges.proofs.Numbers.{below_by, choose, choose_by, end_last, is_granule, is_guard, is_kind}
use Rattle.step_ranges.proofs.Numbers.{is_mark}
use Rattle.step_ranges.proofs.Rolls.{none_holds}
use Rattle.step_ranges.proofs.Slabs.{slot_low}
use Rattle.step_ranges.specs.Jobs.{BestFits, ClearFits, ClearLeads, EvictFits, HasBlock, HasRegion, LineFits}
use Rattle.step_ranges.specs.Jobs.{OfficeEndFits, OfficeFits, RecordFits, SeekFits, SeenFits, UniteFits}
use Rattle.step_ranges.specs.Jobs.{UnqueueFits, WinFits}
use Rattle.step_ranges.specs.Locals.{AreReleased, ClearReleased}
use Rattle.step_ranges.specs.Ranges.{ActionFits, Finds, IsBelow, IsBlock, IsBlockIf, IsKey, IsSlab, KindFits}
use Rattle.step_ranges.specs.Ranges.{RegionFits, SizeFits, Stores, ValueFits, granules_end, units_end}
use Rattle.reset_steps.specs.Clear.{peeked as clear_peeked}
use Rattle.reset_steps.specs.Seek.{last_slot as reset_last}
use Rattle.size_classes.proofs.CallerLemmas.{class_size-least}
use Rattle.reset_steps.specs.Unite.{unlink_call, united}
use Rattle.reset_steps.specs.Seek.{sought}
use Rattle.std.proofs.lemmas.Bool.Decides.{nat_tests}
use Rattle.backend_bins.specs.Blocks.{block}
use Rattle.step_ranges.specs.Ranges.{NamesOrNone}
use Rattle.std.proofs.Common.{inl}
use Rattle.std.proofs.Common.{inr}
use Rattle.std.proofs.Common.{refl}

abbrev pub StripNextFits : Key → StripNext → Type 0
StripNextFits k (StripNext.Goes at) = ⊤
StripNextFits k (StripNext.Freed object unit) = unit < units_end k
StripNextFits k StripNext.Stripped = ⊤

abbrev pub SeekNextFits : Key → SeekNext → Type 0
SeekNextFits k (SeekNext.Goes at) = SeekFits k at
SeekNextFits k (SeekNext.Found region) = RegionFits k region
SeekNextFits k SeekNext.Nothing = ⊤

abbrev pub EvictNextFits : Key → EvictNext → Type 0
EvictNextFits k (EvictNext.Goes at) = EvictFits k at
EvictNextFits k (EvictNext.Ended b granule) = HasBlock k b
EvictNextFits k EvictNext.Passed = ⊤

-- what follows of a cache bin that is cleared, by the blocks that it gave
abbrev pub ClearGoes : Key → List ℕ → ℕ → ClearNext → Type 0
ClearGoes k released granules (ClearNext.Goes at) = ClearReleased k released granules at × ClearFits k granules at
ClearGoes k released granules (ClearNext.Taken taken at) = AreReleased k granules released × IsBlock k granules taken
    × ((more : List ℕ) → AreReleased k granules more → ClearReleased k more granules at) × ClearFits k granules at
ClearGoes k released granules ClearNext.Waits = ⊤
ClearGoes k released granules ClearNext.Passed = released ≡ []
ClearGoes k released granules ClearNext.Cleared = AreReleased k granules released

abbrev pub UnqueueNextFits : Key → UnqueueNext → Type 0
UnqueueNextFits k (UnqueueNext.Goes at) = UnqueueFits k at
UnqueueNextFits k (UnqueueNext.Out b rest) = HasBlock k b × IsBelow (granules_end k) rest
UnqueueNextFits k UnqueueNext.Emptied = ⊤

-- what was united of a region, which may be nothing
abbrev pub UniteNextFits : Key → UniteNext → Type 0
UniteNextFits k (UniteNext.Goes at) = UniteFits k at
UniteNextFits k (UniteNext.Waits bin) = ⊤
UniteNextFits k (UniteNext.United b) = b.first + b.granules ≤ granules_end k

abbrev pub OfficeNextFits : Key → OfficeNext → Type 0
OfficeNextFits k (OfficeNext.Goes at) = OfficeFits k at
OfficeNextFits k OfficeNext.Waits = ⊤
OfficeNextFits k (OfficeNext.Left end) = OfficeEndFits k end

-- each object of a slab begins in the slab, whatever its number
pub object_within : (k : Key) (slab class object : ℕ) → IsSlab k slab → class < class_count
    → unit_of slab class object < units_end k
unfolding unit_of
object_within k slab class object is low =
    let least : 8 ≤ class_size class = class_size-least class low in
    let even = is.even in
    let below = is.below in
    let some : class_size class ≤ (object + 1) * class_size class = grind arith in
    omega arith

module _ (k : Key) (key : IsKey k) where
  -- a slab's objects
  pub strip_fits : (s : HeapSlab) (at : StripAt) → RecordFits k s → ActionFits k (strip_course s at)
  strip_fits s (StripAt.Mark object) fits =
      loads (is_mark k (object_unit s object) (object_within k s.slab s.class object fits.slab fits.class))
  strip_fits s (StripAt.End object mark) fits =
      exchanges (is_mark k (object_unit s object) (object_within k s.slab s.class object fits.slab fits.class))
      (private_fits k key s.head fits.head)

  goes_next : (at : Option StripAt) → StripNextFits k (strip_goes at)
  goes_next None = tt
  goes_next (Some at) = tt

  marked_next : (s : HeapSlab) (object m : ℕ) (mark : Mark) → StripNextFits k (strip_marked s object m mark)
  marked_next s object m Mark.Unmarked = goes_next (strip_from s (capped (object + 1)))
  marked_next s object m (Mark.Granted grant) = tt
  marked_next s object m (Mark.Hand seat) = goes_next (strip_from s (capped (object + 1)))
  marked_next s object m (Mark.Link unit) = goes_next (strip_from s (capped (object + 1)))
  marked_next s object m Mark.End = goes_next (strip_from s (capped (object + 1)))
  marked_next s object m Mark.EndUnusable = goes_next (strip_from s (capped (object + 1)))

  pub strip_on : (s : HeapSlab) (at : StripAt) (found : ℕ) → RecordFits k s → StripNextFits k (strip_learn s at found)
  strip_on s (StripAt.Mark object) found fits = marked_next s object found (mark_of found)
  strip_on s (StripAt.End object mark) found fits = choose (StripNextFits k) (eqb found mark) _ _
      (object_within k s.slab s.class object fits.slab fits.class) tt

  -- the next region
  pub seek_fits : (at : SeekAt) → SeekFits k at → ActionFits k (seek_course at)
  seek_fits at fits = loads fits.slot

  sought_next : (best : Option RegionWord) → BestFits k best → SeekNextFits k (sought best)
  sought_next None fits = tt
  sought_next (Some region) fits = fits

  best_next : (at : SeekAt) (region : RegionWord) → SeekFits k at → RegionFits k region
      → BestFits k (seek_best at region)
  best_next at region fits is = choose (BestFits k)
      (region.live && (is_sought at.seek region.number && is_better at.seek region at.best)) _ _ is fits.best

  on_next : (at : SeekAt) (best : Option RegionWord) → BestFits k best → SeekNextFits k (seek_on at best)
  on_next at best fits = choose_by (SeekNextFits k) (ltb at.slot reset_last) _ _
      (λ more. record { slot = let low = below_by at.slot reset_last more in omega arith; best = fits })
      (λ last. sought_next best fits)

  pub seek_next : (at : SeekAt) (found : ℕ) → SeekFits k at → Finds k (seek_course at) found
      → SeekNextFits k (seek_learn at found)
  seek_next at found fits finds =
      on_next at (seek_best at (region_of found)) (best_next at (region_of found) fits finds)

  -- a region's large objects
  line_below : (granule : ℕ) (b : Block) (line : ℕ) → LineFits k granule b line → unit_at granule line < units_end k
  line_below granule b line fits = let low = fits.below in let last = fits.line in omega arith

  pub evict_fits : (c : EvictCall) (at : EvictAt) → c.seat < k.seats → EvictFits k at
      → ActionFits k (evict_course c at)
  evict_fits c (EvictAt.Kind granule) seat fits = loads (is_kind k granule fits)
  evict_fits c (EvictAt.Mark granule b line) seat fits =
      loads (is_mark k (unit_at granule line) (line_below granule b line fits))
  evict_fits c (EvictAt.End granule b line mark) seat fits =
      exchanges (is_mark k (unit_at granule line) (line_below granule b line fits)) (hand_fits k key c.seat seat)

  region_end : (region : Block) → region.first + region.granules < k.span → block_end region ≤ granules_end k
  region_end region fits = let last = end_last k key in omega arith

  pub from_next : (c : EvictCall) (granule : ℕ) → c.region.first + c.region.granules < k.span
      → EvictNextFits k (evict_from c granule)
  from_next c granule fits = choose_by (EvictNextFits k) (ltb granule (block_end c.region)) _ _
      (λ more. let low = below_by granule (block_end c.region) more in
      let end = region_end c.region fits in omega arith)
      (λ last. tt)

  kinded_next : (c : EvictCall) (granule : ℕ) (kind : Kind) → c.region.first + c.region.granules < k.span
      → granule < granules_end k → KindFits k kind → EvictNextFits k (evict_kinded c granule kind)
  kinded_next c granule (Kind.Large first granules) region low fits =
      record { below = low; block = fits.block; line = omega arith }
  kinded_next c granule (Kind.Slab class) region low fits = from_next c (capped (granule + 1)) region
  kinded_next c granule Kind.Nothing region low fits = from_next c (capped (granule + 1)) region
  kinded_next c granule Kind.CachedSlab region low fits = from_next c (capped (granule + 1)) region

  lined_next : (c : EvictCall) (granule : ℕ) (b : Block) (line : ℕ) → c.region.first + c.region.granules < k.span
      → LineFits k granule b line → EvictNextFits k (evict_lined c granule b line)
  lined_next c granule b line region fits = choose_by (EvictNextFits k) (ltb line last_line) _ _
      (λ more. record {
        below = fits.below;
        block = fits.block;
        line = let low = below_by line last_line more in omega arith;
      })
      (λ last. from_next c (capped (granule + 1)) region)

  evict_marked_next : (c : EvictCall) (granule : ℕ) (b : Block) (line m : ℕ) (mark : Mark)
      → c.region.first + c.region.granules < k.span → LineFits k granule b line
      → EvictNextFits k (evict_marked c granule b line m mark)
  evict_marked_next c granule b line m (Mark.Granted grant) region fits = fits
  evict_marked_next c granule b line m Mark.Unmarked region fits = lined_next c granule b line region fits
  evict_marked_next c granule b line m (Mark.Hand seat) region fits = lined_next c granule b line region fits
  evict_marked_next c granule b line m (Mark.Link unit) region fits = lined_next c granule b line region fits
  evict_marked_next c granule b line m Mark.End region fits = lined_next c granule b line region fits
  evict_marked_next c granule b line m Mark.EndUnusable region fits = lined_next c granule b line region fits

  pub evict_on : (c : EvictCall) (at : EvictAt) (found : ℕ) → c.region.first + c.region.granules < k.span
      → EvictFits k at → Finds k (evict_course c at) found → EvictNextFits k (evict_learn c at found)
  evict_on c (EvictAt.Kind granule) found region fits finds =
      kinded_next c granule (kind_of found) region fits finds
  evict_on c (EvictAt.Mark granule b line) found region fits finds =
      evict_marked_next c granule b line found (mark_of found) region fits
  evict_on c (EvictAt.End granule b line mark) found region fits finds =
      choose (EvictNextFits k) (eqb found mark) _ _ fits.block fits

  -- a cache bin
  number_valid : (number : Number) (granules : ℕ) → granules < cache_counts → Valid k (number_word number granules)
  number_valid Number.Items granules low = low
  number_valid Number.Mean granules low = low
  number_valid Number.Threshold granules low = low
  number_valid Number.Get granules low = low
  number_valid Number.Cleaned granules low = low
  number_valid Number.Used granules low = low

  number_holds : (number : Number) (granules stored : ℕ) → ValueFits k (number_word number granules) stored
  number_holds Number.Items granules stored = tt
  number_holds Number.Mean granules stored = tt
  number_holds Number.Threshold granules stored = tt
  number_holds Number.Get granules stored = tt
  number_holds Number.Cleaned granules stored = tt
  number_holds Number.Used granules stored = tt

  pub clear_fits : (c : ClearCall) (at : ClearAt) → c.seat < k.seats → c.granules < cache_counts
      → ClearFits k c.granules at → ActionFits k (clear_course c at)
  clear_fits c (ClearAt.Peek number) seat low fits = loads (number_valid number c.granules low)
  clear_fits c ClearAt.Lock seat low fits = exchanges low (lock_fits k key c.seat seat)
  clear_fits c ClearAt.Head seat low fits = loads low
  clear_fits c (ClearAt.Link block) seat low fits = loads (is_granule k block fits.begins)
  clear_fits c ClearAt.Cut seat low fits = stores_in low (no_block_fits k key c.granules)
  clear_fits c (ClearAt.Zero number) seat low fits =
      stores_in (number_valid number c.granules low) (number_holds number c.granules 0)
  clear_fits c ClearAt.Unlock seat low fits = stores_in low (free_fits k key)

  module _ (released : List ℕ) where
    peeked_fits : (granules : ℕ) (number : Option Number) → released ≡ []
        → ClearGoes k released granules (clear_peeked number)
    peeked_fits granules None none = none
    peeked_fits granules (Some number) none = (none, tt)

    zeroed_next : (granules : ℕ) (number : Option Number) → AreReleased k granules released
        → ClearGoes k released granules (zeroed number)
    zeroed_next granules None are = (are, tt)
    zeroed_next granules (Some number) are = (are, tt)

    clear_headed_next : (granules : ℕ) (one : Option ℕ) → AreReleased k granules released
        → IsBlockIf k granules one → ClearGoes k released granules (clear_headed one)
    clear_headed_next granules None are is = (are, tt)
    clear_headed_next granules (Some block) are is = (are, is, λ more all. all, is)

    clear_walked_next : (granules : ℕ) (one : Option ℕ) → AreReleased k granules released
        → IsBlockIf k granules one → ClearGoes k released granules (clear_walked one)
    clear_walked_next granules None are is = (are, tt)
    clear_walked_next granules (Some block) are is = (are, is, λ more all. all, is)

    pub clear_on : (c : ClearCall) (at : ClearAt) (found : ℕ) → ClearReleased k released c.granules at
        → Finds k (clear_course c at) found → ClearLeads k c.granules at found
        → ClearGoes k released c.granules (clear_learn at found)
    clear_on c (ClearAt.Peek number) found none finds leads =
        choose (ClearGoes k released c.granules) (eqb found 0) _ _ (peeked_fits c.granules (number_after number) none)
        (none_holds (IsBlock k c.granules) released none, tt)
    clear_on c ClearAt.Lock found are finds leads =
        choose (ClearGoes k released c.granules) (eqb found free_lock) _ _ (are, tt) tt
    clear_on c ClearAt.Head found are finds leads = clear_headed_next c.granules (link_of found) are finds
    clear_on c (ClearAt.Link block) found are finds leads = clear_walked_next c.granules (link_of found) are leads
    clear_on c ClearAt.Cut found are finds leads = (are, tt)
    clear_on c (ClearAt.Zero number) found are finds leads = zeroed_next c.granules (number_after number) are
    clear_on c ClearAt.Unlock found are finds leads = are

  -- the queue
  pub unqueue_fits : (at : UnqueueAt) → UnqueueFits k at → ActionFits k (unqueue_course at)
  unqueue_fits UnqueueAt.Take fits = swaps one (end_fits k key)
    where
      one : Valid k Word.Queue
      one = omega arith
  unqueue_fits (UnqueueAt.Link first) fits = loads (is_granule k first fits)

  pub unqueue_from_fits : (rest : Option ℕ) → IsBelow (granules_end k) rest → UnqueueNextFits k (unqueue_from rest)
  unqueue_from_fits None below = tt
  unqueue_from_fits (Some first) below = below

  pub unqueue_on : (at : UnqueueAt) (found : ℕ) → UnqueueFits k at → Finds k (unqueue_course at) found
      → UnqueueNextFits k (unqueue_learn at found)
  unqueue_on UnqueueAt.Take found fits finds = unqueue_from_fits (link_of found) finds
  unqueue_on (UnqueueAt.Link first) found fits finds =
      (record { begins = fits; ends = finds.ends fits }, finds.next)

  -- a region's blocks
  wins_united : (b : Block) → HasBlock k b → WinFits k (unite_win b)
  wins_united b is = record { block = is; ends = block_end_is k key b is }

  pub unite_fits : (c : UniteCall) (at : UniteAt) → c.seat < k.seats → UniteFits k at
      → ActionFits k (unite_course c at)
  unite_fits c (UniteAt.Size first) seat fits = loads (is_guard k first fits)
  unite_fits c (UniteAt.Win b at) seat fits = win_fits k key (unite_win b) at (wins_united b fits)
  unite_fits c (UniteAt.Unlink b at) seat fits = bin_fits k key (unlink_call c b) at seat fits.0 fits.1

  united_next : (c : UniteCall) (first : ℕ) → c.region.first + c.region.granules < k.span → first ≤ granules_end k
      → UniteNextFits k (united c first)
  united_next c first region fits = let last = end_last k key in omega arith

  pub unite_from_fits : (c : UniteCall) (first : ℕ) → c.region.first + c.region.granules < k.span
      → first ≤ granules_end k → UniteNextFits k (unite_from c first)
  unite_from_fits c first region fits = choose (UniteNextFits k) (ltb first (block_end c.region)) _ _
      fits (united_next c first region fits)

  sized_next : (c : UniteCall) (first : ℕ) (guard : Guard) → c.region.first + c.region.granules < k.span
      → first ≤ granules_end k → SizeFits k first guard → UniteNextFits k (unite_sized c first guard)
  sized_next c first (Guard.Free granules) region below fits = fits
  sized_next c first Guard.Used region below fits = united_next c first region below
  sized_next c first Guard.Coalescing region below fits = united_next c first region below
  sized_next c first Guard.Wall region below fits = united_next c first region below

  begin_low : (b : Block) → HasBlock k b → b.first ≤ granules_end k
  begin_low b is = let ends = is.ends in omega arith

  won_next : (b : Block) (next : WinNext) → HasBlock k b → UniteNextFits k (unite_won b next)
  won_next b (WinNext.Goes at) is = is
  won_next b WinNext.Won is = (is, tt)
  won_next b (WinNext.NotWon found) is = begin_low b is
  won_next b WinNext.GivenBack is = begin_low b is

  unlinked_next : (c : UniteCall) (b : Block) (next : BinNext) → c.region.first + c.region.granules < k.span
      → HasBlock k b → BinNextFits k next → UniteNextFits k (unite_unlinked c b next)
  unlinked_next c b (BinNext.Goes at) region is fits = (is, fits)
  unlinked_next c b BinNext.Waits region is fits = tt
  unlinked_next c b BinNext.Done region is fits = unite_from_fits c (block_end b) region (end_there k key b is)

  pub unite_on : (c : UniteCall) (at : UniteAt) (found : ℕ) → c.region.first + c.region.granules < k.span
      → UniteFits k at → Finds k (unite_course c at) found → UniteNextFits k (unite_learn c at found)
  unite_on c (UniteAt.Size first) found region fits finds = sized_next c first (guard_of found) region fits finds
  unite_on c (UniteAt.Win b at) found region fits finds = won_next b (win_learn (unite_win b) at found) fits
  unite_on c (UniteAt.Unlink b at) found region fits finds =
      unlinked_next c b (bin_learn (unlink_call c b) at found) region fits.0
      (bin_on k key (unlink_call c b) at found fits.1 finds)

  -- the office
  wall_there : (one : RegionRec) → HasRegion k one → wall_of one ≤ granules_end k
  wall_there one fits = let last = end_last k key in omega arith

  first_there : (one : RegionRec) → HasRegion k one → one.first ≤ granules_end k
  first_there one fits = let last = end_last k key in omega arith

  pub office_stores : (c : OfficeCall) (at : OfficeAt) → c.seat < k.seats → OfficeFits k at
      → Stores k (office_course c at)
  office_stores c OfficeAt.Lock seat fits = lock_fits k key c.seat seat
  office_stores c (OfficeAt.Region slot given) seat fits = tt
  office_stores c (OfficeAt.Take given) seat fits = tt
  office_stores c (OfficeAt.Base one) seat fits = tt
  office_stores c (OfficeAt.Enter one) seat fits = region_fits k key (region_word_of one) fits
  office_stores c (OfficeAt.WallSize one) seat fits = wall_size k key (wall_of one)
  office_stores c (OfficeAt.WallLeft one) seat fits = wall_left k key one.first
  office_stores c (OfficeAt.FirstSize one) seat fits = used_size k key one.first
  office_stores c (OfficeAt.LastLeft one) seat fits = used_left k key (wall_of one)
  office_stores c (OfficeAt.Remove given) seat fits = none_fits k key
  office_stores c (OfficeAt.Back end) seat fits = tt
  office_stores c (OfficeAt.Unlock end) seat fits = free_fits k key

  pub office_names : (c : OfficeCall) (at : OfficeAt) → OfficeFits k at → NamesOrNone k (office_course c at)
  office_names c OfficeAt.Lock fits = inl (omega arith)
  office_names c (OfficeAt.Region slot given) fits = inl fits.0
  office_names c (OfficeAt.Take given) fits = inl tt
  office_names c (OfficeAt.Base one) fits = inl (slot_low one.number)
  office_names c (OfficeAt.Enter one) fits = inl (slot_low one.number)
  office_names c (OfficeAt.WallSize one) fits = inl (is_guard k (wall_of one) (wall_there one fits))
  office_names c (OfficeAt.WallLeft one) fits = inl (is_guard k one.first (first_there one fits))
  office_names c (OfficeAt.FirstSize one) fits = inl (is_guard k one.first (first_there one fits))
  office_names c (OfficeAt.LastLeft one) fits = inl (is_guard k (wall_of one) (wall_there one fits))
  office_names c (OfficeAt.Remove None) fits = inr refl
  office_names c (OfficeAt.Remove (Some slot)) fits = inl fits
  office_names c (OfficeAt.Back end) fits = inl tt
  office_names c (OfficeAt.Unlock end) fits = inl (omega arith)

  given_below : (gives : Bool) (slot : ℕ) (given : Option ℕ) → slot < most_regions → IsBelow most_regions given
      → IsBelow most_regions (cond gives (Some slot) given)
  given_below true slot given low below = low
  given_below false slot given low below = below

  after_next : (slot : ℕ) (given : Option ℕ) → slot < most_regions → IsBelow most_regions given
      → OfficeFits k (office_after slot given)
  after_next slot given low below = choose_by (OfficeFits k) (nat_lt slot (most_regions - 1)) _ _
      (λ more. (grind (arith, nat_tests), below)) (λ last. below)

  walled_next : (one : RegionRec) → HasRegion k one → OfficeFits k (office_walled one)
  walled_next one fits = choose (OfficeFits k) (one.granules == 0) _ _ fits fits

  taken_by : (given : Option ℕ) (s : Seen) → IsBelow most_regions given → SeenFits k s
      → OfficeNextFits k (office_taken given s)
  taken_by given (Seen.Word word) below fits = tt
  taken_by given Seen.Done below fits = tt
  taken_by given Seen.OfficeOut below fits = tt
  taken_by given (Seen.Obtained one) below fits = fits
  taken_by given (Seen.Refused error) below fits = tt
  taken_by given Seen.Given below fits = below

  pub office_on : (c : OfficeCall) (at : OfficeAt) (s : Seen) → OfficeFits k at → SeenFits k s
      → OfficeNextFits k (office_learn c at s)
  office_on c OfficeAt.Lock s fits seen = choose (OfficeNextFits k) (word_seen s == 0) _ _ (omega arith, tt) tt
  office_on c (OfficeAt.Region slot given) s fits seen =
      after_next slot (cond (office_gives c.job (word_seen s)) (Some slot) given) fits.0
      (given_below (office_gives c.job (word_seen s)) slot given fits.0 fits.1)
  office_on c (OfficeAt.Take given) s fits seen = taken_by given s fits seen
  office_on c (OfficeAt.Base one) s fits seen = fits
  office_on c (OfficeAt.Enter one) s fits seen = fits
  office_on c (OfficeAt.WallSize one) s fits seen = fits
  office_on c (OfficeAt.WallLeft one) s fits seen = walled_next one fits
  office_on c (OfficeAt.FirstSize one) s fits seen = fits
  office_on c (OfficeAt.LastLeft one) s fits seen = fits
  office_on c (OfficeAt.Remove given) s fits seen = tt
  office_on c (OfficeAt.Back end) s fits seen = fits
  office_on c (OfficeAt.Unlock end) s fits seen = fits
