-- Runs of wrong allocators are refused.
use Rattle.std.proofs.Common.{ℕ, ◌≡◌, ◌≢◌, ◌<◌, inl, inr, List, [], ◌∷◌, ◌++◌, true, false, zero, suc, Some, refl, sym, ◌∙◌, ap, arith, subst, lit<, lit≤, filter}
use Rattle.std.specs.Prelude.{Contains}
use Rattle.std.specs.List.{flat_map}
use Rattle.std.proofs.lemmas.Grind.{flat_map-append}
use Rattle.list_laws.proofs.Members.{Contains-none}
use Rattle.pool_types.specs.Script.{Script, Gets, Puts}
use Rattle.pool_types.specs.declared.policy.RegionRec.{RegionRec}
use Rattle.pool_types.specs.declared.values.Region.{Region}
use Rattle.pool_types.specs.declared.rows.Keeper.TheVariants.{Orphan}
use Rattle.part_model.specs.declared.holders.Holder.TheVariants.{Cached, Bin, Hand}
use Rattle.part_model.specs.declared.moves.Part.{Part}
use Rattle.part_model.specs.declared.moves.Range.{Range}
use Rattle.size_classes.specs.Classes.{class_size, class_objects, class_of}
use Rattle.size_classes.specs.Served.{served_plain}
use Rattle.size_classes.specs.declared.Served.{Served}
use Rattle.size_classes.specs.declared.Served.TheVariants.{Small, Large, Bad}
use Rattle.machine.specs.States.{State, Slab, fixed_pool}
use Rattle.machine.specs.Ranges.{lies_in_parts, slab_range}
use Rattle.machine.specs.Regions.{granules_range}
use Rattle.machine.specs.Looks.{look_of, first_bin, AreInVain}
use Rattle.machine.specs.Answers.{Call, Moment, AtStep, moved_parts}
use Rattle.machine.specs.Callback.{raw_calls, HasAnswered, no_script}
use Rattle.machine.specs.Cleaning.{IsCleaned}
use Rattle.machine.specs.Events.{Progress, no_progress, after_events}
use Rattle.machine.specs.Turns.{IsLive, last_parts, is_put}
use Rattle.machine.specs.Runs.{IsRun}
use Rattle.machine.specs.Laws.{IsPlainRun, WrongRunsAreRefused}
use Rattle.machine.specs.Examples.{place_at, first_place, first_slab, second_place, behind_slab, goes_from, mebibyte}
use Rattle.machine.specs.Examples.{block_passed_over, small_region, region_in_a_question, failure_in_a_question, region_without_a_look}
use Rattle.machine.specs.Examples.{region_not_given, slab_beside_another, slab_beside_an_orphan, failure_made_up, blocks_left_apart}
use Rattle.machine.specs.Examples.{realloc_without_a_look, malloc_of_another_class, object_of_another_class, question_that_moves}
use Rattle.machine.specs.Examples.{null_beside_a_spare_slab, giving_pool, four_granules, late_region, scrap_leaves, blocks_that_adjoin}
use Rattle.machine.specs.Examples.{block_left_queued, free_region_kept, block_beside_a_cached_one, clock_ahead, nothing_cleaned, region_kept}
use Rattle.machine.proofs.Examples.{eight_is_small}

-- the front of a list
abbrev pub first : {X : Type 0} → ℕ → List X → List X
first zero xs = []
first (suc n) [] = []
first (suc n) (x ∷ xs) = x ∷ first n xs

-- a scan passes over a block that was put before the last move of its call
abbrev pub before_scan : Progress
before_scan = after_events no_progress (first 6 block_passed_over)

passed_over : IsRun (fixed_pool 2 1048576) block_passed_over → ⊥
unfolding class_size class_objects
passed_over run =
    let scan = run.1.1.1.1.1.1.1.0 in
    elim (scan.fits.sight.0.all (place_at 16384) refl) [
      | inl listed ↦ Contains-none listed.0 listed.1
      | inr put' ↦ no_call put'.0 put'.1.0 put'.1.1 put'.2
    ]
  where
    no_call : (call : Call) → Contains before_scan.calls call → call.seat ≢ 1 → lies_in_parts (place_at 16384) (filter is_put (last_parts call.moments)) ≡ true → ⊥
    no_call call (zero, below, is) other lies =
        let clash : false ≡ true = subst (λ (c : Call). lies_in_parts (place_at 16384) (filter is_put (last_parts c.moments)) ≡ true) (sym is) lies in cc
    no_call call (suc zero, below, is) other lies = other (ap (λ (c : Call). c.seat) (sym is))
    no_call call (suc (suc k), below, is) other lies = omega (arith, below)

-- a region comes that is too small, in a call that wants none, before a look, or that the callback did not give
too_small : IsPlainRun small_region → ⊥
too_small run = let enough = run.1.1.1.0.fits.sight.0.1 in omega (arith, enough)

unwanted : IsPlainRun region_in_a_question → ⊥
unwanted run = let clash : false ≡ true = run.1.1.0.fits.sight.0.0.wants in cc

failing : IsPlainRun failure_in_a_question → ⊥
failing run = let clash : false ≡ true = run.1.1.0.fits.sight.0.0.wants in cc

-- what is left of a list in which nothing is found
none_left : {X : Type 0} → (one other : List X) → one ++ other ≡ [] → other ≡ []
none_left [] other is = is
none_left (x ∷ xs) other is = absurd cc

unlooked : IsPlainRun region_without_a_look → ⊥
unlooked run =
    let vain = run.1.1.1.0.fits.sight.0.0.vain in
    let none : flat_map (λ (moment : Moment). look_of moment.state moment.turn.seen) vain.later ≡ [] =
    none_left (flat_map (λ (moment : Moment). look_of moment.state moment.turn.seen) run.1.1.1.0.fits.sight.0.0.earlier)
    (flat_map (λ (moment : Moment). look_of moment.state moment.turn.seen) vain.later)
    (sym (flat_map-append (λ (moment : Moment). look_of moment.state moment.turn.seen) run.1.1.1.0.fits.sight.0.0.earlier vain.later)
    ∙ ap (λ ms. flat_map (λ (moment : Moment). look_of moment.state moment.turn.seen) ms) (sym vain.steps)) in
    nowhere run.1.1.1.0.fits.sight.0.0.served run.1.1.1.0.fits.sight.0.0.seen (sym eight_is_small ∙ vain.is)
    (subst (λ looks. AreInVain (fixed_pool 1 1048576).limits run.1.1.1.0.fits.sight.0.0.served (first_bin run.1.1.1.0.fits.sight.0.0.served) looks run.1.1.1.0.fits.sight.0.0.seen) none vain.vain)
  where
    nowhere : (served : Served) (seen : ℕ) → Small 0 ≡ served → AreInVain (fixed_pool 1 1048576).limits served (first_bin served) [] seen → ⊥
    nowhere served seen is vain = let clash : 1 ≡ 512 = subst (λ s. first_bin s ≡ 512) (sym is) vain.0 in omega (arith, clash)

not_given : IsPlainRun region_not_given → ⊥
not_given run = let clash = run.1.1.1.0.fits.comes in cc

-- a slab begins beside one that has objects to give
beside : IsPlainRun slab_beside_another → ⊥
unfolding class_size class_objects
beside run = run.1.1.1.1.1.1.1.1.1.0.fits.slabs.0.rest (place_at 200) (first_slab, (((0, lit< tt, refl), refl), refl), refl) refl

-- or beside an orphan
beside_orphan : IsRun (fixed_pool 2 1048576) slab_beside_an_orphan → ⊥
unfolding class_size class_objects
beside_orphan run = elim (run.1.1.1.1.1.1.1.1.1.1.1.1.0.fits.slabs.0.orphans) [
  | inl took ↦ Contains-none _ (took orphan (((0, lit< tt, refl), refl), refl))
  | inr never ↦ never
]
  where
    orphan : Slab
    orphan = record { place = first_place; class = 0; keeper = Orphan }

-- a callback without scripts gives what it is asked for
made_up : (after : Script) → HasAnswered Gets Puts no_script (raw_calls failure_made_up) after → ⊥
made_up after follows = follows.1.answered (lit< tt) (record { base = 1048576; bytes = 1048576 }) (record {
  exact = refl;
  least = record { steps = 0; multiple = refl; free = refl; least = λ k below. absurd (omega (arith, below)) };
  ends = lit≤ tt;
})

-- a reset leaves two blocks
left_apart : IsPlainRun blocks_left_apart → ⊥
left_apart run = neither (run.1.1.1.1.1.1.1.1.1.1.1.0.1.whole mebibyte (0, lit< tt, refl) (lit< tt))
  where
    neither : Contains (behind_slab ∷ slab_range first_place ∷ []) (granules_range 0 mebibyte) → ⊥
    neither (zero, below, is) = let clash : 1032192 ≡ 1048576 = ap (λ (r : Range). r.bytes) is in omega (arith, clash)
    neither (suc zero, below, is) = let clash : 16384 ≡ 1048576 = ap (λ (r : Range). r.bytes) is in omega (arith, clash)
    neither (suc (suc k), below, is) = omega (arith, below)

-- the parts of the first turn
abbrev pub first_parts : List Moment → List Part
first_parts [] = []
first_parts (moment ∷ moments) = moment.turn.parts

-- a call whose first turn moved something found nothing before
by_earlier : (part : Part) (earlier later : List Moment) (fact : State → Type 0) → part ∷ [] ≡ first_parts (earlier ++ later) → moved_parts earlier ≡ [] → AtStep fact earlier → ⊥
by_earlier part [] later fact is still found = found
by_earlier part (moment ∷ earlier) later fact is still found =
    let clash : part ∷ (moved_parts earlier) ≡ [] = ap (λ ps. ps ++ moved_parts earlier) is ∙ still in cc

-- a realloc moves before it looks
unseen : IsPlainRun realloc_without_a_look → ⊥
unfolding class_size class_objects
unseen run = elim (run.1.1.1.1.1.1.1.1.1.1.1.1.0.fits.answered.legal.answers.1) [
  | inl stays ↦ absurd (let clash = stays.still.none in cc)
  | inr moved ↦ by_earlier _ moved.seen.earlier moved.seen.later _ (ap first_parts moved.seen.turns) moved.seen.still moved.seen.found
]

-- a malloc is served by another class
other_slab : IsPlainRun malloc_of_another_class → ⊥
other_slab run = let clash : Small 0 ≡ Small 25 = sym eight_is_small ∙ run.1.1.1.1.1.0.fits.slabs.0.served in cc

other_class : IsPlainRun object_of_another_class → ⊥
unfolding class_size class_objects
other_class run = let clash : 16 ≡ 8 = run.1.1.1.1.1.1.1.1.0.fits.answered.legal.answers.0.of_class 0 eight_is_small in omega (arith, clash)

-- a question moves a block
moving : IsPlainRun question_that_moves → ⊥
moving run = let clash = run.1.1.1.1.1.1.1.1.1.1.0.fits.answered.legal.answers.none in cc

-- null beside a slab in the slab cache
spare : IsPlainRun null_beside_a_spare_slab → ⊥
unfolding class_size class_objects
spare run = run.1.1.1.1.1.1.1.1.1.1.1.1.1.0.fits.answered.legal.answers.1.spare.stored (place_at 0) refl

-- a region without a granule leaves
scrap_goes : IsRun (giving_pool 2 7) scrap_leaves → ⊥
scrap_goes run = neither run.1.1.1.1.1.1.1.1.1.0.fits.sight.0
  where
    neither : IsLive (after_events no_progress (first 8 scrap_leaves)).state late_region.region → ⊥
    neither is = one_of is.one is.live is.same is.some
      where
        one_of : (one : RegionRec) → Contains (four_granules ∷ late_region ∷ []) one → one.region ≡ late_region.region → 0 < one.granules → ⊥
        one_of one (zero, below, at) same some = let clash : 1048576 ≡ 2097152 = ap (λ (r : RegionRec). r.region.base) at ∙ ap (λ (r : Region). r.base) same in omega (arith, clash)
        one_of one (suc zero, below, at) same some = let none : 0 < 0 = subst (λ (r : RegionRec). 0 < r.granules) (sym at) some in omega (arith, none)
        one_of one (suc (suc k), below, at) same some = omega (arith, below)

-- an answer leaves a block in the queue, or a region that is to be given back
queued : IsPlainRun block_left_queued → ⊥
unfolding class_size class_objects
queued run = (run.1.1.1.1.1.1.0.fits.answered.calm refl).queue second_place refl

free_region : IsRun (giving_pool 1 1024) free_region_kept → ⊥
unfolding class_size class_objects
free_region run =
    Contains-none 0 ((run.1.1.1.1.1.1.1.1.1.1.1.1.0.fits.answered.calm refl).given refl four_granules (0, lit< tt, refl) (lit< tt) (0, lit< tt, refl))

-- a large object is cut out of bins beside a cached block of its size
abbrev granules_in : Served → ℕ
granules_in (Small class) = 0
granules_in (Large granules alignment) = granules
granules_in Bad = 0

large_is : (granules alignment : ℕ) → served_plain 8129 ≡ Large granules alignment → granules ≡ 2
unfolding served_plain class_of
large_is granules alignment is = sym (ap granules_in is)

beside_cached : IsPlainRun block_beside_a_cached_one → ⊥
unfolding class_size class_objects
beside_cached run =
    let cut = run.1.1.1.1.1.1.1.1.1.1.1.1.1.1.1.0.fits.large in
    let two : cut.granules ≡ 2 = large_is cut.granules cut.alignment cut.served in
    elim (cut.cached) [
      | inl came ↦ from_bins came.0 came.1 came.2
      | inr never ↦ elim never [
        | inl at_first ↦ at_first (place_at 0) (ap (λ n. Some (Cached n)) (sym two))
        | inr later ↦ elim later [
          | inl at_last ↦ at_last (place_at 0) (ap (λ n. Some (Cached n)) (sym two))
          | inr none ↦ none
        ]
      ]
    ]
  where
    from_bins : {granules : ℕ} → (part : Part) → Contains (goes_from (slab_range second_place) Bin (Hand 0)) part → part.from ≡ Some (Cached granules) → ⊥
    from_bins {granules = granules} part (zero, below, is) cached = let clash : Some Bin ≡ Some (Cached granules) = ap (λ (p : Part). p.from) is ∙ cached in cc
    from_bins part (suc k, below, is) cached = omega (arith, below)

-- two blocks adjoin at an answer
adjoining : IsPlainRun blocks_that_adjoin → ⊥
adjoining run = (run.1.1.1.1.1.1.1.0.fits.answered.calm refl).joined _ _ (0, lit< tt, refl) (1, lit< tt, refl) (refl, inl refl)

-- the clock passes over numbers, or is not heeded
ahead : IsPlainRun clock_ahead → ⊥
ahead run = let clash : 256 ≡ 1 = run.1.1.0.fits.sight in omega (arith, clash)

uncleaned : IsCleaned nothing_cleaned → ⊥
uncleaned cleaned = let clash : 1 ≡ 1024 = cleaned.asked.0 in omega (arith, clash)

-- a region is kept that the callback would take back
kept : IsPlainRun region_kept → ⊥
kept run = let clash : true ≡ false = run.1.1.1.1.1.1.1.0.2.fates.0 in cc

-- all of them
pub wrong_runs_are_refused : WrongRunsAreRefused
wrong_runs_are_refused = record {
  passed_over = passed_over;
  too_small = too_small;
  unwanted = unwanted;
  failing = failing;
  unlooked = unlooked;
  not_given = not_given;
  beside = beside;
  beside_orphan = beside_orphan;
  made_up = made_up;
  left_apart = left_apart;
  unseen = unseen;
  other_slab = other_slab;
  other_class = other_class;
  moving = moving;
  spare = spare;
  scrap = scrap_goes;
  adjoining = adjoining;
  queued = queued;
  free_region = free_region;
  beside_cached = beside_cached;
  ahead = ahead;
  uncleaned = uncleaned;
  kept = kept;
}
