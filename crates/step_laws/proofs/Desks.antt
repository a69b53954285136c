-- What the office's callback makes of it keeps what holds of it.
use Rattle.std.proofs.Common.{◌≡◌, inl, inr, ℕ, ◌+◌, ◌-◌, ◌*◌, ◌<◌, ◌≤◌, Bool, true, false, List, []}
use Rattle.std.proofs.Common.{◌∷◌, ◌++◌, length, get_or, refl, sym, ap, subst, ◌∙◌, arith, Option, Some}
use Rattle.std.proofs.Common.{length-append}
use Rattle.std.specs.Prelude.{◌==◌, ◌&&◌, max, if◌then◌else◌, remove, Err}
use Rattle.std.proofs.lemmas.Bool.Decides.{nat_tests}
use Rattle.std.proofs.lemmas.List.{get_or_append_left, get_or_default}
use Rattle.std.proofs.lemmas.List.Edits.{get_or-remove_below, get_or-remove_above, length-remove}
use Rattle.std.proofs.Math.Nat.{lt-div-mul-add}
use Rattle.std.proofs.Math.Seq.{get_or-append_seam}
use Rattle.pool_types.specs.declared.policy.Limits.{Limits}
use Rattle.pool_types.specs.declared.policy.Policy.{Policy}
use Rattle.pool_types.specs.declared.policy.RegionRec.{RegionRec}
use Rattle.pool_types.specs.declared.values.Region.{Region}
use Rattle.pool_types.specs.Geometry.{granule_bytes}
use Rattle.pool_types.specs.Limits.{most_span}
use Rattle.pool_types.specs.Policies.{align_up, granularity_of, IsAllowed}
use Rattle.regions.specs.declared.errors.ObtainError.{ObtainError}
use Rattle.regions.specs.declared.errors.ObtainError.TheVariants.{HasRegion, RegionsFull, SpanFull, RawFailed}
use Rattle.regions.specs.Obtaining.{Obtains, Comes, bytes_for}
use Rattle.regions.specs.Offices.{Desk, desk_of, IsSound, IsWellPlaced}
use Rattle.regions.specs.Placing.{IsPlaced, parity_of, whole_granules}
use Rattle.regions.proofs.Growing.{grown}
use Rattle.regions.proofs.Shrinking.{shrunk}
use Rattle.step_depot.specs.Steps.{PutsBy}
use Rattle.word_codes.specs.Places.{slot_of}
use Rattle.word_laws.proofs.CallerLemmas.{each, less_or, equal_or}
use Rattle.office_laws.specs.Regions.{Shadow, OutFits}
use Rattle.office_laws.specs.Steps.{IsFresh, shadow_came}
use Rattle.office_laws.proofs.CallerLemmas.{obtained_regions_are_fresh}
use Rattle.step_laws.specs.Desks.{HasRecord, HasRecords, DeskFits, IsGone}

-- no fewer bytes are asked for than a granule has, and more where the pool is not fixed
some_granularity : (n : ℕ) (b : Bool) → (n == 0) ≡ b → 0 < (if b then granule_bytes else n)
some_granularity n true is = omega arith
some_granularity n false is = grind (arith, nat_tests)

up_least : (bytes granularity : ℕ) → 0 < granularity → bytes ≤ align_up bytes granularity
up_least bytes granularity some = omega (arith, lt-div-mul-add {a = bytes + (granularity - 1)} {b = granularity} some)

some_wanted : (fixed : Bool) (region more : ℕ) → 8192 ≤ region → 8192 ≤ (if fixed then region else max region more)
some_wanted true region more low = low
some_wanted false region more low = omega arith

more_wanted : (fixed : Bool) (region granules : ℕ) → fixed ≡ false
    → 16384 ≤ (if fixed then region else max region ((granules + 2) * granule_bytes))
more_wanted true region granules e = absurd (cc)
more_wanted false region granules e = omega arith

least_region : (policy : Policy) (limits : Limits) → IsAllowed policy limits → 8192 ≤ limits.region
least_region policy limits allowed = let is_in = allowed.limits_in.0.1 in grind (arith, nat_tests)

pub few_indices : (policy : Policy) (limits : Limits) → IsAllowed policy limits → limits.span ≤ most_span
few_indices policy limits allowed = let is_in = allowed.limits_in.1 in grind (arith, nat_tests)

module _ {R : Type 0} (old : Desk R) (granules : ℕ) where
  abbrev wanted : ℕ
  wanted = if old.policy.fixed then old.limits.region else max old.limits.region ((granules + 2) * granule_bytes)

  up_asked : wanted ≤ bytes_for old granules
  up_asked = up_least wanted (granularity_of old.policy)
      (some_granularity old.policy.granularity (old.policy.granularity == 0) refl)

  least_bytes : IsAllowed old.policy old.limits → 8192 ≤ bytes_for old granules
  least_bytes allowed =
      let low = some_wanted old.policy.fixed old.limits.region ((granules + 2) * granule_bytes)
      (least_region old.policy old.limits allowed) in
      let up = up_asked in
      omega arith

  more_bytes : old.policy.fixed ≡ false → 16384 ≤ bytes_for old granules
  more_bytes fixed =
      let low = more_wanted old.policy.fixed old.limits.region granules fixed in
      let up = up_asked in
      omega arith

has_more : (records : List RegionRec) (a one : RegionRec) → HasRecord records a → HasRecord (records ++ one ∷ []) a
has_more records a one has = record {
  place = has.place;
  below = let n = length-append records (one ∷ []) in let low = has.below in omega arith;
  there = get_or_append_left records (one ∷ []) a has.place has.below ∙ has.there;
}

long : (records : List RegionRec) (one : RegionRec) → length records < length (records ++ one ∷ [])
long records one = let n = length-append records (one ∷ []) in omega arith

has_last : (records : List RegionRec) (one : RegionRec) → HasRecord (records ++ one ∷ []) one
has_last records one = record {
  place = length records;
  below = long records one;
  there = get_or-append_seam records one [] one;
}

-- a record stays where another one leaves
has_less : (records : List RegionRec) (a one : RegionRec) (position : ℕ) → position < length records
    → get_or records position one ≡ one → (a ≡ one → ⊥) → HasRecord records a → HasRecord (remove records position) a
has_less records a one position low there other has = less_or has.place position
    (λ below. record {
      place = has.place;
      below = let n = length-remove records position low in omega arith;
      there = get_or-remove_below records position a has.place below low ∙ has.there;
    })
    (λ above. equal_or has.place position
    (λ same. absurd (other (sym has.there ∙ ap (λ i. get_or records i a) same
    ∙ get_or_default records position a one low ∙ there)))
    (λ ne. record {
      place = has.place - 1;
      below = let n = length-remove records position low in let high = has.below in omega arith;
      there = get_or-remove_above records position a (has.place - 1) (omega arith) low
          ∙ ap (λ i. get_or records i a) (let n : has.place - 1 + 1 ≡ has.place = omega arith in n) ∙ has.there;
    }))

module _ {R : Type 0} (out : R → List Region) (faults : R → ℕ) (got : R → ℕ → Option Region → R → Type 0) where
  module _ (g : Shadow) (old : Desk R) (granules : ℕ) (one : RegionRec) (new : Desk R) (fits : DeskFits out g old)
      (come : Comes out faults got old granules one new) where
    grown_sound : IsSound out (desk_of old.policy old.limits (old.records ++ one ∷ []) (one.number + 1) true new.raw)
    grown_sound = grown out old one new.raw (bytes_for old granules) fits.sound come.can.numbered
        (least_bytes old granules fits.sound.allowed) come.fresh come.is_record come.out_grows

    had : HasRecords g old.records
    had = fits.records come.can.numbered.may

    -- a region that the callback gave may come
    pub comes_fresh : OutFits g.out g.counter → IsFresh g one
    comes_fresh apart = obtained_regions_are_fresh g old.records old.limits.span (one.number + 1) one apart (record {
      known = λ s other is. let at = had.known s other is in (at.place, at.below, at.there);
      from = omega (arith, fits.counter, come.can.numbered.next_is.from);
      numbers = grown_sound.numbers;
      small = few_indices old.policy old.limits fits.sound.allowed;
      placed = subst (IsWellPlaced old.limits.span (one.number + 1)) (get_or-append_seam old.records one [] one)
          (grown_sound.each (length old.records) one (long old.records one));
      pairs = grown_sound.pairs;
    })

    -- it lies in the span, with its wall
    pub comes_within : one.first + one.granules < old.limits.span
    comes_within =
        let placed = subst (IsWellPlaced old.limits.span (one.number + 1)) (get_or-append_seam old.records one [] one)
        (grown_sound.each (length old.records) one (long old.records one)) in
        let low = placed.within in
        omega arith

    -- it has a granule, where another may come
    filled_by : 16384 ≤ bytes_for old granules
        → IsPlaced old.limits.span old.records (parity_of one) (whole_granules one) one.first one.granules
        → 1 ≤ one.granules
    filled_by more (inl whole) =
        let all = whole.all in
        let room = come.fresh.room in
        let low = come.is_record.aligned.least in
        omega arith
    filled_by more (inr cut) =
        let longest = cut.longest.longest come.can.start come.can.greatest come.can.longest.gap in
        let enough = come.can.enough in
        let near = cut.near in
        let ends = cut.ends in
        omega arith

    pub comes_fits : DeskFits out (shadow_came one g) new
    comes_fits = subst (DeskFits out (shadow_came one g)) (sym come.after) (record {
      sound = grown_sound;
      counter = omega arith;
      records = λ may. record {
        known = λ s a. each (λ s q. q ≡ Some a → HasRecord (old.records ++ one ∷ []) a) g.out (slot_of one.number)
            (Some one) (λ s _ is. has_more old.records a one (had.known s a is))
            (λ is. subst (HasRecord (old.records ++ one ∷ [])) (let same : one ≡ a = cc in same)
            (has_last old.records one)) s;
        filled = λ s a. each (λ s q. q ≡ Some a → 1 ≤ a.granules) g.out (slot_of one.number) (Some one)
            (λ s _ is. had.filled s a is)
            (λ is. subst (λ x. 1 ≤ x.granules) (let same : one ≡ a = cc in same)
            (filled_by (more_bytes old granules (not_fixed old.policy.fixed may)) come.is_record.placed)) s;
      };
    })
      where
        not_fixed : (b : Bool) → (b && true) ≡ false → b ≡ false
        not_fixed true e = e
        not_fixed false e = refl

  -- no region came
  pub refused_fits : (g : Shadow) (old : Desk R) (granules : ℕ) (error : ObtainError) (new : Desk R)
      → Obtains out faults got old granules (Err error) new → DeskFits out g old → DeskFits out g new
  refused_fits g old granules RawFailed new failed fits = subst (DeskFits out g) (sym failed.after) (record {
    sound = record {
      allowed = fits.sound.allowed;
      regions = failed.out_stays ∙ fits.sound.regions;
      most = fits.sound.most;
      numbers = fits.sound.numbers;
      each = fits.sound.each;
      pairs = fits.sound.pairs;
      before = fits.sound.before;
      one = fits.sound.one;
    };
    counter = fits.counter;
    records = fits.records;
  })
  refused_fits g old granules HasRegion new same fits = subst (DeskFits out g) (sym same.1) fits
  refused_fits g old granules (RegionsFull count next) new same fits = subst (DeskFits out g) (sym same.1) fits
  refused_fits g old granules (SpanFull asked greatest) new same fits = subst (DeskFits out g) (sym same.1) fits

module _ {R : Type 0} (out : R → List Region) (faults : R → ℕ) (passed : R → Region → Bool → R → Type 0) where
  -- a region is passed to the callback that is out no more
  pub passes_fits : (g : Shadow) (old : Desk R) (first : ℕ) (b : Bool) (new : Desk R) → IsGone g first
      → PutsBy out faults passed b old first new → DeskFits out g old → DeskFits out g new
  passes_fits g old first false new gone same fits = subst (DeskFits out g) (sym same) fits
  passes_fits g old first true new gone (answer, gives) fits = subst (DeskFits out g) (sym gives.after) (record {
    sound = shrunk out old new.raw gives.position gives.one fits.sound gives.below gives.there gives.out_shrinks;
    counter = fits.counter;
    records = λ may. let had = fits.records may in record {
      known = λ s a is. has_less old.records a gives.one gives.position gives.below gives.there
          (λ same. let none = gone s a is (ap (λ x. x.first) same ∙ gives.starts) in let some = had.filled s a is in
          omega arith) (had.known s a is);
      filled = had.filled;
    };
  })
