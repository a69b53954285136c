-- What a callback without a script gives first.
use Rattle.std.proofs.Common.{◌≡◌, ℕ, ◌+◌, ◌*◌, ◌<◌, Bool, true, false, not, [], Some, None, refl, ap, ◌∙◌, arith, lit<, lit≤, subst, zero, suc}
use Rattle.std.specs.Prelude.{is_some, IfNone, unwrap_or}
use Rattle.std.specs.declared.option.Option.{Option}
use Rattle.pool_types.specs.declared.values.Region.{Region}
use Rattle.pool_types.specs.Script.{Script, Gets, IsAnswer, IsByRule}
use Rattle.plain_lists.specs.Lists.{first_region}

-- a callback without a script, and without a region out
abbrev pub unasked : Script
unasked = record { gets = []; puts = []; out = []; faults = 0 }

-- the rule gives the first region
pub first_by_rule : IsByRule [] 1048576 first_region
first_by_rule = record {
  exact = refl;
  least = record { steps = 0; multiple = refl; free = refl; least = λ k below. absurd (omega arith) };
  ends = lit≤ tt;
}

-- a region by its numbers
region_is : (region : Region) → region.base ≡ 1048576 → region.bytes ≡ 1048576 → region ≡ first_region
region_is region base bytes = ap (λ b. let r : Region = record { base = b; bytes = region.bytes } in r) base ∙ ap (λ n. let r : Region = record { base = 1048576; bytes = n } in r) bytes

-- it gives no other
only_first : (region : Region) → IsByRule [] 1048576 region → region ≡ first_region
only_first region given = region_is region (base_is given.least.steps given.least.multiple given.least.least) given.exact
  where
    base_is : (steps : ℕ) → region.base ≡ 1048576 * (steps + 1) → ((k : ℕ) → k < steps → false ≡ true) → region.base ≡ 1048576
    base_is zero multiple least = multiple
    base_is (suc steps) multiple least = absurd (let no : false ≡ true = least 0 (omega arith) in cc)

-- an answer of the rule is the first region
answer_is : (answer : Option Region) → IsAnswer None [] 1048576 answer → answer ≡ Some first_region
answer_is (Some region) given = ap Some (only_first region given.1)
answer_is None none = absurd (none (lit< tt) first_region first_by_rule)

-- so a get gives it
pub first_given : (old new : Script) (answer : Option Region) → old ≡ unasked → Gets old 1048576 answer new → answer ≡ Some first_region
first_given old new answer fresh gets =
    let answered : IsAnswer None [] 1048576 answer = (subst (λ script. Gets script 1048576 answer new) fresh gets).answered in
    answer_is answer answered

-- once it was asked for, the region is there
pub given_first : (given : Option Region) (old new : Script) (answer : Option Region) (none : Bool) → is_some given ≡ not none → none ≡ true → IfNone given (old ≡ unasked) → Gets old 1048576 answer new →
    answer ≡ Some (unwrap_or given first_region)
given_first None old new answer none is asked fresh gets = first_given old new answer fresh gets
given_first (Some region) old new answer none is asked fresh gets = absurd (let no : true ≡ false = is ∙ ap not asked in cc)
