-- What an answer says of the objects that its call granted.
use Rattle.std.proofs.Common.{◌≡◌, ◌≢◌, ◌⊎◌, ◌||◌, ℕ, inl, inr, List, [], ◌∷◌, Some, None, Bool, true, false, ◌&&◌, not, refl, sym, ◌∙◌, ap, subst}
use Rattle.std.specs.Prelude.{Contains, if◌then◌else◌, ◌==◌}
use Rattle.std.specs.List.{list_any, flat_map}
use Rattle.std.specs.declared.option.Option.{Option}
use Rattle.std.proofs.lemmas.Bool.{cases_Bool, and_parts, eqb-true}
use Rattle.std.proofs.lemmas.List.Elements.{Contains-append_cases, Contains-append_left, Contains-append_right}
use Rattle.list_laws.proofs.Members.{Contains-none, Contains-cons, Contains-first, Contains-other, Contains-single, Contains-filter_from}
use Rattle.pool_types.specs.declared.policy.Limits.{Limits}
use Rattle.pool_types.specs.declared.values.Answer.{Answer}
use Rattle.pool_types.specs.declared.values.Answer.TheVariants.{Got, Null, Freed, False, Size, Pool, NoPool, NotHeld, Exited}
use Rattle.pool_types.specs.declared.values.Found.{Found}
use Rattle.pool_types.specs.declared.values.Grant.{Grant}
use Rattle.pool_types.specs.declared.values.Leak.{Leak}
use Rattle.pool_types.specs.declared.values.NullCause.TheVariants.{BadRequest, FreedByRealloc, NumbersSpent, TooLarge, RawFailed, SpanFull, RegionsFull, NoFit}
use Rattle.pool_types.specs.declared.values.Place.{Place}
use Rattle.pool_types.specs.declared.values.Request.{Request}
use Rattle.pool_types.specs.declared.values.Request.TheVariants.{Malloc, Aligned, Realloc, AlignedRealloc, Free, Msize, Identify, Exit}
use Rattle.part_model.specs.declared.holders.Holder.{Holder}
use Rattle.part_model.specs.declared.holders.Holder.TheVariants.{Waste, Head, Rest, Private, Public, Object, LargeHead, SlabCache, Cached, Bin, Queue, Hand}
use Rattle.part_model.specs.declared.moves.Part.{Part}
use Rattle.part_model.specs.declared.moves.Range.{Range}
use Rattle.machine.specs.States.{Terms, State}
use Rattle.machine.specs.Journal.{is_object}
use Rattle.machine.specs.Answers.{Call, same_object, granted, lasting, moved_parts, GrantsOne, MovesNothing, NoneIsLeft, IsMallocAnswer, IsReallocAnswer, IsFreeAnswer, IsMsizeAnswer, IsIdentifyAnswer, IsExitAnswer, IsAnswerTo}
use Rattle.machine.specs.Events.{has_any}
use Rattle.machine.specs.Leaks.{leak_range}
use Rattle.machine.specs.Ledger.{object_at, granted_by, freed_by, got_by}
use Rattle.machine.proofs.Ledger.{same_grant, same_leak}

-- the answer says that the call granted this one object, that it granted none, or that what it granted is held no more
pub data GrantsTold (call : Call) (after : State) (answer : Answer) : Type 0 where
  one_told : (place : Place) (usable : ℕ) (grant : Grant) → GrantsOne call place usable grant → answer ≡ Got place usable grant → GrantsTold call after answer
  none_told : granted (moved_parts call.moments) ≡ [] → GrantsTold call after answer
  lost_told : (found : Found) → NoneIsLeft call after → answer ≡ NotHeld found → GrantsTold call after answer

still_told : (call : Call) (after : State) (answer : Answer) → MovesNothing call → GrantsTold call after answer
still_told call after answer still = none_told (ap granted still.none)

malloc_told : (terms : Terms) (call : Call) (after : State) (answer : Answer) → IsMallocAnswer terms call after answer → GrantsTold call after answer
malloc_told terms call after (Got place usable grant) legal = one_told place usable grant legal.0.granted refl
malloc_told terms call after (Null BadRequest) legal = still_told call after (Null BadRequest) legal.1
malloc_told terms call after (Null FreedByRealloc) legal = none_told legal.2.0
malloc_told terms call after (Null NumbersSpent) legal = none_told legal.2.0
malloc_told terms call after (Null (TooLarge granules)) legal = none_told legal.2.0
malloc_told terms call after (Null RawFailed) legal = none_told legal.2.0
malloc_told terms call after (Null (SpanFull asked greatest)) legal = none_told legal.2.0
malloc_told terms call after (Null (RegionsFull out next)) legal = none_told legal.2.0
malloc_told terms call after (Null (NoFit looks)) legal = none_told legal.2.0
malloc_told terms call after Freed legal = absurd legal
malloc_told terms call after False legal = absurd legal
malloc_told terms call after (Size usable) legal = absurd legal
malloc_told terms call after (Pool pool) legal = absurd legal
malloc_told terms call after NoPool legal = absurd legal
malloc_told terms call after (NotHeld found) legal = absurd legal
malloc_told terms call after Exited legal = absurd legal

realloc_told : (terms : Terms) (call : Call) (after : State) (old : Place) (answer : Answer) → IsReallocAnswer terms call after old answer → GrantsTold call after answer
realloc_told terms call after old (Got place usable grant) legal = elim (legal.1) [
  | inl stays ↦ none_told (ap granted stays.still.none)
  | inr moved ↦ one_told place usable grant moved.new_object.granted refl
]
realloc_told terms call after old (Null BadRequest) legal = still_told call after (Null BadRequest) legal.1
realloc_told terms call after old (Null FreedByRealloc) legal = none_told legal.2
realloc_told terms call after old (Null NumbersSpent) legal = none_told legal.3.0
realloc_told terms call after old (Null (TooLarge granules)) legal = none_told legal.3.0
realloc_told terms call after old (Null RawFailed) legal = none_told legal.3.0
realloc_told terms call after old (Null (SpanFull asked greatest)) legal = none_told legal.3.0
realloc_told terms call after old (Null (RegionsFull out next)) legal = none_told legal.3.0
realloc_told terms call after old (Null (NoFit looks)) legal = none_told legal.3.0
realloc_told terms call after old (NotHeld found) legal = lost_told found legal.3 refl
realloc_told terms call after old Freed legal = absurd legal
realloc_told terms call after old False legal = absurd legal
realloc_told terms call after old (Size usable) legal = absurd legal
realloc_told terms call after old (Pool pool) legal = absurd legal
realloc_told terms call after old NoPool legal = absurd legal
realloc_told terms call after old Exited legal = absurd legal

free_told : (limits : Limits) (call : Call) (after : State) (place : Option Place) (answer : Answer) → IsFreeAnswer limits call place answer → GrantsTold call after answer
free_told limits call after None False legal = still_told call after False legal
free_told limits call after (Some place) Freed legal = none_told legal.0
free_told limits call after (Some place) (NotHeld found) legal = still_told call after (NotHeld found) legal.1
free_told limits call after None Freed legal = absurd legal
free_told limits call after (Some place) False legal = absurd legal
free_told limits call after None (NotHeld found) legal = absurd legal
free_told limits call after None (Got p usable grant) legal = absurd legal
free_told limits call after (Some place) (Got p usable grant) legal = absurd legal
free_told limits call after None (Null cause) legal = absurd legal
free_told limits call after (Some place) (Null cause) legal = absurd legal
free_told limits call after None (Size usable) legal = absurd legal
free_told limits call after (Some place) (Size usable) legal = absurd legal
free_told limits call after None (Pool pool) legal = absurd legal
free_told limits call after (Some place) (Pool pool) legal = absurd legal
free_told limits call after None NoPool legal = absurd legal
free_told limits call after (Some place) NoPool legal = absurd legal
free_told limits call after None Exited legal = absurd legal
free_told limits call after (Some place) Exited legal = absurd legal

msize_told : (limits : Limits) (call : Call) (after : State) (place : Option Place) (answer : Answer) → IsMsizeAnswer limits call place answer → GrantsTold call after answer
msize_told limits call after None (Size usable) legal = still_told call after (Size usable) legal.1
msize_told limits call after (Some place) (Size usable) legal = still_told call after (Size usable) legal.1
msize_told limits call after (Some place) (NotHeld found) legal = still_told call after (NotHeld found) legal.1
msize_told limits call after None (NotHeld found) legal = absurd legal
msize_told limits call after None (Got p usable grant) legal = absurd legal
msize_told limits call after (Some place) (Got p usable grant) legal = absurd legal
msize_told limits call after None (Null cause) legal = absurd legal
msize_told limits call after (Some place) (Null cause) legal = absurd legal
msize_told limits call after None Freed legal = absurd legal
msize_told limits call after (Some place) Freed legal = absurd legal
msize_told limits call after None False legal = absurd legal
msize_told limits call after (Some place) False legal = absurd legal
msize_told limits call after None (Pool pool) legal = absurd legal
msize_told limits call after (Some place) (Pool pool) legal = absurd legal
msize_told limits call after None NoPool legal = absurd legal
msize_told limits call after (Some place) NoPool legal = absurd legal
msize_told limits call after None Exited legal = absurd legal
msize_told limits call after (Some place) Exited legal = absurd legal

identify_told : (limits : Limits) (call : Call) (after : State) (place : Option Place) (answer : Answer) → IsIdentifyAnswer limits call place answer → GrantsTold call after answer
identify_told limits call after (Some place) (Pool pool) legal = still_told call after (Pool pool) legal.2
identify_told limits call after None NoPool legal = still_told call after NoPool legal
identify_told limits call after (Some place) NoPool legal = still_told call after NoPool legal.1
identify_told limits call after None (Pool pool) legal = absurd legal
identify_told limits call after None (Got p usable grant) legal = absurd legal
identify_told limits call after (Some place) (Got p usable grant) legal = absurd legal
identify_told limits call after None (Null cause) legal = absurd legal
identify_told limits call after (Some place) (Null cause) legal = absurd legal
identify_told limits call after None Freed legal = absurd legal
identify_told limits call after (Some place) Freed legal = absurd legal
identify_told limits call after None False legal = absurd legal
identify_told limits call after (Some place) False legal = absurd legal
identify_told limits call after None (Size usable) legal = absurd legal
identify_told limits call after (Some place) (Size usable) legal = absurd legal
identify_told limits call after None (NotHeld found) legal = absurd legal
identify_told limits call after (Some place) (NotHeld found) legal = absurd legal
identify_told limits call after None Exited legal = absurd legal
identify_told limits call after (Some place) Exited legal = absurd legal

exit_told : (call : Call) (after : State) (answer : Answer) → IsExitAnswer call after answer → GrantsTold call after answer
exit_told call after Exited legal = none_told legal.2.0
exit_told call after (Got p usable grant) legal = absurd legal
exit_told call after (Null cause) legal = absurd legal
exit_told call after Freed legal = absurd legal
exit_told call after False legal = absurd legal
exit_told call after (Size usable) legal = absurd legal
exit_told call after (Pool pool) legal = absurd legal
exit_told call after NoPool legal = absurd legal
exit_told call after (NotHeld found) legal = absurd legal

pub grants_told : (terms : Terms) (call : Call) (after : State) (request : Request) (answer : Answer) → IsAnswerTo terms call after request answer → GrantsTold call after answer
grants_told terms call after (Malloc size) answer legal = malloc_told terms call after answer legal
grants_told terms call after (Aligned size alignment) answer legal = malloc_told terms call after answer legal
grants_told terms call after (Realloc None size) answer legal = malloc_told terms call after answer legal
grants_told terms call after (Realloc (Some place) size) answer legal = realloc_told terms call after place answer legal
grants_told terms call after (AlignedRealloc None size alignment) answer legal = malloc_told terms call after answer legal
grants_told terms call after (AlignedRealloc (Some place) size alignment) answer legal = realloc_told terms call after place answer legal
grants_told terms call after (Free place) answer legal = free_told terms.limits call after place answer legal
grants_told terms call after (Msize place) answer legal = msize_told terms.limits call after place answer legal
grants_told terms call after (Identify place) answer legal = identify_told terms.limits call after place answer legal
grants_told terms call after Exit answer legal = exit_told call after answer legal

-- a part that grants the object
pub record IsGranting (parts : List Part) (leak : Leak) : Type 0 where
  pub part : Part
  pub member : Contains parts part
  pub to : part.to ≡ Some (Object leak.grant)
  pub range : part.range ≡ leak_range leak

-- a member of what a part grants
in_granted_by : (part : Part) (leak : Leak) → Contains (granted_by part) leak → (part.to ≡ Some (Object leak.grant)) × (part.range ≡ leak_range leak)
in_granted_by part leak member = by_to part.to refl member
  where
    by_to : (to : Option Holder) → part.to ≡ to → Contains (object_at part.range to) leak → (part.to ≡ Some (Object leak.grant)) × (part.range ≡ leak_range leak)
    by_to (Some (Object grant)) is m =
        let same : record { place = part.range.place; usable = part.range.bytes; grant = grant } ≡ leak =
        Contains-single (record { place = part.range.place; usable = part.range.bytes; grant = grant }) leak m in
        (is ∙ ap (λ (l : Leak). Some (Object l.grant)) same, ap leak_range same)
    by_to None is m = absurd (Contains-none leak m)
    by_to (Some Waste) is m = absurd (Contains-none leak m)
    by_to (Some Head) is m = absurd (Contains-none leak m)
    by_to (Some Rest) is m = absurd (Contains-none leak m)
    by_to (Some Private) is m = absurd (Contains-none leak m)
    by_to (Some Public) is m = absurd (Contains-none leak m)
    by_to (Some (LargeHead grant)) is m = absurd (Contains-none leak m)
    by_to (Some (SlabCache seat)) is m = absurd (Contains-none leak m)
    by_to (Some (Cached granules)) is m = absurd (Contains-none leak m)
    by_to (Some Bin) is m = absurd (Contains-none leak m)
    by_to (Some Queue) is m = absurd (Contains-none leak m)
    by_to (Some (Hand seat)) is m = absurd (Contains-none leak m)

pub is_granting : (parts : List Part) (leak : Leak) → Contains (flat_map granted_by parts) leak → IsGranting parts leak
is_granting [] leak member = absurd (Contains-none leak member)
is_granting (part ∷ parts) leak member = elim (Contains-append_cases (granted_by part) (flat_map granted_by parts) leak member) [
  | inl here ↦ (let is = in_granted_by part leak here in record { part = part; member = Contains-first part parts; to = is.0; range = is.1 })
  | inr later ↦ (let found = is_granting parts leak later in record { part = found.part; member = Contains-other part parts found.part found.member; to = found.to; range = found.range })
]

-- and the other way round: what a part grants, and what it frees
pub granting_in : (parts : List Part) (part : Part) (grant : Grant) → Contains parts part → part.to ≡ Some (Object grant) →
    Contains (flat_map granted_by parts) (record { place = part.range.place; usable = part.range.bytes; grant = grant })
granting_in [] part grant member is = absurd (Contains-none part member)
granting_in (first ∷ parts) part grant member is = elim (Contains-cons first parts part member) [
  | inl same ↦ Contains-append_left (granted_by first) (flat_map granted_by parts) (record { place = part.range.place; usable = part.range.bytes; grant = grant })
      (subst (λ (p : Part). Contains (granted_by p) (record { place = part.range.place; usable = part.range.bytes; grant = grant })) (sym same)
      (subst (λ h. Contains (object_at part.range h) (record { place = part.range.place; usable = part.range.bytes; grant = grant })) (sym is) (Contains-first (record { place = part.range.place; usable = part.range.bytes; grant = grant }) [])))
  | inr later ↦ Contains-append_right (granted_by first) (flat_map granted_by parts) (record { place = part.range.place; usable = part.range.bytes; grant = grant }) (granting_in parts part grant later is)
]

pub freeing_in : (parts : List Part) (part : Part) (grant : Grant) → Contains parts part → part.from ≡ Some (Object grant) →
    Contains (flat_map freed_by parts) (record { place = part.range.place; usable = part.range.bytes; grant = grant })
freeing_in [] part grant member is = absurd (Contains-none part member)
freeing_in (first ∷ parts) part grant member is = elim (Contains-cons first parts part member) [
  | inl same ↦ Contains-append_left (freed_by first) (flat_map freed_by parts) (record { place = part.range.place; usable = part.range.bytes; grant = grant })
      (subst (λ (p : Part). Contains (freed_by p) (record { place = part.range.place; usable = part.range.bytes; grant = grant })) (sym same)
      (subst (λ h. Contains (object_at part.range h) (record { place = part.range.place; usable = part.range.bytes; grant = grant })) (sym is) (Contains-first (record { place = part.range.place; usable = part.range.bytes; grant = grant }) [])))
  | inr later ↦ Contains-append_right (freed_by first) (flat_map freed_by parts) (record { place = part.range.place; usable = part.range.bytes; grant = grant }) (freeing_in parts part grant later is)
]

-- a member that passes a test
any_member : {X : Type 0} → (test : X → Bool) (xs : List X) → list_any test xs ≡ true → (x : X) × Contains xs x × (test x ≡ true)
any_member test [] is = absurd (let clash = is in cc)
any_member {X} test (x ∷ xs) is = by_test (test x) refl is (λ later. any_member test xs later)
  where
    by_test : (b : Bool) → test x ≡ b → (b || list_any test xs) ≡ true → (list_any test xs ≡ true → (y : X) × Contains xs y × (test y ≡ true)) → (y : X) × Contains (x ∷ xs) y × (test y ≡ true)
    by_test true here some step = (x, Contains-first x xs, here)
    by_test false here some step = let found = step some in (found.0, Contains-other x xs found.0 found.1, found.2)

-- both are one object's
same_object-is : (one : Option Holder) (grant : Grant) → same_object one (Some (Object grant)) ≡ true → one ≡ Some (Object grant)
same_object-is (Some (Object other)) grant is =
    let both = and_parts (other.seat == grant.seat) (other.number == grant.number) is in
    ap (λ s. Some (Object (record { seat = s; number = other.number }))) (eqb-true other.seat grant.seat both.0)
    ∙ ap (λ n. Some (Object (record { seat = grant.seat; number = n }))) (eqb-true other.number grant.number both.1)
same_object-is None grant is = absurd (let clash = is in cc)
same_object-is (Some Waste) grant is = absurd (let clash = is in cc)
same_object-is (Some Head) grant is = absurd (let clash = is in cc)
same_object-is (Some Rest) grant is = absurd (let clash = is in cc)
same_object-is (Some Private) grant is = absurd (let clash = is in cc)
same_object-is (Some Public) grant is = absurd (let clash = is in cc)
same_object-is (Some (LargeHead other)) grant is = absurd (let clash = is in cc)
same_object-is (Some (SlabCache seat)) grant is = absurd (let clash = is in cc)
same_object-is (Some (Cached granules)) grant is = absurd (let clash = is in cc)
same_object-is (Some Bin) grant is = absurd (let clash = is in cc)
same_object-is (Some Queue) grant is = absurd (let clash = is in cc)
same_object-is (Some (Hand seat)) grant is = absurd (let clash = is in cc)

-- a part that grants an object lasts, or a part ends the object
pub data IsLasting (parts : List Part) (part : Part) (grant : Grant) : Type 0 where
  it_lasts : Contains (lasting parts) part → IsLasting parts part grant
  it_ends : (later : Part) → Contains parts later → later.from ≡ Some (Object grant) → IsLasting parts part grant

pub is_lasting : (parts : List Part) (part : Part) (grant : Grant) → Contains parts part → part.to ≡ Some (Object grant) → IsLasting parts part grant
is_lasting [] part grant member to = absurd (Contains-none part member)
is_lasting (first ∷ parts) part grant member to = by_place (Contains-cons first parts part member) (λ later. is_lasting parts part grant later to)
  where
    keeps : (b : Bool) → Contains (lasting parts) part → Contains (if b then first ∷ lasting parts else lasting parts) part
    keeps true m = Contains-other first (lasting parts) part m
    keeps false m = m

    on : IsLasting parts part grant → IsLasting (first ∷ parts) part grant
    on (it_lasts m) = it_lasts (keeps (is_object first.to && not (list_any (λ later. same_object later.from first.to) parts)) m)
    on (it_ends later m from) = it_ends later (Contains-other first parts later m) from

    here : first ≡ part → IsLasting (first ∷ parts) part grant
    here same =
        let first_to : first.to ≡ Some (Object grant) = ap (λ (p : Part). p.to) same ∙ to in
        elim (cases_Bool (list_any (λ later. same_object later.from first.to) parts)) [
          | inl ended ↦ (let found = any_member (λ (later : Part). same_object later.from first.to) parts ended in
              it_ends found.0 (Contains-other first parts found.0 found.1) (same_object-is found.0.from grant (ap (same_object found.0.from) (sym first_to) ∙ found.2)))
          | inr alone ↦ it_lasts (subst (λ (b : Bool). Contains (if b then first ∷ lasting parts else lasting parts) part)
              (sym (ap (λ h. is_object h && not (list_any (λ later. same_object later.from first.to) parts)) first_to ∙ ap not alone))
              (subst (λ p. Contains (first ∷ lasting parts) p) same (Contains-first first (lasting parts))))
        ]

    by_place : (first ≡ part) ⊎ Contains parts part → (Contains parts part → IsLasting parts part grant) → IsLasting (first ∷ parts) part grant
    by_place (inl same) step = here same
    by_place (inr later) step = on (step later)

-- what lasts is among the parts
pub lasting_in : (parts : List Part) (part : Part) → Contains (lasting parts) part → Contains parts part
lasting_in [] part member = absurd (Contains-none part member)
lasting_in (first ∷ parts) part member = by_test (is_object first.to && not (list_any (λ later. same_object later.from first.to) parts)) member (λ m. lasting_in parts part m)
  where
    by_test : (b : Bool) → Contains (if b then first ∷ lasting parts else lasting parts) part → (Contains (lasting parts) part → Contains parts part) → Contains (first ∷ parts) part
    by_test true m step = elim (Contains-cons first (lasting parts) part m) [
      | inl same ↦ subst (λ p. Contains (first ∷ parts) p) same (Contains-first first parts)
      | inr later ↦ Contains-other first parts part (step later)
    ]
    by_test false m step = Contains-other first parts part (step m)

-- a list that has a member is not empty
has_some : {X : Type 0} → (xs : List X) (x : X) → Contains xs x → has_any xs ≡ true
has_some [] x member = absurd (Contains-none x member)
has_some (y ∷ xs) x member = refl

-- An object that an answered call granted, and that no part of it ended, is what the answer got, where it is held still.
pub told_got : (terms : Terms) (call : Call) (after : State) (answer : Answer) (leak : Leak) → IsAnswerTo terms call after call.request answer → Contains (flat_map granted_by (moved_parts call.moments)) leak →
    ((part : Part) → Contains (moved_parts call.moments) part → part.from ≢ Some (Object leak.grant)) → after.held leak.place ≡ Some (Object leak.grant) → Contains (got_by call (Some answer)) leak
told_got terms call after answer leak legal member still held = by_lasting (is_lasting (moved_parts call.moments) granting.part leak.grant granting.member granting.to)
  where
    granting : IsGranting (moved_parts call.moments) leak
    granting = is_granting (moved_parts call.moments) leak member

    in_granted : Contains (granted (moved_parts call.moments)) granting.part
    in_granted = Contains-filter_from (λ (part : Part). is_object part.to) (moved_parts call.moments) granting.part granting.member (ap is_object granting.to)

    by_told : Contains (lasting (moved_parts call.moments)) granting.part → GrantsTold call after answer → Contains (got_by call (Some answer)) leak
    by_told lasts (one_told place usable grant one is) =
        let same : record { range = record { place = place; bytes = usable }; from = one.from; to = Some (Object grant) } ≡ granting.part =
        Contains-single (record { range = record { place = place; bytes = usable }; from = one.from; to = Some (Object grant) }) granting.part (subst (λ ps. Contains ps granting.part) one.one lasts) in
        let range : record { place = place; bytes = usable } ≡ leak_range leak = ap (λ (p : Part). p.range) same ∙ granting.range in
        let grants : grant ≡ leak.grant = same_grant (ap (λ (p : Part). p.to) same ∙ granting.to) in
        subst (λ a. Contains (got_by call (Some a)) leak) (sym is) (subst (λ (b : Bool). Contains (if b then record { place = place; usable = usable; grant = grant } ∷ [] else []) leak) (sym (has_some (granted (moved_parts call.moments)) granting.part in_granted))
        (subst (λ l. Contains (record { place = place; usable = usable; grant = grant } ∷ []) l) (same_leak (record { place = place; usable = usable; grant = grant }) leak range grants) (Contains-first (record { place = place; usable = usable; grant = grant }) [])))
    by_told lasts (none_told none) = absurd (Contains-none granting.part (subst (λ ps. Contains ps granting.part) none in_granted))
    by_told lasts (lost_told found lost is) = absurd (lost granting.part in_granted leak.place (held ∙ sym granting.to))

    by_lasting : IsLasting (moved_parts call.moments) granting.part leak.grant → Contains (got_by call (Some answer)) leak
    by_lasting (it_lasts lasts) = by_told lasts (grants_told terms call after call.request answer legal)
    by_lasting (it_ends later among from) = absurd (still later among from)

-- what a new answer got, the call granted
pub got_granted : (terms : Terms) (call : Call) (after : State) (answer : Answer) (leak : Leak) → IsAnswerTo terms call after call.request answer → Contains (got_by call (Some answer)) leak →
    Contains (flat_map granted_by (moved_parts call.moments)) leak
got_granted terms call after answer leak legal member = by_told (grants_told terms call after call.request answer legal)
  where
    nothing_got : granted (moved_parts call.moments) ≡ [] → (x : Answer) → Contains (got_by call (Some x)) leak → ⊥
    nothing_got none (Got place usable grant) m = Contains-none leak (subst (λ (b : Bool). Contains (if b then record { place = place; usable = usable; grant = grant } ∷ [] else []) leak) (ap has_any none) m)
    nothing_got none (Null cause) m = Contains-none leak m
    nothing_got none Freed m = Contains-none leak m
    nothing_got none False m = Contains-none leak m
    nothing_got none (Size usable) m = Contains-none leak m
    nothing_got none (Pool pool) m = Contains-none leak m
    nothing_got none NoPool m = Contains-none leak m
    nothing_got none (NotHeld found) m = Contains-none leak m
    nothing_got none Exited m = Contains-none leak m

    one_of : (b : Bool) (one : Leak) → Contains (if b then one ∷ [] else []) leak → one ≡ leak
    one_of true one m = Contains-single one leak m
    one_of false one m = absurd (Contains-none leak m)

    told : (place : Place) (usable : ℕ) (grant : Grant) (part : Part) → lasting (moved_parts call.moments) ≡ part ∷ [] → part.to ≡ Some (Object grant) → part.range ≡ record { place = place; bytes = usable } →
        answer ≡ Got place usable grant → Contains (flat_map granted_by (moved_parts call.moments)) leak
    told place usable grant part lasts to range is =
        let one : Leak = record { place = place; usable = usable; grant = grant } in
        let same : record { place = place; usable = usable; grant = grant } ≡ leak =
        one_of (has_any (granted (moved_parts call.moments))) (record { place = place; usable = usable; grant = grant }) (subst (λ x. Contains (got_by call (Some x)) leak) is member) in
        let among : Contains (moved_parts call.moments) part = lasting_in (moved_parts call.moments) part (subst (λ ps. Contains ps part) (sym lasts) (Contains-first part [])) in
        subst (Contains (flat_map granted_by (moved_parts call.moments))) (ap (λ (r : Range). record { place = r.place; usable = r.bytes; grant = grant }) range ∙ same)
        (granting_in (moved_parts call.moments) part grant among to)

    by_told : GrantsTold call after answer → Contains (flat_map granted_by (moved_parts call.moments)) leak
    by_told (one_told place usable grant one is) =
        told place usable grant (record { range = record { place = place; bytes = usable }; from = one.from; to = Some (Object grant) }) one.one refl refl is
    by_told (none_told none) = absurd (nothing_got none answer member)
    by_told (lost_told found lost is) = absurd (Contains-none leak (subst (λ x. Contains (got_by call (Some x)) leak) is member))
