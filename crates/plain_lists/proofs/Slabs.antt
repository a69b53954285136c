-- A slab that gives its next object, and one that takes an object back.
use Prim.Native.Nat.{zero, suc}
use Rattle.std.proofs.Common.{◌≡◌, ◌≢◌, ℕ, ◌+◌, ◌%◌, ◌<◌, false, ◌⊎◌, inl, inr, List, [], ◌∷◌, ◌++◌, length, Some, None, refl, sym, ap, ◌∙◌, subst, arith}
use Rattle.std.specs.Prelude.{slice_get, slice_set}
use Rattle.std.specs.declared.option.Option.{Option}
use Rattle.std.proofs.lemmas.Bool.{cases_eq, cases_order, leb-false}
use Rattle.std.proofs.lemmas.List.{length-set, length-append}
use Rattle.size_classes.specs.Classes.{class_objects}
use Rattle.size_classes.proofs.CallerLemmas.{class_objects-least}
use Rattle.plain_lists.specs.Lists.{OwnSlab, begun, next_object, given, taken_back, is_unused}
use Rattle.plain_lists.specs.Good.{IsGoodSlab, IsHeld, times}
use Rattle.plain_lists.proofs.Gets.{times-same, times-other, nones-append, nones-set_some, nones-set_none}
use Rattle.list_laws.proofs.Gets.{slice_get-set_same, slice_get-set_other, slice_get-within, slice_get-end}
use Rattle.std.proofs.lemmas.Option.{slice_get_past, slice_get_within}

-- the slab has an object to give: a private one, or one that was not handed out
abbrev pub CanGive : OwnSlab → Type 0
CanGive slab = (0 < length slab.private) ⊎ (length slab.objects < class_objects slab.class)

-- a slab with a private object gives that
pub given-private : (slab : OwnSlab) (number object : ℕ) (private : List ℕ) → slab.private ≡ object ∷ private →
    given slab number ≡ record slab { objects = slice_set slab.objects object (Some number); private = private }
given-private slab number object private is = rw is refl

pub next_object-private : (slab : OwnSlab) (object : ℕ) (private : List ℕ) → slab.private ≡ object ∷ private → next_object slab ≡ object
next_object-private slab object private is = rw is refl

-- a slab with none gives the next that was not handed out
pub given-next : (slab : OwnSlab) (number : ℕ) → slab.private ≡ [] → given slab number ≡ record slab { objects = slab.objects ++ Some number ∷ [] }
given-next slab number is = rw is refl

pub next_object-next : (slab : OwnSlab) → slab.private ≡ [] → next_object slab ≡ length slab.objects
next_object-next slab is = rw is refl

-- what a list has at an index is none of a member, or it isn't
pub cases_none : (got : Option (Option ℕ)) → (got ≡ Some None) ⊎ (got ≢ Some None)
cases_none None = inr (λ e. cc)
cases_none (Some None) = inl refl
cases_none (Some (Some number)) = inr (λ e. cc)

-- a private object came back, and is private once
pub private_listed : (slab : OwnSlab) (object : ℕ) (private : List ℕ) → IsGoodSlab slab → slab.private ≡ object ∷ private →
    (slice_get slab.objects object ≡ Some None) × (times object private ≡ 0)
private_listed slab object private good is =
    elim (cases_none (slice_get slab.objects object)) [
      | inl listed ↦ let one = good.listed object listed in (listed, omega (arith, one, first))
      | inr other ↦ absurd (let none = good.unlisted object other in omega (arith, none, first))
    ]
  where
    first : times object slab.private ≡ times object private + 1
    first = ap (λ xs. times object xs) is ∙ times-same object private

-- The object that is given is then held under the number, and each other one as before.
pub given_next : (slab : OwnSlab) (number : ℕ) → IsGoodSlab slab → slice_get (given slab number).objects (next_object slab) ≡ Some (Some number)
given_next slab number good = go slab.private refl
  where
    go : (private : List ℕ) → slab.private ≡ private → slice_get (given slab number).objects (next_object slab) ≡ Some (Some number)
    go [] is = ap (λ (s : OwnSlab). slice_get s.objects (next_object slab)) (given-next slab number is) ∙ ap (λ o. slice_get (slab.objects ++ Some number ∷ []) o) (next_object-next slab is) ∙ slice_get-end slab.objects (Some number)
    go (object ∷ private) is =
        ap (λ (s : OwnSlab). slice_get s.objects (next_object slab)) (given-private slab number object private is)
        ∙ ap (λ o. slice_get (slice_set slab.objects object (Some number)) o) (next_object-private slab object private is)
        ∙ slice_get-set_same slab.objects object (Some number) (slice_get_within slab.objects object None (private_listed slab object private good is).0)

pub given_other : (slab : OwnSlab) (number object : ℕ) → object ≢ next_object slab → slice_get (given slab number).objects object ≡ slice_get slab.objects object
given_other slab number object other = go slab.private refl
  where
    past : (length slab.objects < object) → slice_get (slab.objects ++ Some number ∷ []) object ≡ slice_get slab.objects object
    past above =
        let long = length-append slab.objects (Some number ∷ []) in
        slice_get_past (slab.objects ++ Some number ∷ []) object (omega (arith, long, above)) ∙ sym (slice_get_past slab.objects object (omega (arith, above)))

    go : (private : List ℕ) → slab.private ≡ private → slice_get (given slab number).objects object ≡ slice_get slab.objects object
    go [] is =
        ap (λ (s : OwnSlab). slice_get s.objects object) (given-next slab number is)
        ∙ elim (cases_order object (length slab.objects)) [
          | inl same ↦ absurd (other (same ∙ sym (next_object-next slab is)))
          | inr (inl below) ↦ slice_get-within slab.objects (Some number ∷ []) object below
          | inr (inr above) ↦ past above
        ]
    go (first ∷ private) is =
        ap (λ (s : OwnSlab). slice_get s.objects object) (given-private slab number first private is)
        ∙ slice_get-set_other slab.objects first object (Some number) (λ e. other (e ∙ sym (next_object-private slab first private is)))

pub given_held : (slab : OwnSlab) (number : ℕ) → IsGoodSlab slab → (object other : ℕ) → IsHeld (given slab number) object other →
    IsHeld slab object other ⊎ ((object ≡ next_object slab) × (other ≡ number))
given_held slab number good object other held =
    elim (cases_eq object (next_object slab)) [
      | inl same ↦
          let both : Some (Some number) ≡ Some (Some other) = sym (given_next slab number good) ∙ ap (λ o. slice_get (given slab number).objects o) (sym same) ∙ held in
          inr (same, cc)
      | inr apart ↦ inl (sym (given_other slab number object apart) ∙ held)
    ]

-- a slab is good after it gave its next object
pub given_good : (slab : OwnSlab) (number : ℕ) → IsGoodSlab slab → CanGive slab → IsGoodSlab (given slab number)
given_good slab number good can = go slab.private refl
  where
    room : slab.private ≡ [] → length slab.objects < class_objects slab.class
    room is = elim can [ inl some ↦ absurd (let none : length slab.private ≡ 0 = ap length is in omega (arith, none, some)) | inr few ↦ few ]

    fresh : slab.private ≡ [] → IsGoodSlab (record slab { objects = slab.objects ++ Some number ∷ [] })
    fresh is = record {
      class_is = good.class_is;
      even = good.even;
      few = let long = length-append slab.objects (Some number ∷ []) in let less = room is in omega (arith, long, less);
      listed = λ object listed. listed_before object listed;
      unlisted = λ object unlisted. good.unlisted object (λ e. unlisted (slice_get-within slab.objects (Some number ∷ []) object (slice_get_within slab.objects object None e) ∙ e));
      counted = let more = nones-append slab.objects (Some number ∷ []) in let old = good.counted in omega (arith, more, old);
      held = let long = length-append slab.objects (Some number ∷ []) in let old = good.held in omega (arith, long, old);
    }
      where
        listed_before : (object : ℕ) → slice_get (slab.objects ++ Some number ∷ []) object ≡ Some None → times object slab.private ≡ 1
        listed_before object listed =
            elim (cases_order object (length slab.objects)) [
              | inl same ↦ absurd (let both : Some (Some number) ≡ Some None = sym (slice_get-end slab.objects (Some number)) ∙ ap (λ o. slice_get (slab.objects ++ Some number ∷ []) o) (sym same) ∙ listed in cc)
              | inr (inl below) ↦ good.listed object (sym (slice_get-within slab.objects (Some number ∷ []) object below) ∙ listed)
              | inr (inr above) ↦
                  let long = length-append slab.objects (Some number ∷ []) in
                  absurd (let both : None ≡ Some None = sym (slice_get_past (slab.objects ++ Some number ∷ []) object (omega (arith, long, above))) ∙ listed in cc)
            ]

    back : (object : ℕ) (private : List ℕ) → slab.private ≡ object ∷ private → IsGoodSlab (record slab { objects = slice_set slab.objects object (Some number); private = private })
    back object private is = record {
      class_is = good.class_is;
      even = good.even;
      few = let long = length-set slab.objects object (Some number) in let old = good.few in omega (arith, long, old);
      listed = λ other listed. elim (cases_eq other object) [
        | inl same ↦ absurd (let both : Some (Some number) ≡ Some None = sym here ∙ ap (λ o. slice_get (slice_set slab.objects object (Some number)) o) (sym same) ∙ listed in cc)
        | inr apart ↦ sym (rest other apart) ∙ good.listed other (sym (slice_get-set_other slab.objects object other (Some number) apart) ∙ listed)
      ];
      unlisted = λ other unlisted. elim (cases_eq other object) [
        | inl same ↦ ap (λ o. times o private) same ∙ was.1
        | inr apart ↦ sym (rest other apart) ∙ good.unlisted other (λ e. unlisted (slice_get-set_other slab.objects object other (Some number) apart ∙ e))
      ];
      counted = let less = nones-set_some slab.objects object number was.0 in let old = good.counted in let long : length slab.private ≡ length private + 1 = ap length is ∙ omega arith in omega (arith, less, old, long);
      held = let same = length-set slab.objects object (Some number) in let old = good.held in let long : length slab.private ≡ length private + 1 = ap length is ∙ omega arith in omega (arith, same, old, long);
    }
      where
        was : (slice_get slab.objects object ≡ Some None) × (times object private ≡ 0)
        was = private_listed slab object private good is

        here : slice_get (slice_set slab.objects object (Some number)) object ≡ Some (Some number)
        here = slice_get-set_same slab.objects object (Some number) (slice_get_within slab.objects object None was.0)

        rest : (other : ℕ) → other ≢ object → times other slab.private ≡ times other private
        rest other apart = ap (λ xs. times other xs) is ∙ times-other other object private (λ e. apart (sym e))

    go : (private : List ℕ) → slab.private ≡ private → IsGoodSlab (given slab number)
    go [] is = subst IsGoodSlab (sym (given-next slab number is)) (fresh is)
    go (object ∷ private) is = subst IsGoodSlab (sym (given-private slab number object private is)) (back object private is)

-- a slab that begins is good once it gave its first object
pub begun_good : (index class number : ℕ) → index % 2 ≡ 0 → class < 26 → IsGoodSlab (given (begun index class) number)
begun_good index class number even exists = record {
  class_is = exists;
  even = even;
  few = let least = class_objects-least class exists in omega (arith, least);
  listed = λ object listed. absurd (never object listed);
  unlisted = λ object unlisted. refl;
  counted = refl;
  held = omega arith;
}
  where
    never : (object : ℕ) → slice_get (Some number ∷ []) object ≡ Some None → ⊥
    never zero listed = cc
    never (suc object) listed = cc

pub begun_held : (index class number object other : ℕ) → IsHeld (given (begun index class) number) object other → (object ≡ 0) × (other ≡ number)
begun_held index class number zero other held = (refl, cc)
begun_held index class number (suc object) other held = absurd (let e = held in cc)

-- The object that comes back is held no more, and each other one as before.
pub taken_back_held : (slab : OwnSlab) (object number : ℕ) → IsHeld slab object number → (other held_as : ℕ) → IsHeld (taken_back slab object) other held_as →
    IsHeld slab other held_as × (other ≢ object)
taken_back_held slab object number was other held_as held =
    elim (cases_eq other object) [
      | inl same ↦
          absurd (let both : Some None ≡ Some (Some held_as) = sym (slice_get-set_same slab.objects object None (slice_get_within slab.objects object (Some number) was)) ∙ ap (λ o. slice_get (slice_set slab.objects object None) o) (sym same) ∙ held in cc)
      | inr apart ↦ (sym (slice_get-set_other slab.objects object other None apart) ∙ held, apart)
    ]

-- a slab is good after an object came back, as long as another one is held
pub taken_back_good : (slab : OwnSlab) (object number : ℕ) → IsGoodSlab slab → IsHeld slab object number → is_unused (taken_back slab object) ≡ false →
    IsGoodSlab (taken_back slab object)
taken_back_good slab object number good was used = record {
  class_is = good.class_is;
  even = good.even;
  few = let long = length-set slab.objects object None in let old = good.few in omega (arith, long, old);
  listed = λ other listed. elim (cases_eq other object) [
    | inl same ↦ ap (λ o. times o (object ∷ slab.private)) same ∙ times-same object slab.private ∙ (let none = good.unlisted object held_here in omega (arith, none))
    | inr apart ↦ times-other other object slab.private (λ e. apart (sym e)) ∙ good.listed other (sym (slice_get-set_other slab.objects object other None apart) ∙ listed)
  ];
  unlisted = λ other unlisted. elim (cases_eq other object) [
    | inl same ↦ absurd (unlisted (ap (λ o. slice_get (slice_set slab.objects object None) o) same ∙ slice_get-set_same slab.objects object None (slice_get_within slab.objects object (Some number) was)))
    | inr apart ↦ times-other other object slab.private (λ e. apart (sym e)) ∙ good.unlisted other (λ e. unlisted (slice_get-set_other slab.objects object other None apart ∙ e))
  ];
  counted = let more = nones-set_none slab.objects object number was in let old = good.counted in omega (arith, more, old);
  held = leb-false (length (slice_set slab.objects object None)) (length (object ∷ slab.private)) used;
}
  where
    held_here : slice_get slab.objects object ≢ Some None
    held_here e = let both : Some (Some number) ≡ Some None = sym was ∙ e in cc
