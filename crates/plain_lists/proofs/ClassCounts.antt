-- The slabs of each class, by the counts of earlier objects: while nothing is freed, one slab at most has an object to give.
use Rattle.std.proofs.Common.{◌≡◌, ◌≢◌, ℕ, ◌+◌, ◌*◌, ◌%◌, ◌<◌, ◌≤◌, Bool, true, false, ◌&&◌, ◌⊎◌, inl, inr, List, [], ◌∷◌, length, None, refl, sym, ap, ◌∙◌, subst, arith}
use Rattle.std.specs.Prelude.{Contains, find, if◌then◌else◌}
use Rattle.std.proofs.lemmas.Bool.{eq-eqb, ne_eqb, cases_eq, cases_lt, true≢false}
use Rattle.std.proofs.lemmas.Bool.Decides.{nat_tests}
use Rattle.std.proofs.lemmas.Nat.{mod-mul-add}
use Rattle.size_classes.specs.Classes.{class_objects}
use Rattle.size_classes.proofs.CallerLemmas.{class_objects-least}
use Rattle.plain_lists.specs.Lists.{OwnSlab, has_free, changed}
use Rattle.plain_lists.specs.Counts.{count_of, is_first, slabs_in, slab_in}
use Rattle.list_laws.proofs.Members.{Contains-first, Contains-other, Contains-cons, Contains-none}
use Rattle.list_laws.proofs.Finds.{find-None}
use Rattle.plain_lists.proofs.SlabLists.{Contains-changed, changed-other, changed-itself}

-- the test whether a slab has an object to give, where none is private
can_give : (class : ℕ) (slab : OwnSlab) → slab.class ≡ class → length slab.objects < class_objects class → has_free class slab ≡ true
can_give class slab same less = grind (arith, nat_tests)

other_class : (class : ℕ) (slab : OwnSlab) → slab.class ≢ class → has_free class slab ≡ false
other_class class slab other = grind (arith, nat_tests)

has_given_all : (class : ℕ) (slab : OwnSlab) → slab.private ≡ [] → class_objects class ≤ length slab.objects → has_free class slab ≡ false
has_given_all class slab none full = let empty : length slab.private ≡ 0 = ap length none in grind (arith, nat_tests)

-- The one slab of a class that has an object to give stands at the index, and gave so many.
pub record IsOpen (class index left : ℕ) (slabs : List OwnSlab) : Type 0 where
  pub stands : (slab : OwnSlab) × Contains slabs slab × (slab.index ≡ index)
  pub here : (slab : OwnSlab) → Contains slabs slab → slab.index ≡ index → (slab.class ≡ class) × (length slab.objects ≡ left)
  pub others : (slab : OwnSlab) → Contains slabs slab → slab.index ≢ index → has_free class slab ≡ false

-- the count of a class is that of whole slabs and of what its open slab gave
pub record IsCounted (class : ℕ) (earlier : List ℕ) (slabs : List OwnSlab) : Type 0 where
  pub turns : ℕ
  pub left : ℕ
  pub count : count_of class earlier ≡ turns * class_objects class + left
  pub below : left < class_objects class
  pub none : left ≡ 0 → (slab : OwnSlab) → Contains slabs slab → has_free class slab ≡ false
  pub some : 0 < left → IsOpen class (2 * slab_in class earlier) left slabs

-- one slab of the class gave one object more
pub record IsGrown (class : ℕ) (slabs : List OwnSlab) (old new : OwnSlab) : Type 0 where
  pub listed : Contains slabs old
  pub index_is : new.index ≡ old.index
  pub was_of : old.class ≡ class
  pub is_of : new.class ≡ class
  pub more : length new.objects ≡ length old.objects + 1
  pub private_is : new.private ≡ []

-- what the count leaves over
pub left_over : (class : ℕ) (earlier : List ℕ) (slabs : List OwnSlab) (counted : IsCounted class earlier slabs) → count_of class earlier % class_objects class ≡ counted.left
left_over class earlier slabs counted = ap (λ n. n % class_objects class) counted.count ∙ mod-mul-add counted.turns (class_objects class) counted.left counted.below

pub first_at : (class : ℕ) (earlier : List ℕ) (slabs : List OwnSlab) (counted : IsCounted class earlier slabs) → counted.left ≡ 0 → is_first class earlier ≡ true
first_at class earlier slabs counted none = eq-eqb _ 0 (left_over class earlier slabs counted ∙ none)

pub later_at : (class : ℕ) (earlier : List ℕ) (slabs : List OwnSlab) (counted : IsCounted class earlier slabs) → 0 < counted.left → is_first class earlier ≡ false
later_at class earlier slabs counted some = ne_eqb _ 0 (λ same. let over = left_over class earlier slabs counted in omega (arith, over, same, some))

-- the counts with one more object of a class
count_of-own : (class : ℕ) (earlier : List ℕ) → count_of class (class ∷ earlier) ≡ count_of class earlier + 1
count_of-own class earlier = ap (λ (b : Bool). count_of class earlier + (if b then 1 else 0)) (eq-eqb class class refl)

count_of-other : (class other : ℕ) (earlier : List ℕ) → class ≢ other → count_of other (class ∷ earlier) ≡ count_of other earlier
count_of-other class other earlier differ =
    ap (λ (b : Bool). count_of other earlier + (if b then 1 else 0)) (ne_eqb class other differ) ∙ (let same : count_of other earlier + 0 ≡ count_of other earlier = omega arith in same)

slab_in-other : (class other : ℕ) (earlier : List ℕ) → class ≢ other → slab_in other (class ∷ earlier) ≡ slab_in other earlier
slab_in-other class other earlier differ = ap (λ (b : Bool). if b && is_first class earlier then slabs_in earlier else slab_in other earlier) (ne_eqb class other differ)

slab_in-own : (class : ℕ) (earlier : List ℕ) (b : Bool) → is_first class earlier ≡ b → slab_in class (class ∷ earlier) ≡ (if b then slabs_in earlier else slab_in class earlier)
slab_in-own class earlier b is =
    ap (λ (a : Bool). if a && is_first class earlier then slabs_in earlier else slab_in class earlier) (eq-eqb class class refl)
    ∙ ap (λ (a : Bool). if a then slabs_in earlier else slab_in class earlier) is

pub slabs_in-after : (class : ℕ) (earlier : List ℕ) (b : Bool) → is_first class earlier ≡ b → slabs_in (class ∷ earlier) ≡ slabs_in earlier + (if b then 1 else 0)
slabs_in-after class earlier b is = ap (λ (a : Bool). slabs_in earlier + (if a then 1 else 0)) is

-- a slab that has an object to give is the open one
the_open : (class index left : ℕ) (slabs : List OwnSlab) → IsOpen class index left slabs → (slab : OwnSlab) → Contains slabs slab → has_free class slab ≡ true → slab.index ≡ index
the_open class index left slabs opened slab inside free = elim (cases_eq slab.index index) [
  | inl same ↦ same
  | inr other ↦ absurd (true≢false (sym free ∙ opened.others slab inside other))
]

-- a class of which a slab has an object to give has given some of it
pub has_some : (class : ℕ) (earlier : List ℕ) (slabs : List OwnSlab) (counted : IsCounted class earlier slabs) (slab : OwnSlab) → Contains slabs slab → has_free class slab ≡ true → 0 < counted.left
has_some class earlier slabs counted slab inside free = elim (cases_lt 0 counted.left) [
  | inl some ↦ some
  | inr none ↦ absurd (true≢false (sym free ∙ counted.none (omega (arith, none)) slab inside))
]

-- such a slab is the one that the last first object began, and gave what the count leaves over
pub found_open : (class : ℕ) (earlier : List ℕ) (slabs : List OwnSlab) (counted : IsCounted class earlier slabs) (slab : OwnSlab) → Contains slabs slab → has_free class slab ≡ true →
    (slab.index ≡ 2 * slab_in class earlier) × (slab.class ≡ class) × (length slab.objects ≡ counted.left)
found_open class earlier slabs counted slab inside free =
    let opened = counted.some (has_some class earlier slabs counted slab inside free) in
    let same = the_open class (2 * slab_in class earlier) counted.left slabs opened slab inside free in
    let is = opened.here slab inside same in
    (same, is.0, is.1)

-- a class of which no slab has an object to give begins a slab next
pub none_left : (class : ℕ) (earlier : List ℕ) (slabs : List OwnSlab) (counted : IsCounted class earlier slabs) → find (has_free class) slabs ≡ None → counted.left ≡ 0
none_left class earlier slabs counted none = elim (cases_lt 0 counted.left) [
  | inr least ↦ omega (arith, least)
  | inl some ↦
      let opened = counted.some some in
      let (slab, inside, at_index) = opened.stands in
      let (same, gave) = opened.here slab inside at_index in
      let below = counted.below in
      absurd (true≢false (sym (can_give class slab same (omega (arith, gave, below))) ∙ find-None (has_free class) slabs none slab inside))
]

-- where no slab of a list but one has an object of a class to give, and that one has none either after it changed, none has
none_free : (class : ℕ) (slabs : List OwnSlab) (new : OwnSlab) → has_free class new ≡ false →
    ((slab : OwnSlab) → Contains slabs slab → slab.index ≢ new.index → has_free class slab ≡ false) → (slab : OwnSlab) → Contains (changed new slabs) slab → has_free class slab ≡ false
none_free class slabs new here others slab inside = elim (Contains-changed new slabs slab inside) [
  | inl is ↦ subst (λ s. has_free class s ≡ false) is here
  | inr (was, apart) ↦ others slab was apart
]

-- the class of the slab that gave one object more
grown_own : (class : ℕ) (earlier : List ℕ) (slabs : List OwnSlab) (old new : OwnSlab) (counted : IsCounted class earlier slabs) (some : 0 < counted.left) →
    IsGrown class slabs old new → old.index ≡ 2 * slab_in class earlier → IsCounted class (class ∷ earlier) (changed new slabs)
grown_own class earlier slabs old new counted some grown at_index = by_room (cases_lt (counted.left + 1) (class_objects class))
  where
    opened : IsOpen class (2 * slab_in class earlier) counted.left slabs
    opened = counted.some some

    new_at : new.index ≡ 2 * slab_in class earlier
    new_at = grown.index_is ∙ at_index

    gave : length new.objects ≡ counted.left + 1
    gave = let more = grown.more in let was = (opened.here old grown.listed at_index).1 in omega (arith, more, was)

    others : (slab : OwnSlab) → Contains slabs slab → slab.index ≢ new.index → has_free class slab ≡ false
    others slab was apart = opened.others slab was (λ same. apart (same ∙ sym new_at))

    open_after : IsOpen class (2 * slab_in class earlier) (counted.left + 1) (changed new slabs)
    open_after = record {
      stands = (new, changed-itself new slabs old grown.listed (sym grown.index_is), new_at);
      here = λ slab inside same. elim (Contains-changed new slabs slab inside) [
        | inl is ↦ subst (λ (s : OwnSlab). (s.class ≡ class) × (length s.objects ≡ counted.left + 1)) is (grown.is_of, gave)
        | inr (was, apart) ↦ absurd (apart (same ∙ sym new_at))
      ];
      others = λ slab inside away. elim (Contains-changed new slabs slab inside) [
        | inl is ↦ absurd (away (ap (λ (s : OwnSlab). s.index) (sym is) ∙ new_at))
        | inr (was, apart) ↦ others slab was apart
      ];
    }

    kept : slab_in class (class ∷ earlier) ≡ slab_in class earlier
    kept = slab_in-own class earlier false (later_at class earlier slabs counted some)

    by_room : (counted.left + 1 < class_objects class) ⊎ (class_objects class ≤ counted.left + 1) → IsCounted class (class ∷ earlier) (changed new slabs)
    by_room (inl room) = record {
      turns = counted.turns;
      left = counted.left + 1;
      count = count_of-own class earlier ∙ (let was = counted.count in let e : count_of class earlier + 1 ≡ counted.turns * class_objects class + (counted.left + 1) = omega (arith, was) in e);
      below = room;
      none = λ zero_is. absurd (omega (arith, zero_is));
      some = λ _. subst (λ s. IsOpen class (2 * s) (counted.left + 1) (changed new slabs)) (sym kept) open_after;
    }
    by_room (inr full) = record {
      turns = counted.turns + 1;
      left = 0;
      count = count_of-own class earlier ∙ (let was = counted.count in let less = counted.below in let e : count_of class earlier + 1 ≡ (counted.turns + 1) * class_objects class + 0 = grind (arith, was, less, full) in e);
      below = let less = counted.below in omega (arith, less);
      none = λ zero_is. none_free class slabs new (has_given_all class new grown.private_is (omega (arith, gave, full))) others;
      some = λ more. absurd (omega (arith, more));
    }

-- another class keeps its count where a slab of this one changes
grown_other : (class other : ℕ) (earlier : List ℕ) (slabs : List OwnSlab) (old new : OwnSlab) → class ≢ other → IsGrown class slabs old new →
    IsCounted other earlier slabs → IsCounted other (class ∷ earlier) (changed new slabs)
grown_other class other earlier slabs old new differ grown counted = record {
  turns = counted.turns;
  left = counted.left;
  count = count_of-other class other earlier differ ∙ counted.count;
  below = counted.below;
  none = λ none. none_free other slabs new not_free (λ slab was apart. counted.none none slab was);
  some = λ some. subst (λ s. IsOpen other (2 * s) counted.left (changed new slabs)) (sym (slab_in-other class other earlier differ)) (open_after (counted.some some));
}
  where
    not_free : has_free other new ≡ false
    not_free = other_class other new (λ same. differ (sym grown.is_of ∙ same))

    open_after : IsOpen other (2 * slab_in other earlier) counted.left slabs → IsOpen other (2 * slab_in other earlier) counted.left (changed new slabs)
    open_after opened =
        let away : new.index ≢ 2 * slab_in other earlier = (λ same. differ (sym grown.was_of ∙ (opened.here old grown.listed (sym grown.index_is ∙ same)).0)) in
        let (slab, inside, at_index) = opened.stands in
        record {
          stands = (slab, changed-other new slabs slab inside (λ same. away (sym same ∙ at_index)), at_index);
          here = λ one among same. elim (Contains-changed new slabs one among) [
            | inl is ↦ absurd (away (ap (λ (s : OwnSlab). s.index) is ∙ same))
            | inr (was, apart) ↦ opened.here one was same
          ];
          others = λ one among apart_from. elim (Contains-changed new slabs one among) [
            | inl is ↦ subst (λ s. has_free other s ≡ false) is not_free
            | inr (was, apart) ↦ opened.others one was apart_from
          ];
        }

-- each class, after a slab of one gave one object more
pub counted_grown : (class : ℕ) (earlier : List ℕ) (slabs : List OwnSlab) (old new : OwnSlab) → IsCounted class earlier slabs → has_free class old ≡ true → IsGrown class slabs old new →
    (other : ℕ) → IsCounted other earlier slabs → IsCounted other (class ∷ earlier) (changed new slabs)
counted_grown class earlier slabs old new mine free grown other counted = elim (cases_eq class other) [
  | inl same ↦ subst (λ c. IsCounted c (class ∷ earlier) (changed new slabs)) same
      (grown_own class earlier slabs old new mine (has_some class earlier slabs mine old grown.listed free) grown (found_open class earlier slabs mine old grown.listed free).0)
  | inr differ ↦ grown_other class other earlier slabs old new differ grown counted
]

-- the class of a slab that begins and gives its first object
begun_own : (class : ℕ) (earlier : List ℕ) (slabs : List OwnSlab) (new : OwnSlab) → class < 26 → (counted : IsCounted class earlier slabs) → counted.left ≡ 0 →
    new.index ≡ 2 * slabs_in earlier → new.class ≡ class → length new.objects ≡ 1 → ((slab : OwnSlab) → Contains slabs slab → slab.index < 2 * slabs_in earlier) →
    IsCounted class (class ∷ earlier) (new ∷ slabs)
begun_own class earlier slabs new exists counted none index_is class_is gave below = record {
  turns = counted.turns;
  left = 1;
  count = count_of-own class earlier ∙ (let was = counted.count in let e : count_of class earlier + 1 ≡ counted.turns * class_objects class + 1 = omega (arith, was, none) in e);
  below = let least = class_objects-least class exists in omega (arith, least);
  none = λ zero_is. absurd (omega (arith, zero_is));
  some = λ _. subst (λ s. IsOpen class (2 * s) 1 (new ∷ slabs)) (sym (slab_in-own class earlier true (first_at class earlier slabs counted none))) (record {
    stands = (new, Contains-first new slabs, index_is);
    here = λ slab inside same. elim (Contains-cons new slabs slab inside) [
      | inl is ↦ subst (λ (s : OwnSlab). (s.class ≡ class) × (length s.objects ≡ 1)) is (class_is, gave)
      | inr was ↦ absurd (let less = below slab was in omega (arith, less, same))
    ];
    others = λ slab inside away. elim (Contains-cons new slabs slab inside) [
      | inl is ↦ absurd (away (ap (λ (s : OwnSlab). s.index) (sym is) ∙ index_is))
      | inr was ↦ counted.none none slab was
    ];
  });
}

-- another class keeps its count where a slab of this one begins
begun_other : (class other : ℕ) (earlier : List ℕ) (slabs : List OwnSlab) (new : OwnSlab) → class ≢ other → IsCounted other earlier slabs → new.index ≡ 2 * slabs_in earlier → new.class ≡ class →
    ((slab : OwnSlab) → Contains slabs slab → slab.index < 2 * slabs_in earlier) → IsCounted other (class ∷ earlier) (new ∷ slabs)
begun_other class other earlier slabs new differ counted index_is class_is below = record {
  turns = counted.turns;
  left = counted.left;
  count = count_of-other class other earlier differ ∙ counted.count;
  below = counted.below;
  none = λ none slab inside. elim (Contains-cons new slabs slab inside) [ inl is ↦ subst (λ s. has_free other s ≡ false) is not_free | inr was ↦ counted.none none slab was ];
  some = λ some. subst (λ s. IsOpen other (2 * s) counted.left (new ∷ slabs)) (sym (slab_in-other class other earlier differ)) (open_after (counted.some some));
}
  where
    not_free : has_free other new ≡ false
    not_free = other_class other new (λ same. differ (sym class_is ∙ same))

    open_after : IsOpen other (2 * slab_in other earlier) counted.left slabs → IsOpen other (2 * slab_in other earlier) counted.left (new ∷ slabs)
    open_after opened =
        let (slab, inside, at_index) = opened.stands in
        let less = below slab inside in
        record {
          stands = (slab, Contains-other new slabs slab inside, at_index);
          here = λ one among same. elim (Contains-cons new slabs one among) [
            | inl is ↦ absurd (let e = ap (λ (s : OwnSlab). s.index) is in omega (arith, e, same, less, at_index, index_is))
            | inr was ↦ opened.here one was same
          ];
          others = λ one among apart. elim (Contains-cons new slabs one among) [ inl is ↦ subst (λ s. has_free other s ≡ false) is not_free | inr was ↦ opened.others one was apart ];
        }

-- each class, after a slab of one began and gave its first object
pub counted_begun : (class : ℕ) (earlier : List ℕ) (slabs : List OwnSlab) (new : OwnSlab) → class < 26 → (mine : IsCounted class earlier slabs) → mine.left ≡ 0 →
    new.index ≡ 2 * slabs_in earlier → new.class ≡ class → length new.objects ≡ 1 → ((slab : OwnSlab) → Contains slabs slab → slab.index < 2 * slabs_in earlier) →
    (other : ℕ) → IsCounted other earlier slabs → IsCounted other (class ∷ earlier) (new ∷ slabs)
counted_begun class earlier slabs new exists mine none index_is class_is gave below other counted = elim (cases_eq class other) [
  | inl same ↦ subst (λ c. IsCounted c (class ∷ earlier) (new ∷ slabs)) same (begun_own class earlier slabs new exists mine none index_is class_is gave below)
  | inr differ ↦ begun_other class other earlier slabs new differ counted index_is class_is below
]

-- nothing was got yet
pub none_counted : (class : ℕ) → class < 26 → IsCounted class [] []
none_counted class exists = record {
  turns = 0;
  left = 0;
  count = (let e : 0 ≡ 0 * class_objects class + 0 = omega arith in e);
  below = let least = class_objects-least class exists in omega (arith, least);
  none = λ zero_is slab inside. absurd (Contains-none slab inside);
  some = λ some. absurd (omega (arith, some));
}
