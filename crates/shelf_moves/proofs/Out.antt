-- Blocks that come out of a bin of the cache into a hand, one by one.
use Rattle.std.proofs.Common.{◌≡◌, ◌≢◌, ◌∙◌, ◌⊎◌, inl, inr, ℕ, ◌+◌, ◌<◌, ◌≤◌, List, [], ◌∷◌, ap, sym, subst, arith}
use Rattle.std.specs.Prelude.{⊤}
use Rattle.guards.specs.declared.win.Taking.{Taking}
use Rattle.chain_laws.specs.Chains.{tally}
use Rattle.chain_laws.proofs.CallerLemmas.{tally-else, tally-here}
use Rattle.guard_laws.specs.Blocks.{BlocksWhole, Place, Use, put_range}
use Rattle.use_laws.specs.Pools.{Pool}
use Rattle.use_laws.specs.After.{pool_unshelved}
use Rattle.shelf_laws.specs.Steps.{taken_out}
use Rattle.word_laws.proofs.CallerLemmas.{less_or}
use Rattle.hand_blocks.specs.Changes.{Alters, Change, HandsLead, come_all}
use Rattle.hand_blocks.specs.Hands.{Hand, hand, released_hands}
use Rattle.seat_hands.specs.Moved.{HasNone}
use Rattle.seat_hands.proofs.CallerLemmas.{hands_come, others_are_none}
use Rattle.seat_ties.specs.Ties.{HandsTied}
use Rattle.slab_moves.proofs.CallerLemmas.{range_in, range_out}

-- where nothing moves and nothing changes, the hands are as they were
pub quiet_hands : (place later : ℕ → Place) (drained : List ℕ) (seat : ℕ) (changes : List Change)
    (before after : List Hand) → later ≡ place → changes ≡ [] → HandsLead changes before after
    → HandsTied place drained seat before → HandsTied later drained seat after
quiet_hands place later drained seat changes before after same none led tied =
    let still : after ≡ before = subst (λ cs. HandsLead cs before after) none led in
    subst (λ hands. HandsTied later drained seat hands) (sym still)
    (subst (λ p. HandsTied p drained seat before) (sym same) tied)

-- a block has some granules
pub some_granules : (place : ℕ → Place) (x n : ℕ) (u : Use) → BlocksWhole place → place x ≡ Place.Block x n u → 0 < n
some_granules place x n u whole lies = let below = (whole x x n u lies).below in omega arith

abbrev pub held_there : ℕ → Taking → ℕ → ℕ → (ℕ → Place) → ℕ → Place
held_there seat taking x n place = put_range place x n (Place.Block x n (Use.Held seat taking))

pub comes_out : (place : ℕ → Place) (drained : List ℕ) (seat x n : ℕ) (taking : Taking) (before after : List Hand)
    → drained ≡ [] → HandsTied place drained seat before → HasNone place seat x n → 0 < n
    → Alters (Change.Comes (hand x n taking)) before after
    → HandsTied (held_there seat taking x n place) drained seat after
comes_out place drained seat x n taking before after none tied free some alters =
    let now : Place = Place.Block x n (Use.Held seat taking) in
    hands_come place (held_there seat taking x n place) drained seat x n taking before after tied free some
    (ap (λ xs. tally x xs) none) (λ z out. range_out place x n now z out)
    (range_in place x n now x (omega arith) (omega arith)) alters

-- granules beside those of one block
abbrev pub IsBeside : ℕ → ℕ → ℕ → Type 0
IsBeside n x y = (y + n ≤ x) ⊎ (x + n ≤ y)

abbrev pub AreBeside : ℕ → ℕ → List ℕ → Type 0
AreBeside n x [] = ⊤
AreBeside n x (y ∷ ys) = IsBeside n x y × AreBeside n x ys

-- blocks of so many granules, none of them in the seat's hand and each beside the others
abbrev pub AllFree : (ℕ → Place) → ℕ → ℕ → List ℕ → Type 0
AllFree place seat n [] = ⊤
AllFree place seat n (x ∷ xs) = HasNone place seat x n × AreBeside n x xs × AllFree place seat n xs

-- one that comes into a hand leaves those beside it
none_beside : (place : ℕ → Place) (seat x y n : ℕ) (taking : Taking) → IsBeside n x y → HasNone place seat y n
    → HasNone (held_there seat taking x n place) seat y n
none_beside place seat x y n taking beside none z m taken low high is =
    let now : Place = Place.Block x n (Use.Held seat taking) in
    none z m taken low high (sym (range_out place x n now z (out beside)) ∙ is)
  where
    out : IsBeside n x y → (z < x) ⊎ (x + n ≤ z)
    out (inl before) = inl (omega arith)
    out (inr behind) = inr (omega arith)

all_beside : (place : ℕ → Place) (seat x n : ℕ) (taking : Taking) (ys : List ℕ) → AreBeside n x ys
    → AllFree place seat n ys → AllFree (held_there seat taking x n place) seat n ys
all_beside place seat x n taking [] beside all = tt
all_beside place seat x n taking (y ∷ ys) beside all =
    (none_beside place seat x y n taking beside.0 all.0, all.1, all_beside place seat x n taking ys beside.1 all.2)

-- all of them come
pub all_out : (p : Pool) (drained : List ℕ) (seat n : ℕ) (taking : Taking) (xs : List ℕ) (before after : List Hand)
    → taking ≡ Taking.ToJoin → drained ≡ [] → HandsTied p.blocks.place drained seat before
    → AllFree p.blocks.place seat n xs → 0 < n
    → HandsLead (come_all (released_hands n xs)) before after
    → HandsTied (taken_out seat taking n xs p).blocks.place drained seat after
all_out p drained seat n taking [] before after joins none tied all some led =
    subst (λ hands. HandsTied p.blocks.place drained seat hands) (sym led) tied
all_out p drained seat n taking (x ∷ xs) before after joins none tied all some led =
    let q : Pool = pool_unshelved seat x n taking p in
    let alters : Alters (Change.Comes (hand x n taking)) before led.0
    = subst (λ t. Alters (Change.Comes (hand x n t)) before led.0) (sym joins) led.1 in
    all_out q drained seat n taking xs led.0 after joins none
    (comes_out p.blocks.place drained seat x n taking before led.0 none tied all.0 some alters)
    (all_beside p.blocks.place seat x n taking xs all.1 all.2) some led.2

-- two blocks of a pool that begin at different granules are beside each other
pub beside_or : (place : ℕ → Place) (x y n : ℕ) (u v : Use) → BlocksWhole place → x ≢ y
    → place x ≡ Place.Block x n u → place y ≡ Place.Block y n v → IsBeside n x y
beside_or place x y n u v whole differ at-x at-y = less_or x y
    (λ before. less_or y (x + n)
    (λ within. absurd (differ (same x y n u v ((whole x x n u at-x).all y (omega arith) within) at-y)))
    (λ behind. inr behind))
    (λ from. less_or x (y + n)
    (λ within. absurd (differ (sym (same y x n v u ((whole y y n v at-y).all x from within) at-x))))
    (λ behind. inl behind))
  where
    same : (x y n : ℕ) (u v : Use) → place y ≡ Place.Block x n u → place y ≡ Place.Block y n v → x ≡ y
    same x y n u v a b = let both : Place.Block x n u ≡ Place.Block y n v = sym a ∙ b in cc

-- the first of some changes, and the others
pub record FirstChange (change : Change) (rest : List Change) (before after : List Hand) : Type 0 where
  pub between : List Hand
  pub alters : Alters change before between
  pub led : HandsLead rest between after

pub first_change : (change : Change) (rest : List Change) (before after : List Hand)
    → HandsLead (change ∷ rest) before after → FirstChange change rest before after
first_change change rest before after led = record { between = led.0; alters = led.1; led = led.2 }

-- a block that comes to rest leaves none of the hand where there was none
pub none_rests : (place : ℕ → Place) (seat x n y m : ℕ) → HasNone place seat y m
    → HasNone (put_range place x n (Place.Block x n Use.Elsewhere)) seat y m
none_rests place seat x n y m none z o taken low high is =
    let now : Place = Place.Block x n Use.Elsewhere in
    less_or z x
    (λ before. none z o taken low high (sym (range_out place x n now z (inl before)) ∙ is))
    (λ from. less_or z (x + n)
    (λ within. absurd (let both : Place.Block x n Use.Elsewhere ≡ Place.Block z o (Use.Held seat taken)
    = sym (range_in place x n now z from within) ∙ is in cc))
    (λ behind. none z o taken low high (sym (range_out place x n now z (inr behind)) ∙ is)))

-- blocks that lie in the cache, each once, are free
beside_all : (place : ℕ → Place) (seat x n : ℕ) (ys : List ℕ) → BlocksWhole place
    → place x ≡ Place.Block x n Use.Elsewhere → tally x ys ≡ 0
    → ((y : ℕ) → 0 < tally y ys → place y ≡ Place.Block y n Use.Elsewhere) → AreBeside n x ys
beside_all place seat x n [] whole at-x apart rest = tt
beside_all place seat x n (y ∷ ys) whole at-x apart rest = (
  beside_or place x y n Use.Elsewhere Use.Elsewhere whole differ at-x
      (rest y (let t = tally-here y ys in omega arith)),
  beside_all place seat x n ys whole at-x (let t = tally-else x y ys differ in omega arith)
      (λ z some. rest z (omega arith)),
)
  where
    differ : x ≢ y
    differ same = absurd (let t = tally-here y ys in let e = ap (λ z. tally z (y ∷ ys)) same in omega arith)

pub all_free : (place : ℕ → Place) (seat n : ℕ) (xs : List ℕ) → BlocksWhole place
    → ((x : ℕ) → 0 < tally x xs → place x ≡ Place.Block x n Use.Elsewhere) → ((x : ℕ) → tally x xs ≤ 1)
    → AllFree place seat n xs
all_free place seat n [] whole rest once = tt
all_free place seat n (x ∷ xs) whole rest once =
    let at-x : place x ≡ Place.Block x n Use.Elsewhere = rest x (let t = tally-here x xs in omega arith) in (
      others_are_none place seat x n Use.Elsewhere whole at-x tt,
      beside_all place seat x n xs whole at-x (let t = tally-here x xs in let o = once x in omega arith)
          (λ z some. rest z (omega arith)),
      all_free place seat n xs whole (λ z some. rest z (omega arith)) (λ z. let o = once z in omega arith),
    )
