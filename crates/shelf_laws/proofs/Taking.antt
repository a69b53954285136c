-- Blocks come from the cache into a hand, and into the cache from a hand.
use Rattle.std.proofs.Common.{◌≡◌, ◌≢◌, ℕ, ◌+◌, ◌<◌, ◌≤◌, cond, eqb, List, [], ◌∷◌, refl, sym, ap, subst, arith, ◌∙◌}
use Rattle.std.proofs.lemmas.Bool.Decides.{nat_tests}
use Rattle.pool_words.specs.declared.words.Key.{Key}
use Rattle.guards.specs.declared.win.Taking.{Taking}
use Rattle.word_laws.specs.Memory.{put}
use Rattle.word_laws.proofs.CallerLemmas.{equal_or, put-same, put-other}
use Rattle.chain_laws.specs.Chains.{tally}
use Rattle.chain_laws.proofs.CallerLemmas.{tally-here, tally-else}
use Rattle.guard_laws.specs.Blocks as guards
use Rattle.guard_laws.specs.Blocks.{Use, Place, put_range}
use Rattle.guard_laws.proofs.CallerLemmas.{used_moves}
use Rattle.use_laws.specs.Uses.{Purpose}
use Rattle.use_laws.specs.Pools.{Pool, PoolGood, InHand}
use Rattle.use_laws.specs.After.{pool_shelved, pool_unshelved}
use Rattle.use_laws.specs.Steps.{PoolStep}
use Rattle.use_laws.specs.Stays.{HandStays}
use Rattle.use_laws.proofs.CallerLemmas.{steps_keep_pool, others_leave_blocks_in_hand}
use Rattle.shelf_laws.specs.Shelves.{ShelvesFit}
use Rattle.shelf_laws.specs.Steps.{taken_out}

-- so many at this bin, and none at another
abbrev pub at_bin : ℕ → ℕ → ℕ → ℕ
at_bin b c n = cond (eqb b c) n 0

-- no block is twice in a bin, or in two
pub record IsOnce (stock : ℕ → ℕ → ℕ) : Type 0 where
  pub one : (b x : ℕ) → stock b x ≤ 1
  pub apart : (b c x : ℕ) → b ≢ c → 0 < stock b x → stock c x ≡ 0

-- these blocks leave the bin
abbrev pub Leaves : (ℕ → ℕ → ℕ) → (ℕ → ℕ → ℕ) → ℕ → List ℕ → Type 0
Leaves stock stock' b xs = (c x : ℕ) → stock c x ≡ stock' c x + at_bin b c (tally x xs)

-- what a change of the pool by one seat owes
pub record Moved (k : Key) (seat : ℕ) (p q : Pool) (stock : ℕ → ℕ → ℕ) : Type 0 where
  pub pool : PoolGood k q
  pub shelves : ShelvesFit stock q.blocks.place q.purpose
  pub mem : q.mem ≡ p.mem
  pub hands : (o : ℕ) → seat ≢ o → HandStays p.blocks.place q.blocks.place o

pub in_here : (b n : ℕ) → at_bin b b n ≡ n
in_here b n = grind (arith, nat_tests)

pub in_else : (b c n : ℕ) → b ≢ c → at_bin b c n ≡ 0
in_else b c n ne = grind (arith, nat_tests)

pub in_none : (b c : ℕ) → at_bin b c 0 ≡ 0
in_none b c = grind (arith, nat_tests)

in_more : (b c m n : ℕ) → at_bin b c (m + n) ≡ at_bin b c m + at_bin b c n
in_more b c m n = equal_or b c
    (λ e. subst (λ z. at_bin b z (m + n) ≡ at_bin b z m + at_bin b z n) e
    (let x = in_here b (m + n) in let y = in_here b m in let z = in_here b n in omega arith))
    (λ ne. let x = in_else b c (m + n) ne in let y = in_else b c m ne in let z = in_else b c n ne in omega arith)

pub leaves_none : (stock : ℕ → ℕ → ℕ) (b : ℕ) → Leaves stock stock b []
leaves_none stock b c x = let z = in_none b c in omega arith

-- one block leaves
record Left (stock stock' : ℕ → ℕ → ℕ) (b y : ℕ) : Type 0 where
  pub here : (c : ℕ) → stock' c y ≡ 0
  pub else : (c x : ℕ) → x ≢ y → stock c x ≡ stock' c x

left_one : (stock stock' : ℕ → ℕ → ℕ) (b y : ℕ) → IsOnce stock → Leaves stock stock' b (y ∷ []) → Left stock stock' b y
left_one stock stock' b y once leaves = record {
  here = λ c. equal_or b c (λ e. subst (λ z. stock' z y ≡ 0) e at_b)
      (λ ne. let l = leaves c y in let a = once.apart b c y ne some in omega arith);
  else = λ c x ne. let l = leaves c x in let n = tally-else x y [] ne in
      let a : at_bin b c (tally x (y ∷ [])) ≡ 0 = ap (at_bin b c) n ∙ in_none b c in omega arith;
}
  where
    count : stock b y ≡ stock' b y + 1
    count = let l = leaves b y in let h = tally-here y [] in let i = in_here b (tally y (y ∷ [])) in omega arith

    some : 0 < stock b y
    some = let c = count in omega arith

    at_b : stock' b y ≡ 0
    at_b = let c = count in let o = once.one b y in omega arith

take_one : (k : Key) (seat : ℕ) (taking : Taking) (b y : ℕ) (p : Pool) (stock stock' : ℕ → ℕ → ℕ) → PoolGood k p
    → p.tasks seat ≡ guards.Task.Away → ShelvesFit stock p.blocks.place p.purpose → IsOnce stock
    → Leaves stock stock' b (y ∷ []) → Moved k seat p (pool_unshelved seat y b taking p) stock'
take_one k t taking b y p stock stock' good away fits once leaves =
    let here = fits.binned b y some in
    let step : PoolStep k t p (pool_unshelved t y b taking p) = PoolStep.unshelves y b taking away here.0 here.1 in
    let left = left_one stock stock' b y once leaves in
    let moved = used_moves p.blocks.place y b Use.Elsewhere (Use.Held t taking) good.guards.parts.whole here.1 in
    record {
      pool = steps_keep_pool k t p (pool_unshelved t y b taking p) good step;
      shelves = record {
        binned = λ c x more.
            let ne : x ≢ y = λ e. let z = left.here c in
            let q : stock' c x ≡ 0 = ap (stock' c) e ∙ z in omega arith in
            let same = left.else c x ne in
            let old = fits.binned c x (omega arith) in
            (put-other p.purpose y Purpose.Spare x ne ∙ old.0, moved.to x c Use.Elsewhere ne old.1);
        shelved = λ x is. equal_or x y
            (λ e. absurd (let q : Purpose.Spare ≡ Purpose.Shelved = sym (ap (put p.purpose y Purpose.Spare) e
            ∙ put-same p.purpose y Purpose.Spare) ∙ is in cc))
            (λ ne. let old = fits.shelved x (sym (put-other p.purpose y Purpose.Spare x ne) ∙ is) in
            let same = left.else old.0 x ne in let more = old.1 in (old.0, omega arith));
      };
      mem = refl;
      hands = λ o ne. others_leave_blocks_in_hand k o t p (pool_unshelved t y b taking p) good step ne;
    }
  where
    some : 0 < stock b y
    some = let l = leaves b y in let h = tally-here y [] in let i = in_here b (tally y (y ∷ [])) in omega arith

once_less : (stock stock' : ℕ → ℕ → ℕ) → ((c x : ℕ) → stock' c x ≤ stock c x) → IsOnce stock → IsOnce stock'
once_less stock stock' less once = record {
  one = λ b x. let l = less b x in let o = once.one b x in omega arith;
  apart = λ b c x ne some. let l = less b x in let m = less c x in
      let a = once.apart b c x ne (omega arith) in omega arith;
}

pub take_all : (k : Key) (seat : ℕ) (taking : Taking) (b : ℕ) (xs : List ℕ) (p : Pool) (stock stock' : ℕ → ℕ → ℕ)
    → PoolGood k p → p.tasks seat ≡ guards.Task.Away → ShelvesFit stock p.blocks.place p.purpose → IsOnce stock
    → Leaves stock stock' b xs → Moved k seat p (taken_out seat taking b xs p) stock'
take_all k t taking b [] p stock stock' good away fits once leaves = record {
  pool = good;
  shelves = record {
    binned = λ c x more. fits.binned c x (let s = same c x in omega arith);
    shelved = λ x is. let old = fits.shelved x is in let s = same old.0 x in let more = old.1 in
        (old.0, omega arith);
  };
  mem = refl;
  hands = λ o ne x n taking' is. is;
}
  where
    same : (c x : ℕ) → stock c x ≡ stock' c x
    same c x = let l = leaves c x in let z = in_none b c in omega arith
take_all k t taking b (y ∷ ys) p stock stock' good away fits once leaves =
    let one = take_one k t taking b y p stock between good away fits once first in
    let rest = take_all k t taking b ys (pool_unshelved t y b taking p) between stock' one.pool away one.shelves
    (once_less stock between (λ c x. let f = first c x in omega arith) once) (λ c x. refl) in
    record {
      pool = rest.pool;
      shelves = rest.shelves;
      mem = rest.mem ∙ one.mem;
      hands = λ o ne x n taking' is. rest.hands o ne x n taking' (one.hands o ne x n taking' is);
    }
  where
    between : ℕ → ℕ → ℕ
    between c x = stock' c x + at_bin b c (tally x ys)

    first : Leaves stock between b (y ∷ [])
    first c x = let l = leaves c x in
        let more = in_more b c (cond (eqb x y) 1 0) (tally x ys) in
        let one = in_more b c (cond (eqb x y) 1 0) 0 in
        let none = in_none b c in omega arith

-- a block in hand comes into the cache
pub shelve_one : (k : Key) (seat b y : ℕ) (p : Pool) (stock : ℕ → ℕ → ℕ) → PoolGood k p
    → InHand p seat y b Taking.ForUse → ShelvesFit stock p.blocks.place p.purpose → ((c : ℕ) → stock c y ≡ 0)
    → Moved k seat p (pool_shelved y b p) (λ c x. stock c x + at_bin b c (tally x (y ∷ [])))
shelve_one k t b y p stock good has fits none =
    let step : PoolStep k t p (pool_shelved y b p) = PoolStep.shelves y b has in
    let moved = used_moves p.blocks.place y b (Use.Held t Taking.ForUse) Use.Elsewhere good.guards.parts.whole
    has.block in
    record {
      pool = steps_keep_pool k t p (pool_shelved y b p) good step;
      shelves = record {
        binned = λ c x more. equal_or x y
            (λ e. subst (λ z. (put p.purpose y Purpose.Shelved z ≡ Purpose.Shelved)
            × (new z ≡ Place.Block z c Use.Elsewhere)) (sym e) (
              put-same p.purpose y Purpose.Shelved,
              subst (λ n. new y ≡ Place.Block y n Use.Elsewhere)
                  (bin_is c (subst (λ z. 0 < stock c z + at_bin b c (tally z (y ∷ []))) e more)) moved.here,
            ))
            (λ ne. let old = fits.binned c x (let m = else_none c x ne in omega arith) in
            (put-other p.purpose y Purpose.Shelved x ne ∙ old.0, moved.to x c Use.Elsewhere ne old.1));
        shelved = λ x is. equal_or x y
            (λ e. (
              b,
              subst (λ z. 0 < stock b z + at_bin b b (tally z (y ∷ []))) (sym e)
                  (let h = tally-here y [] in let i = in_here b (tally y (y ∷ [])) in omega arith),
            ))
            (λ ne. let old = fits.shelved x (sym (put-other p.purpose y Purpose.Shelved x ne) ∙ is) in
            let more = old.1 in (old.0, omega arith));
      };
      mem = refl;
      hands = λ o ne. others_leave_blocks_in_hand k o t p (pool_shelved y b p) good step ne;
    }
  where
    new : ℕ → Place
    new = put_range p.blocks.place y b (Place.Block y b Use.Elsewhere)

    else_none : (c x : ℕ) → x ≢ y → at_bin b c (tally x (y ∷ [])) ≡ 0
    else_none c x ne = ap (at_bin b c) (tally-else x y [] ne) ∙ in_none b c

    bin_is : (c : ℕ) → 0 < stock c y + at_bin b c (tally y (y ∷ [])) → b ≡ c
    bin_is c more = equal_or b c (λ e. e)
        (λ ne. absurd (let z = in_else b c (tally y (y ∷ [])) ne in let n = none c in omega arith))
