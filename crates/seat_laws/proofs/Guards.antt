-- What a step of another seat on guards leaves of a seat's blocks.
use Rattle.std.proofs.Common.{◌≡◌, ◌≢◌, ◌⊎◌, inl, inr, ℕ, ◌+◌, ◌-◌, ◌<◌, ◌≤◌, Bool, true, false, cond, eqb, refl, sym}
use Rattle.std.proofs.Common.{ap}
use Rattle.std.proofs.Common.{subst, arith, ◌∙◌}
use Rattle.std.proofs.lemmas.Bool.{eqb-true}
use Rattle.pool_words.specs.declared.words.Key.{Key}
use Rattle.pool_words.specs.declared.words.Word.{Word}
use Rattle.word_codes.specs.declared.guards.Guard.{Guard}
use Rattle.word_codes.specs.Guards.{guard_of, guard_word, FitsGuard}
use Rattle.word_codes.proofs.CallerLemmas.{guards_read_back}
use Rattle.guards.specs.declared.win.Side.{Side}
use Rattle.guards.specs.declared.win.Taking.{Taking}
use Rattle.guards.specs.declared.win.WinCall.{WinCall}
use Rattle.guards.specs.Win.{free_word, guard_at}
use Rattle.word_laws.specs.Memory.{Mem, found, stored, word_at}
use Rattle.guard_laws.specs.Blocks.{BlocksWhole, CallFits, IsShut, Place}
use Rattle.guard_laws.specs.Blocks.{Use, edge_of, edge_word}
use Rattle.guard_laws.specs.Steps.{guard_in}
use Rattle.seat_laws.specs.Stays.{IsGuardOf}
use Rattle.seat_laws.proofs.Stores.{guard_else}

-- two blocks with one granule are one block
pub record IsSame (x n y m : ℕ) (u v : Use) : Type 0 where
  pub first : x ≡ y
  pub granules : n ≡ m
  pub use' : u ≡ v

same_block : (a : Place) (x n y m : ℕ) (u v : Use) → a ≡ Place.Block x n u → a ≡ Place.Block y m v
    → IsSame x n y m u v
same_block a x n y m u v one two =
    let e : Place.Block x n u ≡ Place.Block y m v = sym one ∙ two in
    record { first = cc; granules = cc; use' = cc }

pub one_block : (place : ℕ → Place) (z x n y m : ℕ) (u v : Use) → BlocksWhole place
    → place x ≡ Place.Block x n u → place y ≡ Place.Block y m v → x ≤ z → z < x + n → y ≤ z → z < y + m
    → IsSame x n y m u v
one_block place z x n y m u v whole one two low high low' high' = same_block (place z) x n y m u v
    ((whole x x n u one).all z low high) ((whole y y m v two).all z low' high')

-- a block has some granules
pub has_some : (place : ℕ → Place) (x n : ℕ) (u : Use) → BlocksWhole place → place x ≡ Place.Block x n u → 0 < n
has_some place x n u whole is = let low = (whole x x n u is).below in omega arith

-- so are two with one guard
pub guards_apart : (place : ℕ → Place) (e : Side) (z x n y m : ℕ) (u v : Use) → BlocksWhole place
    → place x ≡ Place.Block x n u → place y ≡ Place.Block y m v → IsGuardOf e z x n → IsGuardOf e z y m
    → IsSame x n y m u v
guards_apart place Side.Begin z x n y m u v whole one two is is' =
    one_block place z x n y m u v whole one two is.0 is.1 is'.0 is'.1
guards_apart place Side.End z x n y m u v whole one two is is' =
    let a = is.0 in let b = is.1 in let c = is'.0 in let d = is'.1 in
    one_block place (z - 1) x n y m u v whole one two (omega arith) (omega arith) (omega arith) (omega arith)

-- the guards at its edges
pub edge_is : (e : Side) (x n : ℕ) → 0 < n → IsGuardOf e (edge_of e x n) x n
edge_is Side.Begin x n some = (omega arith, omega arith)
edge_is Side.End x n some = (omega arith, omega arith)

-- a guard of a block that is in no way the seat's, or whose other end is
pub not_mine : (t o : ℕ) (taking own : Taking) → o ≢ t → Use.Held o own ≡ Use.Held t taking → ⊥
not_mine t o taking own differ same = differ (cc)

shut_not_free : (g : Guard) (n : ℕ) → IsShut g → g ≡ Guard.Free n → ⊥
shut_not_free Guard.Used n shut same = cc
shut_not_free Guard.Coalescing n shut same = cc
shut_not_free Guard.Wall n shut same = shut
shut_not_free (Guard.Free m) n shut same = shut

-- what is stored at a guard of another block leaves a guard of this one
pub other_store : (k : Key) (place : ℕ → Place) (m : Mem) (i e : Side) (a b z y x n v : ℕ) (u w : Use)
    → BlocksWhole place → place a ≡ Place.Block a b u → place x ≡ Place.Block x n w → (u ≡ w → ⊥)
    → IsGuardOf i z a b → IsGuardOf e y x n → guard_in (stored k m (edge_word i z) v) e y ≡ guard_in m e y
other_store k place m i e a b z y x n v u w whole one two differ is is' =
    guard_else k m i e z y v (λ same at. differ
    (guards_apart place e y a b x n u w whole one two
    (subst (λ j. IsGuardOf e j a b) at (subst (λ j. IsGuardOf j z a b) same is)) is').use')

-- what a win finds free says so, and no guard that is shut does
free_reads : (n found : ℕ) → FitsGuard (Guard.Free n) → eqb found (guard_word (Guard.Free n)) ≡ true
    → guard_of found ≡ Guard.Free n
free_reads n found fits is =
    ap guard_of (eqb-true found (guard_word (Guard.Free n)) is) ∙ guards_read_back (Guard.Free n) fits

pub guard_is : (c : WinCall) (e : Side) → CallFits c → guard_at c e ≡ edge_word e (edge_of e c.begin c.granules)
guard_is c Side.Begin fits = refl
guard_is c Side.End fits = ap Word.Left (sym fits.ends)

pub word_is : (m : Mem) (e : Side) (y : ℕ) → guard_of (word_at m (edge_word e y)) ≡ guard_in m e y
word_is m Side.Begin y = refl
word_is m Side.End y = refl

sides : (i e : Side) (y : ℕ) → (i ≡ e) ⊎ ((i ≡ e) → ⊥)
sides Side.Begin Side.Begin y = inl refl
sides Side.Begin Side.End y = inr (λ e. cc)
sides Side.End Side.Begin y = inr (λ e. cc)
sides Side.End Side.End y = inl refl

-- an exchange of a free guard leaves one that is shut
pub exchange_leaves : (k : Key) (m : Mem) (c : WinCall) (i e : Side) (y v : ℕ) (g : Guard) → CallFits c → IsShut g
    → guard_in m e y ≡ g
    → guard_in (cond (eqb (word_at m (guard_at c i)) (free_word c)) (stored k m (guard_at c i) v) m) e y ≡ g
exchange_leaves k m c i e y v g fits shut is =
    subst (λ (w : Word). guard_in (cond (eqb (word_at m w) (free_word c)) (stored k m w v) m) e y ≡ g)
    (sym (guard_is c i fits)) (by (eqb (word_at m (edge_word i z)) (free_word c)) refl)
  where
    z : ℕ
    z = edge_of i c.begin c.granules

    apart : eqb (word_at m (edge_word i z)) (free_word c) ≡ true → i ≡ e → z ≢ y
    apart free same at = shut_not_free g c.granules shut
        (sym is ∙ sym (subst (λ j. guard_in m j z ≡ guard_in m e y) (sym same) (ap (guard_in m e) at))
        ∙ sym (word_is m i z) ∙ free_reads c.granules (word_at m (edge_word i z)) fits.told free)

    by : (b : Bool) → eqb (word_at m (edge_word i z)) (free_word c) ≡ b
        → guard_in (cond b (stored k m (edge_word i z) v) m) e y ≡ g
    by true free = guard_else k m i e z y v (apart free) ∙ is
    by false free = is
