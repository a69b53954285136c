-- A guard of a block that another seat does not have in hand stays as it is through that seat's steps on guards.
use Rattle.std.specs.Prelude.{⊤}
use Rattle.std.proofs.Common.{◌≡◌, ◌≢◌, inl, inr, ℕ, ◌+◌, refl, sym, ap, subst, arith, ◌∙◌}
use Rattle.pool_words.specs.declared.words.Key.{Key}
use Rattle.word_codes.specs.declared.guards.Guard.{Guard}
use Rattle.word_codes.specs.Guards.{guard_word}
use Rattle.guards.specs.declared.win.Side.{Side}
use Rattle.guards.specs.declared.win.Taking.{Taking}
use Rattle.guards.specs.declared.win.WinAt.{WinAt}
use Rattle.guards.specs.declared.win.WinCall.{WinCall}
use Rattle.guards.specs.Win.{free_word, guard_at, other_side, taken_word, win_course}
use Rattle.word_laws.specs.Memory.{Mem, after, stored}
use Rattle.guard_laws.specs.Blocks.{BlocksWhole, CallFits, GuardGood, IsOf, IsOffered, IsShut, Piece, Place, Shadow}
use Rattle.guard_laws.specs.Blocks.{Standing, Task, TaskFits, Use, at_edge, core_in, edge_of, edge_word, half_of}
use Rattle.guard_laws.specs.Blocks.{piece_of}
use Rattle.guard_laws.specs.Steps.{GuardStep, guard_in}
use Rattle.seat_laws.specs.Stays.{IsGuardOf}
use Rattle.seat_laws.proofs.Guards.{edge_is, exchange_leaves, guard_is, guards_apart, has_some, not_mine}
use Rattle.seat_laws.proofs.Stores.{guard_else, same_after}

-- no block that the seat may store on has this guard
pub record IsKept (place : ℕ → Place) (tasks : ℕ → Task) (o : ℕ) (e : Side) (y : ℕ) : Type 0 where
  pub hands : (a b : ℕ) (own : Taking) → place a ≡ Place.Block a b (Use.Held o own) → IsGuardOf e y a b → ⊥
  pub bins : (a b : ℕ) → place a ≡ Place.Block a b Use.Bin → IsGuardOf e y a b → ⊥
  pub offers : (a b t : ℕ) (own : Taking) → place a ≡ Place.Block a b (Use.Held t own)
      → piece_of (tasks t) ≡ Piece.Got a b → IsGuardOf e y a b → ⊥

-- a guard of a block in another's hand is such a one, if it is not just being offered
pub mine_is_kept : (place : ℕ → Place) (tasks : ℕ → Task) (o t : ℕ) (e : Side) (y x n : ℕ) (taking : Taking)
    → BlocksWhole place → o ≢ t → place x ≡ Place.Block x n (Use.Held t taking)
    → piece_of (tasks t) ≡ Piece.NoPiece → IsGuardOf e y x n → IsKept place tasks o e y
mine_is_kept place tasks o t e y x n taking whole differ mine none is = record {
  hands = λ a b own at is'. not_mine t o taking own differ
      (guards_apart place e y a b x n (Use.Held o own) (Use.Held t taking) whole at mine is' is).use';
  bins = λ a b at is'.
      let same : Use.Bin ≡ Use.Held t taking =
      (guards_apart place e y a b x n Use.Bin (Use.Held t taking) whole at mine is' is).use' in cc;
  offers = λ a b s own at got is'.
      let same : Use.Held s own ≡ Use.Held t taking =
      (guards_apart place e y a b x n (Use.Held s own) (Use.Held t taking) whole at mine is' is).use' in
      let who : s ≡ t = cc in
      let no : Piece.Got a b ≡ Piece.NoPiece = sym got ∙ ap (λ j. piece_of (tasks j)) who ∙ none in cc;
}

-- and one that no block has
pub none_is_kept : (place : ℕ → Place) (tasks : ℕ → Task) (o : ℕ) (e : Side) (y : ℕ)
    → ((a b : ℕ) (u : Use) → place a ≡ Place.Block a b u → IsGuardOf e y a b → ⊥) → IsKept place tasks o e y
none_is_kept place tasks o e y none = record {
  hands = λ a b own at is. none a b (Use.Held o own) at is;
  bins = λ a b at is. none a b Use.Bin at is;
  offers = λ a b t own at got is. none a b (Use.Held t own) at is;
}

-- what is offered is no kept guard
offered_is_not : (place : ℕ → Place) (tasks : ℕ → Task) (o : ℕ) (i e : Side) (x n y : ℕ) → BlocksWhole place
    → IsKept place tasks o e y → IsOffered place (λ t. piece_of (tasks t)) i x n → i ≡ e → edge_of i x n ≢ y
offered_is_not place tasks o i e x n y whole kept (inl bin) same at =
    kept.bins x n bin (subst (λ j. IsGuardOf j y x n) same (subst (λ z. IsGuardOf i z x n) at
    (edge_is i x n (has_some place x n Use.Bin whole bin))))
offered_is_not place tasks o i e x n y whole kept (inr held) same at =
    kept.offers x n held.1.0 held.1.1 held.1.2 held.1.3
    (subst (λ j. IsGuardOf j y x n) same (subst (λ z. IsGuardOf i z x n) at
    (edge_is i x n (has_some place x n (Use.Held held.1.0 held.1.1) whole held.1.2))))

-- a guard that is given back is of a block that is offered
back_leaves : (k : Key) (g : Shadow) (m : Mem) (tasks : ℕ → Task) (o : ℕ) (c : WinCall) (e : Side) (y : ℕ) (gd : Guard)
    → GuardGood k g (core_in m tasks) → tasks o ≡ Task.Wins c WinAt.Back → IsKept g.place tasks o e y
    → guard_in m e y ≡ gd → guard_in (stored k m (guard_at c c.first) (free_word c)) e y ≡ gd
back_leaves k g m tasks o c e y gd good is kept says =
    subst (λ w. guard_in (stored k m w (free_word c)) e y ≡ gd) (sym (guard_is c c.first fits))
    (guard_else k m c.first e z y (free_word c) apart ∙ says)
  where
    fits : CallFits c
    fits = subst TaskFits is (good.calls o)

    z : ℕ
    z = edge_of c.first c.begin c.granules

    won : at_edge g.standing c.first z ≡ Standing.Won c.granules o c.taking
    won = good.parts.half_is o c.first c.begin c.granules c.taking (ap half_of is)

    offered : (x : ℕ) × (edge_of c.first x c.granules ≡ z)
        × IsOffered g.place (λ t. piece_of (tasks t)) c.first x c.granules
    offered = good.parts.offers c.first z c.granules (subst (IsOf c.granules) (sym won) refl)

    apart : c.first ≡ e → z ≢ y
    apart same at = offered_is_not g.place tasks o c.first e offered.0 c.granules y good.parts.whole kept
        offered.2 same (offered.1 ∙ at)

wins_leave : (k : Key) (g : Shadow) (m : Mem) (tasks : ℕ → Task) (o : ℕ) (c : WinCall) (at : WinAt) (e : Side) (y : ℕ)
    (gd : Guard) → GuardGood k g (core_in m tasks) → tasks o ≡ Task.Wins c at → IsKept g.place tasks o e y
    → IsShut gd → guard_in m e y ≡ gd → guard_in (after k m (win_course c at)) e y ≡ gd
wins_leave k g m tasks o c WinAt.First e y gd good is kept shut says =
    exchange_leaves k m c c.first e y (taken_word c.taking) gd (subst TaskFits is (good.calls o)) shut says
wins_leave k g m tasks o c WinAt.Second e y gd good is kept shut says =
    exchange_leaves k m c (other_side c.first) e y (taken_word c.taking) gd (subst TaskFits is (good.calls o)) shut says
wins_leave k g m tasks o c WinAt.Back e y gd good is kept shut says =
    back_leaves k g m tasks o c e y gd good is kept says

-- what the seat stores at a guard of its own block
pub own_store_leaves : (k : Key) (place : ℕ → Place) (m : Mem) (tasks : ℕ → Task) (o : ℕ) (i e : Side) (a b z y v : ℕ)
    (own : Taking) (gd : Guard) → place a ≡ Place.Block a b (Use.Held o own) → IsGuardOf i z a b
    → IsKept place tasks o e y → guard_in m e y ≡ gd → guard_in (stored k m (edge_word i z) v) e y ≡ gd
own_store_leaves k place m tasks o i e a b z y v own gd at is kept says =
    guard_else k m i e z y v (λ same here. kept.hands a b own at
    (subst (λ j. IsGuardOf j y a b) same (subst (λ x. IsGuardOf i x a b) here is))) ∙ says

-- so each step but those at a region's edges
abbrev pub IsNoOutline : (k : Key) (o : ℕ) (g : Shadow) (m : Mem) (tasks : ℕ → Task) (h : Shadow) (m' : Mem)
    (tasks' : ℕ → Task) → GuardStep k o g m tasks h m' tasks' → Type 0
IsNoOutline k o g m tasks h m' tasks' (GuardStep.walls e y low none) = ⊥
IsNoOutline k o g m tasks h m' tasks' (GuardStep.outlines e y low none) = ⊥
IsNoOutline k o g m tasks h m' tasks' _ = ⊤

pub guards_leave : (k : Key) (o : ℕ) (g : Shadow) (m : Mem) (tasks : ℕ → Task) (h : Shadow) (m' : Mem)
    (tasks' : ℕ → Task) (e : Side) (y : ℕ) (gd : Guard) → GuardGood k g (core_in m tasks)
    → (step : GuardStep k o g m tasks h m' tasks') → IsNoOutline k o g m tasks h m' tasks' step
    → IsKept g.place tasks o e y → IsShut gd → guard_in m e y ≡ gd → guard_in m' e y ≡ gd
guards_leave k o g m tasks h m' tasks' e y gd good (GuardStep.begins c is fits) plain kept shut says = says
guards_leave k o g m tasks h m' tasks' e y gd good (GuardStep.wins c at is) plain kept shut says =
    wins_leave k g m tasks o c at e y gd good is kept shut says
guards_leave k o g m tasks h m' tasks' e y gd good (GuardStep.offers x n taking is at) plain kept shut says =
    own_store_leaves k g.place m tasks o Side.Begin e x n x y (guard_word (Guard.Free n)) taking gd at
    (edge_is Side.Begin x n (has_some g.place x n (Use.Held o taking) good.parts.whole at)) kept says
guards_leave k o g m tasks h m' tasks' e y gd good (GuardStep.offered x n is) plain kept shut says =
    let piece = good.parts.piece_is o x n (ap piece_of is) in
    own_store_leaves k g.place m tasks o Side.End e x n (x + n) y (guard_word (Guard.Free n)) piece.0.0 gd piece.0.1
    (edge_is Side.End x n (has_some g.place x n (Use.Held o piece.0.0) good.parts.whole piece.0.1)) kept says
guards_leave k o g m tasks h m' tasks' e y gd good (GuardStep.marks i x n taking guard is at fits) plain kept shut
    says =
    own_store_leaves k g.place m tasks o i e x n (edge_of i x n) y (guard_word guard) taking gd at
    (edge_is i x n (has_some g.place x n (Use.Held o taking) good.parts.whole at)) kept says
guards_leave k o g m tasks h m' tasks' e y gd good (GuardStep.readies Side.Begin x n z taking at low high) plain kept
    shut
    says =
    own_store_leaves k g.place m tasks o Side.Begin e x n z y (guard_word Guard.Used) taking gd at
    (omega arith, omega arith) kept says
guards_leave k o g m tasks h m' tasks' e y gd good (GuardStep.readies Side.End x n z taking at low high) plain kept shut
    says =
    own_store_leaves k g.place m tasks o Side.End e x n z y (guard_word Guard.Used) taking gd at
    (omega arith, omega arith) kept says
guards_leave k o g m tasks h m' tasks' e y gd good (GuardStep.splits x a b is some more at used) plain kept shut says =
    says
guards_leave k o g m tasks h m' tasks' e y gd good (GuardStep.merges x a b is at behind) plain kept shut says = says
guards_leave k o g m tasks h m' tasks' e y gd good (GuardStep.reuses x n was now is own own' at fits) plain kept shut
    says =
    says
guards_leave k o g m tasks h m' tasks' e y gd good GuardStep.drains plain kept shut says = says
guards_leave k o g m tasks h m' tasks' e y gd good (GuardStep.walls i z low none) plain kept shut says = absurd plain
guards_leave k o g m tasks h m' tasks' e y gd good (GuardStep.outlines i z low none) plain kept shut says = absurd plain
guards_leave k o g m tasks h m' tasks' e y gd good (GuardStep.comes x n some within outside used) plain kept shut says =
    says
guards_leave k o g m tasks h m' tasks' e y gd good (GuardStep.leaves x n taking is at) plain kept shut says = says
guards_leave k o g m tasks h m' tasks' e y gd good (GuardStep.others action other) plain kept shut says =
    same_after k m action other e y ∙ says
