-- All queued blocks come into one seat's hand.
use Rattle.std.proofs.Common.{◌≡◌, inl, inr, ℕ, refl, sym, ap, subst, ◌∙◌}
use Rattle.word_codes.specs.declared.guards.Guard.{Guard}
use Rattle.word_codes.specs.Guards.{guard_of}
use Rattle.guards.specs.declared.win.Side.{Side}
use Rattle.guards.specs.declared.win.Taking.{Taking}
use Rattle.guard_laws.specs.Blocks.{Use, Place, Standing, Piece, Edges, at_edge, edge_of, View}
use Rattle.guard_laws.specs.Blocks.{GuardFits, IsOf, EdgeFits, BlocksWhole, Parts}
use Rattle.guard_laws.specs.Steps.{use_drained, place_drained, standing_drained}
use Rattle.guard_laws.proofs.Regroup.{regrouped}

pub drained_was : (seat : ℕ) (p : Place) (f n : ℕ) (w : Use) → place_drained seat p ≡ Place.Block f n w
    → (u : Use) × (p ≡ Place.Block f n u) × (use_drained seat u ≡ w)
drained_was seat Place.Outside f n w e = absurd (cc)
drained_was seat (Place.Block x m u) f n w e =
    let a : x ≡ f = cc in let b : m ≡ n = cc in let c : use_drained seat u ≡ w = cc in
    (u, ap (λ j. Place.Block j m u) a ∙ ap (λ j. Place.Block f j u) b, c)

drained_whole : (seat : ℕ) (place : ℕ → Place) → BlocksWhole place → BlocksWhole (λ y. place_drained seat (place y))
drained_whole seat place whole y f n w e =
    let was = drained_was seat (place y) f n w e in
    let old = whole y f n was.0 was.1 in record {
      from = old.from;
      below = old.below;
      all = λ z l h. ap (place_drained seat) (old.all z l h) ∙ ap (Place.Block f n) was.2;
    }

drained_guard : (s : Standing) (guard : Guard) → GuardFits s guard → GuardFits (standing_drained s) guard
drained_guard Standing.Inner guard f = f
drained_guard Standing.Resting guard f = f
drained_guard Standing.Walled guard f = f
drained_guard Standing.Joining guard f = f
drained_guard Standing.Waiting guard f = subst (GuardFits Standing.Joining) (sym f) tt
drained_guard (Standing.Open n) guard f = f
drained_guard (Standing.Won n t taking) guard f = f

drained_open : (s : Standing) (n : ℕ) → IsOf n s → standing_drained s ≡ s
drained_open Standing.Inner n f = absurd f
drained_open Standing.Resting n f = absurd f
drained_open Standing.Walled n f = absurd f
drained_open Standing.Joining n f = absurd f
drained_open Standing.Waiting n f = absurd f
drained_open (Standing.Open m) n f = refl
drained_open (Standing.Won m t taking) n f = refl

open_drained : (s : Standing) (n : ℕ) → IsOf n (standing_drained s) → standing_drained s ≡ s
open_drained Standing.Inner n f = absurd f
open_drained Standing.Resting n f = absurd f
open_drained Standing.Walled n f = absurd f
open_drained Standing.Joining n f = absurd f
open_drained Standing.Waiting n f = absurd f
open_drained (Standing.Open m) n f = refl
open_drained (Standing.Won m t taking) n f = refl

drained_edge : (seat : ℕ) (pieces : ℕ → Piece) (e : Side) (u : Use) (x n : ℕ) (s : Standing)
    → EdgeFits pieces e u x n s → EdgeFits pieces e (use_drained seat u) x n (standing_drained s)
drained_edge seat pieces e Use.Bin x n s f = subst (IsOf n) (sym (drained_open s n f)) f
drained_edge seat pieces e (Use.Held t Taking.ForUse) x n s (inl f) = inl (ap standing_drained f)
drained_edge seat pieces e (Use.Held t Taking.ToJoin) x n s (inl f) = inl (ap standing_drained f)
drained_edge seat pieces e (Use.Held t taking) x n s (inr (b, p, f)) =
    inr (b, p, subst (IsOf n) (sym (drained_open s n f)) f)
drained_edge seat pieces e Use.Queued x n s f = inl (ap standing_drained f)
drained_edge seat pieces e Use.Elsewhere x n s f = ap standing_drained f

abbrev pub edges_drained : Edges Standing → Edges Standing
edges_drained f = record { begins = λ y. standing_drained (f.begins y); ends = λ y. standing_drained (f.ends y) }

-- a fact of each edge
drained_each : (P : Side → ℕ → Standing → Type 0) (f : Edges Standing)
    → ((e : Side) (y : ℕ) → P e y (standing_drained (at_edge f e y)))
    → (e : Side) (y : ℕ) → P e y (at_edge (edges_drained f) e y)
drained_each P f all Side.Begin y = all Side.Begin y
drained_each P f all Side.End y = all Side.End y

pub drained : (span : ℕ) (v : View) (seat : ℕ) → Parts span v
    → Parts span (record v { place = λ y. place_drained seat (v.place y); standing = edges_drained v.standing })
drained span v seat parts =
    regrouped span v (λ y. place_drained seat (v.place y)) (edges_drained v.standing) v.words parts (record {
      whole = drained_whole seat v.place parts.whole;
      within = λ x n w e. let was = drained_was seat (v.place x) x n w e in parts.within x n was.0 was.1;
      words_fit = drained_each (λ e y s. GuardFits s (guard_of (at_edge v.words e y))) v.standing
          (λ e y. drained_guard (at_edge v.standing e y) (guard_of (at_edge v.words e y)) (parts.words_fit e y));
      edges_fit = λ e x n w at.
          let was = drained_was seat (v.place x) x n w at in
          subst (λ j. EdgeFits v.pieces e j x n (at_edge (edges_drained v.standing) e (edge_of e x n))) was.2
          (drained_each (λ e y s. EdgeFits v.pieces e was.0 x n (at_edge v.standing e y)
          → EdgeFits v.pieces e (use_drained seat was.0) x n s) v.standing
          (λ e y f. drained_edge seat v.pieces e was.0 x n (at_edge v.standing e y) f) e (edge_of e x n)
          (parts.edges_fit e x n was.0 was.1));
      bins = λ x n f. ap (place_drained seat) f;
      put_stays = λ t x n taking p f. ap (place_drained seat) f;
      offers = record {
        old = drained_each (λ e y s. (n : ℕ) → IsOf n (at_edge v.standing e y) → s ≡ at_edge v.standing e y) v.standing
            (λ e y n f. drained_open (at_edge v.standing e y) n f);
        new = drained_each (λ e y s. (n : ℕ) → IsOf n s → s ≡ at_edge v.standing e y) v.standing
            (λ e y n f. open_drained (at_edge v.standing e y) n f);
      };
    })
