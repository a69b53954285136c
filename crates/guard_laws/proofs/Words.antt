-- What stores leave of guards, and what is read of them.
use Rattle.std.proofs.Common.{◌≡◌, ◌≢◌, ℕ, ◌+◌, ◌%◌, ◌^◌, ◌≤◌, Bool, true, false, cond, eqb, refl, sym, ap}
use Rattle.std.proofs.Common.{subst, arith, ◌∙◌}
use Rattle.std.proofs.lemmas.Bool.{eqb-true}
use Rattle.pool_words.specs.declared.words.Key.{Key}
use Rattle.pool_words.specs.declared.words.Word.{Word}
use Rattle.pool_words.specs.declared.actions.Action.{Action}
use Rattle.pool_words.specs.declared.actions.Action.TheVariants.{Load, Store, Swap, Exchange, Add}
use Rattle.pool_words.specs.declared.actions.Action.TheVariants.{TakeOffice, GiveOffice, Nothing}
use Rattle.pool_words.specs.Words.{WordKind, kind_of_word, at_of, length_of, number, sizes, lefts}
use Rattle.word_codes.specs.declared.guards.Guard.{Guard}
use Rattle.word_codes.specs.Guards.{guard_of, guard_word, FitsGuard}
use Rattle.word_codes.proofs.CallerLemmas.{guards_read_back}
use Rattle.guards.specs.declared.win.Side.{Side}
use Rattle.guards.specs.declared.win.Taking.{Taking}
use Rattle.guards.specs.declared.win.WinCall.{WinCall}
use Rattle.guards.specs.Win.{guard_at, taken_word}
use Rattle.word_laws.specs.Memory.{Mem, stored, after, word_at}
use Rattle.word_laws.proofs.CallerLemmas.{less_or, write_else, stored-valid, stored-void}
use Rattle.guard_laws.specs.Blocks.{Task, Core, at_edge, set_edge, edge_of, edge_word, core_in, taken_guard, CallFits}
use Rattle.guard_laws.specs.Steps.{IsOtherWord, IsOtherAction}

pub edge_stored : (k : Key) (m : Mem) (tasks : ℕ → Task) (e : Side) (y v : ℕ) (P : Core → Type 0) → y ≤ k.span
    → P (record { words = set_edge e y v (core_in m tasks).words; tasks = tasks })
    → P (core_in (stored k m (edge_word e y) v) tasks)
edge_stored k m tasks Side.Begin y v P low p =
    subst (λ (x : Mem). P (core_in x tasks)) (sym (stored-valid k m (Word.Size y) v (omega arith))) p
edge_stored k m tasks Side.End y v P low p =
    subst (λ (x : Mem). P (core_in x tasks)) (sym (stored-valid k m (Word.Left y) v (omega arith))) p

pub word_is : (m : Mem) (tasks : ℕ → Task) (e : Side) (y : ℕ)
    → word_at m (edge_word e y) ≡ at_edge (core_in m tasks).words e y
word_is m tasks Side.Begin y = refl
word_is m tasks Side.End y = refl

pub guard_is : (c : WinCall) (e : Side) → CallFits c → guard_at c e ≡ edge_word e (edge_of e c.begin c.granules)
guard_is c Side.Begin fits = refl
guard_is c Side.End fits = ap Word.Left (sym fits.ends)

pub taken_reads : (taking : Taking) → guard_of (taken_word taking) ≡ taken_guard taking
taken_reads Taking.ForUse = guards_read_back Guard.Used tt
taken_reads Taking.ToJoin = guards_read_back Guard.Coalescing tt

pub free_reads : (n found : ℕ) → FitsGuard (Guard.Free n) → eqb found (guard_word (Guard.Free n)) ≡ true
    → guard_of found ≡ Guard.Free n
free_reads n found fits is =
    ap guard_of (eqb-true found (guard_word (Guard.Free n)) is) ∙ guards_read_back (Guard.Free n) fits

pub stored-apart : (k : Key) (m : Mem) (w : Word) (v : ℕ) (kind : WordKind) → number (kind_of_word w) ≢ number kind
    → stored k m w v kind ≡ m kind
stored-apart k m w v kind apart = less_or (at_of w) (length_of k (kind_of_word w))
    (λ valid. subst (λ (x : Mem). x kind ≡ m kind) (sym (stored-valid k m w v valid))
    (λ n j. write_else m (kind_of_word w) kind (at_of w) v j (λ e _. apart e) n))
    (λ void. subst (λ (x : Mem). x kind ≡ m kind) (sym (stored-void k m w v void)) refl)

-- all guards are the same
pub record SameGuards (m m' : Mem) : Type 0 where
  pub sizes' : m' sizes ≡ m sizes
  pub lefts' : m' lefts ≡ m lefts

same_stored : (k : Key) (m : Mem) (w : Word) (v : ℕ) → IsOtherWord w → SameGuards m (stored k m w v)
same_stored k m w v other = record {
  sizes' = stored-apart k m w v sizes other.no_size;
  lefts' = stored-apart k m w v lefts other.no_left;
}

pub same_after : (k : Key) (m : Mem) (action : Action) → IsOtherAction action → SameGuards m (after k m action)
same_after k m (Load w) other = record { sizes' = refl; lefts' = refl }
same_after k m (Store w v) other = same_stored k m w v other
same_after k m (Swap w v) other = same_stored k m w v other
same_after k m (Exchange w from to) other = by (eqb (word_at m w) from)
  where
    by : (b : Bool) → SameGuards m (cond b (stored k m w to) m)
    by true = same_stored k m w to other
    by false = record { sizes' = refl; lefts' = refl }
same_after k m (Add w v) other = same_stored k m w ((word_at m w + v) % 2 ^ 64) other
same_after k m (TakeOffice job) other = record { sizes' = refl; lefts' = refl }
same_after k m GiveOffice other = record { sizes' = refl; lefts' = refl }
same_after k m Nothing other = record { sizes' = refl; lefts' = refl }

pub same_core : (m m' : Mem) (tasks : ℕ → Task) (P : Core → Type 0) → SameGuards m m' → P (core_in m tasks)
    → P (core_in m' tasks)
same_core m m' tasks P same p =
    subst (λ (f : ℕ → ℕ). P (record { words = record { begins = f; ends = m' lefts }; tasks = tasks }))
    (sym same.sizes')
    (subst (λ (f : ℕ → ℕ). P (record { words = record { begins = m sizes; ends = f }; tasks = tasks }))
    (sym same.lefts') p)
