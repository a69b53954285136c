-- What stores leave of the office's lock and of the regions' words.
use Rattle.std.proofs.Common.{◌≡◌, ◌≢◌, ℕ, ◌+◌, ◌%◌, ◌^◌, ◌≤◌, Bool, true, false, cond, eqb, None, refl, sym}
use Rattle.std.proofs.Common.{subst}
use Rattle.pool_words.specs.declared.words.Key.{Key}
use Rattle.pool_words.specs.declared.words.Word.{Word}
use Rattle.pool_words.specs.declared.actions.Action.{Action}
use Rattle.pool_words.specs.declared.actions.Action.TheVariants.{Load, Store, Swap, Exchange, Add}
use Rattle.pool_words.specs.declared.actions.Action.TheVariants.{TakeOffice, GiveOffice, Nothing}
use Rattle.pool_words.specs.Words.{WordKind, kind_of_word, at_of, length_of, number, office_locks, regions, bases}
use Rattle.word_codes.specs.Locks.{holder_of}
use Rattle.word_codes.specs.RegionWords.{region_of}
use Rattle.word_laws.specs.Memory.{Mem, Valid, write, stored, after, word_at}
use Rattle.word_laws.proofs.CallerLemmas.{less_or, write_else, stored-valid, stored-void}
use Rattle.office_laws.specs.Regions.{Task, Shadow, core_in, OfficeGood}
use Rattle.office_laws.specs.Steps.{IsOtherWord, IsOtherAction}

pub to_stored : (P : Mem → Type 0) (k : Key) (m : Mem) (w : Word) (v : ℕ) → Valid k w
    → P (write m (kind_of_word w) (at_of w) v) → P (stored k m w v)
to_stored P k m w v valid p = subst P (sym (stored-valid k m w v valid)) p

pub to_void : (P : Mem → Type 0) (k : Key) (m : Mem) (w : Word) (v : ℕ) → length_of k (kind_of_word w) ≤ at_of w → P m
    → P (stored k m w v)
to_void P k m w v void p = subst P (sym (stored-void k m w v void)) p

pub stored-apart : (k : Key) (m : Mem) (w : Word) (v : ℕ) (kind : WordKind) → number (kind_of_word w) ≢ number kind
    → stored k m w v kind ≡ m kind
stored-apart k m w v kind apart = less_or (at_of w) (length_of k (kind_of_word w))
    (λ valid. subst (λ (x : Mem). x kind ≡ m kind) (sym (stored-valid k m w v valid))
    (λ n j. write_else m (kind_of_word w) kind (at_of w) v j (λ e _. apart e) n))
    (λ void. subst (λ (x : Mem). x kind ≡ m kind) (sym (stored-void k m w v void)) refl)

-- the words of the office and of regions are the same
pub record SameWords (m m' : Mem) : Type 0 where
  pub lock : m' office_locks ≡ m office_locks
  pub words : m' regions ≡ m regions
  pub bases' : m' bases ≡ m bases

same_stored : (k : Key) (m : Mem) (w : Word) (v : ℕ) → IsOtherWord w → SameWords m (stored k m w v)
same_stored k m w v other = record {
  lock = stored-apart k m w v office_locks other.no_lock;
  words = stored-apart k m w v regions other.no_region;
  bases' = stored-apart k m w v bases other.no_base;
}

pub same_after : (k : Key) (m : Mem) (action : Action) → IsOtherAction action → SameWords m (after k m action)
same_after k m (Load w) other = record { lock = refl; words = refl; bases' = refl }
same_after k m (Store w v) other = same_stored k m w v other
same_after k m (Swap w v) other = same_stored k m w v other
same_after k m (Exchange w from to) other = by (eqb (word_at m w) from)
  where
    by : (b : Bool) → SameWords m (cond b (stored k m w to) m)
    by true = same_stored k m w to other
    by false = record { lock = refl; words = refl; bases' = refl }
same_after k m (Add w v) other = same_stored k m w ((word_at m w + v) % 2 ^ 64) other
same_after k m (TakeOffice job) other = record { lock = refl; words = refl; bases' = refl }
same_after k m GiveOffice other = record { lock = refl; words = refl; bases' = refl }
same_after k m Nothing other = record { lock = refl; words = refl; bases' = refl }

pub same_keeps : (g : Shadow) (m m' : Mem) (tasks : ℕ → Task) → SameWords m m' → OfficeGood g (core_in m tasks)
    → OfficeGood g (core_in m' tasks)
same_keeps g m m' tasks same good =
    subst (λ (f : ℕ → ℕ). OfficeGood g (record (core_in m' tasks) { lock = holder_of (f 0) })) (sym same.lock)
    (subst (λ (f : ℕ → ℕ). OfficeGood g (record (core_in m' tasks) {
      lock = holder_of (m office_locks 0);
      words = λ s. region_of (f s);
    })) (sym same.words)
    (subst (λ (f : ℕ → ℕ). OfficeGood g (record (core_in m' tasks) {
      lock = holder_of (m office_locks 0);
      words = λ s. region_of (m regions s);
      bases = f;
    })) (sym same.bases') good))

pub free_reads : holder_of 0 ≡ None
unfolding holder_of
free_reads = refl
