-- What stores of marks, public words and kinds leave, and what is read back.
use Rattle.std.proofs.Common.{◌≡◌, ℕ, ◌+◌, ◌%◌, ◌^◌, ◌<◌, Bool, true, false, cond, eqb, Option, Some, None, refl, sym}
use Rattle.std.proofs.Common.{ap, subst, arith}
use Rattle.pool_words.specs.declared.words.Key.{Key}
use Rattle.pool_words.specs.declared.words.Word.{Word}
use Rattle.pool_words.specs.declared.actions.Action.{Action}
use Rattle.pool_words.specs.declared.actions.Action.TheVariants.{Load, Store, Swap, Exchange, Add}
use Rattle.pool_words.specs.declared.actions.Action.TheVariants.{TakeOffice, GiveOffice, Nothing}
use Rattle.pool_words.specs.Words.{kind_of_word, at_of, length_of, marks, publics, kinds}
use Rattle.word_codes.specs.declared.marks.Mark.{Mark}
use Rattle.word_codes.specs.declared.publics.Public.{Public}
use Rattle.word_codes.specs.declared.kinds.Kind.{Kind}
use Rattle.word_codes.specs.Marks.{mark_of, mark_word, private_link, public_link}
use Rattle.word_codes.specs.Publics.{public_of, public_word}
use Rattle.word_codes.specs.Kinds.{kind_of, kind_word, FitsKind}
use Rattle.word_codes.proofs.CallerLemmas.{marks_read_back, publics_read_back, kinds_read_back}
use Rattle.word_laws.specs.Memory.{Mem, put, write, stored, after, word_at}
use Rattle.word_laws.proofs.CallerLemmas.{read_put, less_or, write_else, stored-valid, stored-void}
use Rattle.object_laws.specs.Objects.{mark_link, public_link_to, head_link, Locals, Core, core_in, grant_by, IsUnit, Shadow}
use Rattle.object_laws.specs.Parts.{IsNoGrant, IsHandMark, FitsPublicLink, ObjectsGood}
use Rattle.object_laws.specs.Steps.{IsOtherWord, IsOtherAction}

-- stores
abbrev pub mark_core : ℕ → Mark → Core → Core
mark_core u mark s = record s { marks = put s.marks u mark }

abbrev pub public_core : ℕ → Public → Core → Core
public_core e public s = record s { publics = put s.publics e public }

abbrev pub kind_core : ℕ → Kind → Core → Core
kind_core e kind s = record s { kinds = put s.kinds e kind }

pub mark_stored : (k : Key) (g : Shadow) (m : Mem) (l : Locals) (u value : ℕ) (mark : Mark) → IsUnit k u
    → mark_of value ≡ mark → ObjectsGood k g (mark_core u mark (core_in m l))
    → ObjectsGood k g (core_in (stored k m (Word.Mark u) value) l)
mark_stored k g m l u value mark valid is good =
    subst (λ (x : Mem). ObjectsGood k g (core_in x l)) (sym (stored-valid k m (Word.Mark u) value valid))
    (subst (λ (c : Core). ObjectsGood k g c) (sym written)
    (subst (λ q. ObjectsGood k g (mark_core u q (core_in m l))) (sym is) good))
  where
    written : core_in (write m marks u value) l ≡ mark_core u (mark_of value) (core_in m l)
    written = λ n. record (core_in m l) { marks = λ x. read_put mark_of (m marks) u value x n }

pub public_stored : (k : Key) (g : Shadow) (m : Mem) (l : Locals) (e value : ℕ) (public : Public) → e < k.span
    → public_of value ≡ public → ObjectsGood k g (public_core e public (core_in m l))
    → ObjectsGood k g (core_in (stored k m (Word.Public e) value) l)
public_stored k g m l e value public valid is good =
    subst (λ (x : Mem). ObjectsGood k g (core_in x l)) (sym (stored-valid k m (Word.Public e) value valid))
    (subst (λ (c : Core). ObjectsGood k g c) (sym written)
    (subst (λ q. ObjectsGood k g (public_core e q (core_in m l))) (sym is) good))
  where
    written : core_in (write m publics e value) l ≡ public_core e (public_of value) (core_in m l)
    written = λ n. record (core_in m l) { publics = λ x. read_put public_of (m publics) e value x n }

pub kind_stored : (k : Key) (g : Shadow) (m : Mem) (l : Locals) (e : ℕ) (kind : Kind) → e < k.span + 1 → FitsKind kind
    → ObjectsGood k g (kind_core e kind (core_in m l))
    → ObjectsGood k g (core_in (stored k m (Word.Kind e) (kind_word kind)) l)
kind_stored k g m l e kind valid fits good =
    subst (λ (x : Mem). ObjectsGood k g (core_in x l)) (sym (stored-valid k m (Word.Kind e) (kind_word kind) valid))
    (subst (λ (c : Core). ObjectsGood k g c) (sym written)
    (subst (λ q. ObjectsGood k g (kind_core e q (core_in m l))) (sym (kinds_read_back kind fits)) good))
  where
    written : core_in (write m kinds e (kind_word kind)) l ≡ kind_core e (kind_of (kind_word kind)) (core_in m l)
    written = λ n. record (core_in m l) { kinds = λ x. read_put kind_of (m kinds) e (kind_word kind) x n }

-- read back
pub granted-reads : (seat number : ℕ) → seat < 64 → number < 2 ^ 55
    → mark_of (mark_word (Mark.Granted (grant_by seat number))) ≡ Mark.Granted (grant_by seat number)
granted-reads seat number few low = marks_read_back (Mark.Granted (grant_by seat number)) (few, low)

pub hand-reads : (seat : ℕ) → seat < 64 → mark_of (mark_word (Mark.Hand seat)) ≡ Mark.Hand seat
hand-reads seat few = marks_read_back (Mark.Hand seat) few

pub null-reads : public_of (public_word Public.Null) ≡ Public.Null
null-reads = publics_read_back Public.Null tt

pub unusable-reads : public_of (public_word Public.Unusable) ≡ Public.Unusable
unusable-reads = publics_read_back Public.Unusable tt

pub filled-reads : (u : ℕ) → u < 2 ^ 61 → public_of (public_word (Public.Filled u)) ≡ Public.Filled u
filled-reads u low = publics_read_back (Public.Filled u) (omega arith)

pub private-leads : (head : Option ℕ) → ((u : ℕ) → head ≡ Some u → u < 2 ^ 61)
    → mark_link (mark_of (private_link head)) ≡ head_link head
private-leads (Some u) low = ap mark_link (marks_read_back (Mark.Link u) (low u refl))
private-leads None low = ap mark_link (marks_read_back Mark.End tt)

pub private-no_grant : (head : Option ℕ) → ((u : ℕ) → head ≡ Some u → u < 2 ^ 61)
    → IsNoGrant (mark_of (private_link head))
private-no_grant (Some u) low = subst IsNoGrant (sym (marks_read_back (Mark.Link u) (low u refl))) tt
private-no_grant None low = subst IsNoGrant (sym (marks_read_back Mark.End tt)) tt

pub public-leads : (found : Public) → FitsPublicLink found
    → mark_link (mark_of (public_link found)) ≡ public_link_to found
public-leads Public.Null fits = ap mark_link (marks_read_back Mark.End tt)
public-leads Public.Unusable fits = ap mark_link (marks_read_back Mark.EndUnusable tt)
public-leads (Public.Filled u) fits = ap mark_link (marks_read_back (Mark.Link u) fits)

pub public-hand : (seat : ℕ) (found : Public) → FitsPublicLink found → IsHandMark seat (mark_of (public_link found))
public-hand seat Public.Null fits = subst (IsHandMark seat) (sym (marks_read_back Mark.End tt)) tt
public-hand seat Public.Unusable fits = subst (IsHandMark seat) (sym (marks_read_back Mark.EndUnusable tt)) tt
public-hand seat (Public.Filled u) fits = subst (IsHandMark seat) (sym (marks_read_back (Mark.Link u) fits)) tt

-- other words
abbrev IsSameThere : Mem → Mem → Type 0
IsSameThere m new = (new marks ≡ m marks) × (new publics ≡ m publics) × (new kinds ≡ m kinds)

stored_same : (k : Key) (m : Mem) (w : Word) (value : ℕ) → IsOtherWord w → IsSameThere m (stored k m w value)
stored_same k m w value other = less_or (at_of w) (length_of k (kind_of_word w))
    (λ valid. subst (IsSameThere m) (sym (stored-valid k m w value valid)) (
      (λ n j. write_else m (kind_of_word w) marks (at_of w) value j (λ e _. other.no_mark e) n),
      (λ n j. write_else m (kind_of_word w) publics (at_of w) value j (λ e _. other.no_public e) n),
      (λ n j. write_else m (kind_of_word w) kinds (at_of w) value j (λ e _. other.no_kind e) n),
    ))
    (λ void. subst (IsSameThere m) (sym (stored-void k m w value void)) (refl, refl, refl))

same_after : (k : Key) (m : Mem) (action : Action) → IsOtherAction action → IsSameThere m (after k m action)
same_after k m (Load w) other = (refl, refl, refl)
same_after k m (Store w value) other = stored_same k m w value other
same_after k m (Swap w value) other = stored_same k m w value other
same_after k m (Exchange w from to) other = by (eqb (word_at m w) from)
  where
    by : (b : Bool) → IsSameThere m (cond b (stored k m w to) m)
    by true = stored_same k m w to other
    by false = (refl, refl, refl)
same_after k m (Add w value) other = stored_same k m w ((word_at m w + value) % 2 ^ 64) other
same_after k m (TakeOffice job) other = (refl, refl, refl)
same_after k m GiveOffice other = (refl, refl, refl)
same_after k m Nothing other = (refl, refl, refl)

pub others_keep : (k : Key) (g : Shadow) (m : Mem) (l : Locals) (action : Action) → IsOtherAction action
    → ObjectsGood k g (core_in m l) → ObjectsGood k g (core_in (after k m action) l)
others_keep k g m l action other good =
    let same = same_after k m action other in
    subst (λ (f : ℕ → ℕ). ObjectsGood k g (record (core_in m l) {
      marks = λ x. mark_of (f x);
      publics = λ x. public_of (after k m action publics x);
      kinds = λ x. kind_of (after k m action kinds x);
    })) (sym same.0)
    (subst (λ (f : ℕ → ℕ). ObjectsGood k g (record (core_in m l) {
      publics = λ x. public_of (f x);
      kinds = λ x. kind_of (after k m action kinds x);
    })) (sym same.1)
    (subst (λ (f : ℕ → ℕ). ObjectsGood k g (record (core_in m l) { kinds = λ x. kind_of (f x) })) (sym same.2) good))
