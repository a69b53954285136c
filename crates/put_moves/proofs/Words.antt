-- Which actions leave a guard as it is, and which mark it.
use Rattle.std.proofs.Common.{◌≡◌, ◌≢◌, ◌∙◌, ◌+◌, ◌<◌, ◌≤◌, ◌^◌, ℕ, suc, Bool, Option, Some, None, true, false, cond, eqb}
use Rattle.std.proofs.Common.{refl, ap, sym, arith, ⊎_elim}
use Rattle.std.proofs.lemmas.Bool.Decides.{eqb_tells}
use Rattle.pool_types.specs.Sums.{capped}
use Rattle.pool_words.specs.declared.words.Key.{Key}
use Rattle.pool_words.specs.declared.words.Word.{Word}
use Rattle.pool_words.specs.declared.actions.Action.{Action}
use Rattle.pool_words.specs.declared.actions.Action.TheVariants.{Load, Store, Swap, Exchange, Add, TakeOffice}
use Rattle.pool_words.specs.declared.actions.Action.TheVariants.{GiveOffice, Nothing}
use Rattle.pool_words.specs.Words.{WordKind, at_of, kind_of_word, length_of, lefts, number, sizes}
use Rattle.word_codes.specs.declared.guards.Guard.{Guard}
use Rattle.word_codes.specs.Guards.{guard_of, guard_word}
use Rattle.word_codes.specs.Links.{link_of}
use Rattle.chain_words.specs.declared.pushing.PushAt.{PushAt}
use Rattle.chain_words.specs.declared.pushing.PushCall.{PushCall}
use Rattle.chain_words.specs.Pushing.{push_course}
use Rattle.guards.specs.declared.win.Side.{Side}
use Rattle.locked_chain.specs.declared.ListCall.{ListCall}
use Rattle.locked_chain.specs.declared.remove.RemoveAt.{RemoveAt}
use Rattle.locked_chain.specs.Remove.{remove_course, skip_course}
use Rattle.backend_bins.specs.declared.bin.BinAt.{BinAt}
use Rattle.backend_bins.specs.declared.bin.BinCall.{BinCall}
use Rattle.backend_bins.specs.Bin.{bin_course, bin_list}
use Rattle.word_laws.specs.Memory.{Mem, Valid, after, stored, word_at}
use Rattle.word_laws.proofs.CallerLemmas.{less_or, stored-valid, stored-void, write_else, write_here}
use Rattle.guard_laws.specs.Blocks.{edge_word}
use Rattle.guard_laws.specs.Steps.{guard_in}
use Rattle.queue_laws.specs.Puts.{TakesOut}
use Rattle.free_laws.specs.Steps.{Writes, IsWordIn}

-- the word is not that one
abbrev pub Misses : WordKind → ℕ → Word → Type 0
Misses d j w = number (kind_of_word w) ≡ number d → at_of w ≢ j

stored_else : (k : Key) (m : Mem) (w : Word) (v : ℕ) (d : WordKind) (j : ℕ) → Misses d j w
    → stored k m w v d j ≡ m d j
stored_else k m w v d j misses = less_or (at_of w) (length_of k (kind_of_word w))
    (λ low. ap (λ f. f d j) (stored-valid k m w v low) ∙ write_else m (kind_of_word w) d (at_of w) v j misses)
    (λ high. ap (λ f. f d j) (stored-void k m w v high))

exchanged_else : (k : Key) (m : Mem) (w : Word) (v : ℕ) (d : WordKind) (j : ℕ) (won : Bool) → Misses d j w
    → cond won (stored k m w v) m d j ≡ m d j
exchanged_else k m w v d j true misses = stored_else k m w v d j misses
exchanged_else k m w v d j false misses = refl

pub after_else : (k : Key) (m : Mem) (action : Action) (d : WordKind) (j : ℕ) → Writes (Misses d j) action
    → after k m action d j ≡ m d j
after_else k m (Load w) d j misses = refl
after_else k m (Store w value) d j misses = stored_else k m w value d j misses
after_else k m (Swap w value) d j misses = stored_else k m w value d j misses
after_else k m (Exchange w from to) d j misses = exchanged_else k m w to d j (eqb (word_at m w) from) misses
after_else k m (Add w value) d j misses = stored_else k m w _ d j misses
after_else k m (TakeOffice job) d j misses = refl
after_else k m GiveOffice d j misses = refl
after_else k m Nothing d j misses = refl

pub guard_else : (k : Key) (m : Mem) (action : Action) (e : Side) (y : ℕ)
    → Writes (Misses (kind_of_word (edge_word e y)) y) action
    → guard_in (after k m action) e y ≡ guard_in m e y
guard_else k m action Side.Begin y misses = ap guard_of (after_else k m action sizes y misses)
guard_else k m action Side.End y misses = ap guard_of (after_else k m action lefts y misses)

-- words of bins and of the queue are no guards
misses_guards : (e : Side) (y : ℕ) (w : Word) → IsWordIn 8 13 w → Misses (kind_of_word (edge_word e y)) y w
misses_guards Side.Begin y w within same = let low = within.0 in absurd (omega arith)
misses_guards Side.End y w within same = let low = within.0 in absurd (omega arith)

writes_more : (P Q : Word → Type 0) → ((w : Word) → P w → Q w) → (action : Action) → Writes P action
    → Writes Q action
writes_more P Q more (Load w) is = tt
writes_more P Q more (Store w value) is = more w is
writes_more P Q more (Swap w value) is = more w is
writes_more P Q more (Exchange w from to) is = more w is
writes_more P Q more (Add w value) is = more w is
writes_more P Q more (TakeOffice job) is = tt
writes_more P Q more GiveOffice is = tt
writes_more P Q more Nothing is = tt

pub guard_elsewhere : (k : Key) (m : Mem) (action : Action) (e : Side) (y : ℕ) → Writes (IsWordIn 8 13) action
    → guard_in (after k m action) e y ≡ guard_in m e y
guard_elsewhere k m action e y is = guard_else k m action e y
    (writes_more (IsWordIn 8 13) (Misses (kind_of_word (edge_word e y)) y) (misses_guards e y) action is)

skip_writes : (c : ListCall) (forward : ℕ) (before : Option ℕ) → IsWordIn 8 13 c.head
    → Writes (IsWordIn 8 13) (skip_course c forward before)
skip_writes c forward (Some before) head = (omega arith, omega arith)
skip_writes c forward None head = head

remove_writes : (c : ListCall) (at : RemoveAt) → IsWordIn 8 13 c.head → Writes (IsWordIn 8 13) (remove_course c at)
remove_writes c RemoveAt.Forward head = tt
remove_writes c (RemoveAt.Backward forward) head = tt
remove_writes c (RemoveAt.Skip forward backward) head = skip_writes c forward (link_of backward) head
remove_writes c (RemoveAt.SkipBack behind backward) head = (omega arith, omega arith)

-- taking a block out of its bin writes no guard
pub takes_out_writes : (c : BinCall) (at : BinAt) → TakesOut at → Writes (IsWordIn 8 13) (bin_course c at)
takes_out_writes c BinAt.Lock out = (omega arith, omega arith)
takes_out_writes c BinAt.Size out = absurd out
takes_out_writes c BinAt.Left out = absurd out
takes_out_writes c (BinAt.Insert at) out = absurd out
takes_out_writes c (BinAt.Out at) out = remove_writes (bin_list c) at (omega arith, omega arith)
takes_out_writes c BinAt.Unlock out = (omega arith, omega arith)

-- nor does a push on a chain of such words
pub push_writes : (c : PushCall) (at : PushAt) → IsWordIn 8 13 c.head → IsWordIn 8 13 c.link
    → Writes (IsWordIn 8 13) (push_course c at)
push_writes c PushAt.Look head link = tt
push_writes c (PushAt.Link found) head link = link
push_writes c (PushAt.Exchange found) head link = head

-- a guard that is stored
pub guard_of_mark : guard_of (guard_word Guard.Coalescing) ≡ Guard.Coalescing
unfolding guard_of guard_word
guard_of_mark = refl

stored_here : (k : Key) (m : Mem) (w : Word) (v : ℕ) → Valid k w → stored k m w v (kind_of_word w) (at_of w) ≡ v
stored_here k m w v valid = ap (λ f. f (kind_of_word w) (at_of w)) (stored-valid k m w v valid)
    ∙ write_here m (kind_of_word w) (kind_of_word w) (at_of w) v (at_of w) refl refl

pub mark_here : (k : Key) (m : Mem) (e : Side) (y : ℕ) → y ≤ k.span
    → guard_in (after k m (Store (edge_word e y) (guard_word Guard.Coalescing))) e y ≡ Guard.Coalescing
mark_here k m Side.Begin y low =
    ap guard_of (stored_here k m (Word.Size y) (guard_word Guard.Coalescing) (omega arith)) ∙ guard_of_mark
mark_here k m Side.End y low =
    ap guard_of (stored_here k m (Word.Left y) (guard_word Guard.Coalescing) (omega arith)) ∙ guard_of_mark

-- an exchange that is won stores
pub exchange_won : (k : Key) (m : Mem) (w : Word) (from to : ℕ) → eqb (word_at m w) from ≡ true
    → after k m (Exchange w from to) ≡ after k m (Store w to)
exchange_won k m w from to won = ap (λ (test : Bool). cond test (stored k m w to) m) won

pub eqb_is : (a b : ℕ) → eqb a b ≡ true → a ≡ b
eqb_is a b is = ⊎_elim (λ (z : (eqb a b ≡ true) × (a ≡ b)). z.1)
    (λ (z : (eqb a b ≡ false) × (a ≢ b)). let no = z.0 in absurd (cc)) (eqb_tells a b)

-- what a free guard reads
pub guard_of_free : (n : ℕ) → n + 3 < 2 ^ 64 → guard_of (guard_word (Guard.Free n)) ≡ Guard.Free n
unfolding guard_of guard_word
guard_of_free n low = let e : capped (n + 3) ≡ suc (suc (suc n)) = omega arith in ap guard_of e

-- an exchange that looks for a free guard leaves one that is being joined
spared : (k : Key) (m : Mem) (e' : Side) (z n to : ℕ) (e : Side) (y : ℕ)
    → (word_at m (edge_word e' z) ≡ guard_word (Guard.Free n) → Misses (kind_of_word (edge_word e y)) y (edge_word e' z))
    → (test : Bool) → (test ≡ true → word_at m (edge_word e' z) ≡ guard_word (Guard.Free n))
    → guard_in (cond test (stored k m (edge_word e' z) to) m) e y ≡ guard_in m e y
spared k m e' z n to e y misses true is = guard_else k m (Store (edge_word e' z) to) e y (misses (is refl))
spared k m e' z n to e y misses false is = refl

not_free : (n : ℕ) → n + 3 < 2 ^ 64 → (word : ℕ) → word ≡ guard_word (Guard.Free n)
    → guard_of word ≡ Guard.Coalescing → ⊥
not_free n low word is marked =
    let free : Guard.Free n ≡ Guard.Coalescing = sym (guard_of_free n low) ∙ ap guard_of (sym is) ∙ marked in
    absurd (cc)

missed : (m : Mem) (e' : Side) (z n : ℕ) (e : Side) (y : ℕ) → n + 3 < 2 ^ 64 → guard_in m e y ≡ Guard.Coalescing
    → word_at m (edge_word e' z) ≡ guard_word (Guard.Free n) → Misses (kind_of_word (edge_word e y)) y (edge_word e' z)
missed m Side.Begin z n Side.Begin y low marked is same at =
    not_free n low (m sizes z) is (ap (λ i. guard_of (m sizes i)) at ∙ marked)
missed m Side.Begin z n Side.End y low marked is same at = absurd (omega arith)
missed m Side.End z n Side.Begin y low marked is same at = absurd (omega arith)
missed m Side.End z n Side.End y low marked is same at =
    not_free n low (m lefts z) is (ap (λ i. guard_of (m lefts i)) at ∙ marked)

pub exchange_spares : (k : Key) (m : Mem) (e' : Side) (z n to : ℕ) (e : Side) (y : ℕ) → n + 3 < 2 ^ 64
    → guard_in m e y ≡ Guard.Coalescing
    → guard_in (after k m (Exchange (edge_word e' z) (guard_word (Guard.Free n)) to)) e y ≡ guard_in m e y
exchange_spares k m e' z n to e y low marked =
    let from : ℕ = guard_word (Guard.Free n) in
    spared k m e' z n to e y (missed m e' z n e y low marked) (eqb (word_at m (edge_word e' z)) from)
    (eqb_is (word_at m (edge_word e' z)) from)
