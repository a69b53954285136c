-- What a thread's lines grant and free.
use Rattle.std.proofs.Common.{◌≡◌, ◌≢◌, ◌⊎◌, inl, inr, ℕ, Bool, true, false, cond, eqb, List}
use Rattle.std.proofs.Common.{[], ◌∷◌, ◌++◌, refl, sym, ap, subst}
use Rattle.std.proofs.Common.{◌∙◌, ⊎_elim}
use Rattle.std.specs.Prelude.{Option, Some, None, Ok}
use Rattle.std.proofs.lemmas.Bool.Decides.{eqb_tells}
use Rattle.std.proofs.lemmas.List.{append-nil, append_assoc}
use Rattle.pool_types.specs.declared.values.Answer.{Answer}
use Rattle.name_board.specs.Board.{IsKnown}
use Rattle.pool_types.specs.declared.values.Region.{Region}
use Rattle.pool_types.specs.declared.values.Request.{Request}
use Rattle.pool_words.specs.declared.words.Key.{Key}
use Rattle.step_local.specs.declared.frames.Object.{Object}
use Rattle.trace_reader.specs.declared.acts.TraceLine.{TraceLine}
use Rattle.pool_api.specs.Heaps.{CalledBy, IsResting, told}
use Rattle.thread_calls.specs.declared.calls.OwnCall.{OwnCall}
use Rattle.thread_calls.specs.declared.calls.Said.{Said}
use Rattle.thread_calls.specs.Calls.{own_call}
use Rattle.thread_lines.specs.Heaps.{Heap, Heaps}
use Rattle.thread_lines.specs.Telling.{Asks, Speaks, Tells}
use Rattle.paid_calls.specs.Earning.{AddsEarned, AddsPaid, CallsOn, Earned}
use Rattle.paid_calls.specs.Laws.{CallsPay, LinesPay}
use Rattle.paid_calls.proofs.Calls.{call_pays}

module _ {D : Type 0} (named : ℕ → ℕ → Type 0) (thread pool : ℕ) (first : Heaps D) (before : Heap D)
    (there : first pool ≡ Some before) (rests : IsResting before.local) where
  abbrev k : Key
  k = before.local.key

  -- what is known of the heap between two lines
  pub record Stands (lines : List TraceLine) (all : List Said) (after : Heap D) : Type 0 where
    pub key : after.local.key ≡ k
    pub rests_still : IsResting after.local
    pub adds : AddsEarned k named thread pool lines all before.entry after.entry

  abbrev AllStand : List TraceLine → List Said → Heaps D → Type 0
  AllStand lines all heaps = (after : Heap D) → heaps pool ≡ Some after → Stands lines all after

  same_heap : (a b : Heap D) → Some a ≡ Some b → a ≡ b
  same_heap a b e = ap (λ (x : Option (Heap D)). or_else x) e
    where
      or_else : Option (Heap D) → Heap D
      or_else (Some x) = x
      or_else None = a

  first_stands : (after : Heap D) → before ≡ after → Stands [] [] after
  first_stands after same = subst (Stands [] []) same (record {
    key = refl;
    rests_still = rests;
    adds = record {
      tolds = [];
      calls = CallsOn.none_yet;
      grants = [];
      frees = [];
      earned = Earned.nothing_yet;
      grants_are = sym (append-nil before.entry.grants);
      frees_are = sym (append-nil before.entry.frees);
    };
  })

  -- a line that the heap has no part in
  passes_by : (lines : List TraceLine) (all : List Said) (line : TraceLine) (after : Heap D)
      → own_call thread line.act ≡ None → Stands lines all after → Stands (lines ++ line ∷ []) all after
  passes_by lines all line after none was = record {
    key = was.key;
    rests_still = was.rests_still;
    adds = record {
      tolds = was.adds.tolds;
      calls = CallsOn.passes was.adds.calls line none;
      grants = was.adds.grants;
      frees = was.adds.frees;
      earned = was.adds.earned;
      grants_are = was.adds.grants_are;
      frees_are = was.adds.frees_are;
    };
  }

  other_call : (lines : List TraceLine) (all : List Said) (line : TraceLine) (own : OwnCall) (said : Said)
      (after : Heap D) → own_call thread line.act ≡ Some own → own.pool ≢ pool → Stands lines all after
      → Stands (lines ++ line ∷ []) (all ++ said ∷ []) after
  other_call lines all line own said after is differs was = record {
    key = was.key;
    rests_still = was.rests_still;
    adds = record {
      tolds = was.adds.tolds;
      calls = CallsOn.elsewhere was.adds.calls line own said is differs;
      grants = was.adds.grants;
      frees = was.adds.frees;
      earned = was.adds.earned;
      grants_are = was.adds.grants_are;
      frees_are = was.adds.frees_are;
    };
  }

  -- a line whose call the heap makes
  own_call_made : (lines : List TraceLine) (all : List Said) (line : TraceLine) (own : OwnCall) (request : Request)
      (answer : Answer) (heap now : Heap D) → own_call thread line.act ≡ Some own → own.pool ≡ pool
      → Asks named own.call request → CalledBy heap.local heap.entry request (Ok answer) now.local now.entry
      → Stands lines all heap → Stands (lines ++ line ∷ []) (all ++ Said.Answered answer ∷ []) now
  own_call_made lines all line own request answer heap now is here asks called was =
      let pays = subst (λ (x : Key). AddsPaid x request answer heap.entry now.entry) was.key
      (call_pays heap.local heap.entry request answer now.local now.entry was.rests_still called) in
      let told_so = called.3 was.rests_still in
      record {
        key = told_so.key ∙ was.key;
        rests_still = told_so.rests;
        adds = record {
          tolds = was.adds.tolds ++ told request answer ∷ [];
          calls = CallsOn.here was.adds.calls line own request answer is here asks;
          grants = was.adds.grants ++ pays.grants;
          frees = was.adds.frees ++ pays.frees;
          earned = Earned.earns was.adds.earned request answer pays.grants pays.frees pays.pays;
          grants_are = pays.grants_are ∙ ap (λ (x : List Object). x ++ pays.grants) was.adds.grants_are
              ∙ append_assoc before.entry.grants was.adds.grants pays.grants;
          frees_are = pays.frees_are ∙ ap (λ (x : List Object). x ++ pays.frees) was.adds.frees_are
              ∙ append_assoc before.entry.frees was.adds.frees pays.frees;
        };
      }

  same_or_not : (a b : ℕ) → (a ≡ b) ⊎ ((eqb a b ≡ false) × (a ≢ b))
  same_or_not a b = ⊎_elim
      (λ (z : (eqb a b ≡ true) × (a ≡ b)). inl z.1)
      (λ (z : (eqb a b ≡ false) × (a ≢ b)). inr z)
      (eqb_tells a b)

  same_number : (a b : ℕ) → a ≡ b → eqb a b ≡ true
  same_number a b e = ⊎_elim
      (λ (z : (eqb a b ≡ true) × (a ≡ b)). z.0)
      (λ (z : (eqb a b ≡ false) × (a ≢ b)). absurd (z.1 e))
      (eqb_tells a b)

  -- a line of the thread
  spoken : (lines : List TraceLine) (all : List Said) (heaps new : Heaps D) (line : TraceLine) (own : OwnCall)
      (said : Said) → own_call thread line.act ≡ Some own → Speaks named own said heaps new → AllStand lines all heaps
      → AllStand (lines ++ line ∷ []) (all ++ said ∷ []) new
  spoken lines all heaps new line own Said.Gone is speaks stand after e = ⊎_elim
      (λ (here : pool ≡ own.pool).
      absurd (let gone : None ≡ Some after =
      sym speaks.serves.0 ∙ ap heaps (sym here) ∙ sym (speaks.serves.1 pool) ∙ e in cc))
      (λ (z : (eqb pool own.pool ≡ false) × (pool ≢ own.pool)).
      other_call lines all line own Said.Gone after is (λ (q : own.pool ≡ pool). z.1 (sym q))
      (stand after (sym (speaks.serves.1 pool) ∙ e)))
      (same_or_not pool own.pool)
  spoken lines all heaps new line own (Said.Answered answer) is speaks stand after e = ⊎_elim
      (λ (here : pool ≡ own.pool).
      let made = speaks.serves in
      let is_now = ap (λ (b : Bool). cond b (Some made.now) (heaps pool)) (same_number pool own.pool here) in
      let now_is : made.now ≡ after = same_heap made.now after (sym (made.heaps_are pool ∙ is_now) ∙ e) in
      subst (Stands (lines ++ line ∷ []) (all ++ Said.Answered answer ∷ [])) now_is
      (own_call_made lines all line own speaks.request answer made.heap made.now is (sym here) speaks.asks made.called
      (stand made.heap (ap heaps here ∙ made.there))))
      (λ (z : (eqb pool own.pool ≡ false) × (pool ≢ own.pool)).
      let made = speaks.serves in
      let is_old = ap (λ (b : Bool). cond b (Some made.now) (heaps pool)) z.0 in
      other_call lines all line own (Said.Answered answer) after is (λ (q : own.pool ≡ pool). z.1 (sym q))
      (stand after (sym (made.heaps_are pool ∙ is_old) ∙ e)))
      (same_or_not pool own.pool)

  pub lines_stand : {lines : List TraceLine} {all : List Said} {heaps : Heaps D}
      → Tells named thread first lines all heaps → AllStand lines all heaps
  lines_stand (Tells.begins heaps same) after e =
      first_stands after (same_heap before after (sym there ∙ sym (same pool) ∙ e))
  lines_stand (Tells.passes {lines = lines} {all = all} tells line none) after e =
      passes_by lines all line after none (lines_stand tells after e)
  lines_stand (Tells.speaks {lines = lines} {all = all} {heaps = heaps} tells line own said new is speaks) after e =
      spoken lines all heaps new line own said is speaks (lines_stand tells) after e

-- what a thread's lines add to the grants and frees of its heap of a pool
pub lines_earn : {D : Type 0} (named : ℕ → ℕ → Type 0) (thread : ℕ) (first : Heaps D) (lines : List TraceLine)
    (all : List Said) (heaps : Heaps D) → Tells named thread first lines all heaps
    → (pool : ℕ) (before after : Heap D) → first pool ≡ Some before → IsResting before.local → heaps pool ≡ Some after
    → AddsEarned before.local.key named thread pool lines all before.entry after.entry
lines_earn named thread first lines all heaps tells pool before after there rests e =
    (lines_stand named thread pool first before there rests tells after e).adds

module _ {R : Type 0} (out : R → List Region) where
  pub calls_pay : CallsPay out
  calls_pay l e request answer now after rests called = call_pays l e request answer now after rests called

  pub lines_pay : LinesPay out
  lines_pay known thread first lines all heaps tells pool before after there rests e =
      lines_earn (IsKnown known) thread first lines all heaps tells pool before after there rests e
