-- What a thread's lines come to, told by other names and of equal heaps.
use Rattle.std.proofs.Common.{◌≡◌, ℕ, suc, zero, ◌+◌, List, [], ◌∷◌, ◌++◌, length, refl, sym, ap, ◌∙◌, arith}
use Rattle.std.specs.Prelude.{Option}
use mathlib.Core.Option.{some}
use lib.ListN.{get_elem?}
use Rattle.name_board.specs.declared.rule.Bound.{Bound}
use Rattle.name_board.specs.Board.{bound, IsKnown}
use Rattle.pool_types.specs.declared.values.Request.{Request}
use Rattle.trace_reader.specs.declared.acts.TraceLine.{TraceLine}
use Rattle.thread_calls.specs.declared.calls.OwnCall.{OwnCall}
use Rattle.thread_calls.specs.declared.calls.Said.{Said}
use Rattle.thread_calls.specs.Script.{count_own, more_own}
use Rattle.thread_calls.proofs.CallerLemmas.{own_more}
use Rattle.thread_lines.specs.Heaps.{Heaps}
use Rattle.thread_lines.specs.Telling.{Serves, Tells}
use Rattle.thread_starts.proofs.CrewLemmas.{length_more}

-- what is known behind others
at_behind : {A : Type 0} (xs ys : List A) (i n : ℕ) (y : A) → n ≡ length xs + i → get_elem? ys i ≡ some y
    → get_elem? (xs ++ ys) n ≡ some y
at_behind [] ys i n y is at = let same : n ≡ i = omega arith in ap (get_elem? ys) same ∙ at
at_behind (x ∷ xs) ys i zero y is at = absurd (omega arith)
at_behind (x ∷ xs) ys i (suc n) y is at = at_behind xs ys i n y (omega arith) at

pub known_behind : (old more : List Bound) (name word : ℕ) → IsKnown more name word → IsKnown (old ++ more) name word
known_behind old more name word (j, at) =
    (length old + j, at_behind old more j (length old + j) (bound name word) refl at)

module _ {D : Type 0} where
  serves_to : (heaps new other : Heaps D) (pool : ℕ) (request : Request) (said : Said)
      → ((p : ℕ) → new p ≡ other p) → Serves heaps pool request said new → Serves heaps pool request said other
  serves_to heaps new other pool request Said.Gone same (none, are) = (none, λ p. sym (same p) ∙ are p)
  serves_to heaps new other pool request (Said.Answered answer) same answers = record {
    heap = answers.heap;
    there = answers.there;
    now = answers.now;
    called = answers.called;
    heaps_are = λ p. sym (same p) ∙ answers.heaps_are p;
  }

  -- to equal heaps
  pub tells_to : (named : ℕ → ℕ → Type 0) (thread : ℕ) (first other : Heaps D) {lines : List TraceLine}
      {all : List Said}
      {heaps : Heaps D} → Tells named thread first lines all heaps → ((p : ℕ) → heaps p ≡ other p)
      → Tells named thread first lines all other
  tells_to named thread first other (Tells.begins heaps are) same = Tells.begins other (λ p. sym (same p) ∙ are p)
  tells_to named thread first other (Tells.passes tells line none) same =
      Tells.passes (tells_to named thread first other tells same) line none
  tells_to named thread first other (Tells.speaks {heaps = heaps} tells line own said new is speaks) same =
      Tells.speaks tells line own said other is (record {
        request = speaks.request;
        asks = speaks.asks;
        serves = serves_to heaps new other own.pool speaks.request said same speaks.serves;
        binds = speaks.binds;
      })

  -- from equal heaps
  pub tells_from : (named : ℕ → ℕ → Type 0) (thread : ℕ) (first other : Heaps D) → ((p : ℕ) → first p ≡ other p)
      → {lines : List TraceLine} {all : List Said} {heaps : Heaps D} → Tells named thread first lines all heaps
      → Tells named thread other lines all heaps
  tells_from named thread first other same (Tells.begins heaps are) = Tells.begins heaps (λ p. are p ∙ same p)
  tells_from named thread first other same (Tells.passes tells line none) =
      Tells.passes (tells_from named thread first other same tells) line none
  tells_from named thread first other same (Tells.speaks tells line own said new is speaks) =
      Tells.speaks (tells_from named thread first other same tells) line own said new is speaks

  -- each call of the thread came to something
  pub tells_count : (named : ℕ → ℕ → Type 0) (thread : ℕ) (first : Heaps D) {lines : List TraceLine} {all : List Said}
      {heaps : Heaps D} → Tells named thread first lines all heaps → count_own thread lines ≡ length all
  tells_count named thread first (Tells.begins heaps are) = refl
  tells_count named thread first (Tells.passes {lines = lines} tells line none) =
      own_more thread lines line ∙ ap (λ (o : Option OwnCall). more_own o (count_own thread lines)) none
      ∙ tells_count named thread first tells
  tells_count named thread first (Tells.speaks {lines = lines} {all = all} tells line own said new is speaks) =
      own_more thread lines line ∙ ap (λ (o : Option OwnCall). more_own o (count_own thread lines)) is
      ∙ ap suc (tells_count named thread first tells) ∙ sym (length_more all said)
