-- One line more of what a thread's lines come to.
use Rattle.std.proofs.Common.{◌≡◌, ℕ, suc, ◌<◌, ◌≤◌, List, [], ◌∷◌, ◌++◌, length, refl, sym, ap, ◌∙◌, subst}
use Rattle.std.specs.Prelude.{Option, Some, None}
use Rattle.std.proofs.lemmas.List.{append-nil}
use Rattle.atomic_table.proofs.Lists.{at_last, at_longer}
use Rattle.name_board.specs.declared.rule.Bound.{Bound}
use Rattle.name_board.specs.declared.rule.BoardView.{BoardView}
use Rattle.name_board.specs.Board.{bound, cursor, passed, IsKnown}
use Rattle.pool_types.specs.declared.values.Request.{Request}
use Rattle.trace_reader.specs.declared.acts.TraceCall.{TraceCall}
use Rattle.trace_reader.specs.declared.acts.TraceLine.{TraceLine}
use Rattle.thread_calls.specs.declared.calls.OwnCall.{OwnCall}
use Rattle.thread_calls.specs.declared.calls.Said.{Said}
use Rattle.thread_calls.specs.Calls.{word_of}
use Rattle.thread_lines.specs.Binding.{AddsBound, AddsKnown}
use Rattle.thread_lines.specs.Heaps.{Heaps}
use Rattle.thread_lines.specs.Telling.{Asks, Speaks, Tells}

-- what holds where names have these words holds where they have those too
pub asks_so : (named other : ℕ → ℕ → Type 0) → ((name word : ℕ) → named name word → other name word) →
    (call : TraceCall) (request : Request) → Asks named call request → Asks other call request
asks_so named other so call request asks = record {
  word = asks.word;
  known = λ name is. so name asks.word (asks.known name is);
  request_is = asks.request_is;
}

module _ {D : Type 0} where
  speaks_so : (named other : ℕ → ℕ → Type 0) → ((name word : ℕ) → named name word → other name word) →
      (own : OwnCall) (said : Said) (heaps new : Heaps D) → Speaks named own said heaps new →
      Speaks other own said heaps new
  speaks_so named other so own said heaps new speaks = record {
    request = speaks.request;
    asks = asks_so named other so own.call speaks.request speaks.asks;
    serves = speaks.serves;
    binds = λ name is. so name (word_of said) (speaks.binds name is);
  }

  pub tells_so : (named other : ℕ → ℕ → Type 0) → ((name word : ℕ) → named name word → other name word) →
      (thread : ℕ) (first : Heaps D) {lines : List TraceLine} {all : List Said} {heaps : Heaps D} →
      Tells named thread first lines all heaps → Tells other thread first lines all heaps
  tells_so named other so thread first (Tells.begins heaps same) = Tells.begins heaps same
  tells_so named other so thread first (Tells.passes tells line none) =
      Tells.passes (tells_so named other so thread first tells) line none
  tells_so named other so thread first (Tells.speaks {heaps = heaps} tells line own said new is speaks) =
      Tells.speaks (tells_so named other so thread first tells) line own said new is
      (speaks_so named other so own said heaps new speaks)

-- what is known stays known
pub known_more : (old more : List Bound) (name word : ℕ) → IsKnown old name word → IsKnown (old ++ more) name word
known_more old more name word (j, at) = (j, at_longer old more j (bound name word) at)

pub known_on : (old new : List Bound) → AddsKnown old new → (name word : ℕ) → IsKnown old name word → IsKnown new name word
known_on old new (more, is) name word known =
    subst (λ (bs : List Bound). IsKnown bs name word) (sym is) (known_more old more name word known)

-- what a pen knows after a call that may bind a name
pub record IsBoundOn (b : Option ℕ) (word thread from count : ℕ) (old new : BoardView) : Type 0 where
  pub known : AddsKnown old.known new.known
  pub binds : (name : ℕ) → b ≡ Some name → IsKnown new.known name word
  pub next : ℕ
  pub cursors : new.cursors ≡ cursor thread next ∷ []
  pub low : next ≤ count

pub bound_on : (b : Option ℕ) (word thread from count : ℕ) (old new : BoardView) → from ≤ count →
    ((name : ℕ) → b ≡ Some name → name < count) → old.cursors ≡ cursor thread from ∷ [] →
    AddsBound b word old new → IsBoundOn b word thread from count old new
bound_on None word thread from count old new low names at is = record {
  known = ([], ap (λ (v : BoardView). v.known) is ∙ sym (append-nil old.known));
  binds = λ name no_name. absurd cc;
  next = from;
  cursors = ap (λ (v : BoardView). v.cursors) is ∙ at;
  low = low;
}
bound_on (Some bound_name) word thread from count old new low names at is = record {
  known = (bound bound_name word ∷ [], ap (λ (v : BoardView). v.known) is);
  binds = λ name same. let e : bound_name ≡ name = cc in
      subst (λ (n : ℕ). IsKnown new.known n word) e
      (subst (λ (v : BoardView). IsKnown v.known bound_name word) (sym is)
      (length old.known, at_last old.known (bound bound_name word) (length old.known) refl));
  next = suc bound_name;
  cursors = ap (λ (v : BoardView). v.cursors) is ∙ ap (passed (suc bound_name)) at;
  low = names bound_name refl;
}

-- the name that was waited for is known
pub known_asked : (asked : Option ℕ) (name word : ℕ) (old new : List Bound) → asked ≡ Some name →
    new ≡ old ++ bound name word ∷ [] → (other : ℕ) → asked ≡ Some other → IsKnown new other word
known_asked asked name word old new is adds other same =
    let e : name ≡ other = cc in
    subst (λ (n : ℕ). IsKnown new n word) e (subst (λ (bs : List Bound). IsKnown bs name word) (sym adds)
    (length old, at_last old (bound name word) (length old) refl))
