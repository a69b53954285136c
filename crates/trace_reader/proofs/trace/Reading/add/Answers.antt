use Rattle.std.proofs.Common.{inl, inr, ◌≡◌, ◌∙◌, ap, sym, refl, subst, arith, List, ℕ, map}
use Rattle.std.specs.Prelude.{Ok, Err, Some}
use Rattle.std.specs.Borrow.{Bor}
use Rattle.trace_reader.specs.Words.{bytes_in, words_of}
use Rattle.trace_reader.specs.Contexts.{context_of}
use Rattle.trace_reader.specs.Acts.{Enters, ReadsWords}
use Rattle.trace_reader.proofs.EnterLemmas.{line_known}
use Rattle.trace_reader.proofs.trace.Reading.add.Goals as goal

pub enter-requires : goal.enter-requires
enter-requires c = record {
  room = omega arith;
  known = line_known c.args.forms (context_of c.args.self.now.context) (map bytes_in c.as_slice-in-Ok.result.now) c.in-Ok.act
      (subst (λ (ws : List (Bor (List ℕ))). ReadsWords c.args.forms (context_of c.args.self.now.context) (map bytes_in ws) (Ok c.in-Ok.act)) (c.as_slice.ensures.value ∙ sym c.as_slice-in-Ok.ensures.value) c.in-Ok.ensures);
}

pub returns-in_ok-push-in-Ok : goal.returns-in_ok-push-in-Ok
returns-in_ok-push-in-Ok c =
    let same : map bytes_in c.as_slice.result.now ≡ words_of c.args.text.now = ap (map bytes_in) c.as_slice.ensures.value ∙ c.in_ok-split_parts.ensures in
    let entered : map bytes_in c.as_slice-in-Ok.result.now ≡ words_of c.args.text.now = ap (map bytes_in) c.as_slice-in-Ok.ensures.value ∙ c.in_ok-split_parts.ensures in (
      Some c.in-Ok.act,
      inr (inr (inr (inr (
        c.if-text-gt-MOST_LINE_BYTES.false,
        c.if-number-gt-MOST_LINES.false,
        sym c.if-is_skipped.ensures,
        c.in-Ok.act,
        subst (λ (ws : List (List ℕ)). ReadsWords c.args.forms (context_of c.args.self.now.context) ws (Ok c.in-Ok.act)) same c.in-Ok.ensures,
        refl,
      )))),
      (
        subst (λ (ws : List (List ℕ)). Enters (context_of c.args.self.now.context) ws c.in-Ok.act (context_of c.enter.new.self)) entered c.in_ok-enter-in-Ok.ensures,
        c.in_ok-push-in-Ok.ensures.items,
      ),
    )

pub returns-in-Err : goal.returns-in-Err
returns-in-Err c =
    let same : map bytes_in c.as_slice.result.now ≡ words_of c.args.text.now = ap (map bytes_in) c.as_slice.ensures.value ∙ c.in_ok-split_parts.ensures in
    inr (inr (inr (inl (
      c.if-text-gt-MOST_LINE_BYTES.false,
      c.if-number-gt-MOST_LINES.false,
      sym c.if-is_skipped.ensures,
      c.in-Err.refusal,
      subst (λ (ws : List (List ℕ)). ReadsWords c.args.forms (context_of c.args.self.now.context) ws (Err c.in-Err.refusal)) same c.in-Err.ensures,
      refl,
    ))))
