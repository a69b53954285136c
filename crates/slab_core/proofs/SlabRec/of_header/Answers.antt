use Rattle.std.proofs.Common.{◌≡◌, true, false, ap, subst, sym, ◌∙◌, refl, Some}
use Rattle.slab_core.specs.declared.SlabRec.{SlabRec}
use Rattle.slab_core.specs.Slabs.{IsValid}
use Rattle.slab_core.specs.Headers.{IsHeaderOf}
use Rattle.slab_core.proofs.HeaderLemmas.{is_header, record_in-header, record_in-index, record_in-valid, header-above}
use Rattle.slab_core.proofs.SlabRec.of_header.Goals as goal
use Rattle.slab_core.proofs.SlabRec.of_header.Goals.{else-word-eq0-via-then-word-eq0+else-is_valid, else-word-eq0-via-else-word-eq0}

pub returns-then-is_valid-clause-header : goal.returns-then-is_valid-clause-header
returns-then-is_valid-clause-header c =
    subst (λ (slab : SlabRec). IsHeaderOf c.args.class c.args.word slab) (sym c.record_in-slab.ensures)
    (is_header c.args.class c.args.index c.args.word c.if-word-eq0.true (subst IsValid c.record_in-slab.ensures (c.is_valid.ensures.0 c.if-is_valid.true)))

pub returns-then-is_valid-clause-none : goal.returns-then-is_valid-clause-none
returns-then-is_valid-clause-none c = ((λ no. absurd (let differ : true ≡ false = no in cc)), (λ none. absurd (none c.record_in-slab.result (returns-then-is_valid-clause-header c))))

pub returns-then-is_valid-clause-index : goal.returns-then-is_valid-clause-index
returns-then-is_valid-clause-index c = ap (λ (slab : SlabRec). slab.index) c.record_in-slab.ensures ∙ record_in-index c.args.class c.args.index c.args.word

pub returns-then-is_valid-clause-again : goal.returns-then-is_valid-clause-again
returns-then-is_valid-clause-again c slab is = ap (λ (s : SlabRec). Some s) (c.record_in-slab.ensures ∙ record_in-header c.args.class c.args.index c.args.word slab is)

pub returns-else-word-eq0-clause-none : goal.returns-else-word-eq0-clause-none
returns-else-word-eq0-clause-none c = (
  (λ none slab is.
      let valid : IsValid c.record_in-slab.result = subst IsValid (sym c.record_in-slab.ensures) (record_in-valid c.args.class c.args.index c.args.word slab is) in
      elim c.else-word-eq0.branch [
        | else-word-eq0-via-then-word-eq0+else-is_valid w ↦ absurd (let yes_valid : true ≡ false = sym (w.is_valid.ensures.1 valid) ∙ w.if-is_valid.false in cc)
        | else-word-eq0-via-else-word-eq0 w ↦ absurd (w.if-word-eq0.false (header-above c.args.class c.args.word slab is))
      ]),
  (λ none. refl),
)

pub returns-else-word-eq0-clause-again : goal.returns-else-word-eq0-clause-again
returns-else-word-eq0-clause-again c slab is = absurd ((returns-else-word-eq0-clause-none c).0 refl slab is)
