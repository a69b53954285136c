use Rattle.std.proofs.Common.{sym, ap, ◌∙◌, subst}
use Rattle.quiet_pool.specs.Held.{locals_of, quiet_of}
use Rattle.quiet_pool.specs.Resets.{HeapsReset}
use Rattle.quiet_pool.proofs.Parts.{all_rest}
use Rattle.quiet_pool.proofs.resets.resets.Goals as goal

pub returns-clause-reset : goal.returns-clause-reset
returns-clause-reset g c = record {
  mid = quiet_of c.args.plan.now c.args.office.now (locals_of c.heaps_parts.new.heaps) c.heaps_parts.new.place.me;
  heaps = subst (λ n. HeapsReset (quiet_of c.args.plan.now c.args.office.now
      (locals_of c.args.heaps.now) c.args.place.now.me) n
      (quiet_of c.args.plan.now c.args.office.now (locals_of c.heaps_parts.new.heaps) c.heaps_parts.new.place.me))
      (ap (λ k. k.seats) c.requires.key) c.heaps_parts.ensures.parts;
  pool = c.part.ensures.part;
}

pub returns-clause-rests : goal.returns-clause-rests
returns-clause-rests g c =
    all_rest c.args.key.now.seats 0 (locals_of c.heaps_parts.new.heaps) (locals_of c.part.new.heaps)
    (c.part.ensures.state.count ∙ sym (ap (λ k. k.seats) c.requires.key)) c.heaps_parts.ensures.rests
    c.part.ensures.rests
