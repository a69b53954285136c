-- A region is apart from the others where none is met.
use Rattle.std.proofs.Common.{◌≡◌, arith, sym, ◌∙◌, refl, true, false}
use Rattle.pool_types.specs.Regions.{overlaps}
use Rattle.pool_types.proofs.Bases.{find-none, find-some}
use Rattle.pool_types.proofs.scripted.fresh_or_none.Goals as goal

pub returns-in-None-clause-some : goal.returns-in-None-clause-some
returns-in-None-clause-some c = (refl, record { room = omega arith; ends = omega arith; apart = find-none (λ one. overlaps one c.args.region) c.args.out.now (sym c.in-None.ensures) })

pub returns-in-Some-clause-none : goal.returns-in-Some-clause-none
returns-in-Some-clause-none c = λ fresh. let met : true ≡ false = sym (find-some (λ one. overlaps one c.args.region) c.args.out.now c.in-Some.field-0 (sym c.in-Some.ensures)) ∙ fresh.apart in cc
