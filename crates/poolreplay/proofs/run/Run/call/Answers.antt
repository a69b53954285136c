use Rattle.std.proofs.Common.{subst}
use Rattle.std.specs.declared.option.Option.{Option}
use Rattle.plain_pool.specs.declared.arrays.PoolArrays.{PoolArrays}
use Rattle.poolreplay.specs.Running.{IsAt}
use Rattle.poolreplay.proofs.Steps.{called, called_entry}
use Rattle.poolreplay.proofs.run.Run.call.Goals as goal

pub returns-in-Ok-clause-going : goal.returns-in-Ok-clause-going
returns-in-Ok-clause-going c = λ going here.
    called c.in-Some.pool _ c.args.self.now.places _ c.args.call.now c.in-Ok.answer c.in-Ok.ensures.pool c.in-Ok.ensures.names c.in-Ok.ensures.answer going
    (subst (λ (pool : Option PoolArrays). IsAt pool c.args.self.now.places going) c.in-Some.is here)

pub returns-in-Ok-clause-entry : goal.returns-in-Ok-clause-entry
returns-in-Ok-clause-entry c = λ going here.
    called_entry c.args.line c.in-Some.pool c.args.self.now.places c.args.call.now c.in-Ok.answer c.in-Ok.ensures.answer going
    (subst (λ (pool : Option PoolArrays). IsAt pool c.args.self.now.places going) c.in-Some.is here)
