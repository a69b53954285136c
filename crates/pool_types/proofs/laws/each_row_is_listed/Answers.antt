use Rattle.pool_types.proofs.CallerLemmas as lemmas
use Rattle.pool_types.proofs.laws.each_row_is_listed.Goals as goal

pub returns-clause-law : goal.returns-clause-law
returns-clause-law c = lemmas.each_row_is_listed
