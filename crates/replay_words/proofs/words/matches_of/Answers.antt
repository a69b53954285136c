use Rattle.replay_words.proofs.AcceptLemmas.{accepts_matches, refuses}
use Rattle.replay_words.proofs.words.matches_of.Goals as goal

pub returns-in-Ok : goal.returns-in-Ok
returns-in-Ok c = accepts_matches _ _ c.in-Ok.matches c.requires (c.in-Ok.ensures.kinds c.requires) c.in-Ok.ensures.matches

pub returns-then-is_refusal : goal.returns-then-is_refusal
returns-then-is_refusal c = refuses _ _ c.in-Err.error (c.is_refusal.ensures c.if-is_refusal.true) (c.in-Err.ensures.kinds c.requires)
