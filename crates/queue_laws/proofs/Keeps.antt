-- Each step, and so each run, keeps what holds of the queue, and what that tells.
use Rattle.std.proofs.Common.{◌≡◌, ℕ, ◌<◌, Bool, true, false, cond, eqb, List, [], ◌∷◌, sym, ap}
use Rattle.std.proofs.Common.{subst, arith, ◌∙◌}
use Rattle.pool_words.specs.declared.words.Word.{Word}
use Rattle.pool_words.specs.Words.{queues}
use Rattle.guards.specs.declared.win.Taking.{Taking}
use Rattle.chain_words.specs.declared.pushing.PushAt.{PushAt}
use Rattle.chain_words.specs.declared.pushing.PushNext.{PushNext}
use Rattle.chain_words.specs.Pushing.{push_learn}
use Rattle.word_laws.specs.Memory.{stored, found}
use Rattle.word_laws.proofs.CallerLemmas.{less_or}
use Rattle.chain_laws.specs.Chains.{Link, tally, IsChain}
use Rattle.chain_laws.specs.Pushing.{links_of, head_of, push_action}
use Rattle.chain_laws.proofs.CallerLemmas.{tally-here, chains_have_no_repeats}
use Rattle.guard_laws.specs.Blocks.{Use, Place}
use Rattle.guard_laws.specs.Steps.{place_drained}
use Rattle.guard_laws.proofs.CallerLemmas.{range_in, drained_was}
use Rattle.queue_laws.specs.Queue.{told, queue_words, push_of, rest_of, QueuesFit, TaskFits}
use Rattle.queue_laws.specs.Steps.{QueueStep}
use Rattle.queue_laws.specs.Steps.QueueRun.{starts, steps}
use Rattle.queue_laws.specs.Laws.{StepsKeepQueue, RunsKeepQueue, QueuedBlocksAreOnce, AfterPush, PushesQueueOrKeep}
use Rattle.queue_laws.specs.Laws.{SwapTakesTheQueue, TakenLinksTellBlocks}
use Rattle.queue_laws.proofs.Guarded.{links_are, guards-as}
use Rattle.queue_laws.proofs.Pushing.{begins-as, pushes-as}
use Rattle.queue_laws.proofs.Words.{head_leaves_links}
use Rattle.queue_laws.proofs.Draining.{none_queued, takes-as, reads-as, ends-as}

pub steps_keep_queue : StepsKeepQueue
steps_keep_queue k t g m l h m' l' good (QueueStep.guards guards' words' tasks step idle quiet same) =
    guards-as k t g m l guards' words' tasks step idle quiet same good
steps_keep_queue k t g m l h m' l' good (QueueStep.begins x n is away at marked) =
    begins-as k t g m l x n is away at marked good
steps_keep_queue k t g m l h m' l' good (QueueStep.pushes x n at is away) = pushes-as k t g m l x n at is away good
steps_keep_queue k t g m l h m' l' good (QueueStep.takes is) = takes-as k t g m l is good
steps_keep_queue k t g m l h m' l' good (QueueStep.reads x is) = reads-as k t g m l x is good
steps_keep_queue k t g m l h m' l' good (QueueStep.ends is) = ends-as k t g m l is good

pub runs_keep_queue : RunsKeepQueue
runs_keep_queue k g m l h m' l' good starts = good
runs_keep_queue k g m l h m' l' good (steps {g1} {m1} {l1} run seat step) =
    steps_keep_queue k seat g1 m1 l1 h m' l' (runs_keep_queue k g m l g1 m1 l1 good run) step

same_use : (place : ℕ → Place) (x n m : ℕ) (u w : Use) → place x ≡ Place.Block x n u → place x ≡ Place.Block x m w
    → (n ≡ m) × (u ≡ w)
same_use place x n m u w a b = let q : Place.Block x n u ≡ Place.Block x m w = sym a ∙ b in (cc, cc)

pub queued_blocks_are_once : QueuedBlocksAreOnce
queued_blocks_are_once k g m l x n good at = record {
  once = let some = good.is_queued x n at in
      let few = chains_have_no_repeats (links_of queue_words m) (head_of queue_words m) g.queued 0 good.chain.chain x in
      omega arith;
  granules = (same_use g.guards.place x (told m x) n Use.Queued Use.Queued
      (good.queued_is x (good.is_queued x n at)) at).0;
  else = λ t. less_or 0 (tally x (g.drained t))
      (λ some. absurd (let q : Use.Held t Taking.ToJoin ≡ Use.Queued = (same_use g.guards.place x (told m x) n
      (Use.Held t Taking.ToJoin) Use.Queued (good.drained_is t x some) at).1 in cc))
      (λ none. omega arith);
}

pub pushes_queue_or_keep : PushesQueueOrKeep
pushes_queue_or_keep k g m l t x n at good is = by at (subst (λ q. TaskFits g.guards m t q) is (good.tasks t))
  where
    by : (p : PushAt) → QueuesFit g.guards m t x n p
        → AfterPush g t x n (push_learn p
        (found m (push_action queue_words (push_of x n) p)))
    by PushAt.Look fits = fits.hand
    by (PushAt.Link head) fits = fits.hand
    by (PushAt.Exchange head) fits = choose (eqb (m queues 0) head)
      where
        choose : (b : Bool)
            → AfterPush g t x n (cond b (PushNext.Pushed (m queues 0)) (PushNext.Goes (PushAt.Link (m queues 0))))
        choose true = let low = (good.guards.parts.whole x x n (Use.Held t Taking.ToJoin) fits.hand).below in
            range_in g.guards.place x n (Place.Block x n Use.Queued) x (omega arith) low
        choose false = fits.hand

pub swap_takes_the_queue : SwapTakesTheQueue
swap_takes_the_queue k g m l t good is = record {
  chain = subst (λ (f : ℕ → Link). IsChain f (head_of queue_words m) g.queued 0)
      (sym (links_are m (stored k m Word.Queue 0) (head_leaves_links k m 0)))
      good.chain.chain;
  all = λ x n at. ap (place_drained t) at;
  none = λ x n f. let was = drained_was t (g.guards.place x) x n Use.Queued f in none_queued t was.0 was.2;
}

pub taken_links_tell_blocks : TakenLinksTellBlocks
taken_links_tell_blocks k g m l t x good is = good.drained_is t x (first (g.drained t)
    (subst (λ q. IsChain (links_of queue_words m) (rest_of q) (g.drained t) 0) is (good.drains t)))
  where
    first : (items : List ℕ) → IsChain (links_of queue_words m) (Link.To x) items 0 → 0 < tally x items
    first [] chain = let q : Link.To x ≡ Link.Ends 0 = chain in absurd (cc)
    first (y ∷ ys) chain =
        let q : Link.To x ≡ Link.To y = chain.0 in let r : x ≡ y = cc in
        let e = tally-here y ys in subst (λ b. 0 < tally b (y ∷ ys)) (sym r) (omega arith)
