-- What a good whole says around a seat that is at no guard, bin or queue.
use Rattle.std.proofs.Common.{◌≡◌, ◌∙◌, [], ◌∷◌, ℕ, List, ap, refl, sym, subst}
use Rattle.pool_words.specs.declared.words.Key.{Key}
use Rattle.chain_laws.specs.Chains.{IsChain, Link, tally}
use Rattle.chain_laws.specs.Pushing.{links_of}
use Rattle.guard_laws.specs.Blocks.{Piece}
use Rattle.bin_laws.specs.Steps.{kept_of}
use Rattle.queue_laws.specs.Queue as queues
use Rattle.queue_laws.specs.Steps.{IsIdle}
use Rattle.cache_laws.specs.Good as caches
use Rattle.free_laws.specs.Steps.{IsLoose}
use Rattle.bin_laws.specs.Bins as bins
use Rattle.pool_laws.specs.Steps.{IsFree}
use Rattle.pool_laws.specs.Wholes.{Whole, WholeGood, space_of}

-- a seat off the backend and off the cache
pub record IsOff (w : Whole) (seat : ℕ) : Type 0 where
  pub bins : w.bins seat ≡ bins.Task.Away
  pub queue : w.queue seat ≡ queues.Task.Away
  pub jobs : w.jobs seat ≡ caches.Task.Away

no_chain : (links : ℕ → Link) (items : List ℕ) → IsChain links (Link.Ends 0) items 0 → items ≡ []
no_chain links [] chain = refl
no_chain links (x ∷ xs) chain = absurd (let e : Link.Ends 0 ≡ Link.To x = chain.0 in cc)

pub nothing_drained : (k : Key) (w : Whole) (seat : ℕ) → WholeGood k w → w.queue seat ≡ queues.Task.Away
    → w.drained seat ≡ []
nothing_drained k w seat good away =
    no_chain (links_of queues.queue_words w.pool.mem) (w.drained seat)
    (subst (λ task. IsChain (links_of queues.queue_words w.pool.mem) (queues.rest_of task) (w.drained seat) 0) away
    (good.free.queue.drains seat))

pub loose : (k : Key) (w : Whole) (seat x : ℕ) → WholeGood k w → IsOff w seat → IsLoose (space_of w) seat x
loose k w seat x good off = record {
  listed = λ n is. absurd (let r : Piece.NoPiece ≡ Piece.Got x n = sym (ap (λ t. kept_of t) off.bins) ∙ is in cc);
  taken = ap (λ xs. tally x xs) (nothing_drained k w seat good off.queue);
}

pub free : (w : Whole) (seat : ℕ) → IsOff w seat → IsFree w seat
free w seat off = record {
  shelf = ap (λ t. caches.hand t) off.jobs;
  queue = subst (λ t. IsIdle t) (sym off.queue) tt;
}
