-- The queue is taken, and the blocks that were taken are put one after the other.
use Rattle.std.proofs.Common.{◌≡◌, ℕ, ◌<◌, ◌≤◌, Some, None, List, [], ◌∷◌, refl, sym, ap, subst, arith}
use Rattle.std.proofs.Common.{◌∙◌}
use Rattle.pool_words.specs.declared.words.Key.{Key}
use Rattle.pool_words.specs.declared.words.Word.{Word}
use Rattle.pool_words.specs.declared.actions.Action.TheVariants.{Swap}
use Rattle.pool_words.specs.Words.{queues, queue_links}
use Rattle.word_codes.specs.Links.{link_of}
use Rattle.word_codes.specs.QueueLinks.{queue_link_of}
use Rattle.guards.specs.declared.win.Taking.{Taking}
use Rattle.word_laws.specs.Memory.{Mem, put, after}
use Rattle.word_laws.proofs.CallerLemmas.{each, both}
use Rattle.chain_laws.specs.Chains.{Link, tally, IsChain}
use Rattle.chain_laws.specs.Pushing.{links_of}
use Rattle.chain_laws.specs.Seats.{Pusher, ChainGood}
use Rattle.chain_laws.proofs.CallerLemmas.{tally-more, seats_take}
use Rattle.lock_laws.proofs.CallerLemmas.{link_at-end}
use Rattle.guard_laws.specs.Blocks as blocks
use Rattle.guard_laws.specs.Blocks.{Use, Place, edge_of, core_in, GuardGood}
use Rattle.guard_laws.specs.Steps.{use_drained, place_drained, shadow_drained, GuardStep}
use Rattle.guard_laws.specs.Laws.{HandStays}
use Rattle.guard_laws.proofs.CallerLemmas.{read_same, steps_keep_guards, others_leave_hands, SameGuards, same_after}
use Rattle.guard_laws.proofs.CallerLemmas.{drained_was}
use Rattle.queue_laws.specs.Queue.{told, queue_words, can_tell, Task, pusher_of, rest_of, Shadow, Locals, TaskFits}
use Rattle.queue_laws.specs.Queue.{QueueGood}
use Rattle.queue_laws.specs.Steps.{behind, with_queue}
use Rattle.queue_laws.proofs.Words.{queue_apart, head_leaves_links, swap_is_other}
use Rattle.queue_laws.proofs.Guarded.{links_are, told_is, queues_stand, task_stands}
use Rattle.queue_laws.proofs.Pushing.{guard_same, guards_stay}

-- a seat that pushes nothing goes on and pushes nothing
same_pushers : (k : Key) (m : Mem) (queue : ℕ → Task) (items : List ℕ) (t : ℕ) (task : Task)
    → pusher_of task ≡ pusher_of (queue t) → ChainGood k queue_words can_tell m (λ j. pusher_of (queue j)) items 0
    → ChainGood k queue_words can_tell m (λ j. pusher_of (put queue t task j)) items 0
same_pushers k m queue items t task is good =
    subst (λ (f : ℕ → Pusher). ChainGood k queue_words can_tell m f items 0)
    (sym (read_same pusher_of queue t task is)) good

pub none_queued : (t : ℕ) (u : Use) → use_drained t u ≡ Use.Queued → ⊥
none_queued t Use.Bin q = absurd (cc)
none_queued t (Use.Held o j) q = absurd (cc)
none_queued t Use.Queued q = absurd (cc)
none_queued t Use.Elsewhere q = absurd (cc)

-- Q4
pub takes-as : (k : Key) (t : ℕ) (g : Shadow) (m : Mem) (l : Locals) → l.queue t ≡ Task.Away → QueueGood k g m l
    → QueueGood k (record {
      guards = shadow_drained t g.guards;
      queued = [];
      drained = put g.drained t g.queued;
    }) (after k m (Swap Word.Queue 0)) (with_queue t (Task.Drains (link_of (m queues 0))) l)
takes-as k t g m l is good = record {
  guards = steps_keep_guards k t g.guards m' l.guards h m' l.guards guards GuardStep.drains;
  chain = same_pushers k m' l.queue [] t task (sym (ap pusher_of is))
      (seats_take k queue_words can_tell m (λ j. pusher_of (l.queue j)) g.queued 0 0 0 queue_apart (omega arith)
      link_at-end refl good.chain);
  queued_is = λ x some. absurd (omega arith);
  is_queued = λ x n f. let was = drained_was t (g.guards.place x) x n Use.Queued f in
      absurd (none_queued t was.0 was.2);
  drains = both (λ o q items. IsChain (links_of queue_words m') (rest_of q) items 0) l.queue g.drained t task g.queued
      (λ o _. leads (rest_of (l.queue o)) (g.drained o) (good.drains o))
      (leads (queue_words.reads_head (m queues 0)) g.queued good.chain.chain);
  drained_is = λ o. each (λ o items. (x : ℕ) → 0 < tally x items
      → h.place x ≡ Place.Block x (told m' x) (Use.Held o Taking.ToJoin)) g.drained t g.queued
      (λ o _ x some. subst (λ n. h.place x ≡ Place.Block x n (Use.Held o Taking.ToJoin)) (sym (told_is m m' x links))
      (ap (place_drained t) (good.drained_is o x some)))
      (λ x some. subst (λ n. h.place x ≡ Place.Block x n (Use.Held t Taking.ToJoin)) (sym (told_is m m' x links))
      (ap (place_drained t) (good.queued_is x some))) o;
  tasks = each (λ o q. TaskFits h m' o q) l.queue t task
      (λ o ne. task_stands g.guards h m m' o (l.queue o)
      (λ x n p _ old. queues_stand g.guards h m m' o x n p (told_is m m' x links)
      (stays o x n (others_leave_hands k o t g.guards m' l.guards h m' l.guards x n Taking.ToJoin guards
      GuardStep.drains
      (λ q. ne (sym q)) old.hand)) old) (good.tasks o)) tt;
}
  where
    m' : Mem
    m' = after k m (Swap Word.Queue 0)

    h : blocks.Shadow
    h = shadow_drained t g.guards

    task : Task
    task = Task.Drains (link_of (m queues 0))

    links : m' queue_links ≡ m queue_links
    links = head_leaves_links k m 0

    same : SameGuards m m'
    same = same_after k m (Swap Word.Queue 0) swap_is_other

    guards : GuardGood k g.guards (core_in m' l.guards)
    guards = guards_stay k t g.guards m l.guards (Swap Word.Queue 0) swap_is_other good.guards

    leads : (here : Link) (items : List ℕ) → IsChain (links_of queue_words m) here items 0
        → IsChain (links_of queue_words m') here items 0
    leads here items chain = subst (λ (f : ℕ → Link). IsChain f here items 0) (sym (links_are m m' links)) chain

    stays : (o x n : ℕ) → HandStays g.guards h m' m' o x n Taking.ToJoin → HandStays g.guards h m m' o x n Taking.ToJoin
    stays o x n old = record {
      place = old.place;
      standing = old.standing;
      guards = λ e rest. old.guards e rest ∙ guard_same m m' same e (edge_of e x n);
    }

behind_less : (x : ℕ) (items : List ℕ) → tally x (behind items) ≤ tally x items
behind_less x [] = omega arith
behind_less x (y ∷ ys) = tally-more x y ys

-- Q5
pub reads-as : (k : Key) (t : ℕ) (g : Shadow) (m : Mem) (l : Locals) (x : ℕ) → l.queue t ≡ Task.Drains (Some x)
    → QueueGood k g m l
    → QueueGood k (record {
      guards = g.guards;
      queued = g.queued;
      drained = put g.drained t (behind (g.drained t));
    }) m (with_queue t (Task.Drains (queue_link_of (m queue_links x)).next) l)
reads-as k t g m l x is good = record {
  guards = good.guards;
  chain = same_pushers k m l.queue g.queued t task (sym (ap pusher_of is)) good.chain;
  queued_is = good.queued_is;
  is_queued = good.is_queued;
  drains = both (λ o q items. IsChain (links_of queue_words m) (rest_of q) items 0) l.queue g.drained t task
      (behind (g.drained t)) (λ o _. good.drains o)
      (next (g.drained t) (subst (λ q. IsChain (links_of queue_words m) (rest_of q) (g.drained t) 0) is
      (good.drains t)));
  drained_is = λ o. each (λ o items. (y : ℕ) → 0 < tally y items
      → g.guards.place y ≡ Place.Block y (told m y) (Use.Held o Taking.ToJoin)) g.drained t (behind (g.drained t))
      (λ o _ y some. good.drained_is o y some)
      (λ y some. good.drained_is t y (let l = behind_less y (g.drained t) in omega arith)) o;
  tasks = each (λ o q. TaskFits g.guards m o q) l.queue t task (λ o _. good.tasks o) tt;
}
  where
    task : Task
    task = Task.Drains (queue_link_of (m queue_links x)).next

    next : (items : List ℕ) → IsChain (links_of queue_words m) (Link.To x) items 0
        → IsChain (links_of queue_words m) (rest_of task) (behind items) 0
    next [] chain = let q : Link.To x ≡ Link.Ends 0 = chain in absurd (cc)
    next (y ∷ ys) chain =
        let q : Link.To x ≡ Link.To y = chain.0 in let r : y ≡ x = cc in
        subst (λ b. IsChain (links_of queue_words m) (links_of queue_words m b) ys 0) r chain.1

pub ends-as : (k : Key) (t : ℕ) (g : Shadow) (m : Mem) (l : Locals) → l.queue t ≡ Task.Drains None
    → QueueGood k g m l → QueueGood k g m (with_queue t Task.Away l)
ends-as k t g m l is good = record {
  guards = good.guards;
  chain = same_pushers k m l.queue g.queued t Task.Away (sym (ap pusher_of is)) good.chain;
  queued_is = good.queued_is;
  is_queued = good.is_queued;
  drains = each (λ o q. IsChain (links_of queue_words m) (rest_of q) (g.drained o) 0) l.queue t Task.Away
      (λ o _. good.drains o)
      (subst (λ q. IsChain (links_of queue_words m) (rest_of q) (g.drained t) 0) is (good.drains t));
  drained_is = good.drained_is;
  tasks = each (λ o q. TaskFits g.guards m o q) l.queue t Task.Away (λ o _. good.tasks o) tt;
}
