-- Steps on guards, by which no block comes into the queue or leaves it, keep what holds of the queue.
use Rattle.std.proofs.Common.{◌≡◌, ◌≢◌, ℕ, ◌<◌, List, refl, sym, ap, subst, ◌∙◌}
use Rattle.pool_words.specs.declared.words.Key.{Key}
use Rattle.pool_words.specs.Words.{queues, queue_links}
use Rattle.word_codes.specs.QueueLinks.{queue_link_of}
use Rattle.guards.specs.declared.win.Taking.{Taking}
use Rattle.chain_words.specs.declared.pushing.PushAt.{PushAt}
use Rattle.word_laws.specs.Memory.{Mem}
use Rattle.word_laws.proofs.CallerLemmas.{equal_or}
use Rattle.chain_laws.specs.Chains.{Link, tally, IsChain}
use Rattle.chain_laws.specs.Pushing.{links_of, Push, IsPushing}
use Rattle.chain_laws.specs.Seats.{Pusher, PusherFits, ChainGood}
use Rattle.guard_laws.specs.Blocks as blocks
use Rattle.guard_laws.specs.Blocks.{Use, Place, edge_of}
use Rattle.guard_laws.specs.Steps.{GuardStep}
use Rattle.guard_laws.specs.Laws.{HandStays}
use Rattle.guard_laws.proofs.CallerLemmas.{steps_keep_guards, others_leave_hands}
use Rattle.queue_laws.specs.Queue.{queue_link_at, told, queue_words, can_tell, Task, pusher_of, rest_of, Shadow, Locals}
use Rattle.queue_laws.specs.Queue.{IsTold, QueuesFit, TaskFits, QueueGood}
use Rattle.queue_laws.specs.Steps.{SameQueue, IsIdle, IsQuiet}

-- the same links lead the same way
pub links_are : (m m' : Mem) → m' queue_links ≡ m queue_links
    → ◌≡◌ {A = ℕ → Link} (links_of queue_words m') (links_of queue_words m)
links_are m m' same i x = queue_link_at (same i x)

pub told_is : (m m' : Mem) (x : ℕ) → m' queue_links ≡ m queue_links → told m' x ≡ told m x
told_is m m' x same = ap (λ f. (queue_link_of (f x)).granules) same

pushing_same : (m m' : Mem) (p : Push) (at : PushAt) → m' queue_links ≡ m queue_links → IsPushing queue_words m p at
    → IsPushing queue_words m' p at
pushing_same m m' p PushAt.Look same is = tt
pushing_same m m' p (PushAt.Link found) same is = is
pushing_same m m' p (PushAt.Exchange found) same is = ap (λ f. queue_link_at (f p.item)) same ∙ is

pusher_same : (k : Key) (m m' : Mem) (items : List ℕ) (pusher : Pusher) → m' queue_links ≡ m queue_links
    → PusherFits k queue_words can_tell items m pusher → PusherFits k queue_words can_tell items m' pusher
pusher_same k m m' items Pusher.Away same fits = tt
pusher_same k m m' items (Pusher.Pushes p at) same fits = (fits.0, pushing_same m m' p at same fits.1)

chain_same : (k : Key) (m m' : Mem) (pushers : ℕ → Pusher) (items : List ℕ) → SameQueue m m'
    → ChainGood k queue_words can_tell m pushers items 0 → ChainGood k queue_words can_tell m' pushers items 0
chain_same k m m' pushers items same good = record {
  chain = subst (λ h. IsChain (links_of queue_words m') h items 0)
      (ap (λ f. queue_words.reads_head (f 0)) (sym same.head))
      (subst (λ (f : ℕ → Link). IsChain f (queue_words.reads_head (m queues 0)) items 0)
      (sym (links_are m m' same.links)) good.chain);
  head = ap (λ f. can_tell (f 0)) same.head ∙ good.head;
  pushing = λ seat. pusher_same k m m' items (pushers seat) same.links (good.pushing seat);
  apart = good.apart;
}

told_same : (m m' : Mem) (x n : ℕ) (at : PushAt) → told m' x ≡ told m x → IsTold m x n at → IsTold m' x n at
told_same m m' x n PushAt.Look same is = tt
told_same m m' x n (PushAt.Link found) same is = tt
told_same m m' x n (PushAt.Exchange found) same is = same ∙ is

-- what a seat relies on that is about to queue a block stands while others step
pub queues_stand : (g h : blocks.Shadow) (m m' : Mem) (o x n : ℕ) (at : PushAt) → told m' x ≡ told m x
    → (HandStays g h m m' o x n Taking.ToJoin) → QueuesFit g m o x n at → QueuesFit h m' o x n at
queues_stand g h m m' o x n at same stays fits = record {
  hand = stays.place;
  stands = λ e. stays.standing e (fits.stands e);
  guards = λ e. stays.guards e (fits.stands e) ∙ fits.guards e;
  link = told_same m m' x n at same fits.link;
}

pub task_stands : (g h : blocks.Shadow) (m m' : Mem) (o : ℕ) (task : Task)
    → ((x n : ℕ) (at : PushAt) → task ≡ Task.Queues x n at → QueuesFit g m o x n at → QueuesFit h m' o x n at)
    → TaskFits g m o task → TaskFits h m' o task
task_stands g h m m' o Task.Away stands fits = tt
task_stands g h m m' o (Task.Queues x n at) stands fits = stands x n at refl fits
task_stands g h m m' o (Task.Drains rest) stands fits = tt

idle_fits : (g : blocks.Shadow) (m : Mem) (o : ℕ) (task : Task) → IsIdle task → TaskFits g m o task
idle_fits g m o Task.Away idle = tt
idle_fits g m o (Task.Queues x n at) idle = absurd idle
idle_fits g m o (Task.Drains rest) idle = tt

pub guards-as : (k : Key) (t : ℕ) (g : Shadow) (m : Mem) (l : Locals) (h : blocks.Shadow) (m' : Mem)
    (tasks : ℕ → blocks.Task) → GuardStep k t g.guards m l.guards h m' tasks → IsIdle (l.queue t)
    → IsQuiet g.guards.place h.place t (g.drained t) → SameQueue m m' → QueueGood k g m l
    → QueueGood k (record { guards = h; queued = g.queued; drained = g.drained }) m'
    (record { guards = tasks; queue = l.queue })
guards-as k t g m l h m' tasks step idle quiet same good = record {
  guards = steps_keep_guards k t g.guards m l.guards h m' tasks good.guards step;
  chain = chain_same k m m' (λ o. pusher_of (l.queue o)) g.queued same good.chain;
  queued_is = λ x some. subst (λ n. h.place x ≡ Place.Block x n Use.Queued) (sym (told_is m m' x same.links))
      (quiet.to x (told m x) (good.queued_is x some));
  is_queued = λ x n f. good.is_queued x n (quiet.from x n f);
  drains = λ o. subst (λ (f : ℕ → Link). IsChain f (rest_of (l.queue o)) (g.drained o) 0)
      (sym (links_are m m' same.links)) (good.drains o);
  drained_is = λ o x some. subst (λ n. h.place x ≡ Place.Block x n (Use.Held o Taking.ToJoin))
      (sym (told_is m m' x same.links)) (hand o x some);
  tasks = λ o. equal_or o t
      (λ mine. subst (λ b. TaskFits h m' b (l.queue b)) (sym mine) (idle_fits h m' t (l.queue t) idle))
      (λ ne. task_stands g.guards h m m' o (l.queue o) (λ x n at is fits. queues_stand g.guards h m m' o x n at
      (told_is m m' x same.links) (others o x n ne fits.hand) fits) (good.tasks o));
}
  where
    others : (o x n : ℕ) → o ≢ t → g.guards.place x ≡ Place.Block x n (Use.Held o Taking.ToJoin)
        → HandStays g.guards h m m' o x n Taking.ToJoin
    others o x n ne f =
        others_leave_hands k o t g.guards m l.guards h m' tasks x n Taking.ToJoin good.guards step (λ q. ne (sym q)) f

    hand : (o x : ℕ) → 0 < tally x (g.drained o) → h.place x ≡ Place.Block x (told m x) (Use.Held o Taking.ToJoin)
    hand o x some = equal_or o t
        (λ mine. subst (λ b. h.place x ≡ Place.Block x (told m x) (Use.Held b Taking.ToJoin)) (sym mine)
        (quiet.hand x (told m x) (subst (λ b. 0 < tally x (g.drained b)) mine some)
        (subst (λ b. g.guards.place x ≡ Place.Block x (told m x) (Use.Held b Taking.ToJoin)) mine
        (good.drained_is o x some))))
        (λ ne. (others o x (told m x) ne (good.drained_is o x some)).place)
