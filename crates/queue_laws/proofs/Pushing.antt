-- A block is put into the queue.
use Rattle.std.proofs.Common.{◌≡◌, ◌≢◌, ℕ, ◌^◌, ◌<◌, Bool, true, false, cond, eqb, List, [], ◌∷◌}
use Rattle.std.proofs.Common.{refl, sym, ap, subst, arith, ◌∙◌}
use Rattle.pool_words.specs.declared.words.Key.{Key}
use Rattle.pool_words.specs.declared.words.Word.{Word}
use Rattle.pool_words.specs.declared.actions.Action.{Action}
use Rattle.pool_words.specs.Words.{queues, queue_links}
use Rattle.word_codes.specs.declared.guards.Guard.{Guard}
use Rattle.word_codes.specs.Guards.{guard_of}
use Rattle.word_codes.specs.Links.{link_of}
use Rattle.word_codes.specs.QueueLinks.{queue_link_of}
use Rattle.guards.specs.declared.win.Side.{Side}
use Rattle.guards.specs.declared.win.Taking.{Taking}
use Rattle.chain_words.specs.declared.pushing.PushAt.{PushAt}
use Rattle.chain_words.specs.declared.pushing.PushNext.{PushNext}
use Rattle.chain_words.specs.Pushing.{push_learn}
use Rattle.word_laws.specs.Memory.{Mem, put, stored, after, found}
use Rattle.word_laws.proofs.CallerLemmas.{less_or, equal_or, each}
use Rattle.chain_laws.specs.Chains.{Link, tally, IsChain}
use Rattle.chain_laws.specs.Pushing.{links_of, push_action}
use Rattle.chain_laws.specs.Seats.{Pusher, IsAwayFrom, ChainGood, items_after, pusher_after}
use Rattle.chain_laws.proofs.CallerLemmas.{leads-same, tally-here, tally-else, seats_begin, seats_push}
use Rattle.guard_laws.specs.Blocks as blocks
use Rattle.guard_laws.specs.Blocks.{Use, Place, Standing, Piece, at_edge, edge_of, core_in, view_of, put_range}
use Rattle.guard_laws.specs.Blocks.{GuardGood}
use Rattle.guard_laws.specs.Steps.{IsOtherAction, guard_in, with_use, with_edges, GuardStep}
use Rattle.guard_laws.specs.Laws.{HandStays}
use Rattle.guard_laws.proofs.CallerLemmas.{read_puts, steps_keep_guards, others_leave_hands, SameGuards, same_after}
use Rattle.guard_laws.proofs.CallerLemmas.{quiet_stands, away_piece, Moved, used_moves}
use Rattle.queue_laws.specs.Queue.{told, queue_words, can_tell, push_of, Task, pusher_of, rest_of, Shadow, Locals}
use Rattle.queue_laws.specs.Queue.{IsTold, QueuesFit, TaskFits, QueueGood}
use Rattle.queue_laws.specs.Steps.{task_queued, shadow_queued, with_queue}
use Rattle.queue_laws.proofs.Words.{told_back, queue_apart, may_push, link_else, link_here, head_leaves_links}
use Rattle.queue_laws.proofs.Words.{push_is_other}
use Rattle.queue_laws.proofs.Guarded.{links_are, told_is, queues_stand, task_stands}

pub guard_same : (m m' : Mem) → SameGuards m m' → (e : Side) (y : ℕ) → guard_in m' e y ≡ guard_in m e y
guard_same m m' same Side.Begin y = ap (λ (f : ℕ → ℕ). guard_of (f y)) same.sizes'
guard_same m m' same Side.End y = ap (λ (f : ℕ → ℕ). guard_of (f y)) same.lefts'

-- another kind of words is written
pub guards_stay : (k : Key) (t : ℕ) (g : blocks.Shadow) (m : Mem) (tasks : ℕ → blocks.Task) (action : Action)
    → IsOtherAction action → GuardGood k g (core_in m tasks) → GuardGood k g (core_in (after k m action) tasks)
guards_stay k t g m tasks action other good =
    steps_keep_guards k t g m tasks g (after k m action) tasks good (GuardStep.others action other)

pub with_pusher : (k : Key) (m : Mem) (queue : ℕ → Task) (items : List ℕ) (t : ℕ) (task : Task) (pusher : Pusher)
    → pusher_of task ≡ pusher
    → ChainGood k queue_words can_tell m (put (λ j. pusher_of (queue j)) t pusher) items 0
    → ChainGood k queue_words can_tell m (λ j. pusher_of (put queue t task j)) items 0
with_pusher k m queue items t task pusher is good =
    subst (λ (f : ℕ → Pusher). ChainGood k queue_words can_tell m f items 0) (sym (read_puts pusher_of queue t task))
    (subst (λ q. ChainGood k queue_words can_tell m (put (λ j. pusher_of (queue j)) t q) items 0) (sym is) good)

-- two hands' blocks are two blocks
hands_apart : (place : ℕ → Place) (x y n m t o : ℕ) (j i : Taking) → place x ≡ Place.Block x n (Use.Held t j)
    → place y ≡ Place.Block y m (Use.Held o i) → o ≢ t → y ≢ x
hands_apart place x y n m t o j i at f ne same =
    let q : Place.Block x n (Use.Held t j) ≡ Place.Block x m (Use.Held o i) = sym at
    ∙ subst (λ b. place b ≡ Place.Block b m (Use.Held o i)) same f in ne (cc)

queued_apart : (place : ℕ → Place) (x y n m t : ℕ) (j : Taking) → place x ≡ Place.Block x n (Use.Held t j)
    → place y ≡ Place.Block y m Use.Queued → y ≢ x
queued_apart place x y n m t j at f same =
    let q : Place.Block x n (Use.Held t j) ≡ Place.Block x m Use.Queued = sym at
    ∙ subst (λ b. place b ≡ Place.Block b m Use.Queued) same f in absurd (cc)

-- what leads nowhere has no items
ends_empty : (links : ℕ → Link) (items : List ℕ) (y : ℕ) → IsChain links (Link.Ends 0) items 0 → tally y items ≡ 0
ends_empty links [] y chain = refl
ends_empty links (x ∷ xs) y chain = let q : Link.Ends 0 ≡ Link.To x = chain.0 in absurd (cc)

-- a block in hand is in no chain
hand_unqueued : (k : Key) (g : Shadow) (m : Mem) (l : Locals) (t x n : ℕ) (j : Taking)
    → g.guards.place x ≡ Place.Block x n (Use.Held t j) → QueueGood k g m l → tally x g.queued ≡ 0
hand_unqueued k g m l t x n j at good = less_or 0 (tally x g.queued)
    (λ some. absurd (queued_apart g.guards.place x x n (told m x) t j at (good.queued_is x some) refl))
    (λ none. omega arith)

-- a block of this seat, which has none left of a chain that it took, is in no such chain
undrained : (k : Key) (g : Shadow) (m : Mem) (l : Locals) (t x n o y : ℕ) → rest_of (l.queue t) ≡ Link.Ends 0
    → g.guards.place x ≡ Place.Block x n (Use.Held t Taking.ToJoin) → QueueGood k g m l → 0 < tally y (g.drained o)
    → y ≢ x
undrained k g m l t x n o y rest at good some = equal_or o t
    (λ mine. absurd (let e = ends_empty (links_of queue_words m) (g.drained o) y
    (subst (λ b. IsChain (links_of queue_words m) b (g.drained o) 0) (ap (λ b. rest_of (l.queue b)) mine ∙ rest)
    (good.drains o)) in omega arith))
    (λ ne. hands_apart g.guards.place x y n (told m y) t o Taking.ToJoin Taking.ToJoin at (good.drained_is o y some) ne)

pub begins-as : (k : Key) (t : ℕ) (g : Shadow) (m : Mem) (l : Locals) (x n : ℕ) → l.queue t ≡ Task.Away
    → l.guards t ≡ blocks.Task.Away → g.guards.place x ≡ Place.Block x n (Use.Held t Taking.ToJoin)
    → ((e : Side) → guard_in m e (edge_of e x n) ≡ Guard.Coalescing) → QueueGood k g m l
    → QueueGood k g m (with_queue t (Task.Queues x n PushAt.Look) l)
begins-as k t g m l x n is away at marked good = record {
  guards = good.guards;
  chain = with_pusher k m l.queue g.queued t task (Pusher.Pushes (push_of x n) PushAt.Look) refl
      (seats_begin k queue_words can_tell m (λ j. pusher_of (l.queue j)) g.queued 0 t (push_of x n)
      (may_push k g.queued x n good.guards.small low short
      (hand_unqueued k g m l t x n Taking.ToJoin at good)) (λ o. others o (l.queue o) refl) good.chain);
  queued_is = good.queued_is;
  is_queued = good.is_queued;
  drains = each (λ o q. IsChain (links_of queue_words m) (rest_of q) (g.drained o) 0) l.queue t task
      (λ o _. good.drains o)
      (subst (λ q. IsChain (links_of queue_words m) (rest_of q) (g.drained t) 0) is (good.drains t));
  drained_is = good.drained_is;
  tasks = each (λ o q. TaskFits g.guards m o q) l.queue t task (λ o _. good.tasks o) (record {
    hand = at;
    stands = λ e. quiet_stands k.span (view_of g.guards (core_in m l.guards)) x n (Use.Held t Taking.ToJoin) e at
        (away_piece l.guards t x n away) good.guards.parts;
    guards = marked;
    link = tt;
  });
}
  where
    task : Task
    task = Task.Queues x n PushAt.Look

    low : x < k.span
    low = let a = good.guards.parts.within x n (Use.Held t Taking.ToJoin) at in
        let b = (good.guards.parts.whole x x n (Use.Held t Taking.ToJoin) at).below in omega arith

    short : n < 2 ^ 32
    short = let a = good.guards.parts.within x n (Use.Held t Taking.ToJoin) at in
        let b = good.guards.small in omega arith

    others : (o : ℕ) (other : Task) → l.queue o ≡ other → IsAwayFrom x (pusher_of (l.queue o))
    others o other q = subst (λ b. IsAwayFrom x (pusher_of b)) (sym q) (go other q)
      where
        go : (other : Task) → l.queue o ≡ other → IsAwayFrom x (pusher_of other)
        go Task.Away q = tt
        go (Task.Queues y j p) q = λ same.
            let fits = subst (λ b. TaskFits g.guards m o b) q (good.tasks o) in
            hands_apart g.guards.place x y n j t o Taking.ToJoin Taking.ToJoin at fits.hand
            (λ mine. let r : Task.Away ≡ Task.Queues y j p = sym is ∙ ap l.queue (sym mine)
            ∙ q in absurd (cc)) (sym same)
        go (Task.Drains rest) q = tt

-- a step of a push after which it goes on
goes-as : (k : Key) (t : ℕ) (g : Shadow) (m m' : Mem) (l : Locals) (x n : ℕ) (at now : PushAt)
    → l.queue t ≡ Task.Queues x n at → SameGuards m m' → ((y : ℕ) → y ≢ x → m' queue_links y ≡ m queue_links y)
    → IsTold m' x n now → GuardGood k g.guards (core_in m' l.guards)
    → ChainGood k queue_words can_tell m' (put (λ j. pusher_of (l.queue j)) t (Pusher.Pushes (push_of x n) now))
    g.queued 0 → QueueGood k g m l → QueueGood k g m' (with_queue t (Task.Queues x n now) l)
goes-as k t g m m' l x n at now is same links mine guards chain good = record {
  guards = guards;
  chain = with_pusher k m' l.queue g.queued t (Task.Queues x n now) (Pusher.Pushes (push_of x n) now) refl chain;
  queued_is = λ y some. subst (λ j. g.guards.place y ≡ Place.Block y j Use.Queued)
      (sym (else y (queued_apart g.guards.place x y n (told m y) t Taking.ToJoin fits.hand (good.queued_is y some))))
      (good.queued_is y some);
  is_queued = good.is_queued;
  drains = each (λ o q. IsChain (links_of queue_words m') (rest_of q) (g.drained o) 0) l.queue t (Task.Queues x n now)
      (λ o _. leads o (rest_of (l.queue o)) (good.drains o))
      (leads t (Link.Ends 0) (subst (λ q. IsChain (links_of queue_words m) (rest_of q) (g.drained t) 0) is
      (good.drains t)));
  drained_is = λ o y some. subst (λ j. g.guards.place y ≡ Place.Block y j (Use.Held o Taking.ToJoin))
      (sym (else y (undrained k g m l t x n o y (ap rest_of is) fits.hand good some))) (good.drained_is o y some);
  tasks = each (λ o q. TaskFits g.guards m' o q) l.queue t (Task.Queues x n now)
      (λ o ne. task_stands g.guards g.guards m m' o (l.queue o)
      (λ y j p _ old. queues_stand g.guards g.guards m m' o y j p
      (else y (hands_apart g.guards.place x y n j t o Taking.ToJoin Taking.ToJoin fits.hand old.hand ne))
      (record {
        place = old.hand;
        standing = λ e rest. rest;
        guards = λ e rest. guard_same m m' same e
            (edge_of e y j);
      })
      old) (good.tasks o))
      (record {
        hand = fits.hand;
        stands = fits.stands;
        guards = λ e. guard_same m m' same e (edge_of e x n) ∙ fits.guards e;
        link = mine;
      });
}
  where
    fits : QueuesFit g.guards m t x n at
    fits = subst (λ q. TaskFits g.guards m t q) is (good.tasks t)

    else : (y : ℕ) → y ≢ x → told m' y ≡ told m y
    else y ne = ap (λ w. (queue_link_of w).granules) (links y ne)

    leads : (o : ℕ) (here : Link) → IsChain (links_of queue_words m) here (g.drained o) 0
        → IsChain (links_of queue_words m') here (g.drained o) 0
    leads o here chain = leads-same (links_of queue_words m) (links_of queue_words m') here (g.drained o) (Link.Ends 0)
        (λ y some. ap queue_words.reads_link
        (links y (undrained k g m l t x n o y (ap rest_of is) fits.hand good some))) chain

-- the exchange that makes the block the first one
pushed-as : (k : Key) (t : ℕ) (g : Shadow) (m m' : Mem) (l : Locals) (x n at : ℕ)
    → l.queue t ≡ Task.Queues x n (PushAt.Exchange at) → l.guards t ≡ blocks.Task.Away → SameGuards m m'
    → m' queue_links ≡ m queue_links → GuardGood k g.guards (core_in m' l.guards)
    → ChainGood k queue_words can_tell m' (put (λ j. pusher_of (l.queue j)) t Pusher.Away) (x ∷ g.queued) 0
    → QueueGood k g m l
    → QueueGood k (record {
      guards = with_use x n Use.Queued (with_edges x n Standing.Waiting g.guards);
      queued = x ∷ g.queued;
      drained = g.drained;
    }) m' (with_queue t Task.Away l)
pushed-as k t g m m' l x n at is away same links guards chain good = record {
  guards = steps_keep_guards k t g.guards m' l.guards h m' l.guards guards step;
  chain = with_pusher k m' l.queue (x ∷ g.queued) t Task.Away Pusher.Away refl chain;
  queued_is = λ y some. subst (λ j. h.place y ≡ Place.Block y j Use.Queued) (sym (told_is m m' y links))
      (equal_or y x (λ mine. here y mine)
      (λ ne. let old = good.queued_is y (let e = tally-else y x g.queued ne in omega arith) in
      moved.to y (told m y) Use.Queued ne old));
  is_queued = λ y j f. equal_or y x
      (λ mine. let e = tally-here x g.queued in
      subst (λ b. 0 < tally b (x ∷ g.queued)) (sym mine) (omega arith))
      (λ ne. let e = tally-else y x g.queued ne in
      let old = good.is_queued y j (moved.from y j Use.Queued ne f) in omega arith);
  drains = each (λ o q. IsChain (links_of queue_words m') (rest_of q) (g.drained o) 0) l.queue t Task.Away
      (λ o _. leads o (rest_of (l.queue o)) (good.drains o))
      (leads t (Link.Ends 0) (subst (λ q. IsChain (links_of queue_words m) (rest_of q) (g.drained t) 0) is
      (good.drains t)));
  drained_is = λ o y some. subst (λ j. h.place y ≡ Place.Block y j (Use.Held o Taking.ToJoin))
      (sym (told_is m m' y links))
      (moved.to y (told m y) (Use.Held o Taking.ToJoin)
      (undrained k g m l t x n o y (ap rest_of is) fits.hand good some) (good.drained_is o y some));
  tasks = each (λ o q. TaskFits h m' o q) l.queue t Task.Away
      (λ o ne. task_stands g.guards h m m' o (l.queue o)
      (λ y j p _ old. queues_stand g.guards h m m' o y j p (told_is m m' y links)
      (stays (others_leave_hands k o t g.guards m' l.guards h m' l.guards y j Taking.ToJoin guards step
      (λ q. ne (sym q)) old.hand)) old) (good.tasks o)) tt;
}
  where
    h : blocks.Shadow
    h = with_use x n Use.Queued (with_edges x n Standing.Waiting g.guards)

    fits : QueuesFit g.guards m t x n (PushAt.Exchange at)
    fits = subst (λ q. TaskFits g.guards m t q) is (good.tasks t)

    step : GuardStep k t g.guards m' l.guards h m' l.guards
    step = GuardStep.reuses x n (Use.Held t Taking.ToJoin) Use.Queued away refl tt fits.hand
        (λ e. guard_same m m' same e (edge_of e x n) ∙ fits.guards e)

    moved : Moved g.guards.place h.place x n Use.Queued
    moved = used_moves g.guards.place x n (Use.Held t Taking.ToJoin) Use.Queued good.guards.parts.whole fits.hand

    here : (y : ℕ) → y ≡ x → h.place y ≡ Place.Block y (told m y) Use.Queued
    here y mine = subst (λ b. h.place b ≡ Place.Block b (told m b) Use.Queued) (sym mine)
        (moved.here ∙ ap (λ j. Place.Block x j Use.Queued) (sym fits.link))

    leads : (o : ℕ) (first : Link) → IsChain (links_of queue_words m) first (g.drained o) 0
        → IsChain (links_of queue_words m') first (g.drained o) 0
    leads o first chain =
        subst (λ (f : ℕ → Link). IsChain f first (g.drained o) 0) (sym (links_are m m' links)) chain

    stays : {o y j : ℕ} → HandStays g.guards h m' m' o y j Taking.ToJoin → HandStays g.guards h m m' o y j Taking.ToJoin
    stays {o} {y} {j} old = record {
      place = old.place;
      standing = old.standing;
      guards = λ e rest. old.guards e rest ∙ guard_same m m' same e (edge_of e y j);
    }

-- Q1 to Q3
pub pushes-as : (k : Key) (t : ℕ) (g : Shadow) (m : Mem) (l : Locals) (x n : ℕ) (at : PushAt)
    → l.queue t ≡ Task.Queues x n at → l.guards t ≡ blocks.Task.Away → QueueGood k g m l
    → QueueGood k (record {
      guards = shadow_queued x n (push_learn at (found m (push_action queue_words (push_of x n) at))) g.guards;
      queued = items_after (push_of x n) g.queued
          (push_learn at (found m (push_action queue_words (push_of x n) at)));
      drained = g.drained;
    })
    (after k m (push_action queue_words (push_of x n) at))
    (with_queue t (task_queued x n (push_learn at (found m (push_action queue_words (push_of x n) at)))) l)
pushes-as k t g m l x n at is away good = by at is
    (seats_push k queue_words can_tell m (λ j. pusher_of (l.queue j)) g.queued 0 t (push_of x n) at queue_apart
    (omega arith) (ap pusher_of is) good.chain)
    (guards_stay k t g.guards m l.guards (push_action queue_words (push_of x n) at) (push_is_other x n at) good.guards)
    (same_after k m (push_action queue_words (push_of x n) at) (push_is_other x n at))
  where
    fits : QueuesFit g.guards m t x n at
    fits = subst (λ q. TaskFits g.guards m t q) is (good.tasks t)

    low : x < k.span
    low = let a = good.guards.parts.within x n (Use.Held t Taking.ToJoin) fits.hand in
        let b = (good.guards.parts.whole x x n (Use.Held t Taking.ToJoin) fits.hand).below in omega arith

    short : n < 2 ^ 32
    short = let a = good.guards.parts.within x n (Use.Held t Taking.ToJoin) fits.hand in
        let b = good.guards.small in omega arith

    by : (p : PushAt) → l.queue t ≡ Task.Queues x n p
        → ChainGood k queue_words can_tell (after k m (push_action queue_words (push_of x n) p))
        (put (λ j. pusher_of (l.queue j)) t (pusher_after (push_of x n)
        (push_learn p (found m (push_action queue_words (push_of x n) p)))))
        (items_after (push_of x n) g.queued (push_learn p (found m (push_action queue_words (push_of x n) p)))) 0
        → GuardGood k g.guards (core_in (after k m (push_action queue_words (push_of x n) p)) l.guards)
        → SameGuards m (after k m (push_action queue_words (push_of x n) p))
        → QueueGood k (record {
          guards = shadow_queued x n (push_learn p (found m (push_action queue_words (push_of x n) p))) g.guards;
          queued = items_after (push_of x n) g.queued
              (push_learn p (found m (push_action queue_words (push_of x n) p)));
          drained = g.drained;
        })
        (after k m (push_action queue_words (push_of x n) p))
        (with_queue t (task_queued x n (push_learn p (found m (push_action queue_words (push_of x n) p)))) l)
    by PushAt.Look is chain guards same =
        goes-as k t g m m l x n PushAt.Look (PushAt.Link (m queues 0)) is same (λ _ _. refl) tt guards chain good
    by (PushAt.Link head) is chain guards same =
        goes-as k t g m (stored k m (Word.QueueLink x) ((push_of x n).linked head)) l x n (PushAt.Link head)
        (PushAt.Exchange head) is same (λ y ne. link_else k m x y ((push_of x n).linked head) low (λ q. ne (sym q)))
        (ap (λ w. (queue_link_of w).granules) (link_here k m x ((push_of x n).linked head) low)
        ∙ told_back (link_of head) n short) guards chain good
    by (PushAt.Exchange head) is chain guards same = choose (eqb (m queues 0) head) chain guards same
      where
        next : Bool → PushNext
        next b = cond b (PushNext.Pushed (m queues 0)) (PushNext.Goes (PushAt.Link (m queues 0)))

        then : Bool → Mem
        then b = cond b (stored k m Word.Queue (push_of x n).filled) m

        choose : (b : Bool)
            → ChainGood k queue_words can_tell (then b)
            (put (λ j. pusher_of (l.queue j)) t (pusher_after (push_of x n) (next b)))
            (items_after (push_of x n) g.queued (next b)) 0
            → GuardGood k g.guards (core_in (then b) l.guards) → SameGuards m (then b)
            → QueueGood k (record {
              guards = shadow_queued x n (next b) g.guards;
              queued = items_after (push_of x n) g.queued (next b);
              drained = g.drained;
            }) (then b) (with_queue t (task_queued x n (next b)) l)
        choose true chain guards same =
            pushed-as k t g m (stored k m Word.Queue (push_of x n).filled) l x n head is away same
            (head_leaves_links k m (push_of x n).filled) guards chain good
        choose false chain guards same =
            goes-as k t g m m l x n (PushAt.Exchange head) (PushAt.Link (m queues 0)) is same (λ _ _. refl) tt guards
            chain good
