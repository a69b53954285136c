-- The steps of a seat on the whole: each is a step of every group at once. What it rests on is what its own seat is
-- about to do, and what it has in hand.
use Rattle.std.specs.Prelude.{◌≡◌, ℕ, ◌+◌, Option, None, ⊤}
use Rattle.pool_words.specs.declared.words.Key.{Key}
use Rattle.pool_words.specs.declared.actions.Action.{Action}
use Rattle.word_codes.specs.Places.{slab_granule}
use Rattle.guards.specs.declared.win.Taking.{Taking}
use Rattle.guards.specs.Win.{win_course, win_learn}
use Rattle.backend_bins.specs.Blocks.{bin_of}
use Rattle.public_list.specs.declared.joining.JoinAt.{JoinAt}
use Rattle.public_list.specs.Joining.{join_course, join_learn}
use Rattle.orphans.specs.declared.adopting.AdoptAt.{AdoptAt}
use Rattle.orphans.specs.declared.leaving.LeaveNext.{LeaveNext}
use Rattle.orphans.specs.Leaving.{leave_course, leave_learn}
use Rattle.word_laws.specs.Memory.{Mem, put, after, found}
use Rattle.guard_laws.specs.Blocks as blocks
use Rattle.guard_laws.specs.Steps.{GuardStep}
use Rattle.slab_laws.specs.Books.{Keeper}
use Rattle.object_laws.specs.Objects as objects
use Rattle.object_laws.specs.Objects.Task.{Away, Joining}
use Rattle.object_laws.specs.Rows.{shadow_joined, joined_as}
use Rattle.object_laws.specs.Steps.{ObjectStep, join_of}
use Rattle.mail_laws.specs.Mail as mailing
use Rattle.mail_laws.specs.Mail.{Mail}
use Rattle.mail_laws.specs.Steps.{MailStep}
use Rattle.orphan_laws.specs.Orphans as orphaning
use Rattle.orphan_laws.specs.Orphans.{IsLeaving, Task}
use Rattle.orphan_laws.specs.Steps.{OrphanStep, with_way, leave_of, return_of}
use Rattle.bin_laws.specs.Bins as binning
use Rattle.bin_laws.specs.Steps.{IsReady, BinStep}
use Rattle.queue_laws.specs.Queue as queues
use Rattle.queue_laws.specs.Steps.{IsIdle, QueueStep}
use Rattle.cache_laws.specs.Good.{hand}
use Rattle.use_laws.specs.Pools.{Pool, InHand}
use Rattle.use_laws.specs.After.{with_mem, pool_joined, pool_begun, pool_ended}
use Rattle.use_laws.specs.Steps.{PoolStep}
use Rattle.shelf_laws.specs.Shelves as shelving
use Rattle.shelf_laws.specs.Steps.{ShelfStep}
use Rattle.region_laws.specs.Granules as regions
use Rattle.region_laws.specs.Steps.{RegionStep}
use Rattle.free_laws.specs.Steps.{with_guards, with_bins, with_queue, IsLoose, IsHand, IsNotWon, Writes, IsWordIn}
use Rattle.free_laws.specs.Steps.{IsAtBins, IsAtQueue}
use Rattle.free_laws.specs.Spaces.{bins_of, bin_tasks, queue_of, queue_tasks}
use Rattle.post_laws.specs.Posts.{Post, locals_of, IsNoJoin}
use Rattle.post_laws.specs.Steps.{PostStep}
use Rattle.pool_laws.specs.Wholes.{Whole, shelf_of, regions_of, space_of, post_of}
use Rattle.pool_laws.specs.Changes.{with_pool, with_shelf, with_regions, with_space, with_post, with_ways}

-- a seat that puts no block into the cache of large blocks and none into the queue just then
pub record IsFree (w : Whole) (seat : ℕ) : Type 0 where
  pub shelf : hand (w.jobs seat) ≡ None
  pub queue : IsIdle (w.queue seat)

-- a step on guards by which no block comes to rest, into a bin or into the queue, or leaves these, and no region comes
-- or leaves; a block that is cut, joined or marked anew is in no list from which the seat is to take it out
abbrev pub KeepsWhole : (k : Key) (seat : ℕ) (w : Whole) (h : blocks.Shadow) (m' : Mem) (tasks : ℕ → blocks.Task)
    → GuardStep k seat w.pool.blocks w.pool.mem w.pool.tasks h m' tasks → Type 0
KeepsWhole k seat w h m' tasks (GuardStep.begins c is fits) = IsReady c.granules (w.bins seat)
KeepsWhole k seat w h m' tasks (GuardStep.wins c at is) = IsNotWon (win_learn c at (found w.pool.mem (win_course c at)))
KeepsWhole k seat w h m' tasks (GuardStep.offers x n taking is at) = w.bins seat ≡ binning.Task.Has (bin_of n)
KeepsWhole k seat w h m' tasks (GuardStep.offered x n is) = ⊥
KeepsWhole k seat w h m' tasks (GuardStep.marks e x n taking guard is at fits) = ⊤
KeepsWhole k seat w h m' tasks (GuardStep.readies e x n y taking at low high) = ⊤
KeepsWhole k seat w h m' tasks (GuardStep.splits x a b is some more at used) = IsLoose (space_of w) seat x
KeepsWhole k seat w h m' tasks (GuardStep.merges x a b is at behind) =
    IsLoose (space_of w) seat x × IsLoose (space_of w) seat (x + a)
KeepsWhole k seat w h m' tasks (GuardStep.reuses x n was now is own own' at fits) =
    IsHand seat was × IsHand seat now × IsLoose (space_of w) seat x
KeepsWhole k seat w h m' tasks GuardStep.drains = ⊥
KeepsWhole k seat w h m' tasks (GuardStep.walls e y low none) = ⊥
KeepsWhole k seat w h m' tasks (GuardStep.outlines e y low none) = ⊥
KeepsWhole k seat w h m' tasks (GuardStep.comes x n some within outside used) = ⊥
KeepsWhole k seat w h m' tasks (GuardStep.leaves x n taking is at) = ⊥
KeepsWhole k seat w h m' tasks (GuardStep.others action other) = ⊥

-- an action that writes a word of no group: none, or the clock
abbrev pub IsOfNone : Action → Type 0
IsOfNone action = Writes (IsWordIn 26 26) action

-- a step of a job at the cache: a block that is put is loose
abbrev pub IsAtShelves : (k : Key) (seat : ℕ) (w : Whole) (later : shelving.State)
    → ShelfStep k seat (shelf_of w) later → Type 0
IsAtShelves k seat w later (ShelfStep.pool p step leaves none same) = ⊥
IsAtShelves k seat w later (ShelfStep.asks b time low is) = ⊤
IsAtShelves k seat w later (ShelfStep.regrets b low is) = ⊤
IsAtShelves k seat w later (ShelfStep.cleans b time cleanup at low holds is) = ⊤
IsAtShelves k seat w later (ShelfStep.gives b time block low is has) = ⊤
IsAtShelves k seat w later (ShelfStep.gets b time at taking is away) = ⊤
IsAtShelves k seat w later (ShelfStep.undoes b at is) = ⊤
IsAtShelves k seat w later (ShelfStep.keeps b time block at taking is away) = IsLoose (space_of w) seat block
IsAtShelves k seat w later (ShelfStep.sweeps b time cleanup gone at taking is away) = ⊤

-- a step at the office: a region that goes is loose
abbrev pub IsAtOffice : (k : Key) (seat : ℕ) (w : Whole) (later : regions.State)
    → RegionStep k seat (regions_of w) later → Type 0
IsAtOffice k seat w later (RegionStep.pool p step leaves same) = ⊥
IsAtOffice k seat w later (RegionStep.begins job is) = ⊤
IsAtOffice k seat w later (RegionStep.locks job few is) = ⊤
IsAtOffice k seat w later (RegionStep.looks job slot given is) = ⊤
IsAtOffice k seat w later (RegionStep.backs job end is) = ⊤
IsAtOffice k seat w later (RegionStep.unlocks job end is) = ⊤
IsAtOffice k seat w later (RegionStep.comes granules given one is fresh within) = ⊤
IsAtOffice k seat w later (RegionStep.refused granules given error is) = ⊤
IsAtOffice k seat w later (RegionStep.gives_back first given is) = ⊤
IsAtOffice k seat w later (RegionStep.bases' job one is) = ⊤
IsAtOffice k seat w later (RegionStep.enters job one is) = ⊤
IsAtOffice k seat w later (RegionStep.walls_off job one is) = ⊤
IsAtOffice k seat w later (RegionStep.walls_in job one is) = ⊤
IsAtOffice k seat w later (RegionStep.outlines job one is) = ⊤
IsAtOffice k seat w later (RegionStep.settles job one is some first) = ⊤
IsAtOffice k seat w later (RegionStep.removes slot one taking is live has) = IsLoose (space_of w) seat one.first
IsAtOffice k seat w later (RegionStep.removes_none job is) = ⊤

-- a step of giving back, of mail or of orphans, which is one of the pool at once
abbrev pub IsAtPost : (k : Key) (seat : ℕ) (p later : Post) → PostStep k seat p later → Type 0
IsAtPost k seat p later (PostStep.pushes call at is) = ⊤
IsAtPost k seat p later (PostStep.mails e at is) = ⊤
IsAtPost k seat p later (PostStep.takes_box class head is) = ⊤
IsAtPost k seat p later (PostStep.reads_next class e head is) = ⊤
IsAtPost k seat p later (PostStep.settles class e rest head is) = ⊤
IsAtPost k seat p later (PostStep.takes_list class e rest is) = ⊤
IsAtPost k seat p later (PostStep.walks class e rest first at count is) = ⊤
IsAtPost k seat p later (PostStep.ties class e rest first last count is) = ⊤
IsAtPost k seat p later (PostStep.takes_orphans class is) = ⊤
IsAtPost k seat p later (PostStep.adopts class e header rest is) = ⊤
IsAtPost k seat p later (PostStep.leaves e at is won) = ⊤
IsAtPost k seat p later (PostStep.returns class e at is won) = ⊤
IsAtPost k seat p later (PostStep.together now pool' orphans stay here) = ⊥

-- a seat that has nothing to do with mail and orphans
pub record HasNoPost (w : Whole) (seat : ℕ) : Type 0 where
  pub mail : w.mails seat ≡ mailing.Task.Away
  pub orphan : w.tasks seat ≡ Task.Away

-- a step on an object that is not on its way back: looks, ends of grants, grants, and begins of these
abbrev pub IsOwnObject : {k : Key} {g : objects.Shadow} {m : Mem} {l : objects.Locals} {h : objects.Shadow} {m' : Mem}
    {l' : objects.Locals} (seat : ℕ) (w : Whole) → ObjectStep k g m l h m' l' → Type 0
IsOwnObject seat w (ObjectStep.looks o call at is) = o ≡ seat
IsOwnObject seat w (ObjectStep.ends o call kind at few is) = o ≡ seat
IsOwnObject seat w (ObjectStep.posts o call at is) = ⊥
IsOwnObject seat w (ObjectStep.joins o e at is) = ⊥
IsOwnObject seat w (ObjectStep.reads o e head is) = o ≡ seat
IsOwnObject seat w (ObjectStep.takes o e head below few is) = ⊥
IsOwnObject seat w (ObjectStep.rests o e unit few is) = ⊥
IsOwnObject seat w (ObjectStep.readies o unit first granules is can low) = ⊥
IsOwnObject seat w (ObjectStep.blocks o unit first granules few is) = o ≡ seat
IsOwnObject seat w (ObjectStep.slab_begins o e class is nobody place low bare) = ⊥
IsOwnObject seat w (ObjectStep.slab_ends o e is by none) = ⊥
IsOwnObject seat w (ObjectStep.slab_cached o e nobody even low bare) = ⊥
IsOwnObject seat w (ObjectStep.slab_uncached o e cached low) = ⊥
IsOwnObject seat w (ObjectStep.leaves o e is by) = ⊥
IsOwnObject seat w (ObjectStep.comes o chain is orphans) = ⊥
IsOwnObject seat w (ObjectStep.goes_back o e is has) = ⊥
IsOwnObject seat w (ObjectStep.adopts o e is has) = ⊥
IsOwnObject seat w (ObjectStep.closes e low) = ⊥
IsOwnObject seat w (ObjectStep.clears e none low) = ⊥
IsOwnObject seat w (ObjectStep.begins o task is start fits) = (o ≡ seat) × IsNoJoin task × HasNoPost w o
IsOwnObject seat w (ObjectStep.forgets o n ns is) = o ≡ seat
IsOwnObject seat w (ObjectStep.others action other) = ⊥

-- a step on objects or slabs that has nothing to do with mail and orphans: what comes to rest is loose
abbrev pub IsOwnUse : (k : Key) (seat : ℕ) (w : Whole) (later : Pool) → PoolStep k seat w.pool later → Type 0
IsOwnUse k seat w later (PoolStep.guards h m' tasks step keeps same) = ⊥
IsOwnUse k seat w later (PoolStep.objects h m' l' step plain) = IsOwnObject seat w step
IsOwnUse k seat w later (PoolStep.frees call kind at few is own) = ⊤
IsOwnUse k seat w later (PoolStep.frees_block call x n at taking few is ends away) = ⊤
IsOwnUse k seat w later (PoolStep.takes e head below few is) = ⊤
IsOwnUse k seat w later (PoolStep.rests e unit few is) = ⊤
IsOwnUse k seat w later (PoolStep.joins e first last count is) = ⊥
IsOwnUse k seat w later (PoolStep.readies x n unit has away fits low high few) =
    IsLoose (space_of w) seat x × HasNoPost w seat
IsOwnUse k seat w later (PoolStep.slab_begins e class has away even low) = ⊥
IsOwnUse k seat w later (PoolStep.slab_ends e taking free away by none) = ⊥
IsOwnUse k seat w later (PoolStep.slab_cached e has even room) = IsLoose (space_of w) seat e
IsOwnUse k seat w later (PoolStep.newest_out e taking free is) = ⊤
IsOwnUse k seat w later (PoolStep.oldest_out e taking free is) = ⊤
IsOwnUse k seat w later (PoolStep.clears e n taking has) = ⊥
IsOwnUse k seat w later (PoolStep.stores_header e by) = ⊥
IsOwnUse k seat w later (PoolStep.leaves e away by header) = ⊥
IsOwnUse k seat w later (PoolStep.comes chain away orphans) = ⊥
IsOwnUse k seat w later (PoolStep.goes_back e away has) = ⊥
IsOwnUse k seat w later (PoolStep.adopts e away has) = ⊥
IsOwnUse k seat w later (PoolStep.shelves x n has) = ⊥
IsOwnUse k seat w later (PoolStep.unshelves x n taking free shelved rests) = ⊥

-- a slab is not left, or pushed back, just then
abbrev pub IsNotLeft : LeaveNext → Type 0
IsNotLeft (LeaveNext.Goes at) = ⊤
IsNotLeft LeaveNext.Filled = ⊤
IsNotLeft LeaveNext.Left = ⊥

-- no orphan is taken or adopted just then
abbrev pub IsNotDealt : AdoptAt → Type 0
IsNotDealt AdoptAt.Take = ⊥
IsNotDealt (AdoptAt.Header e) = ⊤
IsNotDealt (AdoptAt.Next e header) = ⊤
IsNotDealt (AdoptAt.Settle e header rest) = ⊤
IsNotDealt (AdoptAt.Own e header rest) = ⊥
IsNotDealt (AdoptAt.Spare e) = ⊤

-- a seat that has nothing to do with objects
abbrev pub HasNoObject : Whole → ℕ → Type 0
HasNoObject w seat = w.pool.locals.tasks seat ≡ Away

-- a step of mail on a slab that is about to begin, or the begin of such a step or of a fetch; what is cleared is in
-- the seat's hand
abbrev pub IsOwnMail : {k : Key} {g : mailing.Shadow} {m : Mem} {l : mailing.Locals} {h : mailing.Shadow} {m' : Mem}
    {l' : mailing.Locals} (seat : ℕ) (w : Whole) → MailStep k g m l h m' l' → Type 0
IsOwnMail seat w (MailStep.posts o call at away there low) = ⊥
IsOwnMail seat w (MailStep.mails o e at is) = ⊥
IsOwnMail seat w (MailStep.fetches o class head at is) = ⊥
IsOwnMail seat w (MailStep.fetch_begins o class is low few) =
    (o ≡ seat) × HasNoObject w o × (w.tasks o ≡ Task.Away)
IsOwnMail seat w (MailStep.begins o e class is absent low few inside) =
    (o ≡ seat) × HasNoObject w o × (w.tasks o ≡ Task.Away)
IsOwnMail seat w (MailStep.settles o e class is) = o ≡ seat
IsOwnMail seat w (MailStep.clears o e class is) =
    (o ≡ seat) × ((n : ℕ) × (taking : Taking) × InHand w.pool o e n taking)
IsOwnMail seat w (MailStep.slab_begins o e class is) = ⊥
IsOwnMail seat w (MailStep.slab_ends o e by null) = ⊥
IsOwnMail seat w (MailStep.cached e keeper none now) = ⊥
IsOwnMail seat w (MailStep.closes o e by) = ⊥
IsOwnMail seat w (MailStep.links o e value moves) = ⊥
IsOwnMail seat w (MailStep.leaves o e is) = ⊥
IsOwnMail seat w (MailStep.goes_back o e is by) = ⊥
IsOwnMail seat w (MailStep.comes o chain left) = ⊥
IsOwnMail seat w (MailStep.adopts o e is by low few) = ⊥
IsOwnMail seat w (MailStep.takes_adopted o e is by home) = ⊥
IsOwnMail seat w (MailStep.others action other) = ⊥

-- a step of mail or orphans after which each slab is kept as before
abbrev pub IsOwnOrphan : {k : Key} {g : orphaning.Shadow} {m : Mem} {l : orphaning.Locals} {h : orphaning.Shadow}
    {m' : Mem} {l' : orphaning.Locals} (seat : ℕ) (w : Whole) → OrphanStep k g m l h m' l' → Type 0
IsOwnOrphan seat w (OrphanStep.leave_begins o e is by) =
    (o ≡ seat) × HasNoObject w o × (w.mails o ≡ mailing.Task.Away)
IsOwnOrphan {m} {l} seat w (OrphanStep.leaves o e at is) =
    (o ≡ seat) × IsNotLeft (leave_learn at (found m (leave_course (leave_of l e) at)))
IsOwnOrphan seat w (OrphanStep.take_begins o class is low few) =
    (o ≡ seat) × HasNoObject w o × (w.mails o ≡ mailing.Task.Away)
IsOwnOrphan seat w (OrphanStep.adopts o class at is) = (o ≡ seat) × IsNotDealt at
IsOwnOrphan seat w (OrphanStep.joins o class e rest is) = ⊥
IsOwnOrphan seat w (OrphanStep.goes_on o class rest enough is) = (o ≡ seat) × HasNoObject w o
IsOwnOrphan {m} seat w (OrphanStep.returns o class e at is) =
    (o ≡ seat) × IsNotLeft (leave_learn at (found m (leave_course (return_of class e) at)))
IsOwnOrphan seat w (OrphanStep.owns_first o e class is settled) = o ≡ seat
IsOwnOrphan seat w (OrphanStep.slab_begins o e class is settled even) = ⊥
IsOwnOrphan seat w (OrphanStep.slab_ends o e by null stays) = ⊥
IsOwnOrphan seat w (OrphanStep.records o e later by stays only) = ⊥
IsOwnOrphan seat w (OrphanStep.asides step aside) = IsOwnMail seat w step

-- what was given back to an adopted slab is taken, or walked
abbrev pub pool_back : Key → ℕ → ℕ → JoinAt → Pool → Pool
pool_back k seat e at p = record p {
  mem = after k p.mem (join_course (join_of p.locals e) at);
  objects = shadow_joined e at p.objects;
  locals = joined_as seat e (join_learn at (found p.mem (join_course (join_of p.locals e) at))) p.locals;
}

pub data WholeStep (k : Key) (seat : ℕ) (w : Whole) : Whole → Type 0 where
  -- a step on guards
  guards : (h : blocks.Shadow) (m' : Mem) (tasks : ℕ → blocks.Task)
      → (step : GuardStep k seat w.pool.blocks w.pool.mem w.pool.tasks h m' tasks)
      → KeepsWhole k seat w h m' tasks step → IsFree w seat
      → WholeStep k seat w (with_space (with_guards h m' tasks (space_of w)) w)
  -- a step that writes nothing, or the clock
  others : (action : Action) → IsOfNone action → IsFree w seat
      → WholeStep k seat w (with_pool (with_mem (after k w.pool.mem action) w.pool) w)
  -- a step at bins, and one at the queue
  bins : (h : binning.Shadow) (m' : Mem) (l' : binning.Locals)
      → (step : BinStep k seat (bins_of (space_of w)) w.pool.mem (bin_tasks (space_of w)) h m' l')
      → IsAtBins k seat (space_of w) h m' l' step → IsFree w seat
      → WholeStep k seat w (with_space (with_bins h m' l' (space_of w)) w)
  queue : (h : queues.Shadow) (m' : Mem) (l' : queues.Locals)
      → (step : QueueStep k seat (queue_of (space_of w)) w.pool.mem (queue_tasks (space_of w)) h m' l')
      → IsAtQueue k seat (space_of w) h m' l' step → hand (w.jobs seat) ≡ None
      → WholeStep k seat w (with_space (with_queue h m' l' (space_of w)) w)
  -- a step of a job at the cache of large blocks, and one at the office
  shelves : (later : shelving.State) → (step : ShelfStep k seat (shelf_of w) later) → IsAtShelves k seat w later step
      → IsIdle (w.queue seat) → WholeStep k seat w (with_shelf later w)
  office : (later : regions.State) → (step : RegionStep k seat (regions_of w) later) → IsAtOffice k seat w later step
      → IsFree w seat → WholeStep k seat w (with_regions later w)
  -- a step of giving back, of mail or of orphans
  posts : (later : Post) → (step : PostStep k seat (post_of w) later) → IsAtPost k seat (post_of w) later step
      → IsFree w seat → WholeStep k seat w (with_post later w)
  -- a step on objects or slabs alone
  uses : (later : Pool) → (step : PoolStep k seat w.pool later) → IsOwnUse k seat w later step → IsFree w seat
      → WholeStep k seat w (with_pool later w)
  -- a step of mail or orphans after which each slab is kept as before
  orphans : (h : orphaning.Shadow) (m' : Mem) (l' : orphaning.Locals)
      → (step : OrphanStep k w.ways w.pool.mem (locals_of (post_of w)) h m' l') → IsOwnOrphan seat w step
      → IsFree w seat → WholeStep k seat w (with_ways h m' l' w)
  -- P5, M1, M8: the public list of an adopted slab is taken, walked and joined
  takes_back : (class e : ℕ) (rest : Option ℕ) → w.tasks seat ≡ Task.Joining class e rest → IsFree w seat
      → WholeStep k seat w (record w {
        pool = pool_back k seat e JoinAt.Take w.pool;
        ways = with_way e Mail.Rest w.ways;
        tasks = put w.tasks seat (Task.Resting class rest);
      })
  walks_back : (class e first at count : ℕ) (rest : Option ℕ) → w.tasks seat ≡ Task.Resting class rest
      → w.pool.locals.tasks seat ≡ Joining e (JoinAt.Walk first at count) → IsFree w seat
      → WholeStep k seat w (with_pool (pool_back k seat e (JoinAt.Walk first at count) w.pool) w)
  ties_back : (class e first last count : ℕ) (rest : Option ℕ) → w.tasks seat ≡ Task.Resting class rest
      → w.pool.locals.tasks seat ≡ Joining e (JoinAt.Tie first last count) → IsFree w seat
      → WholeStep k seat w (with_pool (pool_joined k seat e first last count w.pool) w)
  -- F8: a block in hand, whose words are those of a new slab, begins to be one
  slab_begins : (e class : ℕ) → w.tasks seat ≡ Task.Owning e → w.mails seat ≡ mailing.Task.Settled e class
      → InHand w.pool seat e 2 Taking.ForUse → IsLoose (space_of w) seat e → slab_granule e ≡ e → IsFree w seat
      → WholeStep k seat w (record w {
        pool = pool_begun k seat e class w.pool;
        ways = with_way e Mail.Rest w.ways;
        mails = put w.mails seat mailing.Task.Away;
        tasks = put w.tasks seat Task.Away;
      })
  -- F8: a slab of which nothing is held, and which the seat is not about to leave, is a block in hand
  slab_ends : (e : ℕ) (taking : Taking) → w.pool.tasks seat ≡ blocks.Task.Away → HasNoObject w seat
      → w.pool.locals.book.keeper e ≡ Keeper.By seat → w.pool.locals.book.counts e ≡ 0
      → (IsLeaving (w.tasks seat) e → ⊥) → IsFree w seat
      → WholeStep k seat w (record w {
        pool = pool_ended k seat e taking w.pool;
        ways = with_way e Mail.Absent w.ways;
      })

-- any number of steps of any number of seats
pub data WholeRun (k : Key) (w : Whole) : Whole → Type 0 where
  starts : WholeRun k w w
  steps : {before later : Whole} → WholeRun k w before → (seat : ℕ) → WholeStep k seat before later
      → WholeRun k w later
