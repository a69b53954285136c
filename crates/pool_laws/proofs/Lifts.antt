-- A run of steps of one seat on the pool, none of which is one at the cache or at the office, is a run to the laws of
-- these and to those of mail and orphans.
use Rattle.std.proofs.Common.{◌≡◌, ◌⊎◌, inl, inr, ℕ, ◌<◌, ◌≤◌, None, refl, sym, ap, subst, arith}
use Rattle.pool_words.specs.declared.words.Key.{Key}
use Rattle.pool_words.specs.declared.actions.Action.{Action}
use Rattle.pool_words.specs.declared.actions.Action.TheVariants.{Nothing}
use Rattle.word_laws.specs.Memory.{Mem, after}
use Rattle.guard_laws.specs.Blocks as blocks
use Rattle.guard_laws.specs.Steps.{GuardStep}
use Rattle.object_laws.specs.Objects.{Locals}
use Rattle.mail_laws.specs.Steps.{MailStep}
use Rattle.orphan_laws.specs.Orphans as orphaning
use Rattle.orphan_laws.specs.Steps.{OrphanStep, OrphanRun}
use Rattle.bin_laws.specs.Steps.{SameLists}
use Rattle.queue_laws.specs.Steps.{SameQueue}
use Rattle.cache_laws.specs.Good.{hand}
use Rattle.use_laws.specs.Pools.{Pool}
use Rattle.use_laws.specs.Steps.{SameThings, KeepsUse, PoolStep, PoolRun}
use Rattle.use_laws.specs.Stays.{LeavesShelf}
use Rattle.shelf_laws.specs.Steps.{SameCache, ShelfStep, ShelfRun}
use Rattle.region_laws.specs.Steps.{SameOffice, KeepsRegions, LeavesRegions, RegionStep, RegionRun}
use Rattle.free_laws.specs.Spaces.{Space}
use Rattle.free_laws.specs.Steps.{FreeRun}
use Rattle.post_laws.specs.Posts.{locals_of, TiesFit, PostGood}
use Rattle.post_laws.specs.Steps.{PostStep, PostRun}
use Rattle.pool_laws.specs.Wholes.{Whole, shelf_of, regions_of, space_of, post_of}
use Rattle.pool_laws.specs.Changes.{with_pool, with_space}
use Rattle.pool_laws.specs.Moves.{Moves}
use Rattle.pool_laws.proofs.Words.{Writing, NoThing, NoGuard, NoList, NoQueue, NoMail, NoCache, NoOffice}
use Rattle.pool_laws.proofs.Words.{leaves_things, leaves_guards, leaves_lists, leaves_queue, leaves_mail}
use Rattle.pool_laws.proofs.Words.{leaves_orphans, leaves_cache, leaves_office, same_things, same_cache, same_office}

-- the words after an action that writes such words
pub record Wrote (k : Key) (m m' : Mem) (Is : ℕ → Type 0) : Type 0 where
  pub action : Action
  pub writes : Writing Is action
  pub so : m' ≡ after k m action

pub wrote : (k : Key) (m : Mem) (Is : ℕ → Type 0) (action : Action) → Writing Is action
    → Wrote k m (after k m action) Is
wrote k m Is action writes = record { action = action; writes = writes; so = refl }

pub wrote_none : (k : Key) (m : Mem) (Is : ℕ → Type 0) → Wrote k m m Is
wrote_none k m Is = record { action = Nothing; writes = tt; so = refl }

pub things_stay : (k : Key) (m m' : Mem) (Is : ℕ → Type 0) → NoThing Is → Wrote k m m' Is → SameThings m m'
things_stay k m m' Is far is = subst (λ (x : Mem). SameThings m x) (sym is.so)
    (leaves_things k m Is is.action far is.writes)

pub lists_stay : (k : Key) (m m' : Mem) (Is : ℕ → Type 0) → NoList Is → Wrote k m m' Is → SameLists m m'
lists_stay k m m' Is far is = subst (λ (x : Mem). SameLists m x) (sym is.so)
    (leaves_lists k m Is is.action far is.writes)

pub queue_stays : (k : Key) (m m' : Mem) (Is : ℕ → Type 0) → NoQueue Is → Wrote k m m' Is → SameQueue m m'
queue_stays k m m' Is far is = subst (λ (x : Mem). SameQueue m x) (sym is.so)
    (leaves_queue k m Is is.action far is.writes)

pub cache_stays : (k : Key) (m m' : Mem) (Is : ℕ → Type 0) → NoCache Is → Wrote k m m' Is → SameCache m m'
cache_stays k m m' Is far is = subst (λ (x : Mem). SameCache m x) (sym is.so)
    (leaves_cache k m Is is.action far is.writes)

pub office_stays : (k : Key) (m m' : Mem) (Is : ℕ → Type 0) → NoOffice Is → Wrote k m m' Is → SameOffice m m'
office_stays k m m' Is far is = subst (λ (x : Mem). SameOffice m x) (sym is.so)
    (leaves_office k m Is is.action far is.writes)

-- mail and orphans over these words
pub orphan_word : (k : Key) (g : orphaning.Shadow) (m : Mem) (l : orphaning.Locals) (Is : ℕ → Type 0)
    (action : Action) → NoMail Is → Writing Is action → OrphanStep k g m l g (after k m action) l
orphan_word k g m l Is action far is =
    OrphanStep.asides (MailStep.others action (leaves_mail Is action far is)) (leaves_orphans Is action far is)

pub orphans_stay : (k : Key) (g : orphaning.Shadow) (m m' : Mem) (l : orphaning.Locals) (Is : ℕ → Type 0)
    → NoMail Is → Wrote k m m' Is → OrphanRun k g m l g m' l
orphans_stay k g m m' l Is far is = subst (λ (x : Mem). OrphanRun k g m l g x l) (sym is.so)
    (OrphanRun.steps OrphanRun.starts (orphan_word k g m l Is is.action far is.writes))

-- steps of the pool on other words than those of the cache and of the office
pub data Asides (k : Key) (t : ℕ) (p : Pool) : Pool → Type 0 where
  starts : Asides k t p p
  steps : {before : Pool} → Asides k t p before → (later : Pool) → (step : PoolStep k t before later)
      → LeavesShelf k t before later step → LeavesRegions k t before later step → SameCache before.mem later.mem
      → SameOffice before.mem later.mem → Asides k t p later

pub aside : (k : Key) (t : ℕ) (p later : Pool) → (step : PoolStep k t p later) → LeavesShelf k t p later step
    → LeavesRegions k t p later step → SameCache p.mem later.mem → SameOffice p.mem later.mem → Asides k t p later
aside k t p later step shelf regions cache office = Asides.steps Asides.starts later step shelf regions cache office

pub pool_runs : (k : Key) (t : ℕ) (p later : Pool) → Asides k t p later → PoolRun k p later
pool_runs k t p later Asides.starts = PoolRun.starts
pool_runs k t p later (Asides.steps {before} run now step shelf regions cache office) =
    PoolRun.steps (pool_runs k t p before run) t step

pub shelf_runs : (k : Key) (t : ℕ) (w : Whole) (later : Pool) → hand (w.jobs t) ≡ None → Asides k t w.pool later
    → ShelfRun k (shelf_of w) (shelf_of (with_pool later w))
shelf_runs k t w later none Asides.starts = ShelfRun.starts
shelf_runs k t w later none (Asides.steps {before} run now step shelf regions cache office) =
    ShelfRun.steps (shelf_runs k t w before none run) t (ShelfStep.pool later step shelf none cache)

pub region_runs : (k : Key) (t : ℕ) (w : Whole) (later : Pool) → Asides k t w.pool later
    → RegionRun k (regions_of w) (regions_of (with_pool later w))
region_runs k t w later Asides.starts = RegionRun.starts
region_runs k t w later (Asides.steps {before} run now step shelf regions cache office) =
    RegionRun.steps (region_runs k t w before run) t (RegionStep.pool later step regions office)

-- what the seats have to do with mail and orphans is the same, and so are the book and what they do with objects
pub post_runs : (k : Key) (t : ℕ) (w : Whole) (later : Pool) → PostGood k (post_of w) → PoolRun k w.pool later
    → later.locals ≡ w.pool.locals
    → OrphanRun k w.ways w.pool.mem (locals_of (post_of w)) w.ways later.mem (locals_of (post_of w))
    → PostRun k (post_of w) (post_of (with_pool later w))
post_runs k t w later good run same orphans = PostRun.steps PostRun.starts t
    (PostStep.together (post_of (with_pool later w)) run
    (subst (λ (x : Locals). OrphanRun k w.ways w.pool.mem (locals_of (post_of w)) w.ways later.mem
    (record { book = x.book; mails = w.mails; tasks = w.tasks; spares = w.spares })) (sym same) orphans)
    (record {
      objects = λ o ne. ap (λ (x : Locals). x.tasks o) same;
      mails = λ o ne. refl;
      orphans = λ o ne. refl;
    }) (subst (λ (x : Locals). TiesFit (w.tasks t) (w.mails t) (x.tasks t)) (sym same) (good.ties t)))

-- what such a run is to all groups but that of bins and of the queue
pub record Beside (k : Key) (t : ℕ) (w : Whole) (later : Pool) : Type 0 where
  pub asides : Asides k t w.pool later
  pub orphans : OrphanRun k w.ways w.pool.mem (locals_of (post_of w)) w.ways later.mem (locals_of (post_of w))
  pub same : later.locals ≡ w.pool.locals

pub beside_none : (k : Key) (t : ℕ) (w : Whole) → Beside k t w w.pool
beside_none k t w = record { asides = Asides.starts; orphans = OrphanRun.starts; same = refl }

-- a step on guards, at bins or at the queue
pub space_moves : (k : Key) (t : ℕ) (w : Whole) (s : Space) → PostGood k (post_of w) → hand (w.jobs t) ≡ None
    → Beside k t w s.pool → FreeRun k (space_of w) s → Moves k w (with_space s w)
space_moves k t w s good none beside free = record {
  shelf = shelf_runs k t w s.pool none beside.asides;
  regions = region_runs k t w s.pool beside.asides;
  free = free;
  post = post_runs k t w s.pool good (pool_runs k t w.pool s.pool beside.asides) beside.same beside.orphans;
}

-- kinds of words by their numbers
abbrev pub Between : ℕ → ℕ → ℕ → Type 0
Between low high n = (low ≤ n) × (n ≤ high)

pub no_thing : (low high : ℕ) → 5 < low → NoThing (Between low high)
no_thing low high far = record {
  marks' = λ n is e. let a = is.0 in omega (arith, e, a, far);
  publics' = λ n is e. let a = is.0 in omega (arith, e, a, far);
  kinds' = λ n is e. let a = is.0 in omega (arith, e, a, far);
  headers' = λ n is e. let a = is.0 in omega (arith, e, a, far);
}

pub no_guard : (low high : ℕ) → (high < 6) ⊎ (7 < low) → NoGuard (Between low high)
no_guard low high out = record {
  below = λ n is. let a = is.0 in let b = is.1 in elim out [
    | inl before ↦ inl (omega (arith, a, b, before))
    | inr behind ↦ inr (omega (arith, a, b, behind))
  ];
}

pub no_list : (low high : ℕ) → (high < 8) ⊎ (11 < low) → NoList (Between low high)
no_list low high out = record {
  below = λ n is. let a = is.0 in let b = is.1 in elim out [
    | inl before ↦ inl (omega (arith, a, b, before))
    | inr behind ↦ inr (omega (arith, a, b, behind))
  ];
}

pub no_queue : (low high : ℕ) → (high < 12) ⊎ (13 < low) → NoQueue (Between low high)
no_queue low high out = record {
  below = λ n is. let a = is.0 in let b = is.1 in elim out [
    | inl before ↦ inl (omega (arith, a, b, before))
    | inr behind ↦ inr (omega (arith, a, b, behind))
  ];
}

pub no_cache : (low high : ℕ) → (high < 16) ⊎ (25 < low) → NoCache (Between low high)
no_cache low high out = record {
  below = λ n is. let a = is.0 in let b = is.1 in elim out [
    | inl before ↦ inl (omega (arith, a, b, before))
    | inr behind ↦ inr (omega (arith, a, b, behind))
  ];
}

pub no_office : (low high : ℕ) → high < 27 → NoOffice (Between low high)
no_office low high out = record { below = λ n is. let b = is.1 in omega (arith, b, out) }

pub no_mail : (low high : ℕ) → (high < 2) ⊎ (5 < low) → (high < 14) ⊎ (15 < low) → NoMail (Between low high)
no_mail low high out out' = record {
  owns' = λ n is e. let a = is.0 in let b = is.1 in elim out [
    | inl before ↦ omega (arith, e, a, b, before)
    | inr behind ↦ omega (arith, e, a, b, behind)
  ];
  publics' = λ n is e. let a = is.0 in let b = is.1 in elim out [
    | inl before ↦ omega (arith, e, a, b, before)
    | inr behind ↦ omega (arith, e, a, b, behind)
  ];
  nexts' = λ n is e. let a = is.0 in let b = is.1 in elim out [
    | inl before ↦ omega (arith, e, a, b, before)
    | inr behind ↦ omega (arith, e, a, b, behind)
  ];
  headers' = λ n is e. let a = is.0 in let b = is.1 in elim out [
    | inl before ↦ omega (arith, e, a, b, before)
    | inr behind ↦ omega (arith, e, a, b, behind)
  ];
  mailboxes' = λ n is e. let a = is.0 in let b = is.1 in elim out' [
    | inl before ↦ omega (arith, e, a, b, before)
    | inr behind ↦ omega (arith, e, a, b, behind)
  ];
  orphans' = λ n is e. let a = is.0 in let b = is.1 in elim out' [
    | inl before ↦ omega (arith, e, a, b, before)
    | inr behind ↦ omega (arith, e, a, b, behind)
  ];
}

-- words that belong to none but bins, the queue, or to no group
pub record NoneButFree (Is : ℕ → Type 0) : Type 0 where
  pub things : NoThing Is
  pub guards : NoGuard Is
  pub cache : NoCache Is
  pub office : NoOffice Is
  pub mail : NoMail Is

pub free_words : (low high : ℕ) → 7 < low → (high < 14) ⊎ (25 < low) → high < 27 → NoneButFree (Between low high)
free_words low high far out few = elim out [
  | inl before ↦ record {
    things = no_thing low high (omega (arith, far));
    guards = no_guard low high (inr far);
    cache = no_cache low high (inl (omega (arith, before)));
    office = no_office low high few;
    mail = no_mail low high (inr (omega (arith, far))) (inl before);
  }
  | inr behind ↦ record {
    things = no_thing low high (omega (arith, far));
    guards = no_guard low high (inr far);
    cache = no_cache low high (inr behind);
    office = no_office low high few;
    mail = no_mail low high (inr (omega (arith, far))) (inr (omega (arith, behind)));
  }
]

-- a step on such a word
pub word_beside : (k : Key) (t : ℕ) (w : Whole) (Is : ℕ → Type 0) (action : Action) → NoneButFree Is
    → Writing Is action → Beside k t w (record w.pool { mem = after k w.pool.mem action })
word_beside k t w Is action none is = let m = w.pool.mem in record {
  asides = aside k t w.pool (record w.pool { mem = after k m action })
      (PoolStep.guards w.pool.blocks (after k m action) w.pool.tasks
      (GuardStep.others action (leaves_guards Is action none.guards is)) tt
      (leaves_things k m Is action none.things is)) tt tt
      (leaves_cache k m Is action none.cache is) (leaves_office k m Is action none.office is);
  orphans = OrphanRun.steps OrphanRun.starts
      (orphan_word k w.ways m (locals_of (post_of w)) Is action none.mail is);
  same = refl;
}

-- a step on guards, by which no block comes to rest or leaves it, and no region comes or leaves
pub guard_beside : (k : Key) (t : ℕ) (w : Whole) (h : blocks.Shadow) (m' : Mem) (tasks : ℕ → blocks.Task)
    → (step : GuardStep k t w.pool.blocks w.pool.mem w.pool.tasks h m' tasks)
    → KeepsUse k t w.pool.blocks w.pool.mem w.pool.tasks h m' tasks step
    → KeepsRegions k t w.pool.blocks w.pool.mem w.pool.tasks h m' tasks step
    → Wrote k w.pool.mem m' (Between 6 7)
    → Beside k t w (record w.pool { mem = m'; blocks = h; tasks = tasks })
guard_beside k t w h m' tasks step uses regions wrote = let m = w.pool.mem in record {
  asides = aside k t w.pool (record w.pool { mem = m'; blocks = h; tasks = tasks })
      (PoolStep.guards h m' tasks step uses
      (things_stay k m m' (Between 6 7) (no_thing 6 7 (omega arith)) wrote)) tt regions
      (cache_stays k m m' (Between 6 7) (no_cache 6 7 (inl (omega arith))) wrote)
      (office_stays k m m' (Between 6 7) (no_office 6 7 (omega arith)) wrote);
  orphans = orphans_stay k w.ways m m' (locals_of (post_of w)) (Between 6 7)
      (no_mail 6 7 (inr (omega arith)) (inl (omega arith))) wrote;
  same = refl;
}

-- a step on guards that writes no word, after other steps
pub beside_then : (k : Key) (t : ℕ) (w : Whole) (p : Pool) (h : blocks.Shadow)
    → (step : GuardStep k t p.blocks p.mem p.tasks h p.mem p.tasks)
    → KeepsUse k t p.blocks p.mem p.tasks h p.mem p.tasks step
    → KeepsRegions k t p.blocks p.mem p.tasks h p.mem p.tasks step → Beside k t w p
    → Beside k t w (record p { blocks = h })
beside_then k t w p h step uses regions first = record {
  asides = Asides.steps first.asides (record p { blocks = h })
      (PoolStep.guards h p.mem p.tasks step uses (same_things p.mem)) tt regions (same_cache p.mem)
      (same_office p.mem);
  orphans = first.orphans;
  same = first.same;
}
