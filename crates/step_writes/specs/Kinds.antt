-- The kinds of word that a job writes, at any of its positions.
use Rattle.std.specs.Prelude.{List, [], ◌∷◌}
use Rattle.pool_words.specs.Words.{WordKind, marks, kinds, owns, publics, nexts, headers, sizes, lefts, bin_locks}
use Rattle.pool_words.specs.Words.{bin_heads, forwards, backwards, queues, queue_links, mailboxes, orphans}
use Rattle.pool_words.specs.Words.{cache_locks, cache_heads, cache_items, cache_used, cache_means, cache_thresholds}
use Rattle.pool_words.specs.Words.{cache_gets, cache_cleaned, cache_links, cache_ages, clocks, office_locks, regions}
use Rattle.pool_words.specs.Words.{bases}
use Rattle.step_local.specs.declared.frames.At.{At}
use Rattle.step_local.specs.declared.frames.LargeAt.{LargeAt}
use Rattle.step_local.specs.declared.frames.ResetAt.{ResetAt}
use Rattle.step_local.specs.declared.frames.SmallAt.{SmallAt}

abbrev pub join_kinds : List WordKind
join_kinds = publics ∷ marks ∷ []

abbrev pub leave_kinds : List WordKind
leave_kinds = publics ∷ headers ∷ owns ∷ nexts ∷ orphans ∷ []

abbrev pub guard_kinds : List WordKind
guard_kinds = sizes ∷ lefts ∷ []

abbrev pub remove_kinds : List WordKind
remove_kinds = bin_heads ∷ forwards ∷ backwards ∷ []

abbrev pub bin_kinds : List WordKind
bin_kinds = sizes ∷ lefts ∷ bin_locks ∷ bin_heads ∷ forwards ∷ backwards ∷ []

abbrev pub put_kinds : List WordKind
put_kinds = sizes ∷ lefts ∷ bin_locks ∷ bin_heads ∷ forwards ∷ backwards ∷ queues ∷ queue_links ∷ []

abbrev pub undo_kinds : List WordKind
undo_kinds = cache_locks ∷ cache_used ∷ []

abbrev pub get_kinds : List WordKind
get_kinds = cache_locks ∷ cache_heads ∷ cache_items ∷ cache_used ∷ cache_means ∷ cache_thresholds ∷ cache_gets
    ∷ cache_cleaned ∷ []

abbrev pub keep_kinds : List WordKind
keep_kinds = cache_locks ∷ cache_heads ∷ cache_items ∷ cache_used ∷ cache_cleaned ∷ cache_links ∷ cache_ages ∷ []

abbrev pub sweep_kinds : List WordKind
sweep_kinds = cache_locks ∷ cache_heads ∷ cache_items ∷ cache_thresholds ∷ cache_cleaned ∷ cache_links ∷ []

abbrev pub office_kinds : List WordKind
office_kinds = office_locks ∷ regions ∷ bases ∷ sizes ∷ lefts ∷ []

abbrev pub small_kinds : SmallAt → List WordKind
small_kinds (SmallAt.Uncache slab) = kinds ∷ []
small_kinds (SmallAt.Next slab) = nexts ∷ []
small_kinds (SmallAt.Public slab) = publics ∷ []
small_kinds (SmallAt.Own slab) = owns ∷ []
small_kinds (SmallAt.Kind slab) = kinds ∷ []
small_kinds (SmallAt.Behind slab head) = []
small_kinds (SmallAt.Private slab head below) = marks ∷ []
small_kinds (SmallAt.Rest slab unit) = marks ∷ []
small_kinds (SmallAt.Empty slab) = kinds ∷ []
small_kinds (SmallAt.Cache slab) = kinds ∷ []
small_kinds (SmallAt.Oldest slab) = kinds ∷ []
small_kinds (SmallAt.Newest slab) = kinds ∷ []

abbrev pub large_kinds : LargeAt → List WordKind
large_kinds LargeAt.Tick = clocks ∷ []
large_kinds (LargeAt.Kind unit) = kinds ∷ []
large_kinds (LargeAt.Grant unit) = marks ∷ []

abbrev pub reset_kinds : ResetAt → List WordKind
reset_kinds (ResetAt.Strip slab at) = marks ∷ []
reset_kinds (ResetAt.Seek at) = []
reset_kinds (ResetAt.Evict region at) = marks ∷ []
reset_kinds (ResetAt.Clear granules at) = get_kinds
reset_kinds (ResetAt.Unqueue at) = queues ∷ []
reset_kinds (ResetAt.Unite region at) = bin_kinds
reset_kinds (ResetAt.Bin at) = bin_kinds

-- one clause a job, so that it tells without a look at where the job is
abbrev pub kinds_at : At → List WordKind
kinds_at At.Idle = []
kinds_at (At.Ready answer) = []
kinds_at (At.Look at) = []
kinds_at (At.End at) = marks ∷ []
kinds_at (At.Post at) = join_kinds
kinds_at (At.Mail at) = mailboxes ∷ nexts ∷ []
kinds_at (At.Mailbox at) = mailboxes ∷ nexts ∷ join_kinds
kinds_at (At.Adopt at) = orphans ∷ nexts ∷ owns ∷ []
kinds_at (At.Join slab rest at) = join_kinds
kinds_at (At.Spare at) = leave_kinds
kinds_at (At.Leave slab at) = leave_kinds
kinds_at (At.Locate at) = []
kinds_at (At.Small at) = small_kinds at
kinds_at (At.Large at) = large_kinds at
kinds_at (At.Get at) = get_kinds
kinds_at (At.Undo cause at) = undo_kinds
kinds_at (At.Keep at) = keep_kinds
kinds_at (At.Sweep at) = sweep_kinds
kinds_at (At.Scan at) = bin_kinds
kinds_at (At.Cut at) = bin_kinds
kinds_at At.Queue = []
kinds_at (At.Whole at) = bin_kinds
kinds_at (At.Drain at) = put_kinds
kinds_at (At.Put at) = put_kinds
kinds_at (At.Office job at) = office_kinds
kinds_at (At.Reset at) = reset_kinds at
