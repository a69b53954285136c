-- A pool with all that the laws of its groups tell of it: one memory, one shadow of blocks and one book.
use Rattle.std.specs.Prelude.{ℕ, Option, List}
use Rattle.pool_types.specs.declared.policy.RegionRec.{RegionRec}
use Rattle.pool_words.specs.declared.words.Key.{Key}
use Rattle.heap_slabs.specs.Rolls.{Rolled}
use Rattle.mail_laws.specs.Mail as mailing
use Rattle.orphan_laws.specs.Orphans as orphaning
use Rattle.office_laws.specs.Regions as offices
use Rattle.bin_laws.specs.Bins as bins
use Rattle.bin_laws.specs.Bins.{Member}
use Rattle.queue_laws.specs.Queue as queues
use Rattle.cache_laws.specs.Bins.{Bin}
use Rattle.cache_laws.specs.Good as caches
use Rattle.use_laws.specs.Pools.{Pool}
use Rattle.shelf_laws.specs.Shelves as shelves
use Rattle.shelf_laws.specs.Shelves.{ShelfGood}
use Rattle.region_laws.specs.Granules as regions
use Rattle.region_laws.specs.Granules.{RegionGood}
use Rattle.free_laws.specs.Spaces.{Space, FreeGood}
use Rattle.post_laws.specs.Posts.{Post, PostGood}

pub record Whole : Type 0 where
  pub pool : Pool
  -- the bins of the cache of large blocks, and what each seat does at one
  pub shelves : ℕ → Bin
  pub jobs : ℕ → caches.Task
  -- what each seat does at the office; of a slot the region whose granules are blocks; and the office's regions
  pub desks : ℕ → offices.Task
  pub settled : ℕ → Option RegionRec
  pub office : offices.Shadow
  -- of each bin the blocks that its list has, and of each block whether it is in one; the blocks in the queue, and of
  -- each seat what it took of them
  pub items : ℕ → List ℕ
  pub member : ℕ → Member
  pub queued : List ℕ
  pub drained : ℕ → List ℕ
  -- of each seat what it does with bins, and with the queue
  pub bins : ℕ → bins.Task
  pub queue : ℕ → queues.Task
  -- where each slab is on its way to its keeper, and the orphans; of each seat what it does with mail and with orphans,
  -- and the orphans that it is to push back
  pub ways : orphaning.Shadow
  pub mails : ℕ → mailing.Task
  pub tasks : ℕ → orphaning.Task
  pub spares : ℕ → Rolled ℕ

-- what the laws of each group see
abbrev pub shelf_of : Whole → shelves.State
shelf_of w = record { pool = w.pool; bins = w.shelves; jobs = w.jobs }

abbrev pub regions_of : Whole → regions.State
regions_of w = record { pool = w.pool; desks = w.desks; settled = w.settled; office = w.office }

abbrev pub space_of : Whole → Space
space_of w = record {
  pool = w.pool;
  items = w.items;
  member = w.member;
  queued = w.queued;
  drained = w.drained;
  bins = w.bins;
  queue = w.queue;
}

abbrev pub post_of : Whole → Post
post_of w = record { pool = w.pool; ways = w.ways; mails = w.mails; tasks = w.tasks; spares = w.spares }

pub record WholeGood (k : Key) (w : Whole) : Type 0 where
  pub shelf : ShelfGood k (shelf_of w)
  pub regions : RegionGood k (regions_of w)
  pub free : FreeGood k (space_of w)
  pub post : PostGood k (post_of w)
