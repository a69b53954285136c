-- The lines of what a pool has at the end.
use Rattle.std.specs.Prelude.{ℕ, List, ◌++◌, codes}
use Rattle.std.specs.Fmt.{decimal}
use Rattle.pool_types.specs.declared.values.Leak.{Leak}
use Rattle.part_model.specs.declared.totals.Totals.{Totals}
use Rattle.report_text.specs.declared.entry.BinNumbers.{BinNumbers}
use Rattle.report_text.specs.Pieces.{object_text}

-- the totals of a pool, in four parts
unfoldable pub region_totals_text : Totals → List ℕ
region_totals_text totals = codes " regions "
    ++ (decimal totals.regions
    ++ (codes " bytes " ++ (decimal totals.bytes ++ (codes " waste " ++ decimal totals.waste))))

unfoldable pub slab_totals_text : Totals → List ℕ
slab_totals_text totals = codes " head "
    ++ (decimal totals.head
    ++ (codes " rest "
    ++ (decimal totals.rest
    ++ (codes " private " ++ (decimal totals.private ++ (codes " public " ++ decimal totals.public))))))

unfoldable pub held_totals_text : Totals → List ℕ
held_totals_text totals = codes " object "
    ++ (decimal totals.object ++ (codes " large-head " ++ decimal totals.large_head))

unfoldable pub cached_totals_text : Totals → List ℕ
cached_totals_text totals = codes " slab-cache "
    ++ (decimal totals.slab_cache ++ (codes " cached " ++ decimal totals.cached))

abbrev pub object_totals_text : Totals → List ℕ
object_totals_text totals = held_totals_text totals ++ cached_totals_text totals

unfoldable pub block_totals_text : Totals → List ℕ
block_totals_text totals = codes " bin "
    ++ (decimal totals.bin ++ (codes " queue " ++ (decimal totals.queue ++ (codes " hand " ++ decimal totals.hand))))

-- the line of a pool's totals
unfoldable pub total_text : ℕ → Totals → List ℕ
total_text pool totals =
    codes "total P"
    ++ (decimal pool
    ++ (region_totals_text totals
    ++ (slab_totals_text totals ++ (object_totals_text totals ++ (block_totals_text totals ++ codes "\n")))))

-- which cache bin it is, and what lies in it
unfoldable pub bin_items_text : BinNumbers → List ℕ
bin_items_text bin = decimal bin.granules
    ++ (codes " used " ++ (decimal bin.used ++ (codes " items " ++ decimal bin.items)))

-- the times of a cache bin
unfoldable pub bin_times_text : BinNumbers → List ℕ
bin_times_text bin = codes " mean "
    ++ (decimal bin.mean
    ++ (codes " threshold "
    ++ (decimal bin.threshold ++ (codes " get " ++ (decimal bin.get ++ (codes " cleaned " ++ decimal bin.cleaned))))))

-- the line of a cache bin
unfoldable pub cache_text : ℕ → BinNumbers → List ℕ
cache_text pool bin = codes "cache P"
    ++ (decimal pool ++ (codes " " ++ (bin_items_text bin ++ (bin_times_text bin ++ codes "\n"))))

-- the line of an object that is still held
unfoldable pub leak_text : List (List ℕ) → Leak → List ℕ
leak_text names leak = codes "leak " ++ (object_text names leak.place leak.usable leak.grant ++ codes "\n")
