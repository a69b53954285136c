-- A move of the whole is a run of each group's own steps: four runs, from one whole to one other.
use Rattle.pool_words.specs.declared.words.Key.{Key}
use Rattle.shelf_laws.specs.Steps.{ShelfRun}
use Rattle.region_laws.specs.Steps.{RegionRun}
use Rattle.free_laws.specs.Steps.{FreeRun}
use Rattle.post_laws.specs.Steps.{PostRun}
use Rattle.pool_laws.specs.Wholes.{Whole, shelf_of, regions_of, space_of, post_of}

pub record Moves (k : Key) (w later : Whole) : Type 0 where
  pub shelf : ShelfRun k (shelf_of w) (shelf_of later)
  pub regions : RegionRun k (regions_of w) (regions_of later)
  pub free : FreeRun k (space_of w) (space_of later)
  pub post : PostRun k (post_of w) (post_of later)
