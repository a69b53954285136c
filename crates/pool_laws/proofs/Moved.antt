-- Each step moves the whole, and so keeps what holds of it.
use Rattle.shelf_laws.specs.Laws.{FreshShelvesAreGood}
use Rattle.region_laws.specs.Laws.{FreshRegionsAreGood}
use Rattle.free_laws.specs.Laws.{FreshSpacesAreGood}
use Rattle.post_laws.specs.Laws.{FreshPostsAreGood}
use Rattle.pool_laws.specs.Wholes.{shelf_of, regions_of, space_of, post_of}
use Rattle.pool_laws.specs.Steps.{WholeStep, WholeRun}
use Rattle.pool_laws.specs.Named.{fresh_whole}
use Rattle.pool_laws.specs.Laws.{MovesKeepWhole, StepsMove, StepsKeepWhole, RunsKeepWhole, FreshWholesAreGood}
use Rattle.pool_laws.specs.Laws.{WholesHoldTogether}
use Rattle.pool_laws.proofs.Guarded.{guards_move, others_move, bins_move, queue_moves}
use Rattle.pool_laws.proofs.Shelved.{shelves_move}
use Rattle.pool_laws.proofs.Offices.{office_moves}
use Rattle.pool_laws.proofs.Posted.{posts_move}
use Rattle.pool_laws.proofs.Used.{uses_move}
use Rattle.pool_laws.proofs.Orphaned.{orphans_move}
use Rattle.pool_laws.proofs.Slabs.{takes_back_move, walks_back_move, ties_back_move, slab_begins_move, slab_ends_move}
use Rattle.pool_laws.proofs.Below.{runs_keep_shelf, runs_keep_regions, runs_keep_free, runs_keep_post}
use Rattle.pool_laws.proofs.Below.{objects_lie_apart, objects_lie_in_regions, granules_have_one_place}
use Rattle.pool_laws.proofs.Below.{blocks_in_bins_are_free, given_back_is_not_lost}

pub moves_keep_whole : MovesKeepWhole
moves_keep_whole k w later good moves = record {
  shelf = runs_keep_shelf k (shelf_of w) (shelf_of later) good.shelf moves.shelf;
  regions = runs_keep_regions k (regions_of w) (regions_of later) good.regions moves.regions;
  free = runs_keep_free k (space_of w) (space_of later) good.free moves.free;
  post = runs_keep_post k (post_of w) (post_of later) good.post moves.post;
}

pub steps_move : StepsMove
steps_move k t w later good (WholeStep.guards h m' tasks step keeps free) =
    guards_move k t w h m' tasks step keeps free good
steps_move k t w later good (WholeStep.others action is free) = others_move k t w action is free good
steps_move k t w later good (WholeStep.bins h m' l' step ok free) = bins_move k t w h m' l' step ok free good
steps_move k t w later good (WholeStep.queue h m' l' step ok none) = queue_moves k t w h m' l' step ok none good
steps_move k t w later good (WholeStep.shelves s step ok idle) = shelves_move k t w s step ok idle good
steps_move k t w later good (WholeStep.office s step ok free) = office_moves k t w s step ok free good
steps_move k t w later good (WholeStep.posts p step ok free) = posts_move k t w p step ok free good
steps_move k t w later good (WholeStep.uses p step own free) = uses_move k t w p step own free good
steps_move k t w later good (WholeStep.orphans h m' l' step own free) =
    orphans_move k t w h m' l' step own free good
steps_move k t w later good (WholeStep.takes_back class e rest is free) =
    takes_back_move k t w class e rest is free good
steps_move k t w later good (WholeStep.walks_back class e first at count rest is joins free) =
    walks_back_move k t w class e first at count rest is joins free good
steps_move k t w later good (WholeStep.ties_back class e first last count rest is joins free) =
    ties_back_move k t w class e first last count rest is joins free good
steps_move k t w later good (WholeStep.slab_begins e class is settled has loose even free) =
    slab_begins_move k t w e class is settled has loose even free good
steps_move k t w later good (WholeStep.slab_ends e taking guard away by none stays free) =
    slab_ends_move k t w e taking guard away by none stays free good

pub steps_keep_whole : StepsKeepWhole
steps_keep_whole k t w later good step = moves_keep_whole k w later good (steps_move k t w later good step)

pub runs_keep_whole : RunsKeepWhole
runs_keep_whole k w later good WholeRun.starts = good
runs_keep_whole k w later good (WholeRun.steps {before} run t step) =
    steps_keep_whole k t before later (runs_keep_whole k w before good run) step

pub fresh_wholes_are_good : FreshShelvesAreGood → FreshRegionsAreGood → FreshSpacesAreGood → FreshPostsAreGood
    → FreshWholesAreGood
fresh_wholes_are_good shelves regions spaces posts k few low = record {
  shelf = shelves k low;
  regions = regions k low;
  free = spaces k low;
  post = posts k few low;
}

pub wholes_hold_together : FreshWholesAreGood → WholesHoldTogether
wholes_hold_together fresh k w few low run =
    let good = runs_keep_whole k (fresh_whole k) w (fresh k few low) run in record {
      apart = λ u v unit one two. objects_lie_apart k w.pool u v unit good.shelf.pool one two;
      regions = λ u unit has. objects_lie_in_regions k (regions_of w) u unit good.regions has;
      places = λ z. granules_have_one_place k (space_of w) z good.free;
      shelves = λ b x some. blocks_in_bins_are_free k (shelf_of w) b x good.shelf some;
      back = λ u is. given_back_is_not_lost k (post_of w) u good.post is;
    }
