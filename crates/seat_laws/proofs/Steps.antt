-- A step of a seat leaves all that another seat's local says.
use Rattle.public_list.specs.declared.joining.JoinAt.{JoinAt}
use Rattle.pool_laws.specs.Steps.{WholeStep}
use Rattle.seat_laws.specs.Laws.{OthersStepsLeaveSeats, StepsLeaveOthers}
use Rattle.seat_laws.proofs.Backs.{slab_begins_leave, slab_ends_leave, takes_back_leave, ties_back_leave}
use Rattle.seat_laws.proofs.Backs.{walks_back_leave}
use Rattle.seat_laws.proofs.Binned.{bins_leave}
use Rattle.seat_laws.proofs.Guarded.{guards_leave_others}
use Rattle.seat_laws.proofs.Offices.{office_leaves}
use Rattle.seat_laws.proofs.Orphans.{orphans_leave}
use Rattle.seat_laws.proofs.Others.{others_leave}
use Rattle.seat_laws.proofs.Posts.{posts_leave}
use Rattle.seat_laws.proofs.Queued.{queue_leaves}
use Rattle.seat_laws.proofs.Shelves.{shelves_leave}
use Rattle.seat_laws.proofs.Tied.{seats_left_alone_are_tied}
use Rattle.seat_laws.proofs.Uses.{uses_leave}

pub others_steps_leave_seats : OthersStepsLeaveSeats
others_steps_leave_seats k o t w later good (WholeStep.guards h m' tasks step keeps free) ne =
    guards_leave_others k o t w h m' tasks step keeps good ne
others_steps_leave_seats k o t w later good (WholeStep.others action is free) ne = others_leave k t w action is
others_steps_leave_seats k o t w later good (WholeStep.bins h m' l' step at free) ne =
    bins_leave k o t w h m' l' good ne step at
others_steps_leave_seats k o t w later good (WholeStep.queue h m' l' step at none) ne =
    queue_leaves k o t w h m' l' good ne step at
others_steps_leave_seats k o t w later good (WholeStep.shelves s step at idle) ne =
    shelves_leave k o t w s good ne step at
others_steps_leave_seats k o t w later good (WholeStep.office s step at free) ne =
    office_leaves k o t w s good ne step at
others_steps_leave_seats k o t w later good (WholeStep.posts p step at free) ne =
    posts_leave k o t w p good ne step at
others_steps_leave_seats k o t w later good (WholeStep.uses p step own free) ne =
    uses_leave k o t w p good ne step own
others_steps_leave_seats k o t w later good (WholeStep.orphans h m' l' step own free) ne =
    orphans_leave k o t w h m' l' ne step own
others_steps_leave_seats k o t w later good (WholeStep.takes_back class e rest is free) ne =
    takes_back_leave k o t class e rest w ne
others_steps_leave_seats k o t w later good (WholeStep.walks_back class e first at count rest is joins free) ne =
    walks_back_leave k o t e (JoinAt.Walk first at count) w ne
others_steps_leave_seats k o t w later good (WholeStep.ties_back class e first last count rest is joins free) ne =
    ties_back_leave k o t e first last count w ne
others_steps_leave_seats k o t w later good (WholeStep.slab_begins e class is settled has loose even free) ne =
    slab_begins_leave k o t e class w good ne has
others_steps_leave_seats k o t w later good (WholeStep.slab_ends e taking guard away by none stays free) ne =
    slab_ends_leave k o t e taking w good ne by

pub steps_leave_others : StepsLeaveOthers
steps_leave_others k o t w later l good step ne tied = seats_left_alone_are_tied k w later t l good
    (others_steps_leave_seats k o t w later good step ne) tied
