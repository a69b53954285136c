-- What laws above cite.
pub use Rattle.cache_tasks.proofs.Begun.{begins_start_cache_tasks}
pub use Rattle.cache_tasks.proofs.CacheTurns.{turns_move_cache_tasks, started_cache_tasks_are_starts}
pub use Rattle.cache_tasks.proofs.CacheTurns.{rows_leave_cache_tasks, calls_are_those_of_tasks, held_gone}
pub use Rattle.cache_tasks.proofs.Kept.{turns_keep_released, fresh_locals_fit}
pub use Rattle.cache_tasks.proofs.Rooms.{good_sweeps_have_room, released_are_those_that_go}
pub use Rattle.cache_tasks.proofs.ShelfTurns.{turns_are_shelf_steps, starts_are_shelf_steps}
pub use Rattle.cache_tasks.proofs.Taken.{taken_blocks_come_into_hand, swept_blocks_are_put}
