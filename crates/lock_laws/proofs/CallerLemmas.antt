-- What laws above cite.
pub use Rattle.lock_laws.proofs.Locks.{lock_word-inj, lock_word-taken, locks-taken, locks-freed, lock_stored}
pub use Rattle.lock_laws.proofs.Locks.{other_stored}
pub use Rattle.lock_laws.proofs.Locks.{lock_names_its_seat, lock_is_won_or_waits, freed_lock_is_nobodys}
pub use Rattle.lock_laws.proofs.Locks.{other_steps_leave_locks}
pub use Rattle.lock_laws.proofs.Back.{back-same, back-apart, back-at, back-short, back-out, last_split}
pub use Rattle.lock_laws.proofs.Inserting.{Finds, inserts}
pub use Rattle.lock_laws.proofs.Removing.{Sees, once-apart, skips, removes}
pub use Rattle.lock_laws.proofs.ListsInWords.{link_at-item, link_at-end, next_stored, previous_stored, first_stored}
pub use Rattle.lock_laws.proofs.ListsInWords.{first_inside, last_inside, before_inside, behind_inside}
pub use Rattle.lock_laws.proofs.ListsInWords.{insert_keeps_list, remove_keeps_list}
pub use Rattle.lock_laws.proofs.Runs.{items_of, list-same, IsLeft, inserts-left, removes-left, left_by}
pub use Rattle.lock_laws.proofs.Runs.{leaves_word, leaves_all, other_lists_stand}
pub use Rattle.lock_laws.proofs.Runs.{insert_runs, remove_runs, between_locks_one_item}
pub use Rattle.lock_laws.proofs.Seats.{apart-sym, seats_take, seats_free, seats_put, seats_cut, seats_insert}
pub use Rattle.lock_laws.proofs.Seats.{seats_remove}
