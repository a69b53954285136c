-- What laws above cite.
pub use Rattle.cache_laws.proofs.Keeps.{steps_keep_cache, runs_keep_cache, each_change_is_one_step_of_the_rules}
pub use Rattle.cache_laws.proofs.Keeps.{words_are_those_of_the_stage, blocks_are_once, gets_take_the_newest}
pub use Rattle.cache_laws.proofs.Keeps.{puts_release_the_oldest, sweeps_release_the_oldest}
pub use Rattle.cache_laws.proofs.Uses.{steps_keep_uses, runs_keep_uses, used_is_the_number_of_uses, jobs_can_step}
pub use Rattle.cache_laws.proofs.Clock.{clock_counts_ticks, times_are_apart}
