-- What laws above cite.
pub use Rattle.word_laws.proofs.Rows.{less_or, equal_or, chosen, not_chosen}
pub use Rattle.word_laws.proofs.Moves.{write_here, write_else, stored-valid, stored-void, actions_act_by_kind}
pub use Rattle.word_laws.proofs.Puts.{put_here, put_else, read_put}
pub use Rattle.word_laws.proofs.Maps.{put-same, put-other, each, both}
