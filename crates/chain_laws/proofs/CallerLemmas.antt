-- What laws above cite.
pub use Rattle.chain_laws.proofs.Tallies.{tally-here, tally-else, tally-more, tally-first, tally-rest, tally-append}
pub use Rattle.chain_laws.proofs.Tallies.{tally-split}
pub use Rattle.chain_laws.proofs.Tallies.{lists_among_are_short, lists_below_are_short}
pub use Rattle.chain_laws.proofs.Leading.{leads-same, leads-apart, leads-split, leads-join, chain-over, chain-pushed}
pub use Rattle.chain_laws.proofs.Leading.{other_links_leave_chain, link_joins_chains, walker_splits_chain}
pub use Rattle.chain_laws.proofs.Leading.{heads_have_one_list, chains_have_no_repeats, walk_gives_list}
pub use Rattle.chain_laws.proofs.ChainsInWords.{link_stored-links, link_stored-head, head_stored-links}
pub use Rattle.chain_laws.proofs.ChainsInWords.{head_stored-head}
pub use Rattle.chain_laws.proofs.Pushes.{stores-link, stores-head, pushing-same, push_puts_in_front}
pub use Rattle.chain_laws.proofs.Pushes.{swap_gives_whole_chain}
pub use Rattle.chain_laws.proofs.Tallies.{without-none, without-between}
pub use Rattle.chain_laws.proofs.Seats.{put-each, pairs-put}
pub use Rattle.chain_laws.proofs.Seats.{seats_begin, seats_push, seats_take}
