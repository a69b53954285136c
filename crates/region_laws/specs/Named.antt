-- A new pool without a region; and one whose region of five granules is a block in seat 1's hand.
use Rattle.std.specs.Prelude.{ℕ, Some, None}
use Rattle.pool_words.specs.declared.words.Key.{Key}
use Rattle.pool_words.specs.declared.words.Word.{Word}
use Rattle.pool_words.specs.declared.actions.Action.TheVariants.{Store}
use Rattle.word_codes.specs.RegionWords.{region_word}
use Rattle.guards.specs.declared.win.Taking.{Taking}
use Rattle.region_steps.specs.Office.{region_word_of}
use Rattle.word_laws.specs.Memory.{Mem, put, after, fresh}
use Rattle.chain_laws.specs.Named.{ten_key}
use Rattle.guard_laws.specs.Blocks.{Use, Standing}
use Rattle.guard_laws.specs.Named.{no_blocks}
use Rattle.guard_laws.specs.Steps.{with_use, with_edges}
use Rattle.office_laws.specs.Named.{no_regions, third, named_regions}
use Rattle.office_laws.specs.Regions.{Task}
use Rattle.use_laws.specs.Named.{fresh_pool}
use Rattle.use_laws.specs.Pools.{Pool}
use Rattle.region_laws.specs.Granules.{State}

abbrev pub fresh_state : Key → State
fresh_state k = record {
  pool = fresh_pool k;
  desks = λ seat. Task.Away;
  settled = λ s. None;
  office = no_regions;
}

abbrev pub third_word : ℕ
third_word = region_word (region_word_of third)

abbrev pub based_words : Mem
based_words = after ten_key fresh (Store (Word.Base 3) 16384)

abbrev pub region_words : Mem
region_words = after ten_key based_words (Store (Word.Region 3) third_word)

abbrev pub one_block : Pool
one_block = record (fresh_pool ten_key) {
  blocks = with_use 2 5 (Use.Held 1 Taking.ForUse) (with_edges 2 5 Standing.Resting no_blocks);
}

abbrev pub named_state : State
named_state = record {
  pool = record one_block { mem = region_words };
  desks = λ seat. Task.Away;
  settled = put (λ s. None) 3 (Some third);
  office = named_regions;
}
