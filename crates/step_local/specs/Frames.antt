-- A local without a call, and what a call is about.
use Rattle.std.specs.Prelude.{ℕ, false, Option, Some, None}
use Rattle.pool_types.specs.declared.values.Found.{Found}
use Rattle.pool_types.specs.declared.values.Request.{Request}
use Rattle.pool_words.specs.declared.words.Key.{Key}
use Rattle.word_codes.specs.declared.kinds.Kind.{Kind}
use Rattle.backend_bins.specs.declared.blocks.Block.{Block}
use Rattle.heap_slabs.specs.Heaps.{empty_heap}
use Rattle.heap_slabs.specs.Rolls.{empty_roll}
use Rattle.large_cache.specs.declared.sweep.Cleanup.{Cleanup}
use Rattle.step_local.specs.declared.frames.Ask.{Ask}
use Rattle.step_local.specs.declared.frames.At.{At}
use Rattle.step_local.specs.declared.frames.Call.{Call}
use Rattle.step_local.specs.declared.frames.Fetch.{Fetch}
use Rattle.step_local.specs.declared.frames.Local.{Local}
use Rattle.step_local.specs.declared.frames.Object.{Object}
use Rattle.step_local.specs.declared.frames.PutFor.{PutFor}
use Rattle.step_local.specs.declared.frames.Served.{Served}
use Rattle.step_local.specs.declared.frames.Stage.{Stage}
use Rattle.step_local.specs.declared.frames.Sweep.{Sweep}
use Rattle.step_local.specs.declared.frames.Tried.{Tried}
use Rattle.step_local.specs.declared.frames.Tries.{Tries}

-- the most blocks that a cleanup takes out of a bin
abbrev pub most_released : ℕ
most_released = 64

-- the last bin of the cache
abbrev pub last_cache_bin : ℕ
last_cache_bin = 1023

abbrev pub no_object : Object
no_object = record { number = 0; offset = 0; unit = 0; mark = 0; kind = Kind.Nothing }

abbrev pub no_block : Block
no_block = record { first = 0; granules = 0 }

abbrev pub no_call : Call
no_call = record {
  stage = Stage.Idle;
  request = Request.Exit;
  old = no_object;
  new = no_object;
  served = Served.Small 0;
  tried = Tried.Nothing;
  slab = 0;
  block = no_block;
  missed = false;
  region = 0;
  time = 0;
  surplus = 0;
  lost = Found.NoPlace;
}

abbrev pub made : Key → ℕ → Local
made k seat = record {
  key = k;
  seat = seat;
  last = 0;
  heap = empty_heap k.span;
  released = empty_roll most_released;
  call = no_call;
  fetch = record { class = 0; awaited = 0; came = false; spare = 0 };
  ask = record {
    want = record { granules = 0; slab = false };
    tries = Tries.First;
    block = no_block;
    refused = None;
  };
  sweep = record { cleanup = Cleanup.Regular; granules = 0; time = 0 };
  put = PutFor.Surplus;
  at = At.Idle;
}
