-- What the partition machine of one pool has at any time.
use Rattle.std.specs.Prelude.{ℕ, true, false, List, [], None}
use Rattle.pool_types.specs.declared.values.Place.{Place}
use Rattle.pool_types.specs.declared.policy.Policy.{Policy}
use Rattle.pool_types.specs.declared.policy.Limits.{Limits}
use Rattle.pool_types.specs.declared.policy.RegionRec.{RegionRec}
use Rattle.pool_types.specs.declared.rows.Keeper.{Keeper}
use Rattle.pool_types.specs.Limits.{plain_span, plain_region_bytes}
use Rattle.part_model.specs.declared.moves.Range.{Range}
use Rattle.part_model.specs.Holding.{Holding}

-- what the pool was made with: this never changes
pub record Terms : Type 0 where
  pub policy : Policy
  pub limits : Limits

-- a fixed pool of the plain span, for so many seats, that asks for a region of so many bytes
abbrev pub fixed_pool : ℕ → ℕ → Terms
fixed_pool seats bytes = record {
  policy = record {
    gets = true;
    frees = true;
    version = 1;
    granularity = 0;
    fixed = true;
    keep = false;
    reserved = 0;
  };
  limits = record { pool = 0; seats = seats; span = plain_span; region = bytes };
}

-- such a pool of the plain limits, for one seat
abbrev pub fixed_terms : Terms
fixed_terms = fixed_pool 1 plain_region_bytes

-- a slab that has objects: the place of its first byte, the position of its class, and who keeps it
pub record Slab : Type 0 where
  pub place : Place
  pub class : ℕ
  pub keeper : Keeper

-- Where each byte is, the live regions, the least region number that was never used, the book of slabs, the number of
-- the last object that each seat was granted, and the blocks in bins, as they were put or as they were left where a
-- part was taken out. The places of all bytes bear the pool's number.
pub record State : Type 0 where
  pub held : Holding
  pub regions : List RegionRec
  pub next : ℕ
  pub book : List Slab
  pub last : ℕ → ℕ
  pub blocks : List Range

-- no region, no slab, and nothing granted
abbrev pub nothing_yet : State
nothing_yet = record { held = λ byte. None; regions = []; next = 0; book = []; last = λ seat. 0; blocks = [] }
