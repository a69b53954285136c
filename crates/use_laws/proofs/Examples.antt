-- A new pool, the pool that is named, to which steps lead from it, and what the wrong definitions come to.
use Rattle.std.proofs.Common.{◌≡◌, ℕ, ◌+◌, ◌-◌, ◌*◌, ◌/◌, ◌<◌, refl, ap, arith}
use Rattle.pool_words.specs.declared.words.Word.{Word}
use Rattle.pool_words.specs.declared.actions.Action.TheVariants.{Store}
use Rattle.pool_words.specs.Words.{marks, publics, kinds, headers, number, kind_of_word}
use Rattle.word_codes.specs.declared.guards.Guard.{Guard}
use Rattle.guards.specs.declared.win.Side.{Side}
use Rattle.guards.specs.declared.win.Taking.{Taking}
use Rattle.size_classes.specs.Classes.{class_size, class_objects}
use Rattle.word_laws.specs.Memory.{Mem, after, fresh}
use Rattle.chain_laws.specs.Named.{ten_key}
use Rattle.guard_laws.specs.Blocks.{Use, edge_of}
use Rattle.guard_laws.specs.Blocks as guards
use Rattle.guard_laws.specs.Steps.{guard_in, GuardStep}
use Rattle.guard_laws.specs.Laws.{FreshPoolsHaveNoBlocks}
use Rattle.guard_laws.proofs.CallerLemmas.{zero_reads, stored-apart}
use Rattle.heap_slabs.specs.Records.{unit_of}
use Rattle.slab_laws.proofs.CallerLemmas.{unit-at}
use Rattle.slab_laws.specs.Laws.{FreshPoolsHaveNoSlabs}
use Rattle.object_laws.specs.Laws.{FreshPoolsHaveNoObjects}
use Rattle.object_laws.specs.Objects.Task.{Resting}
use Rattle.object_laws.specs.Steps.{ObjectStep}
use Rattle.use_laws.specs.Uses.{Purpose}
use Rattle.use_laws.specs.Pools.{Pool}
use Rattle.use_laws.specs.Steps.{PoolStep, PoolRun, SameThings}
use Rattle.use_laws.specs.Steps.PoolRun.{starts, steps}
use Rattle.use_laws.specs.Named.{fresh_pool, one_region, cut_at, six_blocks, one_offered, one_in_bin, one_slab}
use Rattle.use_laws.specs.Named.{first_unit, one_resting, one_object, large_unit, one_ready, two_objects, one_cached}
use Rattle.use_laws.specs.Named.{named_pool}
use Rattle.use_laws.specs.Laws.{FreshPoolsAreGood, NamedPoolStands}
use Rattle.use_laws.specs.Wrong.{SlabsOverBlocksAreWrong, SharedBlocksAreWrong, SeizedBlocksAreWrong}
use Rattle.use_laws.proofs.Keeps.{runs_keep_pool}

pub fresh_pools_are_good : FreshPoolsHaveNoBlocks → FreshPoolsHaveNoSlabs → FreshPoolsHaveNoObjects → FreshPoolsAreGood
fresh_pools_are_good blocks slabs objects k low = record {
  guards = blocks k low;
  slabs = slabs k low;
  objects = objects k low;
  uses = λ x. record { fits = λ n q. cc; slab = λ is. absurd is; object = λ u n q. absurd (cc) };
}

-- a new pool's guards say that blocks are in use
unused : (e : Side) (y : ℕ) → guard_in fresh e y ≡ Guard.Used
unused Side.Begin y = zero_reads
unused Side.End y = zero_reads

same_words : (m : Mem) → SameThings m m
same_words m = record { marks' = refl; publics' = refl; kinds' = refl; headers' = refl }

guard_stored : (m : Mem) (w : Word) (v : ℕ) → 5 < number (kind_of_word w)
    → SameThings m (after ten_key m (Store w v))
guard_stored m w v far = record {
  marks' = stored-apart ten_key m w v marks (λ e. omega (arith, e, far));
  publics' = stored-apart ten_key m w v publics (λ e. omega (arith, e, far));
  kinds' = stored-apart ten_key m w v kinds (λ e. omega (arith, e, far));
  headers' = stored-apart ten_key m w v headers (λ e. omega (arith, e, far));
}

region_comes : PoolStep ten_key 0 (fresh_pool ten_key) one_region
region_comes = PoolStep.guards one_region.blocks fresh (fresh_pool ten_key).tasks
    (GuardStep.comes 0 10 (omega arith) (omega arith) (λ z low high. refl) (λ e. unused e (edge_of e 0 10))) tt
    (same_words fresh)

cuts : (first a b : ℕ) (p : Pool) → p.mem ≡ fresh → p.tasks 0 ≡ guards.Task.Away → 0 < a → 0 < b
    → p.blocks.place first ≡ guards.Place.Block first (a + b) (Use.Held 0 Taking.ForUse)
    → PoolStep ten_key 0 p (cut_at first a b p)
cuts first a b p is away some more at = PoolStep.guards (cut_at first a b p).blocks p.mem p.tasks
    (GuardStep.splits first a b away some more at
    (λ e. rw is (unused e (first + a)))) tt (same_words p.mem)

blocks_cut : PoolRun ten_key (fresh_pool ten_key) six_blocks
blocks_cut =
    steps (steps (steps (steps (steps (steps starts 0 region_comes)
    0 (cuts 0 2 8 one_region refl refl (omega arith) (omega arith) refl))
    0 (cuts 2 2 6 (cut_at 0 2 8 one_region) refl refl (omega arith) (omega arith) refl))
    0 (cuts 4 2 4 (cut_at 2 2 6 (cut_at 0 2 8 one_region)) refl refl (omega arith) (omega arith) refl))
    0 (cuts 6 1 3 (cut_at 4 2 4 (cut_at 2 2 6 (cut_at 0 2 8 one_region))) refl refl (omega arith) (omega arith) refl))
    0 (cuts 7 1 2 (cut_at 6 1 3 (cut_at 4 2 4 (cut_at 2 2 6 (cut_at 0 2 8 one_region)))) refl refl (omega arith)
    (omega arith) refl)

block_offered : PoolStep ten_key 0 six_blocks one_offered
block_offered = PoolStep.guards one_offered.blocks one_offered.mem one_offered.tasks
    (GuardStep.offers 8 2 Taking.ForUse refl refl) tt (guard_stored six_blocks.mem (Word.Size 8) _ (omega arith))

block_binned : PoolStep ten_key 0 one_offered one_in_bin
block_binned = PoolStep.guards one_in_bin.blocks one_in_bin.mem one_in_bin.tasks
    (GuardStep.offered 8 2 refl) tt (guard_stored one_offered.mem (Word.Left 10) _ (omega arith))

class_some : 0 < class_objects 4
unfolding class_objects class_size
class_some = omega arith

size_is : class_size 4 ≡ 64
unfolding class_size
size_is = refl

first_is : first_unit ≡ unit_of 0 4 0
first_is = let at = unit-at 0 4 0 (omega arith) class_some in
    let size = ap (λ n. 2048 - (0 + 1) * (n / 8)) size_is in omega arith

slab_begun : PoolStep ten_key 0 one_in_bin one_slab
slab_begun = PoolStep.slab_begins 0 4 (record { away = refl; block = refl }) refl refl (omega arith)

object_rests : PoolStep ten_key 0 one_slab one_resting
object_rests = PoolStep.objects one_resting.objects one_resting.mem one_resting.locals
    (ObjectStep.begins 0 (Resting 0 first_unit) refl tt (refl, refl, omega arith, class_some, first_is)) tt

block_ready : PoolStep ten_key 0 one_object one_ready
block_ready = PoolStep.readies 4 2 large_unit (record { away = refl; block = refl }) refl (omega arith, omega arith)
    (omega arith) (omega arith) (omega arith)

block_granted : PoolStep ten_key 0 one_ready two_objects
block_granted = PoolStep.objects two_objects.objects two_objects.mem two_objects.locals
    (ObjectStep.blocks 0 large_unit 4 2 (omega arith) refl) tt

slab_caught : PoolStep ten_key 0 two_objects one_cached
slab_caught = PoolStep.slab_cached 2 (record { away = refl; block = refl }) refl (omega arith)

named_run : PoolRun ten_key (fresh_pool ten_key) named_pool
named_run =
    steps (steps (steps (steps (steps (steps (steps (steps (steps blocks_cut 0 block_offered) 0 block_binned)
    0 slab_begun) 0 object_rests) 0 (PoolStep.rests 0 first_unit (omega arith) refl)) 0 block_ready) 0 block_granted)
    0 slab_caught) 0 (PoolStep.shelves 6 1 (record { away = refl; block = refl }))

pub named_pool_stands : FreshPoolsAreGood → NamedPoolStands
named_pool_stands fresh' = record {
  run = named_run;
  good = runs_keep_pool ten_key (fresh_pool ten_key) named_pool (fresh' ten_key (omega arith)) named_run;
  object = refl;
  cached = refl;
  large = refl;
  shelved = refl;
  hand = refl;
  bin = refl;
}

pub slabs_over_blocks_are_wrong : NamedPoolStands → SlabsOverBlocksAreWrong
slabs_over_blocks_are_wrong named wrong =
    let good = wrong ten_key 0 named_pool 4 4 refl named.good in
    let q : Purpose.Slab ≡ Purpose.Object large_unit = (good.uses 4).object large_unit 2 refl in cc

-- behind the first eight units of the block
abbrev other_unit : ℕ
other_unit = 4104

pub shared_blocks_are_wrong : NamedPoolStands → SharedBlocksAreWrong
shared_blocks_are_wrong named wrong =
    let good = wrong ten_key 0 named_pool 4 2 other_unit refl (omega arith) (omega arith) named.good in
    let q : Purpose.Object other_unit ≡ Purpose.Object large_unit = (good.uses 4).object large_unit 2 refl in
    let same : other_unit ≡ large_unit = cc in omega (arith, same)

pub seized_blocks_are_wrong : NamedPoolStands → SeizedBlocksAreWrong
seized_blocks_are_wrong named wrong =
    let good = wrong ten_key 0 named_pool 4 2 Taking.ForUse refl named.good in
    let q : Purpose.Spare ≡ Purpose.Object large_unit = (good.uses 4).object large_unit 2 refl in cc
