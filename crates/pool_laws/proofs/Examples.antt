-- The whole that is named, to which steps lead.
use Rattle.std.proofs.Common.{◌≡◌, ◌≢◌, ℕ, ◌+◌, ◌-◌, ◌*◌, ◌/◌, ◌<◌, refl, ap, arith, ◌∙◌}
use Rattle.pool_words.specs.declared.words.Key.{Key}
use Rattle.pool_words.specs.declared.words.Word.{Word}
use Rattle.pool_words.specs.declared.actions.Action.TheVariants.{Store}
use Rattle.pool_words.specs.Words.{sizes, lefts}
use Rattle.word_codes.specs.declared.guards.Guard.{Guard}
use Rattle.word_codes.specs.Guards.{guard_of}
use Rattle.guards.specs.declared.win.Side.{Side}
use Rattle.guards.specs.declared.win.Taking.{Taking}
use Rattle.size_classes.specs.Classes.{class_size, class_objects}
use Rattle.heap_slabs.specs.Records.{unit_of}
use Rattle.word_laws.specs.Memory.{fresh}
use Rattle.chain_laws.specs.Named.{ten_key}
use Rattle.guard_laws.specs.Blocks.{Piece, edge_of}
use Rattle.guard_laws.specs.Steps.{GuardStep, guard_in}
use Rattle.object_laws.specs.Objects.Task.{Resting}
use Rattle.object_laws.specs.Steps.{ObjectStep}
use Rattle.mail_laws.specs.Steps.{MailStep}
use Rattle.orphan_laws.specs.Steps.{OrphanStep}
use Rattle.use_laws.specs.Pools.{Pool}
use Rattle.use_laws.specs.Steps.{PoolStep}
use Rattle.shelf_laws.specs.Shelves.{ShelfGood}
use Rattle.region_laws.specs.Laws.{NamedRegionStands}
use Rattle.region_laws.specs.Named.{based_words, region_words, third_word}
use Rattle.free_laws.specs.Spaces.{FreeGood}
use Rattle.post_laws.specs.Posts.{PostGood}
use Rattle.pool_laws.specs.Wholes.{Whole, WholeGood, shelf_of, space_of, post_of}
use Rattle.pool_laws.specs.Changes.{with_pool}
use Rattle.pool_laws.specs.Steps.{WholeStep, WholeRun}
use Rattle.pool_laws.specs.Laws.{FreshWholesAreGood, NamedWholeStands}
use Rattle.pool_laws.specs.Named.{fresh_whole, region_whole, cut_whole, begun_whole, linked_whole, cleared_whole}
use Rattle.pool_laws.specs.Named.{owned_whole, slab_whole, first_unit, resting_whole, named_whole}
use Rattle.pool_laws.proofs.Words.{missed}
use Rattle.pool_laws.proofs.Lifts.{Between, post_runs}
use Rattle.pool_laws.proofs.Offices.{Outer, outer_none, outer_word, outer_then}
use Rattle.pool_laws.proofs.Moved.{runs_keep_whole}
use Rattle.pool_laws.proofs.Below.{runs_keep_shelf, runs_keep_free, runs_keep_post, zero_reads, unit-at}

-- what holds of all groups but of regions
record Besides (k : Key) (w : Whole) : Type 0 where
  pub shelf : ShelfGood k (shelf_of w)
  pub free : FreeGood k (space_of w)
  pub post : PostGood k (post_of w)

besides_then : (k : Key) (t : ℕ) (w : Whole) (later : Pool) → Besides k w → Outer k t w later
    → Besides k (with_pool later w)
besides_then k t w later good outer = record {
  shelf = runs_keep_shelf k (shelf_of w) (shelf_of (with_pool later w)) good.shelf outer.shelf;
  free = runs_keep_free k (space_of w) (space_of (with_pool later w)) good.free outer.free;
  post = runs_keep_post k (post_of w) (post_of (with_pool later w)) good.post
      (post_runs k t w later good.post outer.run outer.same outer.orphans);
}

-- the words of the office say nothing of guards
guards_unused : (e : Side) (y : ℕ) → guard_in region_words e y ≡ Guard.Used
guards_unused Side.Begin y =
    ap (λ (f : ℕ → ℕ). guard_of (f y))
    (missed ten_key based_words (Between 28 28) sizes (Store (Word.Region 3) third_word)
    (λ n is e. let a = is.0 in omega (arith, e, a)) (omega arith, omega arith))
    ∙ ap (λ (f : ℕ → ℕ). guard_of (f y))
    (missed ten_key fresh (Between 29 29) sizes (Store (Word.Base 3) 16384)
    (λ n is e. let a = is.0 in omega (arith, e, a)) (omega arith, omega arith)) ∙ zero_reads
guards_unused Side.End y =
    ap (λ (f : ℕ → ℕ). guard_of (f y))
    (missed ten_key based_words (Between 28 28) lefts (Store (Word.Region 3) third_word)
    (λ n is e. let a = is.0 in omega (arith, e, a)) (omega arith, omega arith))
    ∙ ap (λ (f : ℕ → ℕ). guard_of (f y))
    (missed ten_key fresh (Between 29 29) lefts (Store (Word.Base 3) 16384)
    (λ n is e. let a = is.0 in omega (arith, e, a)) (omega arith, omega arith)) ∙ zero_reads

abbrev based_whole : Whole
based_whole = with_pool (record (fresh_whole ten_key).pool { mem = based_words }) (fresh_whole ten_key)

abbrev worded_whole : Whole
worded_whole = with_pool (record based_whole.pool { mem = region_words }) based_whole

region_besides : FreshWholesAreGood → Besides ten_key region_whole
region_besides wholes =
    let good = wholes ten_key (omega arith) (omega arith) in
    let first : Besides ten_key (fresh_whole ten_key) =
    record { shelf = good.shelf; free = good.free; post = good.post } in
    let second : Besides ten_key based_whole = besides_then ten_key 1 (fresh_whole ten_key) based_whole.pool first
    (outer_word ten_key 1 (fresh_whole ten_key) (Store (Word.Base 3) 16384) (record { shelf = refl; queue = tt })
    (omega arith, omega arith)) in
    let third' : Besides ten_key worded_whole = besides_then ten_key 1 based_whole worded_whole.pool second
    (outer_word ten_key 1 based_whole (Store (Word.Region 3) third_word) (record { shelf = refl; queue = tt })
    (omega arith, omega arith)) in
    let fourth : Besides ten_key (with_pool region_whole.pool worded_whole) =
    besides_then ten_key 1 worded_whole region_whole.pool third'
    (outer_then ten_key 1 worded_whole worded_whole.pool region_whole.pool.blocks
    (GuardStep.comes 2 5 (omega arith) (omega arith) (λ z low high. refl) (λ e. guards_unused e (edge_of e 2 5))) tt tt
    (record { shelf = refl; queue = tt }) (outer_none ten_key 1 worded_whole)) in
    record { shelf = fourth.shelf; free = fourth.free; post = fourth.post }

loose : (x n : ℕ) → Piece.NoPiece ≢ Piece.Got x n
loose x n = λ q. absurd (let r : Piece.NoPiece ≡ Piece.Got x n = q in cc)

class_some : 0 < class_objects 4
unfolding class_objects class_size
class_some = omega arith

size_is : class_size 4 ≡ 64
unfolding class_size
size_is = refl

first_is : first_unit ≡ unit_of 2 4 0
first_is = let at = unit-at 2 4 0 (omega arith) class_some in
    let size = ap (λ n. 2048 - (0 + 1) * (n / 8)) size_is in omega arith

cut_step : WholeStep ten_key 1 region_whole cut_whole
cut_step = WholeStep.guards cut_whole.pool.blocks region_whole.pool.mem region_whole.pool.tasks
    (GuardStep.splits 2 2 3 refl (omega arith) (omega arith) refl (λ e. guards_unused e 4))
    (record { listed = loose 2; taken = refl }) (record { shelf = refl; queue = tt })

begun_step : WholeStep ten_key 1 cut_whole begun_whole
begun_step = WholeStep.orphans begun_whole.ways begun_whole.pool.mem _
    (OrphanStep.asides (MailStep.begins 1 2 4 refl refl (omega arith) (omega arith) (omega arith)) tt)
    (refl, refl, refl) (record { shelf = refl; queue = tt })

linked_step : WholeStep ten_key 1 begun_whole linked_whole
linked_step = WholeStep.orphans linked_whole.ways linked_whole.pool.mem _
    (OrphanStep.asides (MailStep.settles 1 2 4 refl) tt) refl (record { shelf = refl; queue = tt })

cleared_step : WholeStep ten_key 1 linked_whole cleared_whole
cleared_step = WholeStep.orphans cleared_whole.ways cleared_whole.pool.mem _
    (OrphanStep.asides (MailStep.clears 1 2 4 refl) tt)
    (refl, (2, Taking.ForUse, record { away = refl; block = refl })) (record { shelf = refl; queue = tt })

owned_step : WholeStep ten_key 1 cleared_whole owned_whole
owned_step = WholeStep.orphans owned_whole.ways owned_whole.pool.mem _ (OrphanStep.owns_first 1 2 4 refl refl) refl
    (record { shelf = refl; queue = tt })

slab_step : WholeStep ten_key 1 owned_whole slab_whole
slab_step = WholeStep.slab_begins 2 4 refl refl (record { away = refl; block = refl })
    (record { listed = loose 2; taken = refl }) refl (record { shelf = refl; queue = tt })

resting_step : WholeStep ten_key 1 slab_whole resting_whole
resting_step = WholeStep.uses resting_whole.pool
    (PoolStep.objects resting_whole.pool.objects resting_whole.pool.mem resting_whole.pool.locals
    (ObjectStep.begins 1 (Resting 2 first_unit) refl tt (refl, refl, omega arith, class_some, first_is)) tt)
    (refl, tt, record { mail = refl; orphan = refl }) (record { shelf = refl; queue = tt })

named_step : WholeStep ten_key 1 resting_whole named_whole
named_step = WholeStep.uses named_whole.pool (PoolStep.rests 2 first_unit (omega arith) refl) tt
    (record { shelf = refl; queue = tt })

named_run : WholeRun ten_key region_whole named_whole
named_run = WholeRun.steps (WholeRun.steps (WholeRun.steps (WholeRun.steps (WholeRun.steps (WholeRun.steps
    (WholeRun.steps (WholeRun.steps WholeRun.starts 1 cut_step) 1 begun_step) 1 linked_step) 1 cleared_step)
    1 owned_step) 1 slab_step) 1 resting_step) 1 named_step

pub named_whole_stands : FreshWholesAreGood → NamedRegionStands → NamedWholeStands
named_whole_stands wholes region =
    let besides = region_besides wholes in
    let first : WholeGood ten_key region_whole =
    record { shelf = besides.shelf; regions = region; free = besides.free; post = besides.post } in
    record {
      region = first;
      run = named_run;
      good = runs_keep_whole ten_key region_whole named_whole first named_run;
      live = refl;
      slab = refl;
      object = refl;
      mail = refl;
      hand = refl;
    }
