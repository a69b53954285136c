-- A new pool without regions, the region that is named, and what the wrong definition comes to.
use Rattle.std.proofs.Common.{◌≡◌, inl, ℕ, ◌+◌, ◌≤◌, false, Option, Some, None, refl, sym, ap, subst, arith, ◌∙◌}
use Rattle.pool_types.specs.declared.policy.RegionRec.{RegionRec}
use Rattle.pool_words.specs.declared.words.Word.{Word}
use Rattle.pool_words.specs.declared.actions.Action.TheVariants.{Store}
use Rattle.pool_words.specs.Words.{office_locks, regions, bases}
use Rattle.word_codes.specs.declared.guards.Guard.{Guard}
use Rattle.word_codes.specs.Locks.{holder_of}
use Rattle.word_codes.specs.RegionWords.{region_of, FitsRegion}
use Rattle.word_codes.proofs.CallerLemmas.{regions_read_back}
use Rattle.guards.specs.declared.win.Side.{Side}
use Rattle.guards.specs.declared.win.Taking.{Taking}
use Rattle.region_steps.specs.Office.{region_word_of}
use Rattle.word_laws.specs.Memory.{Mem, put, write, fresh}
use Rattle.word_laws.proofs.CallerLemmas.{equal_or, put-other, each, stored-valid}
use Rattle.chain_laws.specs.Named.{ten_key}
use Rattle.guard_laws.specs.Blocks.{Use, edge_of}
use Rattle.guard_laws.specs.Steps.{GuardStep, guard_in}
use Rattle.guard_laws.proofs.CallerLemmas.{zero_reads, stored-apart}
use Rattle.office_laws.specs.Named.{third, named_regions}
use Rattle.office_laws.specs.Laws.{FreshOfficesHaveNoRegions}
use Rattle.office_laws.specs.Regions as office
use Rattle.office_laws.specs.Regions.{Task, WordFits, RegionFits, OfficeGood}
use Rattle.office_laws.proofs.CallerLemmas.{SameWords, same_keeps}
use Rattle.use_laws.specs.Laws.{FreshPoolsAreGood}
use Rattle.use_laws.specs.Named.{fresh_pool}
use Rattle.use_laws.specs.Pools.{PoolGood}
use Rattle.use_laws.specs.Steps.{PoolStep}
use Rattle.use_laws.proofs.CallerLemmas.{steps_keep_pool, same_self, mem_so}
use Rattle.region_laws.specs.Granules.{GranulesFit}
use Rattle.region_laws.specs.Laws.{FreshRegionsAreGood, NamedRegionStands}
use Rattle.region_laws.specs.Named.{third_word, based_words, region_words, one_block, named_state}
use Rattle.region_laws.specs.Wrong.{EarlyRemovalsAreWrong}
use Rattle.region_laws.proofs.Granules.{granules_settled}

pub fresh_regions_are_good : FreshPoolsAreGood → FreshOfficesHaveNoRegions → FreshRegionsAreGood
fresh_regions_are_good pools offices k low = record {
  pool = pools k low;
  office = offices;
  placed = record {
    known = λ s one is. absurd (cc);
    within = λ s one is. absurd (cc);
    inside = λ s one y is has. absurd (cc);
    outside = λ y is. absurd is;
  };
  unsettled = λ seat one is. refl;
}

-- the region's block
used : (e : Side) (y : ℕ) → guard_in fresh e y ≡ Guard.Used
used Side.Begin y = zero_reads
used Side.End y = zero_reads

block_comes : FreshPoolsAreGood → PoolGood ten_key one_block
block_comes pools = steps_keep_pool ten_key 1 (fresh_pool ten_key) one_block (pools ten_key (omega arith))
    (PoolStep.guards one_block.blocks fresh one_block.tasks
    (GuardStep.comes 2 5 (omega arith) (omega arith) (λ z low high. refl) (λ e. used e (edge_of e 2 5))) tt
    (same_self fresh))

-- its words, by kind
abbrev plain_words : Mem
plain_words = write (write fresh bases 3 16384) regions 3 third_word

same_words : SameWords plain_words region_words
same_words = record {
  lock = stored-apart ten_key based_words (Word.Region 3) third_word office_locks (λ e. omega (arith, e))
      ∙ stored-apart ten_key fresh (Word.Base 3) 16384 office_locks (λ e. omega (arith, e));
  words = ap (λ (m : Mem). m regions) (stored-valid ten_key based_words (Word.Region 3) third_word (omega arith))
      ∙ ap (λ (f : ℕ → ℕ). put f 3 third_word)
      (stored-apart ten_key fresh (Word.Base 3) 16384 regions (λ e. omega (arith, e)));
  bases' = stored-apart ten_key based_words (Word.Region 3) third_word bases (λ e. omega (arith, e))
      ∙ ap (λ (m : Mem). m bases) (stored-valid ten_key fresh (Word.Base 3) 16384 (omega arith));
}

nobody : holder_of 0 ≡ None
unfolding holder_of
nobody = refl

dead : (region_of 0).live ≡ false
unfolding region_of
dead = refl

third_fits : FitsRegion (region_word_of third)
third_fits = record { number = omega arith; first = omega arith; granules = omega arith; waste = omega arith }

only_third : (s : ℕ) (one : RegionRec) → named_regions.live s ≡ Some one → (s ≡ 3) × (one ≡ third)
only_third s one = each (λ s q. q ≡ Some one → (s ≡ 3) × (one ≡ third)) (λ s. None) 3 (Some third)
    (λ s _ is. absurd (let q : None ≡ Some one = is in cc))
    (λ is. (refl, let q : Some third ≡ Some one = is in cc)) s

named_office : OfficeGood named_regions (office.core_in plain_words (λ seat. Task.Away))
named_office = record {
  lock_fits = record {
    held = λ o z. absurd z;
    named = λ o is. absurd (let q : None ≡ Some o = sym nobody ∙ is in cc);
  };
  words_fit = λ n. equal_or n 3
      (λ same. subst (λ x. WordFits (named_regions.live x) (region_of (plain_words regions x)) (plain_words bases x))
      (sym same) (regions_read_back (region_word_of third) third_fits, refl))
      (λ ne. subst (λ q. WordFits q (region_of (plain_words regions n)) (plain_words bases n))
      (sym (put-other {A = Option RegionRec} (λ s. None) 3 (Some third) n ne))
      (ap (λ v. (region_of v).live) (put-other (λ s. 0) 3 third_word n ne) ∙ dead));
  records_fit = record { known = λ s one is. is; entered = λ s one is. inl is };
  out_fits = record {
    each = λ s one is. let at = only_third s one is in
        subst (λ x. RegionFits 4 x one) (sym at.0) (subst (RegionFits 4 3) (sym at.1) (record {
          slot = refl;
          number = omega arith;
          fits = third_fits;
        }));
    apart = λ s o a b ne is w. absurd (ne ((only_third s a is).0 ∙ sym (only_third o b w).0));
  };
  tasks_fit = λ seat. tt;
}

empty_granules : GranulesFit ten_key named_regions (λ s. None) (fresh_pool ten_key).blocks.place
empty_granules = record {
  known = λ s one is. absurd (cc);
  within = λ s one is. subst (λ (r : RegionRec). r.first + r.granules ≤ 10) (sym (only_third s one is).1) (omega arith);
  inside = λ s one y is has. absurd (cc);
  outside = λ y is. absurd is;
}

pub named_region_stands : FreshPoolsAreGood → NamedRegionStands
named_region_stands pools = record {
  pool = mem_so ten_key 1 (record one_block { mem = based_words }) (Store (Word.Region 3) third_word) (omega arith)
      (mem_so ten_key 1 one_block (Store (Word.Base 3) 16384) (omega arith) (block_comes pools));
  office = same_keeps named_regions plain_words region_words (λ seat. Task.Away) same_words named_office;
  placed = granules_settled ten_key named_regions (λ s. None) (fresh_pool ten_key).blocks.place third
      (Use.Held 1 Taking.ForUse) refl refl empty_granules;
  unsettled = λ seat one is. absurd (cc);
}

pub early_removals_are_wrong : NamedRegionStands → EarlyRemovalsAreWrong
early_removals_are_wrong named wrong =
    let good = wrong ten_key named_state 3 named in
    let there = good.placed.outside 2 tt in none there.0 there.1 there.2
  where
    none : (s : ℕ) (one : RegionRec) → put (put (λ s. None) 3 (Some third)) 3 None s ≡ Some one → ⊥
    none s one = each (λ s q. q ≡ Some one → ⊥) (put (λ s. None) 3 (Some third)) 3 None
        (λ s ne is. let q : None ≡ Some one = sym (put-other {A = Option RegionRec} (λ s. None) 3 (Some third) s ne)
        ∙ is in cc)
        (λ is. let q : None ≡ Some one = is in cc) s
