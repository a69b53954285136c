-- The first malloc is a run.
use Rattle.std.proofs.Common.{ℕ, subst, Contains, zero, suc, ◌≡◌, ◌≢◌, ◌+◌, ◌<◌, ◌≤◌, inl, inr, [], ◌∷◌, Some, None, Bool, true, false, refl, sym, ◌∙◌, ap, arith, lit<, lit≤}
use Rattle.std.specs.Prelude.{if◌then◌else◌}
use Rattle.std.proofs.lemmas.Bool.{cases_Bool, cases_lt}
use Rattle.pool_types.specs.declared.values.Place.{Place}
use Rattle.pool_types.specs.Policies.{IsAllowed}
use Rattle.part_model.specs.declared.holders.Holder.TheVariants.{Head, Rest, Object, Bin, Queue, Hand}
use Rattle.part_model.specs.declared.moves.Range.{Range}
use Rattle.part_model.specs.Holding.{lies_in}
use Rattle.part_model.proofs.CallerLemmas.{lies_in-parts, lies_in-is, apart_before}
use Rattle.size_classes.specs.Classes.{class_size, class_objects}
use Rattle.size_classes.specs.Served.{served_plain}
use Rattle.size_classes.specs.declared.Served.TheVariants.{Small}
use Rattle.pool_types.specs.declared.rows.Keeper.TheVariants.{Seat, Hand as InHand}
use Rattle.machine.specs.States.{Slab, nothing_yet, fixed_pool}
use Rattle.machine.specs.Ranges.{part_of, head_range, objects_range, object_range, behind_object}
use Rattle.machine.specs.Regions.{IsNewRegion, granules_range}
use Rattle.machine.specs.Lawful.{region_comes, blocks_put, slab_begins, rest_granted}
use Rattle.machine.specs.Events.{Progress, after_event}
use Rattle.machine.specs.Turns.{Adjoins}
use Rattle.machine.specs.Runs.{MayHappen, IsRun}
use Rattle.machine.specs.Examples.{comes, moves, goes_from, slab_begins_at, first_got, grant, mebibyte, first_place, first_slab, behind_slab, first_malloc}
use Rattle.machine.proofs.Moving.{one_apart, one_whole, one_moves, two_apart, two_whole, two_move, lies_within, none_inside}
use Rattle.machine.proofs.Mallocs.{small_no_block}
use Rattle.machine.proofs.FirstRegion.{first_number}
use Rattle.machine.proofs.Examples.{looked, look_happens, is_obtaining, eight_is_small}
use Rattle.list_laws.proofs.Members.{Contains-none, Contains-single}

-- all bytes of the region
abbrev pub all_range : Range
all_range = granules_range 0 mebibyte

abbrev pub bin_range : Range
bin_range = behind_slab

-- the progress after each turn
abbrev pub after_region : Progress
after_region = after_event looked (comes 1048576 mebibyte)

abbrev pub after_put : Progress
after_put = after_event after_region (moves (goes_from bin_range (Hand 0) Bin) [])

abbrev pub after_slab : Progress
after_slab = after_event after_put (slab_begins_at first_place 0)

-- the region can come
pub mebibyte_is_new : IsNewRegion (fixed_pool 1 1048576) nothing_yet mebibyte
mebibyte_is_new = record {
  only = λ fixed. refl;
  number = first_number nothing_yet refl refl;
  placed = record {
    aligned = record { least = lit< tt; multiple = refl };
    placed = inl (record {
      all = refl;
      fits = record { even_or_odd = refl; gap = record { within = lit≤ tt; free = λ index from below. refl } };
      lowest = λ start fits. omega arith;
    });
  };
  apart = λ other live. absurd (Contains-none other live);
  some = lit< tt;
  inside = lit≤ tt;
  ends = lit≤ tt;
}

pub region_comes_in : MayHappen (fixed_pool 1 1048576) looked (comes 1048576 mebibyte)
region_comes_in = record {
  whole = one_whole (part_of all_range None (Some (Hand 0))) (record { some = lit< tt; ends = lit≤ tt });
  apart = one_apart (part_of all_range None (Some (Hand 0)));
  there = one_moves 0 nothing_yet.held all_range None (Some (Hand 0)) refl (λ byte inside. refl);
  lawful = region_comes mebibyte mebibyte_is_new;
  fits = record {
    sight = ((is_obtaining 1048576 130 refl refl (lit≤ tt), lit≤ tt), refl);
    moves = record { grants = tt; ends = (tt, tt); keeps = refl };
    large = tt;
    slabs = tt;
    comes = refl;
    leaves = tt;
    answered = tt;
  };
}

-- a byte of the region is in hand
pub all_in_hand : (byte : Place) → lies_in byte all_range ≡ true → after_region.state.held byte ≡ Some (Hand 0)
all_in_hand byte inside = ap (λ (b : Bool). if b then Some (Hand 0) else None) inside

pub rest_put : MayHappen (fixed_pool 1 1048576) after_region (moves (goes_from bin_range (Hand 0) Bin) [])
rest_put = record {
  whole = one_whole (part_of bin_range (Some (Hand 0)) (Some Bin)) (record { some = lit< tt; ends = lit≤ tt });
  apart = one_apart (part_of bin_range (Some (Hand 0)) (Some Bin));
  there = one_moves 0 after_region.state.held bin_range (Some (Hand 0)) (Some Bin) refl
      (λ byte inside. all_in_hand byte (lies_within bin_range all_range byte refl refl (lit≤ tt) (lit≤ tt) inside));
  lawful = blocks_put (bin_range ∷ []) (
    (
      126,
      record {
        whole = record { region = mebibyte; live = (0, lit< tt, refl); there = (refl, refl); before = 2; starts = refl; bytes = refl; some = lit< tt; inside = lit≤ tt };
        free = λ slab booked. absurd (Contains-none slab booked);
      },
    ),
    tt,
  );
  fits = record {
    sight = tt;
    moves = record { grants = tt; ends = (tt, tt); keeps = refl };
    large = tt;
    slabs = tt;
    comes = tt;
    leaves = tt;
    answered = tt;
  };
}

-- what lies before the block in the bin is in hand still
pub slab_in_hand : (range : Range) (byte : Place) → range.place.pool ≡ 0 → range.place.region ≡ 0 → range.place.offset + range.bytes ≤ 16384 →
    lies_in byte range ≡ true → after_put.state.held byte ≡ Some (Hand 0)
slab_in_hand range byte pool region ends inside =
    ap (λ (b : Bool). if b then Some Bin else (if lies_in byte all_range then Some (Hand 0) else None)) (apart_before range bin_range ends byte inside)
    ∙ all_in_hand byte (lies_within range all_range byte pool region (omega arith) (omega arith) inside)

pub slab_starts : MayHappen (fixed_pool 1 1048576) after_put (slab_begins_at first_place 0)
unfolding class_size class_objects
slab_starts = record {
  whole = two_whole (part_of (head_range first_place 0) (Some (Hand 0)) (Some Head)) (part_of (objects_range first_place 0) (Some (Hand 0)) (Some Rest))
      (record { some = lit< tt; ends = lit≤ tt }) (record { some = lit< tt; ends = lit≤ tt });
  apart = two_apart (part_of (head_range first_place 0) (Some (Hand 0)) (Some Head)) (part_of (objects_range first_place 0) (Some (Hand 0)) (Some Rest)) (lit≤ tt);
  there = two_move 0 after_put.state.held (head_range first_place 0) (objects_range first_place 0) (Some (Hand 0)) (Some Head) (Some (Hand 0)) (Some Rest) refl refl
      (λ byte inside. slab_in_hand (head_range first_place 0) byte refl refl (lit≤ tt) inside)
      (λ byte inside. slab_in_hand (objects_range first_place 0) byte refl refl (lit≤ tt) inside);
  lawful = slab_begins first_place 0 (lit< tt) (record {
    block = record {
      whole = record { region = mebibyte; live = (0, lit< tt, refl); there = (refl, refl); before = 0; starts = refl; bytes = refl; some = lit< tt; inside = lit≤ tt };
      free = λ slab booked. absurd (Contains-none slab booked);
    };
    even = refl;
  });
  fits = record {
    sight = tt;
    moves = record { grants = tt; ends = (tt, (tt, tt)); keeps = refl };
    large = tt;
    slabs = (
      record {
        served = eight_is_small;
        none_yet = refl;
        own = record { rest = λ byte own. absurd (Contains-none own.0 own.1.0.0); private = λ byte own. absurd (Contains-none own.0 own.1.0.0) };
        orphans = inl (λ slab kept. absurd (Contains-none slab kept.0.0));
        waits = λ alone. record { public = λ byte own. absurd (Contains-none own.0 own.1.0.0); orphan = λ slab kept. absurd (Contains-none slab kept.0.0) };
      },
      tt,
    );
    comes = tt;
    leaves = tt;
    answered = tt;
  };
}

-- a byte of the object is rest before it is granted
pub object_in_rest : (byte : Place) → lies_in byte (object_range first_slab 0) ≡ true → after_slab.state.held byte ≡ Some Rest
unfolding class_size class_objects
object_in_rest byte inside =
    ap (λ (b : Bool). if b then Some Rest else (if lies_in byte (head_range first_place 0) then Some Head else after_put.state.held byte))
    (lies_within (object_range first_slab 0) (objects_range first_place 0) byte refl refl (lit≤ tt) (lit≤ tt) inside)

-- no byte is in hand once the slab has begun
pub none_in_hand : (byte : Place) → after_slab.state.held byte ≢ Some (Hand 0)
unfolding class_size class_objects
none_in_hand byte =
    by_tests (lies_in byte (objects_range first_place 0)) (lies_in byte (head_range first_place 0)) (lies_in byte bin_range) (lies_in byte all_range) covered
  where
    covered : lies_in byte all_range ≡ true → lies_in byte (objects_range first_place 0) ≡ false → lies_in byte (head_range first_place 0) ≡ false → lies_in byte bin_range ≡ false → ⊥
    covered inside no_objects no_head no_bin =
        let lies = lies_in-parts byte all_range inside in
        let below : byte.offset < 1048576 = lies.below in
        elim (cases_lt byte.offset 128) [
          | inl head ↦ (let is = lies_in-is byte (head_range first_place 0) lies.region (omega arith) head in let e : true ≡ false = sym is ∙ no_head in absurd cc)
          | inr above ↦ elim (cases_lt byte.offset 16384) [
            | inl objects ↦ (let is = lies_in-is byte (objects_range first_place 0) lies.region above objects in let e : true ≡ false = sym is ∙ no_objects in absurd cc)
            | inr bin ↦ (let is = lies_in-is byte bin_range lies.region bin below in let e : true ≡ false = sym is ∙ no_bin in absurd cc)
          ]
        ]

    by_tests : (o h b a : Bool) → (a ≡ true → o ≡ false → h ≡ false → b ≡ false → ⊥) →
        (if o then Some Rest else (if h then Some Head else (if b then Some Bin else (if a then Some (Hand 0) else None)))) ≢ Some (Hand 0)
    by_tests true h b a none is = cc
    by_tests false true b a none is = cc
    by_tests false false true a none is = cc
    by_tests false false false true none is = none refl refl refl refl
    by_tests false false false false none is = cc

-- the slab is kept by the seat
pub kept_by_seat : (slab : Slab) → Contains (first_slab ∷ []) slab → slab.keeper ≡ InHand 0 → ⊥
kept_by_seat slab (zero, below, is) kept = (let e : Seat 0 ≡ InHand 0 = ap (λ (s : Slab). s.keeper) is ∙ kept in cc)
kept_by_seat slab (suc k, below, is) kept = absurd (omega (arith, below))

-- no byte is in the queue after the grant
pub none_queued : (byte : Place) → (after_event after_slab first_got).state.held byte ≢ Some Queue
none_queued byte =
    by_tests (lies_in byte (object_range first_slab 0)) (lies_in byte (objects_range first_place 0)) (lies_in byte (head_range first_place 0)) (lies_in byte bin_range) (lies_in byte all_range)
  where
    by_tests : (g o h b a : Bool) →
        (if g then Some (Object (grant 1)) else (if o then Some Rest else (if h then Some Head else (if b then Some Bin else (if a then Some (Hand 0) else None))))) ≢ Some Queue
    by_tests true o h b a is = cc
    by_tests false true h b a is = cc
    by_tests false false true b a is = cc
    by_tests false false false true a is = cc
    by_tests false false false false true is = cc
    by_tests false false false false false is = cc

-- the one block adjoins itself nowhere
pub one_block : (one other : Range) → Contains (bin_range ∷ []) one → Contains (bin_range ∷ []) other → Adjoins one other → ⊥
one_block one other first second adjoins =
    alone (subst (λ r. Adjoins r bin_range) (sym (Contains-single bin_range one first)) (subst (λ r. Adjoins one r) (sym (Contains-single bin_range other second)) adjoins))
  where
    alone : Adjoins bin_range bin_range → ⊥
    alone (region, inl ends) = omega (arith, ends)
    alone (region, inr ends) = omega (arith, ends)

-- an object of the first class has 8 bytes
pub eight_bytes : (class : ℕ) → Small 0 ≡ Small class → 8 ≡ class_size class
unfolding class_size
eight_bytes class same = (let e : 0 ≡ class = cc in subst (λ n. 8 ≡ class_size n) e refl)

pub object_granted : MayHappen (fixed_pool 1 1048576) after_slab first_got
unfolding class_size class_objects
object_granted = record {
  whole = one_whole (part_of (object_range first_slab 0) (Some Rest) (Some (Object (grant 1)))) (record { some = lit< tt; ends = lit≤ tt });
  apart = one_apart (part_of (object_range first_slab 0) (Some Rest) (Some (Object (grant 1))));
  there = one_moves 0 after_slab.state.held (object_range first_slab 0) (Some Rest) (Some (Object (grant 1))) refl object_in_rest;
  lawful = rest_granted first_slab 0 ((0, lit< tt, refl), refl) (lit< tt) (λ byte inside. absurd (none_inside (behind_object first_slab 0) byte refl inside));
  fits = record {
    sight = tt;
    moves = record { grants = tt; ends = (tt, tt); keeps = refl };
    large = tt;
    slabs = tt;
    comes = tt;
    leaves = tt;
    answered = record {
      legal = record {
        answers = (
          record {
            accepted = record { sound = refl; numbers = λ e. absurd (omega arith); fits = λ granules alignment large. absurd (small_no_block (served_plain 8) 0 granules alignment eight_is_small large) };
            granted = record { from = Some Rest; one = refl; of_seat = refl };
            of_class = λ class served. eight_bytes class (sym eight_is_small ∙ served);
            suits = inr (inr (inl (record { region = mebibyte; live = (0, lit< tt, refl); there = (refl, refl); enough = lit≤ tt; inside = lit≤ tt; aligned = refl })));
          },
          refl,
        );
        no_hand = λ byte. elim (cases_Bool (lies_in byte (object_range first_slab 0))) [
          | inl inside ↦ (let is = ap (λ (b : Bool). if b then Some (Object (grant 1)) else after_slab.state.held byte) inside in λ hand. (let e : Some (Object (grant 1)) ≡ Some (Hand 0) = sym is ∙ hand in cc))
          | inr outside ↦ (let is = ap (λ (b : Bool). if b then Some (Object (grant 1)) else after_slab.state.held byte) outside in λ hand. none_in_hand byte (sym is ∙ hand))
        ];
        no_slab = λ slab kept. kept_by_seat slab kept.0 kept.1;
      };
      due = refl;
      cleaned = record { drawn = lit≤ tt; asked = (tt, (tt, (tt, (tt, (tt, tt))))) };
      calm = λ once. record { queue = none_queued; joined = one_block; given = λ fixed. cc };
    };
  };
}

-- the pool can be made
pub pool_allowed : IsAllowed (fixed_pool 1 1048576).policy (fixed_pool 1 1048576).limits
pool_allowed = record { valid = refl; supported = refl; limits_in = ((refl, refl, refl), refl) }

-- the first malloc is a run
pub first_malloc_runs : IsRun (fixed_pool 1 1048576) first_malloc
unfolding class_size class_objects
first_malloc_runs =
    (pool_allowed, (record { seated = lit< tt; free = refl; serving = refl }, (look_happens 1048576, (region_comes_in, (rest_put, (slab_starts, (object_granted, tt)))))))
