-- The two short runs: what is known before each turn, and the one that ends in vain.
use Rattle.std.proofs.Common.{ℕ, ◌%◌, List, ◌∷◌, inl, ◌≡◌, ◌≢◌, ◌≤◌, [], Some, None, Bool, true, false, refl, sym, arith, lit<, lit≤}
use Rattle.std.specs.Prelude.{if◌then◌else◌}
use Rattle.std.specs.declared.option.Option.{Option}
use Rattle.list_laws.proofs.Members.{Contains-none}
use Rattle.pool_types.specs.declared.values.Place.{Place}
use Rattle.pool_types.specs.declared.values.Request.TheVariants.{Malloc}
use Rattle.pool_types.specs.Policies.{IsAllowed}
use Rattle.part_model.specs.declared.holders.Holder.{Holder}
use Rattle.part_model.specs.declared.holders.Holder.TheVariants.{Waste, SlabCache, Cached, Bin, Queue, Hand}
use Rattle.part_model.specs.declared.moves.Part.{Part}
use Rattle.part_model.specs.Holding.{lies_in}
use Rattle.regions.specs.Asking.{asked_indices}
use Rattle.size_classes.specs.Classes.{class_of}
use Rattle.size_classes.specs.Served.{served_plain}
use Rattle.size_classes.specs.declared.Served.TheVariants.{Small}
use Rattle.size_classes.proofs.CallerLemmas.{served_plain-small}
use Rattle.machine.specs.States.{nothing_yet, fixed_pool}
use Rattle.machine.specs.Ranges.{part_of}
use Rattle.machine.specs.Regions.{IsNewRegion, bytes_for, coming_parts, front_range, back_range}
use Rattle.machine.specs.Journal.{Turn, Asked, Bins_seen, Raw_called}
use Rattle.machine.specs.Lawful.{region_comes, nothing_moves}
use Rattle.machine.specs.Answers.{Call, Moment, IsAccepted}
use Rattle.machine.specs.Events.{Progress, no_progress, after_event, Begins, Makes}
use Rattle.machine.specs.Turns.{IsObtaining}
use Rattle.machine.specs.Runs.{MayHappen, IsRun}
use Rattle.machine.specs.Examples.{turn_of, no_blocks, looks, comes, no_fit_at, scrap, malloc_in_vain}
use Rattle.machine.proofs.FirstRegion.{first_number}
use Rattle.machine.proofs.Moving.{two_apart, two_whole, two_move, none_whole}
use Rattle.machine.proofs.Mallocs.{small_no_block}

-- the region without a granule can come
pub scrap_is_new : IsNewRegion (fixed_pool 1 8192) nothing_yet scrap
scrap_is_new = record {
  only = λ fixed. refl;
  number = first_number nothing_yet refl refl;
  placed = record {
    aligned = record { least = lit< tt; multiple = refl };
    placed = inl (record {
      all = refl;
      fits = record { even_or_odd = refl; gap = record { within = lit≤ tt; free = λ index from below. refl } };
      lowest = λ start fits. odd start fits.even_or_odd;
    });
  };
  apart = λ other live. absurd (Contains-none other live);
  some = lit< tt;
  inside = lit≤ tt;
  ends = lit≤ tt;
}
  where
    odd : (start : ℕ) → start % 2 ≡ 1 → 1 ≤ start
    odd start is = omega (arith, is)

-- the progress before each turn
abbrev pub begun : Progress
begun = after_event no_progress (Begins 0 (Malloc 8))

abbrev pub looked : Progress
looked = after_event begun (looks 0)

abbrev pub with_scrap : Progress
with_scrap = after_event looked (comes 8192 scrap)

-- a malloc of 8 bytes is for an object of the first class
pub eight_is_first : class_of 8 ≡ Some 0
unfolding class_of
eight_is_first = refl

pub eight_is_small : served_plain 8 ≡ Small 0
eight_is_small = served_plain-small 8 0 eight_is_first

-- the first look finds no block
pub look_happens : (bytes : ℕ) → MayHappen (fixed_pool 1 bytes) begun (looks 0)
look_happens bytes = record {
  whole = none_whole;
  apart = tt;
  there = tt;
  lawful = nothing_moves;
  fits = record {
    sight = (
      record {
        whole = tt;
        disjoint = tt;
        there = λ block member. absurd (Contains-none block member);
        all = λ byte bin. cc;
        joined = λ once one other member. absurd (Contains-none one member);
        blocks = λ block member. absurd (Contains-none block member);
      },
      (
        Small 0,
        eight_is_small,
        (
          record {
            given = record {
              rest = λ byte own. absurd (Contains-none own.0 own.1.0.0);
              private = λ byte own. absurd (Contains-none own.0 own.1.0.0);
            };
            stored = λ byte is. cc;
          },
          λ alone. record {
            public = λ byte own. absurd (Contains-none own.0 own.1.0.0);
            orphan = λ slab kept. absurd (Contains-none slab kept.0.0);
          },
        ),
      ),
    );
    moves = record { grants = tt; ends = tt; keeps = refl };
    large = tt;
    slabs = tt;
    comes = tt;
    leaves = tt;
    answered = tt;
  };
}

-- the call that has looked
abbrev pub looked_moment : Moment
looked_moment = record { state = nothing_yet; turn = turn_of 0 [] [] None (Bins_seen no_blocks) None }

abbrev pub looked_call : Call
looked_call = record { seat = 0; request = Malloc 8; before = nothing_yet; alone = true; moments = looked_moment ∷ [] }

-- a malloc of 8 bytes is accepted
pub eight_accepted : (bytes : ℕ) (moments : List Moment) → IsAccepted (fixed_pool 1 bytes) (record looked_call { moments = moments })
eight_accepted bytes moments = record {
  sound = refl;
  numbers = λ e. absurd (omega arith);
  fits = λ granules alignment large. absurd (small_no_block (served_plain 8) 0 granules alignment eight_is_small large);
}

-- it may ask for its region
pub is_obtaining : (bytes indices : ℕ) → bytes_for (fixed_pool 1 bytes) 2 ≡ bytes → asked_indices (bytes_for (fixed_pool 1 bytes) 2) ≡ indices → indices ≤ 1024 →
    IsObtaining (fixed_pool 1 bytes) nothing_yet looked_call bytes
is_obtaining bytes indices asked wanted room = record {
  wants = refl;
  accepted = eight_accepted bytes (looked_moment ∷ []);
  none_yet = refl;
  earlier = [];
  served = Small 0;
  seen = 0;
  vain = record { later = _; steps = refl; still = refl; is = eight_is_small; vain = (refl, lit≤ tt, λ block member. absurd (Contains-none block member), (0, (refl, refl), refl)) };
  drained = inl (inl (λ byte is. cc));
  asked = record {
    may = λ fixed. refl;
    number = 0;
    number_is = first_number nothing_yet refl refl;
    start = 0;
    gap = record { within = omega (arith, room, wanted); free = λ index from below. refl };
    exact = sym asked;
  };
}

-- where a byte is when the region has come
pub scrap_held : (P : Option Holder → Type 0) → P None → P (Some Waste) → (byte : Place) → P (with_scrap.state.held byte)
scrap_held P none waste byte = by_tests (lies_in byte (back_range 0 scrap)) (lies_in byte (front_range 0 scrap))
  where
    by_tests : (b c : Bool) → P (if b then Some Waste else (if c then Some Waste else None))
    by_tests true c = waste
    by_tests false true = waste
    by_tests false false = none

abbrev pub front : Part
front = part_of (front_range 0 scrap) None (Some Waste)

abbrev pub back : Part
back = part_of (back_range 0 scrap) None (Some Waste)

pub scrap_comes : MayHappen (fixed_pool 1 8192) looked (comes 8192 scrap)
scrap_comes = record {
  whole = two_whole front back (record { some = lit< tt; ends = lit≤ tt }) (record { some = lit< tt; ends = lit≤ tt });
  apart = two_apart front back (lit≤ tt);
  there = two_move 0 nothing_yet.held (front_range 0 scrap) (back_range 0 scrap) None (Some Waste) None (Some Waste) refl refl (λ byte inside. refl) (λ byte inside. refl);
  lawful = region_comes scrap scrap_is_new;
  fits = record {
    sight = ((is_obtaining 8192 3 refl refl (lit≤ tt), lit≤ tt), refl);
    moves = record { grants = tt; ends = (tt, (tt, tt)); keeps = refl };
    large = tt;
    slabs = tt;
    comes = refl;
    leaves = tt;
    answered = tt;
  };
}

-- the turn in which it comes
abbrev pub coming_turn : Turn
coming_turn = turn_of 0 (coming_parts 0 0 scrap) [] (Some scrap) (Raw_called (Asked 8192 (Some scrap.region))) None

-- the pool can be made
pub small_pool_allowed : IsAllowed (fixed_pool 1 8192).policy (fixed_pool 1 8192).limits
small_pool_allowed = record { valid = refl; supported = refl; limits_in = ((refl, refl, refl), refl) }

-- the scan, and the answer
pub scrap_refuses : MayHappen (fixed_pool 1 8192) with_scrap (Makes (turn_of 0 [] [] None (Bins_seen no_blocks) (Some (no_fit_at 1))))
scrap_refuses = record {
  whole = none_whole;
  apart = tt;
  there = tt;
  lawful = nothing_moves;
  fits = record {
    sight = (
      record {
        whole = tt;
        disjoint = tt;
        there = λ block member. absurd (Contains-none block member);
        all = λ byte bin. absurd (scrap_held (λ holder. holder ≡ Some Bin → ⊥) (λ e. cc) (λ e. cc) byte bin);
        joined = λ once one other member. absurd (Contains-none one member);
        blocks = λ block member. absurd (Contains-none block member);
      },
      (
        Small 0,
        eight_is_small,
        (
          record {
            given = record {
              rest = λ byte own. absurd (Contains-none own.0 own.1.0.0);
              private = λ byte own. absurd (Contains-none own.0 own.1.0.0);
            };
            stored = scrap_held (λ holder. holder ≢ Some (SlabCache 0)) (λ e. cc) (λ e. cc);
          },
          λ alone. record {
            public = λ byte own. absurd (Contains-none own.0 own.1.0.0);
            orphan = λ slab kept. absurd (Contains-none slab kept.0.0);
          },
        ),
      ),
    );
    moves = record { grants = tt; ends = tt; keeps = refl };
    large = tt;
    slabs = tt;
    comes = tt;
    leaves = tt;
    answered = record {
      legal = record {
        answers = (
          refl,
          record {
            accepted = record { sound = refl; numbers = λ e. absurd (omega arith); fits = λ granules alignment large. absurd (small_no_block (served_plain 8) 0 granules alignment eight_is_small large) };
            earlier = looked_moment ∷ record { state = nothing_yet; turn = coming_turn } ∷ [];
            served = Small 0;
            seen = 0;
            vain = record { later = _; steps = refl; still = refl; is = eight_is_small; vain = (refl, lit≤ tt, λ block member. absurd (Contains-none block member), (0, (refl, refl), refl)) };
            found = (refl, (lit< tt, tt), refl, refl, refl);
            spare = record {
              stored = scrap_held (λ holder. holder ≢ Some (SlabCache 0)) (λ e. cc) (λ e. cc);
              used = λ slab kept. absurd (Contains-none slab kept.0);
            };
            drained = λ alone. record {
              queue = scrap_held (λ holder. holder ≢ Some Queue) (λ e. cc) (λ e. cc);
              cache = λ byte granules. scrap_held (λ holder. holder ≢ Some (Cached granules)) (λ e. cc) (λ e. cc) byte;
            };
          },
          (refl, refl),
        );
        no_hand = scrap_held (λ holder. holder ≢ Some (Hand 0)) (λ e. cc) (λ e. cc);
        no_slab = λ slab kept. absurd (Contains-none slab kept.0);
      };
      due = refl;
      cleaned = record { drawn = lit≤ tt; asked = (tt, (tt, (tt, tt))) };
      calm = λ once. record {
        queue = scrap_held (λ holder. holder ≢ Some Queue) (λ e. cc) (λ e. cc);
        joined = λ one other member. absurd (Contains-none one member);
        given = λ fixed. cc;
      };
    };
  };
}

-- the malloc in vain is a run
pub malloc_in_vain_runs : IsRun (fixed_pool 1 8192) malloc_in_vain
malloc_in_vain_runs = (small_pool_allowed, (record { seated = lit< tt; free = refl; serving = refl }, (look_happens 8192, (scrap_comes, (scrap_refuses, tt)))))
