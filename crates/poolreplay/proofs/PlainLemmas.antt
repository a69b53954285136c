-- What a plain trace is made of.
use Rattle.std.proofs.Common.{◌≡◌, ℕ, Bool, true, false, ◌&&◌, ◌==◌, inl, inr, List, [], ◌∷◌, length, map, refl, ap, ap₂, arith}
use Rattle.std.specs.List.{list_all}
use Rattle.arrayvec.specs.ArrayVec.{ArrayVec}
use Rattle.pool_types.specs.declared.texts.ThreadName.{ThreadName}
use Rattle.trace_reader.specs.declared.acts.Act.{Act}
use Rattle.trace_reader.specs.declared.acts.Act.TheVariants as act
use Rattle.trace_reader.specs.declared.acts.PoolOption.{PoolOption}
use Rattle.trace_reader.specs.declared.acts.PoolOption.TheVariants as option
use Rattle.trace_reader.specs.declared.acts.TraceCall.{TraceCall}
use Rattle.trace_reader.specs.declared.acts.TraceCall.TheVariants as call
use Rattle.trace_reader.specs.declared.acts.TraceLine.{TraceLine}
use Rattle.trace_reader.specs.declared.trace.Trace.{Trace}
use Rattle.trace_reader.specs.Served.{AreServed, AreServedCalls, IsServedCall, act_of, plain_options, plain_pool}
use Rattle.poolreplay.specs.Plain.{are_plain_lines, are_pool_lines, begins_plainly, has_none, is_first_pool, is_fixed_alone, is_fixed_pool, is_plain, is_plain_act, is_plain_call, is_plain_line}

-- both of two tests hold
pub one_holds : (one other : Bool) → one && other ≡ true → one ≡ true
one_holds true other is = refl
one_holds false other is = absurd (let clash : false ≡ true = is in cc)

pub other_holds : (one other : Bool) → one && other ≡ true → other ≡ true
other_holds true other is = is
other_holds false other is = absurd (let clash : false ≡ true = is in cc)

same_number : (n m : ℕ) → (n == m) ≡ true → n ≡ m
same_number n m is = grind arith

-- lists of no member, and of one
no_member : {X : Type 0} (xs : List X) → has_none xs ≡ true → xs ≡ []
no_member [] is = refl
no_member (x ∷ xs) is = absurd (let none : length (x ∷ xs) ≡ 0 = same_number (length (x ∷ xs)) 0 is in cc)

no_length : {X : Type 0} (xs : List X) → length xs ≡ 0 → xs ≡ []
no_length [] is = refl
no_length (x ∷ xs) is = absurd (let clash = is in cc)

record IsOne {X : Type 0} (xs : List X) : Type 0 where
  x : X
  is : xs ≡ x ∷ []

one_length : {X : Type 0} (xs : List X) → length xs ≡ 1 → IsOne xs
one_length [] is = absurd (let clash = is in cc)
one_length (x ∷ []) is = record { x = x; is = refl }
one_length (x ∷ y ∷ xs) is = absurd (let clash = is in cc)

-- the pool's options
fixed_options : (options : List PoolOption) → is_fixed_alone options ≡ true → options ≡ option.Fixed ∷ []
fixed_options (option.Fixed ∷ []) is = refl
fixed_options other is = absurd (let clash : false ≡ true = is in cc)

fixed_pool : (pools : List (ArrayVec PoolOption)) → is_fixed_pool pools ≡ true → pools ≡ plain_options ∷ []
fixed_pool (options ∷ []) is = ap (λ (items : List PoolOption). (let pool : ArrayVec PoolOption = record { items = items } in pool) ∷ []) (fixed_options options.items is)
fixed_pool other is = absurd (let clash : false ≡ true = is in cc)

-- the pool's line
first_pool : (deed : Act) → is_first_pool deed ≡ true → deed ≡ plain_pool
first_pool (act.Pool pool) is = ap (λ (n : ℕ). act.Pool n) (same_number pool 0 is)
first_pool other is = absurd (let clash : false ≡ true = is in cc)

-- calls
served_call : (call : TraceCall) → is_plain_call call ≡ true → IsServedCall call
served_call (call.Malloc name size) is = (refl, grind arith)
served_call (call.Free what) is = (refl, tt)
served_call (call.Msize what) is = (refl, tt)
served_call (call.Identify what) is = (refl, tt)
served_call other is = absurd (let clash : false ≡ true = is in cc)

served_acts : (deed : Act) (deeds : List Act) → is_plain_act deed ≡ true → AreServedCalls deeds → AreServedCalls (deed ∷ deeds)
served_acts (act.Call thread pool call) deeds is rest =
    let both : (pool == 0) && is_plain_call call ≡ true = other_holds (thread == 0) ((pool == 0) && is_plain_call call) is in (
      same_number thread 0 (one_holds (thread == 0) ((pool == 0) && is_plain_call call) is),
      same_number pool 0 (one_holds (pool == 0) (is_plain_call call) both),
      served_call call (other_holds (pool == 0) (is_plain_call call) both),
      rest,
    )
served_acts other deeds is rest = absurd (let clash : false ≡ true = is in cc)

served_calls : (lines : List TraceLine) → list_all is_plain_line lines ≡ true → AreServedCalls (map act_of lines)
served_calls [] is = tt
served_calls (line ∷ lines) is =
    served_acts line.act (map act_of lines) (one_holds (is_plain_act line.act) (list_all is_plain_line lines) is)
    (served_calls lines (other_holds (is_plain_act line.act) (list_all is_plain_line lines) is))

-- the lines behind the one that names the thread
thread_served : (names : List ThreadName) (pools : List (ArrayVec PoolOption)) (lines : List TraceLine) → IsOne names
    → are_pool_lines pools lines ≡ true → AreServed names pools (act.Threads ∷ map act_of lines)
thread_served names pools [] one is = inr (inl (one.x, one.is, no_member pools is, refl))
thread_served names pools (line ∷ lines) one is =
    let rest : is_fixed_pool pools && list_all is_plain_line lines ≡ true = other_holds (is_first_pool line.act) (is_fixed_pool pools && list_all is_plain_line lines) is in
    inr (inr (inr (
      one.x,
      map act_of lines,
      one.is,
      fixed_pool pools (one_holds (is_fixed_pool pools) (list_all is_plain_line lines) rest),
      ap (λ (deed : Act). act.Threads ∷ deed ∷ map act_of lines) (first_pool line.act (one_holds (is_first_pool line.act) (is_fixed_pool pools && list_all is_plain_line lines) is)),
      served_calls lines (other_holds (is_fixed_pool pools) (list_all is_plain_line lines) rest),
    )))

begins_served : (names : List ThreadName) (pools : List (ArrayVec PoolOption)) (deed : Act) (lines : List TraceLine)
    → begins_plainly (length names) pools deed lines ≡ true → AreServed names pools (deed ∷ map act_of lines)
begins_served names pools act.Threads lines is =
    thread_served names pools lines (one_length names (same_number (length names) 1 (one_holds (length names == 1) (are_pool_lines pools lines) is)))
    (other_holds (length names == 1) (are_pool_lines pools lines) is)
begins_served names pools (act.Pool pool) lines is =
    let tail : Bool = is_fixed_pool pools && has_none lines in
    let rest : (pool == 0) && tail ≡ true = other_holds (length names == 0) ((pool == 0) && tail) is in
    let last : tail ≡ true = other_holds (pool == 0) tail rest in
    inr (inr (inl (
      no_length names (same_number (length names) 0 (one_holds (length names == 0) ((pool == 0) && tail) is)),
      fixed_pool pools (one_holds (is_fixed_pool pools) (has_none lines) last),
      ap₂ (λ (n : ℕ) (ls : List TraceLine). act.Pool n ∷ map act_of ls) (same_number pool 0 (one_holds (pool == 0) tail rest)) (no_member lines (other_holds (is_fixed_pool pools) (has_none lines) last)),
    )))
begins_served names pools other lines is = absurd (let clash : false ≡ true = is in cc)

lines_served : (names : List ThreadName) (pools : List (ArrayVec PoolOption)) (lines : List TraceLine)
    → are_plain_lines (length names) pools lines ≡ true → AreServed names pools (map act_of lines)
lines_served names pools [] is =
    inl (
      no_length names (same_number (length names) 0 (one_holds (length names == 0) (has_none pools) is)),
      no_member pools (other_holds (length names == 0) (has_none pools) is),
      refl,
    )
lines_served names pools (line ∷ lines) is = begins_served names pools line.act lines is

-- whole calls over lists serve a plain trace
pub plain_served : (trace : Trace) → is_plain trace ≡ true → AreServed trace.names.items trace.pools.items (map act_of trace.lines.items)
unfolding is_plain
plain_served trace plain = lines_served trace.names.items trace.pools.items trace.lines.items plain
