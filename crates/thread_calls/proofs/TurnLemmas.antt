-- Names that are bound in turn, and whose they are.
use Rattle.std.proofs.Common.{◌≡◌, ℕ, zero, suc, ◌+◌, ◌<◌, ◌≤◌, Bool, true, false, cond, eqb, List, [], ◌∷◌, ◌++◌, length, map, take, get_or, refl, sym, ap, ◌∙◌, subst, arith}
use Rattle.std.specs.Prelude.{Option, Some, None}
use Rattle.std.proofs.lemmas.Bool.Decides.{nat_tests}
use Rattle.name_board.specs.Board.{owner_of}
use Rattle.trace_reader.specs.declared.acts.Act.{Act}
use Rattle.trace_reader.specs.declared.acts.Act.TheVariants as act
use Rattle.trace_reader.specs.declared.acts.TraceCall.{TraceCall}
use Rattle.trace_reader.specs.declared.acts.TraceLine.{TraceLine}
use Rattle.trace_reader.specs.declared.acts.What.{What}
use Rattle.trace_reader.specs.declared.acts.What.TheVariants as what
use Rattle.trace_reader.specs.Acts.{bound_by}
use Rattle.trace_reader.specs.Served.{act_of, call_in, count_with, after_call, IsAskedOfBound, IsBoundInTurn, IsNextName, AreBoundInTurn}
use Rattle.thread_calls.specs.declared.calls.OwnCall.{OwnCall}
use Rattle.thread_calls.specs.Calls.{own_call, name_of}
use Rattle.thread_calls.specs.Script.{binder_of, binder, owner_then, owners_of, more_own, count_own}

-- an owner more is a name more
more_owners : (count thread : ℕ) (b : Option ℕ) (os : List ℕ) →
    count_with count b + length os ≡ count + length (owner_then (binder_of thread b) os)
more_owners count thread None os = refl
more_owners count thread (Some name) os = omega arith

after_is : (count : ℕ) (a : Act) (os : List ℕ) →
    after_call count (call_in a) + length os ≡ count + length (owner_then (binder a) os)
after_is count act.Threads os = refl
after_is count (act.Pool pool) os = refl
after_is count (act.RawGet pool base bytes) os = refl
after_is count (act.RawGetFail pool) os = refl
after_is count (act.RawPutOk pool) os = refl
after_is count (act.RawPutFail pool) os = refl
after_is count (act.Call thread pool call) os = more_owners count thread (bound_by call) os
after_is count (act.Begin thread pool call) os = more_owners count thread (bound_by call) os
after_is count (act.Step thread pool turns) os = refl
after_is count (act.UpTo thread pool row) os = refl
after_is count (act.Finish thread pool) os = refl
after_is count (act.Reset pool) os = refl
after_is count (act.Destroy pool) os = refl

-- a line asks for names that are bound, and binds the next one
pub bound_in_turn : (lines : List TraceLine) (count n : ℕ) (d : TraceLine) → n < length lines →
    AreBoundInTurn count (map act_of lines) →
    IsBoundInTurn (count + length (owners_of (take n lines))) (call_in (get_or lines n d).act)
bound_in_turn [] count n d low turns = absurd (omega arith)
bound_in_turn (x ∷ xs) count zero d low turns =
    let e : count ≡ count + 0 = omega arith in subst (λ (c : ℕ). IsBoundInTurn c (call_in x.act)) e turns.0
bound_in_turn (x ∷ xs) count (suc n) d low turns =
    subst (λ (c : ℕ). IsBoundInTurn c (call_in (get_or xs n d).act)) (after_is count x.act (owners_of (take n xs)))
    (bound_in_turn xs (after_call count (call_in x.act)) n d (omega arith) turns.1)

owner_deep : (b : Option ℕ) (os part : List ℕ) (thread : ℕ) →
    (owner_of os (length part) ≡ thread) × (length part < length os) →
    (owner_of (owner_then b os) (length (owner_then b part)) ≡ thread)
    × (length (owner_then b part) < length (owner_then b os))
owner_deep None os part thread q = q
owner_deep (Some other) os part thread q = (q.0, let low = q.1 in omega arith)

owner_here : (b : Option ℕ) (os : List ℕ) (thread : ℕ) → b ≡ Some thread →
    (owner_of (owner_then b os) 0 ≡ thread) × (0 < length (owner_then b os))
owner_here b os thread is = subst (λ (o : Option ℕ). (owner_of (owner_then o os) 0 ≡ thread) × (0 < length (owner_then o os)))
    (sym is) (refl, omega arith)

-- the name that a line binds is its thread's
pub owner_at : (lines : List TraceLine) (n : ℕ) (d : TraceLine) (thread : ℕ) → n < length lines →
    binder (get_or lines n d).act ≡ Some thread →
    (owner_of (owners_of lines) (length (owners_of (take n lines))) ≡ thread)
    × (length (owners_of (take n lines)) < length (owners_of lines))
owner_at [] n d thread low is = absurd (omega arith)
owner_at (x ∷ xs) zero d thread low is = owner_here (binder x.act) (owners_of xs) thread is
owner_at (x ∷ xs) (suc n) d thread low is =
    owner_deep (binder x.act) (owners_of xs) (owners_of (take n xs)) thread (owner_at xs n d thread (omega arith) is)

then_more : (b : Option ℕ) (os more : List ℕ) → length os ≤ length more →
    length (owner_then b os) ≤ length (owner_then b more)
then_more None os more low = low
then_more (Some thread) os more low = omega arith

-- more lines bind no fewer names
pub owners_below : (lines : List TraceLine) (n : ℕ) → length (owners_of (take n lines)) ≤ length (owners_of lines)
owners_below [] zero = omega arith
owners_below [] (suc n) = omega arith
owners_below (x ∷ xs) zero = omega arith
owners_below (x ∷ xs) (suc n) =
    then_more (binder x.act) (owners_of (take n xs)) (owners_of xs) (owners_below xs n)

pub owners_up : (lines : List TraceLine) (n : ℕ) →
    length (owners_of (take n lines)) ≤ length (owners_of (take (suc n) lines))
owners_up [] zero = omega arith
owners_up [] (suc n) = omega arith
owners_up (x ∷ xs) zero = omega arith
owners_up (x ∷ xs) (suc n) =
    then_more (binder x.act) (owners_of (take n xs)) (owners_of (take (suc n) xs)) (owners_up xs n)

owner_after : (b : Option ℕ) (os more : List ℕ) → length os < length more →
    length (owner_then b os) < length (owner_then b more)
owner_after None os more low = low
owner_after (Some thread) os more low = omega arith

first_owner : (b : Option ℕ) (thread : ℕ) → b ≡ Some thread → 0 < length (owner_then b [])
first_owner b thread is = subst (λ (o : Option ℕ). 0 < length (owner_then o [])) (sym is) (omega arith)

-- a line that binds adds its owner
pub owners_on : (lines : List TraceLine) (n : ℕ) (d : TraceLine) (thread : ℕ) → n < length lines →
    binder (get_or lines n d).act ≡ Some thread →
    length (owners_of (take n lines)) < length (owners_of (take (suc n) lines))
owners_on [] n d thread low is = absurd (omega arith)
owners_on (x ∷ xs) zero d thread low is = first_owner (binder x.act) thread is
owners_on (x ∷ xs) (suc n) d thread low is =
    owner_after (binder x.act) (owners_of (take n xs)) (owners_of (take (suc n) xs)) (owners_on xs n d thread (omega arith) is)

-- a name that is asked was bound
pub asked_below : (count name : ℕ) (w : Option What) → IsAskedOfBound count w → name_of w ≡ Some name → name < count
asked_below count name None q is = cc
asked_below count name (Some what.Null) q is = cc
asked_below count name (Some (what.Name other)) q is = let e : other ≡ name = cc in omega arith
asked_below count name (Some (what.Place place)) q is = cc

-- the name that is bound is the next
pub next_is : (count name : ℕ) (b : Option ℕ) → IsNextName count b → b ≡ Some name → name ≡ count
next_is count name None q is = cc
next_is count name (Some other) q is = let e : other ≡ name = cc in omega arith

-- a thread's own call is a call of its line
pub record IsOwnOf (thread : ℕ) (a : Act) (own : OwnCall) : Type 0 where
  pub called : call_in a ≡ Some own.call
  pub bound : binder a ≡ binder_of thread (bound_by own.call)

own_if : (named pool thread : ℕ) (call : TraceCall) (own : OwnCall) (b : Bool) → eqb named thread ≡ b →
    cond b (Some (record { pool = pool; call = call })) None ≡ Some own → IsOwnOf thread (act.Call named pool call) own
own_if named pool thread call own true is got =
    let same : named ≡ thread = grind (arith, nat_tests) in
    let one : OwnCall = record { pool = pool; call = call } in
    let e : one ≡ own = cc in
    record {
      called = ap (λ (o : OwnCall). Some o.call) e;
      bound = ap (λ (t : ℕ). binder_of t (bound_by call)) same ∙ ap (λ (o : OwnCall). binder_of thread (bound_by o.call)) e;
    }
own_if named pool thread call own false is got = cc

pub own_is : (thread : ℕ) (a : Act) (own : OwnCall) → own_call thread a ≡ Some own → IsOwnOf thread a own
own_is thread act.Threads own is = cc
own_is thread (act.Pool pool) own is = cc
own_is thread (act.RawGet pool base bytes) own is = cc
own_is thread (act.RawGetFail pool) own is = cc
own_is thread (act.RawPutOk pool) own is = cc
own_is thread (act.RawPutFail pool) own is = cc
own_is thread (act.Call named pool call) own is = own_if named pool thread call own (eqb named thread) refl is
own_is thread (act.Begin named pool call) own is = cc
own_is thread (act.Step named pool turns) own is = cc
own_is thread (act.UpTo named pool row) own is = cc
own_is thread (act.Finish named pool) own is = cc
own_is thread (act.Reset pool) own is = cc
own_is thread (act.Destroy pool) own is = cc

more_below : (o : Option OwnCall) (count more : ℕ) → count < more → more_own o count < more_own o more
more_below None count more low = low
more_below (Some own) count more low = omega arith

first_own : (o : Option OwnCall) (own : OwnCall) (count : ℕ) → o ≡ Some own → 0 < more_own o count
first_own o own count is = subst (λ (p : Option OwnCall). 0 < more_own p count) (sym is) (omega arith)

-- before a call of the thread, it has fewer calls than in all lines
pub own_below : (thread : ℕ) (lines : List TraceLine) (n : ℕ) (d : TraceLine) (own : OwnCall) → n < length lines →
    own_call thread (get_or lines n d).act ≡ Some own → count_own thread (take n lines) < count_own thread lines
own_below thread [] n d own low is = absurd (omega arith)
own_below thread (x ∷ xs) zero d own low is = first_own (own_call thread x.act) own (count_own thread xs) is
own_below thread (x ∷ xs) (suc n) d own low is =
    more_below (own_call thread x.act) (count_own thread (take n xs)) (count_own thread xs)
    (own_below thread xs n d own (omega arith) is)

more_on : (a : Option OwnCall) (o : Option OwnCall) (count : ℕ) → more_own a (more_own o count) ≡ more_own o (more_own a count)
more_on None None count = refl
more_on None (Some own) count = refl
more_on (Some own) None count = refl
more_on (Some own) (Some other) count = refl

-- one line more
pub own_more : (thread : ℕ) (lines : List TraceLine) (x : TraceLine) →
    count_own thread (lines ++ x ∷ []) ≡ more_own (own_call thread x.act) (count_own thread lines)
own_more thread [] x = refl
own_more thread (y ∷ ys) x = ap (more_own (own_call thread y.act)) (own_more thread ys x)
    ∙ more_on (own_call thread y.act) (own_call thread x.act) (count_own thread ys)
