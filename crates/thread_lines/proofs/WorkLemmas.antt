-- A thread goes on to its next line.
use Rattle.std.proofs.Common.{◌≡◌, ℕ, suc, ◌+◌, ◌<◌, ◌≤◌, Bool, List, [], ◌∷◌, ◌++◌, length, take, get_or, sym, ap, ◌∙◌, subst, arith}
use Rattle.std.specs.Prelude.{Option, Some, None, vec_len, vec_capacity}
use Rattle.std.proofs.Math.Seq.{take-suc}
use Rattle.atomic_table.specs.Seated.{TableId}
use Rattle.crossbeam_utils.specs.Padded.{padded_value}
use Rattle.name_board.specs.declared.rule.Names.{Names}
use Rattle.name_board.specs.declared.rule.Cursor.{Cursor}
use Rattle.name_board.specs.Board.{HasName, IsKnown, MayBind, cursor, view, owner_of}
use Rattle.pool_types.specs.declared.raw.Raw.{Ghosts}
use Rattle.pool_types.specs.declared.values.Region.{Region}
use Rattle.pool_api.specs.Tables.{Stand}
use Rattle.trace_reader.specs.declared.acts.TraceLine.{TraceLine}
use Rattle.trace_reader.specs.Acts.{bound_by}
use Rattle.trace_reader.specs.Served.{asked_of, IsBoundInTurn}
use Rattle.thread_calls.specs.declared.calls.OwnCall.{OwnCall}
use Rattle.thread_calls.specs.declared.calls.Said.{Said}
use Rattle.thread_calls.specs.Calls.{own_call, name_asked, word_of}
use Rattle.thread_calls.specs.Script.{binder, binder_of, owners_of, count_own, more_own, IsScript}
use Rattle.thread_calls.proofs.CallerLemmas.{bound_in_turn, owner_at, owners_below, owners_up, owners_on, asked_below, next_is, own_is, own_below, own_more}
use Rattle.thread_lines.specs.declared.worker.Worker.{Worker}
use Rattle.thread_lines.specs.Heaps.{AreHeaps, first_heaps, heaps_in}
use Rattle.thread_lines.specs.Telling.{Tells, passes}
use Rattle.thread_lines.specs.Working.{Works, SpeaksBy, moved_on}
use Rattle.thread_lines.proofs.TellLemmas.{asks_so, tells_so, known_on, bound_on}

-- what is known of a line of the thread's own
module _ (names : Names) (lines : List TraceLine) (thread n : ℕ) (d : TraceLine) (own : OwnCall)
    (script : IsScript names lines) (low : n < length lines)
    (mine : own_call thread (get_or lines n d).act ≡ Some own) where
  turn : IsBoundInTurn (length (owners_of (take n lines))) (Some own.call)
  turn =
      let e : 0 + length (owners_of (take n lines)) ≡ length (owners_of (take n lines)) = omega arith in
      subst (λ (count : ℕ). IsBoundInTurn count (Some own.call)) e
      (subst (IsBoundInTurn (0 + length (owners_of (take n lines)))) ((own_is thread (get_or lines n d).act own mine).called)
      (bound_in_turn lines 0 n d low script.turns))

  pub asked_has : (name : ℕ) → name_asked own.call ≡ Some name → HasName names name
  asked_has name is =
      let below = asked_below (length (owners_of (take n lines))) name (asked_of own.call) turn.0 is in
      let all = owners_below lines n in
      let owners : length names.owners.items ≡ length (owners_of lines) = ap length script.owners in omega arith

  bound_is : (name : ℕ) → bound_by own.call ≡ Some name → name ≡ length (owners_of (take n lines))
  bound_is name is = next_is (length (owners_of (take n lines))) name (bound_by own.call) turn.1 is

  binder_is : (name : ℕ) → bound_by own.call ≡ Some name → binder (get_or lines n d).act ≡ Some thread
  binder_is name is = (own_is thread (get_or lines n d).act own mine).bound ∙ ap (binder_of thread) is

  pub may_bind : (from : ℕ) (cs : List Cursor) → cs ≡ cursor thread from ∷ [] → from ≤ length (owners_of (take n lines)) →
      (name : ℕ) → bound_by own.call ≡ Some name → HasName names name × MayBind names.owners.items cs name
  may_bind from cs at below name is =
      let o = owner_at lines n d thread low (binder_is name is) in
      let e = bound_is name is in
      let owners : length names.owners.items ≡ length (owners_of lines) = ap length script.owners in (
        (let l = o.1 in omega arith),
        (
          cursor thread from,
          at,
          omega arith,
          ap (λ (os : List ℕ). owner_of os name) script.owners ∙ ap (owner_of (owners_of lines)) e ∙ o.0,
        ),
      )

  pub bound_low : (name : ℕ) → bound_by own.call ≡ Some name → name < length (owners_of (take (suc n) lines))
  bound_low name is = let e = bound_is name is in let o = owners_on lines n d thread low (binder_is name is) in omega arith

module _ {R : Type 0} (out : R → List Region) (faults : R → ℕ) (got : R → ℕ → Option Region → R → Type 0)
    (passed : R → Region → Bool → R → Type 0) {raw : Ghosts R} (pools : List (Option Stand)) (board : TableId)
    (lines : List TraceLine) (d : TraceLine) where
  -- the line is none of the thread's
  pub passes_line : (old : Worker R raw) → Works out faults got passed pools board lines old → old.next < length lines →
      own_call old.thread (get_or lines old.next d).act ≡ None → Works out faults got passed pools board lines (moved_on old)
  passes_line old works low none =
      let more = take-suc lines old.next d low in
      let mid : Works out faults got passed pools board lines (record old { next = suc old.next }) = record {
        heaps = works.heaps;
        pen = works.pen;
        empty = works.empty;
        from = works.from;
        cursors = works.cursors;
        low = let a = works.low in let b = owners_up lines old.next in omega arith;
        within = omega arith;
        room = works.room;
        count = works.count ∙ sym (ap (count_own old.thread) more
            ∙ own_more old.thread (take old.next lines) (get_or lines old.next d)
            ∙ ap (λ (o : Option OwnCall). more_own o (count_own old.thread (take old.next lines))) none);
        tells = subst (λ (xs : List TraceLine). Tells (IsKnown old.pen.me.0.known) old.thread (first_heaps pools old.thread)
            xs (padded_value old.said).items (heaps_in old.heaps.items)) (sym more)
            (passes works.tells (get_or lines old.next d) none);
      } in
      let next : suc old.next ≡ old.next + 1 = omega arith in
      subst (λ (n : ℕ). Works out faults got passed pools board lines (record old { next = n })) next mid

  -- the thread makes the call of its line
  pub speaks_line : (names : Names) (old new : Worker R raw) (own : OwnCall) → IsScript names lines →
      Works out faults got passed pools board lines old → old.next < length lines →
      own_call old.thread (get_or lines old.next d).act ≡ Some own → SpeaksBy own old new → new.thread ≡ old.thread →
      new.next ≡ old.next → AreHeaps out faults got passed pools new.thread new.heaps.items →
      Works out faults got passed pools board lines (moved_on new)
  speaks_line names old new own script works low mine by thread next heaps =
      let line = get_or lines old.next d in
      let more = take-suc lines old.next d low in
      let named = bound_low names lines old.thread old.next d own script low mine in
      let up = owners_up lines old.next in
      let b = bound_on (bound_by own.call) (word_of by.said) old.thread works.from
      (length (owners_of (take (suc old.next) lines))) (view old.pen.me.0.cursors by.seen) new.pen.me.0
      (let a = works.low in omega arith) named works.cursors by.binds in
      let known_to_seen = known_on old.pen.me.0.known by.seen by.known in
      let seen_to_new = known_on by.seen new.pen.me.0.known b.known in
      let tells_seen = tells_so (IsKnown old.pen.me.0.known) (IsKnown new.pen.me.0.known)
      (λ name word k. seen_to_new name word (known_to_seen name word k)) old.thread (first_heaps pools old.thread)
      works.tells in
      let told : Tells (IsKnown new.pen.me.0.known) old.thread (first_heaps pools old.thread)
      (take old.next lines ++ line ∷ []) ((padded_value old.said).items ++ by.said ∷ []) (heaps_in new.heaps.items) =
      Tells.speaks tells_seen line own by.said (heaps_in new.heaps.items) mine (record {
        request = by.request;
        asks = asks_so (IsKnown by.seen) (IsKnown new.pen.me.0.known) seen_to_new own.call by.request by.asks;
        serves = by.serves;
        binds = b.binds;
      }) in
      let mid : Works out faults got passed pools board lines (record new { next = suc old.next }) = record {
        heaps = heaps;
        pen = by.pen ∙ works.pen;
        empty = by.slots ∙ works.empty;
        from = b.next;
        cursors = b.cursors ∙ ap (λ (t : ℕ). cursor t b.next ∷ []) (sym thread);
        low = b.low;
        within = omega arith;
        room = subst (λ (t : ℕ). count_own t lines ≤ vec_capacity (padded_value new.said)) (sym thread)
            (let a = works.room in let c = by.capacity in omega arith);
        count = subst (λ (t : ℕ). vec_len (padded_value new.said) ≡ count_own t (take (suc old.next) lines)) (sym thread)
            (by.len ∙ (let c = works.count in let e : vec_len (padded_value old.said) + 1
            ≡ suc (count_own old.thread (take old.next lines)) = omega arith in e)
            ∙ sym (ap (count_own old.thread) more ∙ own_more old.thread (take old.next lines) line
            ∙ ap (λ (o : Option OwnCall). more_own o (count_own old.thread (take old.next lines))) mine));
        tells = subst (λ (z : ℕ × List TraceLine × List Said). Tells (IsKnown new.pen.me.0.known) z.0
            (first_heaps pools z.0) z.1 z.2 (heaps_in new.heaps.items))
            (λ i. (sym thread i, sym more i, sym by.kept i)) told;
      } in
      let next_is : suc old.next ≡ new.next + 1 = omega arith in
      subst (λ (n : ℕ). Works out faults got passed pools board lines (record new { next = n })) next_is mid

  -- there is room for what the call comes to
  pub has_room : (old : Worker R raw) (own : OwnCall) → Works out faults got passed pools board lines old →
      old.next < length lines → own_call old.thread (get_or lines old.next d).act ≡ Some own →
      vec_len (padded_value old.said) < vec_capacity (padded_value old.said)
  has_room old own works low mine =
      let c = works.count in let r = works.room in let b = own_below old.thread lines old.next d own low mine in omega arith
