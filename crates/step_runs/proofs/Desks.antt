-- What the office keeps, it keeps wherever it is.
use Rattle.std.proofs.Common.{◌≡◌, ℕ, refl, sym, subst}
use Rattle.std.specs.Prelude.{Option, Some, None, Result, Ok, Err, List, Bool, true, false}
use Rattle.pool_types.specs.declared.policy.Limits.{Limits}
use Rattle.pool_types.specs.declared.policy.Policy.{Policy}
use Rattle.pool_types.specs.declared.policy.RegionRec.{RegionRec}
use Rattle.pool_types.specs.declared.values.Region.{Region}
use Rattle.regions.specs.declared.errors.ObtainError.{ObtainError}
use Rattle.regions.specs.declared.errors.ObtainError.TheVariants.{HasRegion, RegionsFull, SpanFull, RawFailed}
use Rattle.regions.specs.Offices.{Desk}
use Rattle.regions.specs.Obtaining.{Obtains, starts_at}
use Rattle.pool_words.specs.declared.words.Key.{Key}
use Rattle.pool_words.specs.Actions.{finds}
use Rattle.step_depot.specs.Steps.{asked_granules, PutsBy}
use Rattle.step_local.specs.declared.frames.Local.{Local}
use Rattle.step_local.specs.Course.{course}
use Rattle.chain_laws.proofs.CallerLemmas.{put-each}
use Rattle.step_runs.specs.declared.entry.Entry.{Entry}
use Rattle.step_runs.specs.Places.{Move, stays, takes, gives, move_of, passed_of}
use Rattle.step_runs.specs.Entries.{desk_after, learnt}
use Rattle.step_runs.specs.Runs.{Callback, Silent, Passes, home_after, Run}
use Rattle.step_runs.specs.Runs.Silent.{rests, begins, resets, answers, obtains, takes_out, puts_back}
use Rattle.step_runs.specs.Runs.Run.{opened, stepped}
use Rattle.step_runs.specs.Callbacks.{office_of}
use Rattle.step_runs.specs.Laws.{IsOf}

some_same : {D : Type 0} (a b : D) → Some a ≡ Some b → a ≡ b
some_same a b e = cc

module _ {D : Type 0} (P : D → Type 0) where
  -- it holds of the office, where it is there
  abbrev pub Has : Option D → Type 0
  Has desk = (one : D) → desk ≡ Some one → P one

  pub has_none : Has None
  has_none one e = absurd (cc)

  pub has_some : (one : D) → P one → Has (Some one)
  has_some one p other e = subst P (some_same one other e) p

  -- what the callback makes of the office keeps it
  pub record Keeps (c : Callback D) : Type 0 where
    pub asks : (old : D) (granules : ℕ) (answer : Result RegionRec ObtainError) (new : D)
        → c.asks old granules answer new → P old → P new
    pub puts : (old : D) (first : ℕ) (new : D) → c.puts old first new → P old → P new

  module _ (c : Callback D) (keeps : Keeps c) where
    passes_keeps : (first : Option ℕ) (desk after : Option D) → Passes c first desk after → Has desk → Has after
    passes_keeps None desk after same has = subst Has (sym same) has
    passes_keeps (Some first) (Some desk) after passes has =
        subst Has (sym passes.1) (has_some passes.0 (keeps.puts desk first passes.0 passes.2 (has desk refl)))
    passes_keeps (Some first) None after none has = subst Has (sym none) has

    pub silence_keeps : {l : Local} {desk : Option D} {now : Local} {after : Option D} → Silent c l desk now after
        → Has desk → Has after
    silence_keeps {l} {desk} (rests {after = after} passes) has = passes_keeps (passed_of l) desk after passes has
    silence_keeps (begins silent request) has = silence_keeps silent has
    silence_keeps (resets silent reset) has = silence_keeps silent has
    silence_keeps (answers silent e) has = silence_keeps silent has
    silence_keeps (obtains {desk = old} silent granules answer new e asks) has =
        has_some new (keeps.asks old granules answer new asks (silence_keeps silent has old refl))
    silence_keeps (takes_out silent first e) has = silence_keeps silent has
    silence_keeps (puts_back silent e) has = silence_keeps silent has

    home_has : (move : Move) (home desk : Option D) → Has home → Has desk → Has (home_after move home desk)
    home_has stays home desk here there = here
    home_has takes home desk here there = has_none
    home_has gives home desk here there = there

    pub desk_has : (move : Move) (home desk : Option D) → Has home → Has desk → Has (desk_after move home desk)
    desk_has stays home desk here there = there
    desk_has takes home desk here there = here
    desk_has gives home desk here there = has_none

    -- what holds of the first office, and is kept, holds of the office in each state of a run
    pub record AllHave (home : Option D) (entries : ℕ → Entry D) : Type 0 where
      pub home_has : Has home
      pub seats_have : (seat : ℕ) → Has (entries seat).desk

    pub run_keeps : {k : Key} {first : D} {words : List ℕ} {home : Option D} {entries : ℕ → Entry D} → P first
        → Run c k first words home entries → AllHave home entries
    run_keeps {first = first} p opened = record { home_has = has_some first p; seats_have = λ seat. has_none }
    run_keeps {k = k} p (stepped {words = words} {home = home} {entries = entries} run seat l desk silent word) =
        let all = run_keeps p run in
        let mine = silence_keeps silent (all.seats_have seat) in
        let found = finds k words (course l) in
        record {
          home_has = home_has (move_of l.at found) home desk all.home_has mine;
          seats_have = put-each (λ j e. Has e.desk) entries seat (learnt (entries seat) l home desk found)
              (λ j _. all.seats_have j) (desk_has (move_of l.at found) home desk all.home_has mine);
        }

module _ {R : Type 0} (out : R → List Region) (faults : R → ℕ) (got : R → ℕ → Option Region → R → Type 0)
    (passed : R → Region → Bool → R → Type 0) where
  asks_keeps : (policy : Policy) (limits : Limits) (granules : ℕ) (old : Desk R) (answer : Result RegionRec ObtainError)
      (new : Desk R) → Obtains out faults got old granules answer new → IsOf policy limits old → IsOf policy limits new
  asks_keeps policy limits granules old (Ok one) new comes is =
      subst (IsOf policy limits) (sym comes.after) (record { policy_is = is.policy_is; limits_are = is.limits_are })
  asks_keeps policy limits granules old (Err RawFailed) new fails is =
      subst (IsOf policy limits) (sym fails.after) (record { policy_is = is.policy_is; limits_are = is.limits_are })
  asks_keeps policy limits granules old (Err HasRegion) new same is = subst (IsOf policy limits) (sym same.1) is
  asks_keeps policy limits granules old (Err (RegionsFull count next)) new same is =
      subst (IsOf policy limits) (sym same.1) is
  asks_keeps policy limits granules old (Err (SpanFull asked greatest)) new same is =
      subst (IsOf policy limits) (sym same.1) is

  puts_keeps : (policy : Policy) (limits : Limits) (first : ℕ) (old new : Desk R) (b : Bool)
      → PutsBy out faults passed b old first new → IsOf policy limits old → IsOf policy limits new
  puts_keeps policy limits first old new true puts is =
      subst (IsOf policy limits) (sym puts.1.after) (record { policy_is = is.policy_is; limits_are = is.limits_are })
  puts_keeps policy limits first old new false same is = subst (IsOf policy limits) (sym same) is

  pub office_keeps : (policy : Policy) (limits : Limits) (k : Key)
      → Keeps (IsOf policy limits) (office_of out faults got passed k)
  office_keeps policy limits k = record {
    asks = λ old granules answer new asks is.
        asks_keeps policy limits (asked_granules k granules) old answer new asks is;
    puts = λ old first new puts is. puts_keeps policy limits first old new (starts_at old first) puts is;
  }
