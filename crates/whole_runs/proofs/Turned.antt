-- A turn at any position, outside of a reset, is steps of the whole.
use Rattle.std.proofs.Common.{◌≡◌, true, false, refl, sym, subst}
use Rattle.pool_words.specs.declared.words.Key.{Key}
use Rattle.call_laws.specs.Calls.{is_reset_at, is_resetting}
use Rattle.step_local.specs.declared.frames.At.{At}
use Rattle.step_local.specs.declared.frames.LargeAt.{LargeAt}
use Rattle.step_local.specs.declared.frames.Local.{Local}
use Rattle.step_local.specs.declared.frames.SmallAt.{SmallAt}
use Rattle.step_local.specs.declared.frames.Stage.{Stage}
use Rattle.step_local.specs.Course.{course, course_at}
use Rattle.step_runs.specs.Places.{has_word}
use Rattle.pool_laws.specs.Wholes.{Whole, WholeGood}
use Rattle.seat_ties.specs.Left.{Turned}
use Rattle.seat_ties.specs.Ties.{SeatTied}
use Rattle.seat_ties.specs.Turns.{NoReset, StepLeaves}
use Rattle.turn_suits.proofs.CallerLemmas.{turns_suit}
use Rattle.object_moves.specs.Positions.{IsEndAt, IsGrantAt, IsLocateAt, IsLookAt, IsPostAt, IsTakeAt}
use Rattle.object_moves.proofs.CallerLemmas.{ends_turn, grants_turn, locates_turn, looks_turn, posts_turn, small_turns}
use Rattle.mail_moves.specs.Positions.{IsMailAt}
use Rattle.mail_moves.proofs.CallerLemmas.{mail_turns_are_steps}
use Rattle.slab_moves.specs.Says.{IsSlabAt, SlabSays}
use Rattle.slab_moves.proofs.CallerLemmas.{slab_turns_are_steps}
use Rattle.shelf_moves.specs.Positions.{IsShelfAt}
use Rattle.shelf_moves.proofs.CallerLemmas.{shelf_turns_are_steps}
use Rattle.backend_moves.specs.Positions.{IsCutAt, IsQueueAt, IsScanAt, IsWholeAt}
use Rattle.backend_moves.proofs.CallerLemmas.{cuts_are_turned, queues_are_turned, scans_are_turned, wholes_are_turned}
use Rattle.put_moves.specs.Laws.{IsDrain, IsPut}
use Rattle.put_moves.proofs.CallerLemmas.{drains_turn, puts_turn}
use Rattle.office_moves.proofs.CallerLemmas.{office_turns_are_steps}
use Rattle.whole_runs.specs.Calls.{IsCall}

pub no_reset : (stage : Stage) → is_resetting stage ≡ false → NoReset stage
no_reset (Stage.Resetting stage) e = absurd (cc)
no_reset Stage.Idle e = tt
no_reset Stage.Looking e = tt
no_reset Stage.Getting e = tt
no_reset Stage.Ending e = tt
no_reset Stage.Replacing e = tt
no_reset Stage.Undoing e = tt
no_reset Stage.Leaving e = tt

module _ (k : Key) (w : Whole) (l : Local) (good : WholeGood k w) (tied : SeatTied k w l.seat l) (call : IsCall l)
    (word : has_word (course l) ≡ true) where
  turned : (IsThere : Local → Type 0) → Turned IsThere → IsThere l → StepLeaves k w l
  turned IsThere turns there =
      let quiet = no_reset l.call.stage call.calling in
      turns k w l good tied quiet word (turns_suit k w l good tied quiet word) there

  -- at a position of this kind
  at_kind : (Is : At → Type 0) → Turned (λ l. Is l.at) → (at : At) → l.at ≡ at → Is at → StepLeaves k w l
  at_kind Is turns at e is = turned (λ l. Is l.at) turns (subst Is (sym e) is)

  module _ (says : SlabSays l) where
    at_slab : (at : At) → l.at ≡ at → IsSlabAt at → StepLeaves k w l
    at_slab at e is = turned _ slab_turns_are_steps (record { at = subst IsSlabAt (sym e) is; says = says })

    small : (at : SmallAt) → l.at ≡ At.Small at → StepLeaves k w l
    small (SmallAt.Behind slab head) e = at_kind IsTakeAt small_turns (At.Small (SmallAt.Behind slab head)) e tt
    small (SmallAt.Private slab head below) e =
        at_kind IsTakeAt small_turns (At.Small (SmallAt.Private slab head below)) e tt
    small (SmallAt.Rest slab unit) e = at_kind IsTakeAt small_turns (At.Small (SmallAt.Rest slab unit)) e tt
    small (SmallAt.Uncache slab) e = at_slab (At.Small (SmallAt.Uncache slab)) e tt
    small (SmallAt.Next slab) e = at_slab (At.Small (SmallAt.Next slab)) e tt
    small (SmallAt.Public slab) e = at_slab (At.Small (SmallAt.Public slab)) e tt
    small (SmallAt.Own slab) e = at_slab (At.Small (SmallAt.Own slab)) e tt
    small (SmallAt.Kind slab) e = at_slab (At.Small (SmallAt.Kind slab)) e tt
    small (SmallAt.Empty slab) e = at_slab (At.Small (SmallAt.Empty slab)) e tt
    small (SmallAt.Cache slab) e = at_slab (At.Small (SmallAt.Cache slab)) e tt
    small (SmallAt.Oldest slab) e = at_slab (At.Small (SmallAt.Oldest slab)) e tt
    small (SmallAt.Newest slab) e = at_slab (At.Small (SmallAt.Newest slab)) e tt

    large : (at : LargeAt) → l.at ≡ At.Large at → StepLeaves k w l
    large LargeAt.Tick e = at_slab (At.Large LargeAt.Tick) e tt
    large (LargeAt.Kind unit) e = at_slab (At.Large (LargeAt.Kind unit)) e tt
    large (LargeAt.Grant unit) e = at_kind IsGrantAt grants_turn (At.Large (LargeAt.Grant unit)) e tt

    no_step : (at : At) → l.at ≡ at → has_word (course_at l at) ≡ false → StepLeaves k w l
    no_step at e none = absurd (let same : has_word (course_at l at) ≡ true
        = subst (λ x. has_word (course_at l x) ≡ true) e word in cc)

    by : (at : At) → l.at ≡ at → StepLeaves k w l
    by At.Idle e = no_step At.Idle e refl
    by (At.Ready answer) e = no_step (At.Ready answer) e refl
    by (At.Look at) e = at_kind IsLookAt looks_turn (At.Look at) e tt
    by (At.End at) e = at_kind IsEndAt ends_turn (At.End at) e tt
    by (At.Post at) e = at_kind IsPostAt posts_turn (At.Post at) e tt
    by (At.Mail at) e = at_kind IsMailAt mail_turns_are_steps (At.Mail at) e tt
    by (At.Mailbox at) e = at_kind IsMailAt mail_turns_are_steps (At.Mailbox at) e tt
    by (At.Adopt at) e = at_kind IsMailAt mail_turns_are_steps (At.Adopt at) e tt
    by (At.Join slab rest at) e = at_kind IsMailAt mail_turns_are_steps (At.Join slab rest at) e tt
    by (At.Spare at) e = at_kind IsMailAt mail_turns_are_steps (At.Spare at) e tt
    by (At.Leave slab at) e = at_kind IsMailAt mail_turns_are_steps (At.Leave slab at) e tt
    by (At.Locate at) e = at_kind IsLocateAt locates_turn (At.Locate at) e tt
    by (At.Small at) e = small at e
    by (At.Large at) e = large at e
    by (At.Get at) e = at_kind IsShelfAt shelf_turns_are_steps (At.Get at) e tt
    by (At.Undo cause at) e = at_kind IsShelfAt shelf_turns_are_steps (At.Undo cause at) e tt
    by (At.Keep at) e = at_kind IsShelfAt shelf_turns_are_steps (At.Keep at) e tt
    by (At.Sweep at) e = at_kind IsShelfAt shelf_turns_are_steps (At.Sweep at) e tt
    by (At.Scan at) e = at_kind IsScanAt scans_are_turned (At.Scan at) e tt
    by (At.Cut at) e = at_kind IsCutAt cuts_are_turned (At.Cut at) e tt
    by At.Queue e = at_kind IsQueueAt queues_are_turned At.Queue e tt
    by (At.Whole at) e = at_kind IsWholeAt wholes_are_turned (At.Whole at) e tt
    by (At.Drain at) e = at_kind IsDrain drains_turn (At.Drain at) e tt
    by (At.Put at) e = at_kind IsPut puts_turn (At.Put at) e tt
    by (At.Office job at) e = turned _ office_turns_are_steps (job, at, e)
    by (At.Reset at) e = absurd (let bad : true ≡ false = subst (λ x. is_reset_at x ≡ false) e call.at in cc)

    pub turns_are_steps : StepLeaves k w l
    turns_are_steps = by l.at refl
