-- What a local keeps of numbers, turn by turn: but where it grants, the number of the seat's last grant stays.
use Rattle.std.proofs.Common.{◌≡◌, ℕ, ◌+◌, ◌<◌, ◌≤◌, refl, sym, subst, arith}
use Rattle.std.specs.Prelude.{Option, Some, None}
use Rattle.pool_types.specs.Sums.{capped}
use Rattle.pool_types.specs.declared.values.Request.{Request}
use Rattle.pool_words.specs.declared.actions.Seen.{Seen}
use Rattle.pool_words.specs.Actions.{word_seen}
use Rattle.word_codes.specs.Links.{link_of}
use Rattle.word_codes.proofs.CallerLemmas.{capped_is}
use Rattle.step_local.specs.declared.frames.At.{At}
use Rattle.step_local.specs.declared.frames.LargeAt.{LargeAt}
use Rattle.step_local.specs.declared.frames.Local.{Local}
use Rattle.step_local.specs.declared.frames.Reset.{Reset}
use Rattle.step_local.specs.declared.frames.SmallAt.{SmallAt}
use Rattle.step_local.specs.Answers.{got, object_got}
use Rattle.step_local.specs.Frames.{made}
use Rattle.step_local.specs.Getting.{begun, last_grant, reset_begun}
use Rattle.step_local.specs.Learn.{learn, learn_at}
use Rattle.step_local.specs.Slabs.{with_taken}
use Rattle.pool_words.specs.declared.words.Key.{Key}
use Rattle.step_numbers.specs.Laws.{TurnsKeepNumbers}
use Rattle.step_numbers.specs.Positions.{CanGrant, FitsAt, NumbersFit, granting}
use Rattle.step_numbers.proofs.Backend.{fits-cut_learn_of, fits-drain_learn_of, fits-office_learn_of}
use Rattle.step_numbers.proofs.Backend.{fits-put_learn_of}
use Rattle.step_numbers.proofs.Backend.{fits-queue_as, fits-scan_learn_of, fits-whole_learn_of}
use Rattle.step_numbers.proofs.Begun.{fits_begun, fits_reset_begun}
use Rattle.step_numbers.proofs.Kept.{Fits}
use Rattle.step_numbers.proofs.Large.{fits-end_learn_of, fits-get_learn_of, fits-keep_learn_of, fits-large_learn}
use Rattle.step_numbers.proofs.Large.{fits-locate_learn, fits-look_learn_of, fits-mail_learn_of, fits-post_learn_of}
use Rattle.step_numbers.proofs.Large.{fits-sweep_learn_of, fits-undo_learn_of}
use Rattle.step_numbers.proofs.Resets.{fits-reset_learn_of}
use Rattle.step_numbers.proofs.Small.{fits-adopt_learn_of, fits-box_learn_of, fits-got_after, fits-join_learn_of}
use Rattle.step_numbers.proofs.Small.{fits-leave_learn_of, fits-small_learn, fits-spare_learn_of}
use Rattle.step_numbers.proofs.Words.{granted_word}

-- a turn that grants nothing
fits_turn : (l : Local) (at : At) (s : Seen) → l.at ≡ at → granting at ≡ None → FitsAt l at
    → Fits l.last (learn_at l at s)
fits_turn l At.Idle s here none fits = (refl, subst (FitsAt l) (sym here) tt)
fits_turn l (At.Ready answer) s here none fits = (refl, tt)
fits_turn l (At.Look at) s here none fits = fits-look_learn_of l at (word_seen s) fits
fits_turn l (At.End at) s here none fits = fits-end_learn_of l at (word_seen s) fits
fits_turn l (At.Post at) s here none fits = fits-post_learn_of l at (word_seen s) fits
fits_turn l (At.Mail at) s here none fits = fits-mail_learn_of l at (word_seen s) fits
fits_turn l (At.Mailbox at) s here none fits = fits-box_learn_of l at (word_seen s) fits
fits_turn l (At.Adopt at) s here none fits = fits-adopt_learn_of l at (word_seen s) fits
fits_turn l (At.Join slab rest at) s here none fits = fits-join_learn_of l slab rest at (word_seen s) fits
fits_turn l (At.Spare at) s here none fits = fits-spare_learn_of l at (word_seen s) fits
fits_turn l (At.Leave slab at) s here none fits = fits-leave_learn_of l slab at (word_seen s) fits
fits_turn l (At.Locate at) s here none fits = fits-locate_learn l at (word_seen s) (fits refl)
fits_turn l (At.Small at) s here none fits = fits-small_learn l at (word_seen s) none fits
fits_turn l (At.Large at) s here none fits = fits-large_learn l at (word_seen s) none fits
fits_turn l (At.Get at) s here none fits = fits-get_learn_of l at (word_seen s) (fits refl)
fits_turn l (At.Undo cause at) s here none fits = fits-undo_learn_of l cause at (word_seen s) fits
fits_turn l (At.Keep at) s here none fits = fits-keep_learn_of l at (word_seen s) fits
fits_turn l (At.Sweep at) s here none fits = fits-sweep_learn_of l at (word_seen s) fits
fits_turn l (At.Scan at) s here none fits = fits-scan_learn_of l at (word_seen s) (fits refl)
fits_turn l (At.Cut at) s here none fits = fits-cut_learn_of l at (word_seen s) (fits refl)
fits_turn l At.Queue s here none fits = fits-queue_as l (link_of (word_seen s)) (fits refl)
fits_turn l (At.Whole at) s here none fits = fits-whole_learn_of l at (word_seen s) (fits refl)
fits_turn l (At.Drain at) s here none fits = fits-drain_learn_of l at (word_seen s) (fits refl)
fits_turn l (At.Put at) s here none fits = fits-put_learn_of l at (word_seen s) fits
fits_turn l (At.Office job at) s here none fits = fits-office_learn_of l job at s fits
fits_turn l (At.Reset at) s here none fits = fits-reset_learn_of l at (word_seen s) fits.1

fits_got : (l : Local) (unit : ℕ) → CanGrant l → Fits (capped (l.last + 1)) (got l unit)
fits_got l unit can = fits-got_after (record l { last = capped (l.last + 1) }) (object_got l unit)
    (granted_word (record { seat = l.seat; number = capped (l.last + 1) })) can.held

-- a turn that grants
fits_grant : (l : Local) (at : At) (unit : ℕ) (s : Seen) → granting at ≡ Some unit → FitsAt l at
    → Fits (capped (l.last + 1)) (learn_at l at s)
fits_grant l (At.Small (SmallAt.Private slab head below)) unit s is fits =
    fits_got (with_taken l slab below) head (fits refl)
fits_grant l (At.Small (SmallAt.Rest slab at)) unit s is fits = fits_got (with_taken l slab None) at (fits refl)
fits_grant l (At.Small _) unit s is fits = absurd (cc)
fits_grant l (At.Large (LargeAt.Grant at)) unit s is fits = fits_got l at (fits refl)
fits_grant l (At.Large _) unit s is fits = absurd (cc)
fits_grant l _ unit s is fits = absurd (cc)

can_grant : (l : Local) (at : At) (unit : ℕ) → granting at ≡ Some unit → FitsAt l at → CanGrant l
can_grant l (At.Small (SmallAt.Private slab head below)) unit is fits = fits refl
can_grant l (At.Small (SmallAt.Rest slab at)) unit is fits = fits refl
can_grant l (At.Small _) unit is fits = absurd (cc)
can_grant l (At.Large (LargeAt.Grant at)) unit is fits = fits refl
can_grant l (At.Large _) unit is fits = absurd (cc)
can_grant l _ unit is fits = absurd (cc)

-- where the next step grants a number is left for it
pub number_left : (l : Local) (unit : ℕ) → granting l.at ≡ Some unit → NumbersFit l → l.last < last_grant
number_left l unit is fits = (can_grant l l.at unit is fits.place).left

next_number : (last : ℕ) → last < last_grant → capped (last + 1) ≡ last + 1
next_number last low = capped_is (last + 1) (omega arith)

-- a turn that grants nothing keeps what a local keeps, and the number of the last grant
pub record Stays (before : ℕ) (l : Local) : Type 0 where
  pub last : l.last ≡ before
  pub fits : NumbersFit l

kept : (n : ℕ) (l : Local) → n ≤ last_grant → (l.last ≡ n) × FitsAt l l.at → Stays n l
kept n l low now = record {
  last = now.0;
  fits = record { below = subst (λ x. x ≤ last_grant) (sym now.0) low; place = now.1 };
}

pub stays_learnt : (l : Local) (s : Seen) → granting l.at ≡ None → NumbersFit l → Stays l.last (learn l s).0
stays_learnt l s none fits = kept l.last (learn l s).0 fits.below (fits_turn l l.at s refl none fits.place)

pub stays_begun : (l : Local) (request : Request) → NumbersFit l → Stays l.last (begun l request).0
stays_begun l request fits = kept l.last (begun l request).0 fits.below (fits_begun l request fits.place)

pub stays_reset : (l : Local) (reset : Reset) → NumbersFit l → Stays l.last (reset_begun l reset).0
stays_reset l reset fits = kept l.last (reset_begun l reset).0 fits.below (fits_reset_begun l reset fits.place)

-- a turn that grants has come to the next number
pub granted_next : (l : Local) (unit : ℕ) (s : Seen) → granting l.at ≡ Some unit → NumbersFit l
    → Stays (l.last + 1) (learn l s).0
granted_next l unit s is fits =
    let low = number_left l unit is fits in
    kept (l.last + 1) (learn l s).0 (omega arith) (subst (λ n. Fits n (learn l s)) (next_number l.last low)
    (fits_grant l l.at unit s is fits.place))

turn_keeps : (l : Local) (s : Seen) → NumbersFit l → NumbersFit (learn l s).0
turn_keeps l s fits = by (granting l.at) refl
  where
    by : (unit : Option ℕ) → granting l.at ≡ unit → NumbersFit (learn l s).0
    by (Some unit) is = (granted_next l unit s is fits).fits
    by None is = (stays_learnt l s is fits).fits

pub turns_keep_numbers : TurnsKeepNumbers
turns_keep_numbers l fits = record {
  turns = λ seen. turn_keeps l seen fits;
  begins = λ request. (stays_begun l request fits).fits;
  resets = λ reset. (stays_reset l reset fits).fits;
}

pub made_fits : (k : Key) (seat : ℕ) → NumbersFit (made k seat)
made_fits k seat = record { below = omega arith; place = tt }
