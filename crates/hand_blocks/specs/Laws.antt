-- The laws of what each seat has in hand.
use Rattle.std.specs.Prelude.{◌≡◌, ◌⊎◌, ◌+◌, ℕ, List, []}
use Rattle.pool_types.specs.declared.values.Answer.{Answer}
use Rattle.pool_types.specs.declared.values.Request.{Request}
use Rattle.pool_words.specs.declared.actions.Seen.{Seen}
use Rattle.pool_words.specs.declared.words.Key.{Key}
use Rattle.chain_laws.specs.Chains.{tally}
use Rattle.step_local.specs.declared.frames.At.{At}
use Rattle.step_local.specs.declared.frames.Local.{Local}
use Rattle.step_local.specs.declared.frames.Reset.{Reset}
use Rattle.step_local.specs.Answers.{answered}
use Rattle.step_local.specs.Frames.{made}
use Rattle.step_local.specs.Getting.{begun, reset_begun}
use Rattle.step_local.specs.Learn.{learn}
use Rattle.hand_blocks.specs.Changes.{Alters, Change, HandsLead, changes_of, gained, lost}
use Rattle.hand_blocks.specs.Fits.{HandsFit, StepFits}
use Rattle.hand_blocks.specs.Hands.{Hand, firsts, hands_of}

-- each turn leads from what was in hand to what is, by its changes
abbrev pub TurnsChangeHands : Type 0
TurnsChangeHands = (l : Local) (s : Seen) → HandsFit l → StepFits l s
    → HandsLead (changes_of l s) (hands_of l) (hands_of (learn l s).0)

abbrev pub TurnsKeepHandFits : Type 0
TurnsKeepHandFits = (l : Local) (s : Seen) → HandsFit l → StepFits l s → HandsFit (learn l s).0

-- a call or a reset begins with nothing in hand, and with nothing after; one that is refused changes nothing
pub record IsEmptyBegin (l next : Local) : Type 0 where
  pub before : hands_of l ≡ []
  pub after : hands_of next ≡ []
  pub fits : HandsFit next

abbrev pub BeginsOrStays : Local → Local → Type 0
BeginsOrStays l next = IsEmptyBegin l next ⊎ (next ≡ l)

pub record BeginsLeave (l : Local) : Type 0 where
  pub begins : (request : Request) → BeginsOrStays l (begun l request).0
  pub resets : (reset : Reset) → BeginsOrStays l (reset_begun l reset).0

abbrev pub BeginsLeaveHands : Type 0
BeginsLeaveHands = (l : Local) → BeginsLeave l

-- where no call is begun nothing is in hand, nor where a call was answered
pub record IdleIsEmpty (l : Local) : Type 0 where
  pub idle : l.at ≡ At.Idle → hands_of l ≡ []
  pub answers : (answer : Answer) → hands_of (answered l answer).0 ≡ []

abbrev pub IdleHandsAreEmpty : Type 0
IdleHandsAreEmpty = (l : Local) → IdleIsEmpty l

pub record FreshHandsAre (k : Key) (seat : ℕ) : Type 0 where
  pub empty : hands_of (made k seat) ≡ []
  pub fits : HandsFit (made k seat)

abbrev pub FreshHandsAreEmpty : Type 0
FreshHandsAreEmpty = (k : Key) (seat : ℕ) → FreshHandsAre k seat

-- as many blocks begin at a granule as before, but for those that the change loses and gains
abbrev pub ChangesCountBlocks : Type 0
ChangesCountBlocks = (change : Change) (before after : List Hand) → Alters change before after → (x : ℕ)
    → tally x (firsts after) + tally x (firsts (lost change))
    ≡ tally x (firsts before) + tally x (firsts (gained change))
