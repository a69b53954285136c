-- A turn after which these blocks are in hand.
use Rattle.std.proofs.Common.{◌≡◌, ◌∙◌, ◌+◌, ℕ, Bool, true, false, cond, List, [], refl}
use Rattle.pool_types.specs.Sums.{capped}
use Rattle.pool_types.specs.declared.values.Answer.{Answer}
use Rattle.pool_types.specs.declared.values.Turn.{Turn}
use Rattle.step_local.specs.declared.frames.Local.{Local}
use Rattle.step_local.specs.declared.frames.Object.{Object}
use Rattle.step_local.specs.declared.frames.Stage.{Stage}
use Rattle.step_local.specs.Answers.{answered, ended, ending, got, got_after, object_got, replaces}
use Rattle.hand_blocks.specs.Changes.{Change, HandsLead}
use Rattle.hand_blocks.specs.Fits.{HandsFit, IsEnding}
use Rattle.hand_blocks.specs.Hands.{Hand, hands_of}
use Rattle.hand_blocks.proofs.Lists.{leads_to}

pub record Lands (next : Local) (hands : List Hand) : Type 0 where
  pub has : hands_of next ≡ hands
  pub fits : HandsFit next

abbrev pub LandsOn : Local × Turn → List Hand → Type 0
LandsOn turn hands = Lands turn.0 hands

pub either : (b : Bool) (x y : Local × Turn) (hands : List Hand) → LandsOn x hands → LandsOn y hands
    → LandsOn (cond b x y) hands
either true x y hands one other = one
either false x y hands one other = other

pub lands_as : (next : Local) (hands more : List Hand) → hands ≡ more → Lands next hands → Lands next more
lands_as next hands more same is = record { has = is.has ∙ same; fits = is.fits }

-- what a turn has shown: the local after it fits, and the changes lead to what is in hand there
pub record Turned (changes : List Change) (before : List Hand) (next : Local) : Type 0 where
  pub fits : HandsFit next
  pub leads : HandsLead changes before (hands_of next)

abbrev pub TurnedOn : List Change → List Hand → Local × Turn → Type 0
TurnedOn changes before turn = Turned changes before turn.0

pub stays : (before : List Hand) (next : Local) → Lands next before → Turned [] before next
stays before next is = record { fits = is.fits; leads = is.has }

pub turns : (changes : List Change) (before after : List Hand) (next : Local) → HandsLead changes before after
    → Lands next after → Turned changes before next
turns changes before after next leads is = record {
  fits = is.fits;
  leads = leads_to changes before after (hands_of next) leads is.has;
}

pub lands-answered : (l : Local) (answer : Answer) → LandsOn (answered l answer) []
lands-answered l answer = record { has = refl; fits = tt }

pub lands-ended : (l : Local) → LandsOn (ended l) []
lands-ended l = record { has = refl; fits = tt }

pub lands-ending : (l : Local) (stage : Stage) → IsEnding stage → LandsOn (ending l stage) []
lands-ending l stage is = record { has = refl; fits = is }

lands-got_after : (l : Local) (object : Object) → LandsOn (got_after l object) []
lands-got_after l object = either (replaces l.call.request)
    (ending (record l { call = record l.call { new = object } }) Stage.Replacing) _ []
    (lands-ending (record l { call = record l.call { new = object } }) Stage.Replacing tt)
    (record { has = refl; fits = tt })

pub lands-got : (l : Local) (unit : ℕ) → LandsOn (got l unit) []
lands-got l unit = lands-got_after (record l { last = capped (l.last + 1) }) (object_got l unit)
