-- Which steps bring a grant to a mark, and which take one away.
use Rattle.std.proofs.Common.{◌≡◌, ◌⊎◌, inl, inr, ℕ, ◌≤◌, Bool, true, false, cond, eqb, List, [], ◌∷◌}
use Rattle.std.proofs.Common.{refl, sym, ap, subst, ◌∙◌, arith}
use Rattle.std.specs.Prelude.{Some, None}
use Rattle.std.proofs.lemmas.Bool.Decides.{nat_tests}
use Rattle.pool_types.specs.declared.values.Grant.{Grant}
use Rattle.pool_words.specs.declared.words.Key.{Key}
use Rattle.pool_words.specs.declared.words.Word.{Word}
use Rattle.pool_words.specs.declared.actions.Action.{Action}
use Rattle.pool_words.specs.declared.actions.Action.TheVariants.{Store, Exchange}
use Rattle.pool_words.specs.Words.{marks, length_of}
use Rattle.word_codes.specs.declared.kinds.Kind.{Kind}
use Rattle.word_codes.specs.declared.marks.Mark.{Mark}
use Rattle.word_codes.specs.Marks.{mark_of, mark_word, private_link, public_link}
use Rattle.word_codes.specs.Publics.{public_of}
use Rattle.chain_words.specs.declared.pushing.PushAt.{PushAt}
use Rattle.mailbox.specs.declared.boxes.BoxAt.{BoxAt}
use Rattle.public_list.specs.declared.ending.EndAt.{EndAt}
use Rattle.public_list.specs.declared.ending.EndNext.{EndNext}
use Rattle.public_list.specs.declared.joining.JoinAt.{JoinAt}
use Rattle.public_list.specs.declared.joining.JoinCall.{JoinCall}
use Rattle.public_list.specs.declared.posting.PostAt.{PostAt}
use Rattle.public_list.specs.Joining.{join_course}
use Rattle.reset_steps.specs.declared.evict.EvictAt.{EvictAt}
use Rattle.reset_steps.specs.declared.strip.StripAt.{StripAt}
use Rattle.reset_steps.specs.Evict.{unit_at}
use Rattle.reset_steps.specs.Strip.{object_unit}
use Rattle.step_local.specs.declared.frames.At.{At}
use Rattle.step_local.specs.declared.frames.LargeAt.{LargeAt}
use Rattle.step_local.specs.declared.frames.Local.{Local}
use Rattle.step_local.specs.declared.frames.Object.{Object}
use Rattle.step_local.specs.declared.frames.ResetAt.{ResetAt}
use Rattle.step_local.specs.declared.frames.SmallAt.{SmallAt}
use Rattle.step_local.specs.Answers.{end_call, ended_object, next_mark, object_got}
use Rattle.step_local.specs.Course.{course_at}
use Rattle.step_local.specs.Objects.{post_call}
use Rattle.step_local.specs.Resetting.{strip_call}
use Rattle.step_local.specs.Slabs.{box_call, join_call}
use Rattle.step_runs.specs.Entries.{gain_at, loss_at, loss_by, reset_object}
use Rattle.word_laws.specs.Memory.{Mem, after, found, stored}
use Rattle.word_laws.proofs.CallerLemmas.{less_or, put-same, stored-valid}
use Rattle.step_writes.specs.Kinds.{kinds_at}
use Rattle.step_writes.specs.Writings.{share_kind, writes_one_of, writing_of}
use Rattle.step_writes.proofs.CallerLemmas.{other_kind_stands, other_kinds_stand}
use Rattle.step_grants.specs.Grants.{IsAt}
use Rattle.step_numbers.specs.Positions.{IsGrantWord, FitsAt, ResetFits, granting, granting_large, granting_small}
use Rattle.step_grants.proofs.Words.{NoGrant, hand_no_grant, private_no_grant, public_no_grant, stored_mark}
use Rattle.step_grants.proofs.Words.{zero_no_grant}

-- no grant comes to a mark
abbrev pub Quiet : (ℕ → ℕ) → (ℕ → ℕ) → Type 0
Quiet before after' = (u : ℕ) (grant : Grant) → IsAt after' grant u → IsAt before grant u

same_quiet : (before after' : ℕ → ℕ) → after' ≡ before → Quiet before after'
same_quiet before after' same u grant is = subst (λ (f : ℕ → ℕ). IsAt f grant u) same is

stored_quiet : (k : Key) (m : Mem) (unit value : ℕ) → NoGrant value
    → Quiet (m marks) (stored k m (Word.Mark unit) value marks)
stored_quiet k m unit value none u grant is = by (stored_mark k m unit value u grant is)
  where
    by : IsAt (m marks) grant u ⊎ ((u ≡ unit) × (mark_of value ≡ Mark.Granted grant)) → IsAt (m marks) grant u
    by (inl was) = was
    by (inr new) = absurd (none grant new.1)

exchanged_quiet : (k : Key) (m : Mem) (unit from to : ℕ) → NoGrant to
    → Quiet (m marks) (after k m (Exchange (Word.Mark unit) from to) marks)
exchanged_quiet k m unit from to none = by (eqb (m marks unit) from)
  where
    by : (b : Bool) → Quiet (m marks) ((cond {A = Mem} b (stored k m (Word.Mark unit) to) m) marks)
    by true = stored_quiet k m unit to none
    by false = λ u grant is. is

module _ (k : Key) (m : Mem) (l : Local) where
  abbrev QuietAt : At → Type 0
  QuietAt at = Quiet (m marks) (after k m (course_at l at) marks)

  -- a step that writes no mark
  none_at : (at : At) → share_kind (marks ∷ []) (kinds_at at) ≡ false → QuietAt at
  none_at at none =
      same_quiet (m marks) (after k m (course_at l at) marks) (other_kind_stands k m l at (marks ∷ []) marks none refl)

  other_action : (action : Action) → writes_one_of (marks ∷ []) (writing_of action) ≡ false
      → Quiet (m marks) (after k m action marks)
  other_action action none =
      same_quiet (m marks) (after k m action marks) (other_kinds_stand k m action (marks ∷ []) marks none refl)

  quiet_end : (at : EndAt) → QuietAt (At.End at)
  quiet_end EndAt.Own =
      let c = end_call l in exchanged_quiet k m c.unit c.mark (private_link c.head) (private_no_grant c.head)
  quiet_end EndAt.Other =
      let c = end_call l in exchanged_quiet k m c.unit c.mark (mark_word (Mark.Hand c.seat)) (hand_no_grant c.seat)
  quiet_end EndAt.Large =
      let c = end_call l in exchanged_quiet k m c.unit c.mark (mark_word (Mark.Hand c.seat)) (hand_no_grant c.seat)
  quiet_end (EndAt.Lost mark) = λ u grant is. is

  quiet_post : (at : PostAt) → QuietAt (At.Post at)
  quiet_post (PostAt.Push PushAt.Look) = λ u grant is. is
  quiet_post (PostAt.Push (PushAt.Link found)) =
      stored_quiet k m (post_call l).unit (public_link (public_of found)) (public_no_grant (public_of found))
  quiet_post (PostAt.Push (PushAt.Exchange found)) =
      other_action (course_at l (At.Post (PostAt.Push (PushAt.Exchange found)))) refl

  quiet_join : (c : JoinCall) (at : JoinAt) → Quiet (m marks) (after k m (join_course c at) marks)
  quiet_join c JoinAt.Take = other_action (join_course c JoinAt.Take) refl
  quiet_join c (JoinAt.Walk first at count) = λ u grant is. is
  quiet_join c (JoinAt.Tie first last count) =
      stored_quiet k m last (private_link c.head) (private_no_grant c.head)

  quiet_box : (at : BoxAt) → QuietAt (At.Mailbox at)
  quiet_box (BoxAt.Join slab rest at) =
      quiet_join (record { slab = slab; head = (box_call l (BoxAt.Join slab rest at)).head }) at
  quiet_box BoxAt.Take = other_action (course_at l (At.Mailbox BoxAt.Take)) refl
  quiet_box (BoxAt.Next slab) = λ u grant is. is
  quiet_box (BoxAt.Settle slab rest) = other_action (course_at l (At.Mailbox (BoxAt.Settle slab rest))) refl

  quiet_small : (at : SmallAt) → granting_small at ≡ None → QuietAt (At.Small at)
  quiet_small (SmallAt.Private slab head below) none = absurd (cc)
  quiet_small (SmallAt.Rest slab unit) none = absurd (cc)
  quiet_small at none = none_at (At.Small at) refl

  quiet_large : (at : LargeAt) → granting_large at ≡ None → QuietAt (At.Large at)
  quiet_large (LargeAt.Grant unit) none = absurd (cc)
  quiet_large at none = none_at (At.Large at) refl

  quiet_reset : (at : ResetAt) → QuietAt (At.Reset at)
  quiet_reset (ResetAt.Strip slab (StripAt.Mark object)) = λ u grant is. is
  quiet_reset (ResetAt.Strip slab (StripAt.End object mark)) =
      let s = strip_call l slab in
      exchanged_quiet k m (object_unit s object) mark (private_link s.head) (private_no_grant s.head)
  quiet_reset (ResetAt.Evict region (EvictAt.End granule b line mark)) =
      exchanged_quiet k m (unit_at granule line) mark (mark_word (Mark.Hand l.seat)) (hand_no_grant l.seat)
  quiet_reset (ResetAt.Evict region (EvictAt.Kind granule)) = λ u grant is. is
  quiet_reset (ResetAt.Evict region (EvictAt.Mark granule b line)) = λ u grant is. is
  quiet_reset at = none_at (At.Reset at) refl

  -- at no position but those that grant does a grant come to a mark
  pub quiet_at : (at : At) → granting at ≡ None → QuietAt at
  quiet_at (At.End at) none = quiet_end at
  quiet_at (At.Post at) none = quiet_post at
  quiet_at (At.Join slab rest at) none = quiet_join (join_call l slab) at
  quiet_at (At.Mailbox at) none = quiet_box at
  quiet_at (At.Small at) none = quiet_small at none
  quiet_at (At.Large at) none = quiet_large at none
  quiet_at (At.Reset at) none = quiet_reset at
  quiet_at at none = none_at at refl

-- what a step grants is the next grant of its seat
pub grant_stored : (l : Local) (at : At) (unit : ℕ) → granting at ≡ Some unit
    → course_at l at ≡ Store (Word.Mark unit) (next_mark l)
grant_stored l (At.Small (SmallAt.Private slab head below)) unit is = cc
grant_stored l (At.Small (SmallAt.Rest slab at)) unit is = cc
grant_stored l (At.Small _) unit is = absurd (cc)
grant_stored l (At.Large (LargeAt.Grant at)) unit is = cc
grant_stored l (At.Large _) unit is = absurd (cc)
grant_stored l _ unit is = absurd (cc)

pub gained : (l : Local) (at : At) (unit : ℕ) → granting at ≡ Some unit → gain_at l at ≡ object_got l unit ∷ []
gained l (At.Small (SmallAt.Private slab head below)) unit is = cc
gained l (At.Small (SmallAt.Rest slab at)) unit is = cc
gained l (At.Small _) unit is = absurd (cc)
gained l (At.Large (LargeAt.Grant at)) unit is = cc
gained l (At.Large _) unit is = absurd (cc)
gained l _ unit is = absurd (cc)

pub gained_none : (l : Local) (at : At) → granting at ≡ None → gain_at l at ≡ []
gained_none l (At.Small (SmallAt.Private slab head below)) none = absurd (cc)
gained_none l (At.Small (SmallAt.Rest slab unit)) none = absurd (cc)
gained_none l (At.Small _) none = refl
gained_none l (At.Large (LargeAt.Grant unit)) none = absurd (cc)
gained_none l (At.Large _) none = refl
gained_none l _ none = refl

-- the object's grant was at a unit's mark, and that mark names no grant now
pub record Loses (before after' : ℕ → ℕ) (x : Object) : Type 0 where
  pub grant : Grant
  pub names : mark_of x.mark ≡ Mark.Granted grant
  pub unit : ℕ
  pub there : IsAt before grant unit
  pub left : (other : Grant) → IsAt after' other unit → ⊥

abbrev pub LossFits : (ℕ → ℕ) → (ℕ → ℕ) → List Object → Type 0
LossFits before after' loss = (loss ≡ []) ⊎ ((x : Object) × (loss ≡ x ∷ []) × Loses before after' x)

-- behind the last unit no mark is
abbrev pub IsBounded : Key → (ℕ → ℕ) → Type 0
IsBounded k words = (u : ℕ) → length_of k marks ≤ u → words u ≡ 0

module _ (k : Key) (m : Mem) (bounded : IsBounded k (m marks)) where
  -- the exchange found the word of a grant
  ends : (unit mark to : ℕ) (x : Object) → x.mark ≡ mark → IsGrantWord mark → NoGrant to
      → eqb (m marks unit) mark ≡ true → Loses (m marks) (stored k m (Word.Mark unit) to marks) x
  ends unit mark to x same (grant, names) none won = record {
    grant = grant;
    names = ap mark_of same ∙ names;
    unit = unit;
    there = there;
    left = λ other. less_or unit (length_of k marks)
        (λ valid. subst (λ (n : Mem). IsAt (n marks) other unit → ⊥) (sym (stored-valid k m (Word.Mark unit) to valid))
        (λ is. none other (ap mark_of (sym (put-same (m marks) unit to)) ∙ is)))
        (λ void. absurd (zero_no_grant grant (subst (λ w. mark_of w ≡ Mark.Granted grant) (bounded unit void) there)));
  }
    where
      found_is : m marks unit ≡ mark
      found_is = grind (arith, nat_tests)

      there : IsAt (m marks) grant unit
      there = ap mark_of found_is ∙ names

  ended_by : (unit mark to : ℕ) (x : Object) → x.mark ≡ mark → IsGrantWord mark → NoGrant to → (b : Bool)
      → eqb (m marks unit) mark ≡ b
      → LossFits (m marks) ((cond {A = Mem} b (stored k m (Word.Mark unit) to) m) marks) (cond b (x ∷ []) [])
  ended_by unit mark to x same names none true won = inr (x, refl, ends unit mark to x same names none won)
  ended_by unit mark to x same names none false won = inl refl

  module _ (l : Local) where
    abbrev LossAt : At → Type 0
    LossAt at = LossFits (m marks) (after k m (course_at l at) marks) (loss_at l (found m (course_at l at)) at)

    lost_by : (next lost : EndNext) (b : Bool)
        → loss_by l (cond b next lost) ≡ cond b (loss_by l next) (loss_by l lost)
    lost_by next lost true = refl
    lost_by next lost false = refl

    -- an end by an exchange
    loses_next : (to : ℕ) (next : EndNext) (f : ℕ) → loss_by l next ≡ ended_object l ∷ []
        → IsGrantWord (ended_object l).mark → NoGrant to
        → LossFits (m marks) (after k m (Exchange (Word.Mark (ended_object l).unit) (ended_object l).mark to) marks)
        (loss_by l
        (cond (eqb (m marks (ended_object l).unit) (ended_object l).mark) next (EndNext.Goes (EndAt.Lost f))))
    loses_next to next f is names none =
        let x = ended_object l in
        let b = eqb (m marks x.unit) x.mark in
        subst (LossFits (m marks) (after k m (Exchange (Word.Mark x.unit) x.mark to) marks))
        (ap (λ (xs : List Object). cond b xs []) (sym is) ∙ sym (lost_by next (EndNext.Goes (EndAt.Lost f)) b))
        (ended_by x.unit x.mark to x refl names none b refl)

    loses_end : (at : EndAt) → IsGrantWord (ended_object l).mark → LossAt (At.End at)
    loses_end EndAt.Own names =
        let head = (end_call l).head in
        loses_next (private_link head) EndNext.Own _ refl names (private_no_grant head)
    loses_end EndAt.Other names =
        loses_next (mark_word (Mark.Hand l.seat)) EndNext.Other _ refl names (hand_no_grant l.seat)
    loses_end EndAt.Large names =
        loses_next (mark_word (Mark.Hand l.seat)) EndNext.Large _ refl names (hand_no_grant l.seat)
    loses_end (EndAt.Lost mark) names = inl refl

    loses_reset : (at : ResetAt) → ResetFits at → LossAt (At.Reset at)
    loses_reset (ResetAt.Strip slab (StripAt.Mark object)) fits = inl refl
    loses_reset (ResetAt.Strip slab (StripAt.End object mark)) fits =
        let s = strip_call l slab in
        let unit = object_unit s object in
        ended_by unit mark (private_link s.head) (reset_object unit mark (Kind.Slab s.class)) refl fits
        (private_no_grant s.head) (eqb (m marks unit) mark) refl
    loses_reset (ResetAt.Evict region (EvictAt.End granule b line mark)) fits =
        let unit = unit_at granule line in
        ended_by unit mark (mark_word (Mark.Hand l.seat)) (reset_object unit mark (Kind.Large b.first b.granules)) refl
        fits (hand_no_grant l.seat) (eqb (m marks unit) mark) refl
    loses_reset (ResetAt.Evict region (EvictAt.Kind granule)) fits = inl refl
    loses_reset (ResetAt.Evict region (EvictAt.Mark granule b line)) fits = inl refl
    loses_reset _ fits = inl refl

    -- what a step takes of grants was at a mark
    pub loses_at : (at : At) → FitsAt l at → LossAt at
    loses_at (At.End at) fits = loses_end at fits.0
    loses_at (At.Reset at) fits = loses_reset at fits.0
    loses_at _ fits = inl refl
