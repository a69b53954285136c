-- What one step tells a seat, and what is known of a seat between its turns.
use Rattle.std.specs.Prelude.{◌≡◌, ℕ, ◌+◌, ◌%◌, ◌^◌, Bool, true, false, not, eqb, List, [], ◌∷◌, Option, Some, None}
use Rattle.std.specs.Prelude.{Result, slice_set}
use mathlib.Core.Option as maybe
use mathlib.Core.Option.{some, none}
use prog.Atomic.{either}
use lib.ListN.{get_elem?}
use Rattle.pool_types.specs.declared.values.Turn.{Turn}
use Rattle.pool_words.specs.declared.words.Key.{Key}
use Rattle.pool_words.specs.declared.words.Word.{Word}
use Rattle.pool_words.specs.declared.actions.Action.{Action}
use Rattle.pool_words.specs.declared.actions.Action.TheVariants.{Load, Store, Swap, Exchange, Add, TakeOffice}
use Rattle.pool_words.specs.declared.actions.Action.TheVariants.{GiveOffice, Nothing}
use Rattle.pool_types.specs.declared.policy.RegionRec.{RegionRec}
use Rattle.regions.specs.declared.errors.ObtainError.{ObtainError}
use Rattle.pool_words.specs.declared.actions.OfficeJob.{OfficeJob}
use Rattle.pool_words.specs.declared.actions.Seen.{Seen}
use Rattle.step_local.specs.declared.frames.Local.{Local}
use Rattle.step_local.specs.declared.frames.OfficeFor.{OfficeFor}
use Rattle.step_local.specs.Course.{course}
use Rattle.step_local.specs.Getting.{is_idle}
use Rattle.step_local.specs.Learn.{learn}
use Rattle.step_runs.specs.declared.entry.Entry.{Entry}
use Rattle.step_runs.specs.Places.{has_word, Carry, away, in_slot, in_hand, carry_of, HasDesk, Move, stays, takes}
use Rattle.step_runs.specs.Places.{gives, move_of}
use Rattle.step_runs.specs.Entries.{seen_by, learnt, first_entry}
use Rattle.step_runs.specs.Runs.{Callback, Silent, seen_answer}
use Rattle.atomic_table.specs.Table.{Me}
use Rattle.regions.specs.Offices.{Desk}
use Rattle.pool_types.specs.declared.values.Region.{Region}
use Rattle.step_runs.specs.Callbacks.{office_of}
use Rattle.step_runs.specs.Laws.{IsOf}
use Rattle.atomic_driver.specs.declared.rule.Plan.{Plan}
use Rattle.atomic_driver.specs.declared.rule.View.{View}
use Rattle.atomic_driver.specs.Rule.{key_by, plain}

-- the word of an action, and what becomes of it
abbrev pub word_of : Action → maybe.Option Word
word_of (Load w) = some w
word_of (Store w value) = some w
word_of (Swap w value) = some w
word_of (Exchange w from to) = some w
word_of (Add w value) = some w
word_of (TakeOffice job) = none
word_of GiveOffice = none
word_of Nothing = none

abbrev pub becomes : Action → ℕ → ℕ
becomes (Load w) n = n
becomes (Store w value) n = value
becomes (Swap w value) n = value
becomes (Exchange w from to) n = either (eqb n from) to n
becomes (Add w value) n = (n + value) % 2 ^ 64
becomes (TakeOffice job) n = n
becomes GiveOffice n = n
becomes Nothing n = n

-- what the step teaches where it found n: a store teaches nothing
abbrev pub taught : Action → ℕ → ℕ
taught (Load w) n = n
taught (Store w value) n = 0
taught (Swap w value) n = n
taught (Exchange w from to) n = n
taught (Add w value) n = n
taught (TakeOffice job) n = n
taught GiveOffice n = n
taught Nothing n = n

module _ {D : Type 0} where
  -- the view after the seat of its entry j, whose local and desk came to these, found f where the other lay at home
  abbrev pub view_after : View D → ℕ → Entry D → Local → Option D → Option D → ℕ → View D
  view_after v j e l home desk f = plain (slice_set v.entries j (learnt e l home desk f))

  -- the slots that the seat has out after its step
  abbrev pub Carried : Move → Option D → List (ℕ × Option D) → List (ℕ × Option D) → Type 0
  Carried stays home before after = after ≡ before
  Carried takes home before after = (one : D) × (home ≡ Some one) × (after ≡ (0, home) ∷ before)
  Carried gives home before after = after ≡ []

  -- the slot that a seat has out, with what lies in it
  abbrev pub SlotOut : Carry → Option D → List (ℕ × Option D) → Type 0
  SlotOut away desk slots = slots ≡ []
  SlotOut in_slot desk slots = slots ≡ (0, desk) ∷ []
  SlotOut in_hand desk slots = (left : Option D) × (slots ≡ (0, left) ∷ [])

  -- the entries of a view are those of seats in a row
  abbrev pub InARow : ℕ → Entry D → List (Entry D) → Type 0
  InARow j e entries = (i : ℕ) (x : Entry D) → get_elem? entries i ≡ some x → x.seat + j ≡ e.seat + i

  -- what is known before the step of a view's entry j, where the seat's local and desk came to these
  pub record Ready (c : Callback D) (j : ℕ) (e : Entry D) (l : Local) (desk : Option D) (me : Me (Option D) (View D))
      : Type 0 where
    pub unnoted : me.0.note ≡ None
    pub there : get_elem? me.0.entries j ≡ some e
    pub in_a_row : InARow j e me.0.entries
    pub since : Silent c e.local e.desk l desk
    pub has : HasDesk (carry_of l.at) desk
    pub hands : SlotOut (carry_of l.at) desk me.1

  -- what the step tells that found f: the view's entry has learnt it, and no other changes
  pub record Steps (Is : D → Type 0) (j : ℕ) (e : Entry D) (l : Local) (desk : Option D)
      (me : Me (Option D) (View D)) (f : ℕ) (now : Me (Option D) (View D)) : Type 0 where
    pub home : Option D
    pub view_is : now.0 ≡ view_after me.0 j e l home desk f
    pub slots : Carried (move_of l.at f) home me.1 now.1
    pub is_pools : (one : D) → home ≡ Some one → Is one

-- a call of the local is begun and has no answer yet
abbrev pub is_in_call : Local → Bool
is_in_call l = not (is_idle l.at)

-- what a seat's only entry is
abbrev pub own_of : {D : Type 0} → Key → List (Entry D) → Entry D
own_of k [] = first_entry k 0
own_of k (e ∷ entries) = e

-- what the office has that the seat holds: by position in its slot, or in hand
abbrev pub desk_at : {D : Type 0} → Carry → Option D → List (ℕ × Option D) → Option D
desk_at away hand slots = None
desk_at in_hand hand slots = hand
desk_at in_slot hand [] = None
desk_at in_slot hand (slot ∷ slots) = slot.1

module _ {D : Type 0} where
  -- what holds of a seat between two turns: its local and its desk by now are its entry's, up to what changes with no
  -- step on a word
  pub record Driven (c : Callback D) (k : Key) (Is : D → Type 0) (l : Local) (hand : Option D)
      (me : Me (Option D) (View D)) : Type 0 where
    pub one : me.0.entries ≡ own_of k me.0.entries ∷ []
    pub unnoted : me.0.note ≡ None
    pub since : Silent c (own_of k me.0.entries).local (own_of k me.0.entries).desk l
        (desk_at (carry_of l.at) hand me.1)
    pub has : HasDesk (carry_of l.at) (desk_at (carry_of l.at) hand me.1)
    pub slots : SlotOut (carry_of l.at) (desk_at (carry_of l.at) hand me.1) me.1
    pub is_pools : (one : D) → desk_at (carry_of l.at) hand me.1 ≡ Some one → Is one

  -- a turn on a word is one row: the local learns what was found, and the entry what the row leaves
  pub record ActsOnWord (l : Local) (e : Entry D) (now : Local) (after : Entry D) (turn : Turn) : Type 0 where
    pub found : ℕ
    pub desk : Option D
    pub home : Option D
    pub learns : learn l (seen_by (course l) found) ≡ (now, turn)
    pub entry : after ≡ learnt e l home desk found

  -- any other turn makes no row
  pub record ActsElse (l : Local) (e : Entry D) (now : Local) (after : Entry D) (turn : Turn) : Type 0 where
    pub seen : Seen
    pub learns : learn l seen ≡ (now, turn)
    pub entry : after ≡ e
    pub done : course l ≡ Nothing → seen ≡ Seen.Done

  abbrev pub ActsBy : Bool → Local → Entry D → Local → Entry D → Turn → Type 0
  ActsBy true l e now after turn = ActsOnWord l e now after turn
  ActsBy false l e now after turn = ActsElse l e now after turn

  -- what a turn of a seat's local does
  abbrev pub Acts : Local → Entry D → Local → Entry D → Turn → Type 0
  Acts l e now after turn = ActsBy (has_word (course l)) l e now after turn

module _ {R : Type 0} (out : R → List Region) (faults : R → ℕ) (got : R → ℕ → Option Region → R → Type 0)
    (passed : R → Region → Bool → R → Type 0) where
  abbrev pub PoolReady : Plan → ℕ → Entry (Desk R) → Local → Option (Desk R) → Me (Option (Desk R)) (View (Desk R))
      → Type 0
  PoolReady plan = Ready (office_of out faults got passed (key_by plan))

  abbrev pub PoolSteps : Plan → ℕ → Entry (Desk R) → Local → Option (Desk R) → Me (Option (Desk R)) (View (Desk R)) → ℕ
      → Me (Option (Desk R)) (View (Desk R)) → Type 0
  PoolSteps plan = Steps (IsOf plan.policy plan.limits)

  abbrev pub PoolDriven : Plan → Local → Option (Desk R) → Me (Option (Desk R)) (View (Desk R)) → Type 0
  PoolDriven plan = Driven (office_of out faults got passed (key_by plan)) (key_by plan) (IsOf plan.policy plan.limits)

-- what the office in hand answers where it was taken for this, and what it is then
abbrev pub Taken : {D : Type 0} → Callback D → OfficeJob → D → Seen → D → Type 0
Taken c (OfficeJob.Obtain granules) old seen now =
    (answer : Result RegionRec ObtainError) × (seen ≡ seen_answer answer) × c.asks old granules answer now
Taken c (OfficeJob.Give first) old seen now = (seen ≡ Seen.Given) × (now ≡ old)

-- the index at which the region begins that the office is taken for to give back
abbrev pub given_first : OfficeFor → Option ℕ
given_first OfficeFor.Ask = None
given_first (OfficeFor.Put first) = Some (first % 2 ^ 32)
given_first (OfficeFor.Drain first rest) = Some (first % 2 ^ 32)
