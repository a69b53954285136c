-- What each step leaves, of the words and of what they stand for.
use Rattle.std.specs.Prelude.{ℕ, ◌+◌, cond, eqb, List, [], ◌∷◌, ◌++◌}
use Rattle.pool_types.specs.declared.values.Grant.{Grant}
use Rattle.word_codes.specs.declared.marks.Mark.{Mark}
use Rattle.word_codes.specs.declared.kinds.Kind.{Kind}
use Rattle.word_codes.specs.Marks.{mark_of, mark_word}
use Rattle.public_list.specs.declared.looking.LookCall.{LookCall}
use Rattle.public_list.specs.declared.looking.LookNext.{LookNext}
use Rattle.public_list.specs.declared.ending.EndCall.{EndCall}
use Rattle.public_list.specs.declared.ending.EndNext.{EndNext}
use Rattle.public_list.specs.declared.posting.PostCall.{PostCall}
use Rattle.public_list.specs.declared.posting.PostAt.{PostAt}
use Rattle.public_list.specs.declared.posting.PostNext.{PostNext}
use Rattle.public_list.specs.declared.joining.JoinAt.{JoinAt}
use Rattle.public_list.specs.declared.joining.JoinNext.{JoinNext}
use Rattle.chain_words.specs.declared.pushing.PushAt.{PushAt}
use Rattle.word_laws.specs.Memory.{put}
use Rattle.slab_laws.specs.Books.{Book, with_freed, with_joined}
use Rattle.slab_laws.specs.Heaps.{slab_of}
use Rattle.object_laws.specs.Objects.{Held, Task, Note, Shadow, Locals, grant_by, with_end}
use Rattle.object_laws.specs.Objects.Task.{Away, Looking, Ending, Posting, Joining}
use Rattle.object_laws.specs.Parts.{note_of}

abbrev pub with_task : ℕ → Task → Locals → Locals
with_task seat task l = record l { tasks = put l.tasks seat task }

abbrev pub with_note : ℕ → Note → Locals → Locals
with_note seat n l = record l { notes = put l.notes seat (n ∷ l.notes seat) }

-- a look goes on, finds an object held, which is noted, or finds none
abbrev pub looked : ℕ → LookCall → LookNext → Locals → Locals
looked seat call (LookNext.Goes at) l = with_task seat (Looking call at) l
looked seat call (LookNext.Held unit mark kind base) l =
    with_task seat Away (with_note seat (note_of unit mark kind) l)
looked seat call LookNext.Differs l = with_task seat Away l
looked seat call (LookNext.NotHeld found) l = with_task seat Away l

-- the grant that a call is to end
abbrev pub granted_by : Mark → Grant
granted_by Mark.Unmarked = grant_by 0 0
granted_by (Mark.Granted grant) = grant
granted_by (Mark.Hand seat) = grant_by 0 0
granted_by (Mark.Link unit) = grant_by 0 0
granted_by Mark.End = grant_by 0 0
granted_by Mark.EndUnusable = grant_by 0 0

-- a grant is ended: its object is private, in the seat's hand, or a block in its hand; or it was ended before
abbrev pub shadow_freed : ℕ → Mark → Shadow → Shadow
shadow_freed unit mark g = record g {
  held = put g.held unit Held.Private;
  privates = put g.privates (slab_of unit) (unit ∷ g.privates (slab_of unit));
  ended = with_end (granted_by mark) g.ended;
}

abbrev pub shadow_given : ℕ → Mark → Held → Shadow → Shadow
shadow_given unit mark held g = record g {
  held = put g.held unit held;
  ended = with_end (granted_by mark) g.ended;
}

abbrev pub shadow_ended : ℕ → EndCall → EndNext → Shadow → Shadow
shadow_ended seat call (EndNext.Goes at) g = g
shadow_ended seat call EndNext.Own g = shadow_freed call.unit (mark_of call.mark) g
shadow_ended seat call EndNext.Other g = shadow_given call.unit (mark_of call.mark) (Held.InHand seat) g
shadow_ended seat call EndNext.Large g = shadow_given call.unit (mark_of call.mark) Held.NotOut g
shadow_ended seat call (EndNext.NotHeld found) g = g

abbrev pub post_of : EndCall → PostCall
post_of call = record { unit = call.unit; slab = slab_of call.unit }

abbrev pub ended : ℕ → EndCall → Kind → EndNext → Locals → Locals
ended seat call kind (EndNext.Goes at) l = with_task seat (Ending call kind at) l
ended seat call kind EndNext.Own l =
    with_task seat Away (record l { book = with_freed (slab_of call.unit) call.unit l.book })
ended seat call kind EndNext.Other l = with_task seat (Posting (post_of call) (PostAt.Push PushAt.Look)) l
ended seat call kind EndNext.Large l = with_task seat Away l
ended seat call kind (EndNext.NotHeld found) l = with_task seat Away l

-- an object in a hand is listed
abbrev pub shadow_listed : PostCall → Shadow → Shadow
shadow_listed call g = record g {
  held = put g.held call.unit Held.Listed;
  listed = put g.listed (slab_of call.unit) (call.unit ∷ g.listed (slab_of call.unit));
}

abbrev pub shadow_posted : PostCall → PostNext → Shadow → Shadow
shadow_posted call (PostNext.Goes at) g = g
shadow_posted call PostNext.Listed g = shadow_listed call g
shadow_posted call PostNext.Owed g = shadow_listed call g

abbrev pub posted_as : ℕ → PostCall → PostNext → Locals → Locals
posted_as seat call (PostNext.Goes at) l = with_task seat (Posting call at) l
posted_as seat call PostNext.Listed l = with_task seat Away l
posted_as seat call PostNext.Owed l = with_task seat Away l

-- the keeper takes what was given back to a slab, and joins it
abbrev pub taken_back : Held → Held
taken_back Held.NotOut = Held.NotOut
taken_back Held.Private = Held.Private
taken_back Held.Listed = Held.Private
taken_back (Held.Object grant) = Held.Object grant
taken_back (Held.InHand seat) = Held.InHand seat
taken_back (Held.Ready seat first granules) = Held.Ready seat first granules
taken_back (Held.Large grant first granules) = Held.Large grant first granules

abbrev pub back_in : ℕ → (ℕ → Held) → ℕ → Held
back_in e held u = cond (eqb (slab_of u) e) (taken_back (held u)) (held u)

abbrev pub shadow_joined : ℕ → JoinAt → Shadow → Shadow
shadow_joined e JoinAt.Take g = record g {
  held = back_in e g.held;
  listed = put g.listed e [];
  taken = put g.taken e (g.listed e);
}
shadow_joined e (JoinAt.Walk first at count) g = g
shadow_joined e (JoinAt.Tie first last count) g = record g {
  privates = put g.privates e (g.taken e ++ g.privates e);
  taken = put g.taken e [];
}

abbrev pub joined_as : ℕ → ℕ → JoinNext → Locals → Locals
joined_as seat e (JoinNext.Goes at) l = with_task seat (Joining e at) l
joined_as seat e JoinNext.Nothing l = with_task seat Away l
joined_as seat e (JoinNext.Joined first count) l =
    with_task seat Away (record l { book = with_joined e first count l.book })

-- a grant with the seat's next number
abbrev pub next_grant : Locals → ℕ → Grant
next_grant l seat = grant_by seat (l.lasts seat + 1)

abbrev pub grant_word : Locals → ℕ → ℕ
grant_word l seat = mark_word (Mark.Granted (next_grant l seat))

abbrev pub granted : ℕ → ℕ → Kind → Book → Locals → Locals
granted seat unit kind b l = record {
  book = b;
  lasts = put l.lasts seat (l.lasts seat + 1);
  tasks = put l.tasks seat Away;
  notes = put l.notes seat (note_of unit (grant_word l seat) kind ∷ l.notes seat);
}

abbrev pub shadow_granted : Held → ℕ → Shadow → Shadow
shadow_granted held unit g = record g { held = put g.held unit held }

abbrev pub tail_of : List ℕ → List ℕ
tail_of [] = []
tail_of (x ∷ xs) = xs

abbrev pub shadow_private : Held → ℕ → ℕ → Shadow → Shadow
shadow_private held e unit g = record g {
  held = put g.held unit held;
  privates = put g.privates e (tail_of (g.privates e));
}

-- a slab ends: each of its objects is private, and none is out any more
abbrev pub shadow_emptied : ℕ → Shadow → Shadow
shadow_emptied e g = record g {
  held = λ u. cond (eqb (slab_of u) e) Held.NotOut (g.held u);
  privates = put g.privates e [];
}

abbrev pub with_book : Book → Locals → Locals
with_book b l = record l { book = b }
