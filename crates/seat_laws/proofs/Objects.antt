-- Steps on objects and slabs leave all other seats alone.
use Rattle.std.proofs.Common.{◌≡◌, ◌≢◌, ℕ, true, refl}
use Rattle.word_codes.specs.declared.kinds.Kind.{Kind}
use Rattle.public_list.specs.declared.ending.EndAt.{EndAt}
use Rattle.public_list.specs.declared.ending.EndCall.{EndCall}
use Rattle.public_list.specs.declared.ending.EndNext.{EndNext}
use Rattle.public_list.specs.declared.joining.JoinAt.{JoinAt}
use Rattle.public_list.specs.declared.joining.JoinCall.{JoinCall}
use Rattle.public_list.specs.declared.joining.JoinNext.{JoinNext}
use Rattle.public_list.specs.declared.looking.LookAt.{LookAt}
use Rattle.public_list.specs.declared.looking.LookCall.{LookCall}
use Rattle.public_list.specs.declared.looking.LookNext.{LookNext}
use Rattle.public_list.specs.declared.posting.PostCall.{PostCall}
use Rattle.public_list.specs.declared.posting.PostNext.{PostNext}
use Rattle.public_list.specs.Ending.{end_course}
use Rattle.public_list.specs.Joining.{join_course}
use Rattle.public_list.specs.Looking.{look_course}
use Rattle.slab_laws.specs.Books.{Book}
use Rattle.object_laws.specs.Objects.{Locals, Task}
use Rattle.object_laws.specs.Rows.{ended, granted, joined_as, looked, posted_as, with_task}
use Rattle.seat_laws.proofs.Alone.{not_put, spares}

pub look_spares : (c : LookCall) (at : LookAt) → spares (look_course c at) ≡ true
look_spares c LookAt.Region = refl
look_spares c _ = refl

pub end_spares : (c : EndCall) (at : EndAt) → spares (end_course c at) ≡ true
end_spares c EndAt.Own = refl
end_spares c _ = refl

pub join_spares : (c : JoinCall) (at : JoinAt) → spares (join_course c at) ≡ true
join_spares c JoinAt.Take = refl
join_spares c _ = refl

-- what is a seat's own of objects stays
pub record OwnStays (l later : Locals) (t : ℕ) : Type 0 where
  pub tasks : later.tasks t ≡ l.tasks t
  pub notes : later.notes t ≡ l.notes t
  pub lasts : later.lasts t ≡ l.lasts t

pub own_same : (l : Locals) (t : ℕ) → OwnStays l l t
own_same l t = record { tasks = refl; notes = refl; lasts = refl }

-- where another begins something else, and notes something
pub own_task : (seat t : ℕ) (task : Task) (l : Locals) → seat ≢ t → OwnStays l (with_task seat task l) t
own_task seat t task l ne = record { tasks = not_put l.tasks seat t task ne; notes = refl; lasts = refl }

pub own_looked : (seat t : ℕ) (call : LookCall) (next : LookNext) (l : Locals) → seat ≢ t
    → OwnStays l (looked seat call next l) t
own_looked seat t call (LookNext.Goes at) l ne = own_task seat t _ l ne
own_looked seat t call (LookNext.Held unit mark kind base) l ne = record {
  tasks = not_put l.tasks seat t _ ne;
  notes = not_put l.notes seat t _ ne;
  lasts = refl;
}
own_looked seat t call LookNext.Differs l ne = own_task seat t _ l ne
own_looked seat t call (LookNext.NotHeld found) l ne = own_task seat t _ l ne

pub own_ended : (seat t : ℕ) (call : EndCall) (kind : Kind) (next : EndNext) (l : Locals) → seat ≢ t
    → OwnStays l (ended seat call kind next l) t
own_ended seat t call kind (EndNext.Goes at) l ne = own_task seat t _ l ne
own_ended seat t call kind EndNext.Own l ne =
    record { tasks = not_put l.tasks seat t _ ne; notes = refl; lasts = refl }
own_ended seat t call kind EndNext.Other l ne = own_task seat t _ l ne
own_ended seat t call kind EndNext.Large l ne = own_task seat t _ l ne
own_ended seat t call kind (EndNext.NotHeld found) l ne = own_task seat t _ l ne

pub own_posted : (seat t : ℕ) (call : PostCall) (next : PostNext) (l : Locals) → seat ≢ t
    → OwnStays l (posted_as seat call next l) t
own_posted seat t call (PostNext.Goes at) l ne = own_task seat t _ l ne
own_posted seat t call PostNext.Listed l ne = own_task seat t _ l ne
own_posted seat t call PostNext.Owed l ne = own_task seat t _ l ne

pub own_joined : (seat t e : ℕ) (next : JoinNext) (l : Locals) → seat ≢ t → OwnStays l (joined_as seat e next l) t
own_joined seat t e (JoinNext.Goes at) l ne = own_task seat t _ l ne
own_joined seat t e JoinNext.Nothing l ne = own_task seat t _ l ne
own_joined seat t e (JoinNext.Joined first count) l ne =
    record { tasks = not_put l.tasks seat t _ ne; notes = refl; lasts = refl }

pub own_granted : (seat t unit : ℕ) (kind : Kind) (b : Book) (l : Locals) → seat ≢ t
    → OwnStays l (granted seat unit kind b l) t
own_granted seat t unit kind b l ne = record {
  tasks = not_put l.tasks seat t _ ne;
  notes = not_put l.notes seat t _ ne;
  lasts = not_put l.lasts seat t _ ne;
}
