-- The rows of orphans leave the tasks and the spares that are left here.
use Rattle.std.proofs.Common.{◌≡◌, ℕ, Bool, true, false, cond, eqb, refl, ap, ◌∙◌, ⊎_elim, sym}
use Rattle.std.proofs.lemmas.Bool.Decides.{eqb_tells}
use Rattle.std.specs.Prelude.{Option, Some, None, ◌≢◌}
use Rattle.heap_slabs.specs.Rolls.{Rolled, after_push, newest_of}
use Rattle.orphans.specs.declared.adopting.AdoptNext.{AdoptNext}
use Rattle.orphans.specs.declared.leaving.LeaveNext.{LeaveNext}
use Rattle.orphans.specs.Adopting.{adopt_taken}
use Rattle.word_laws.specs.Memory.{put}
use Rattle.slab_laws.specs.Books.{Keeper, with_keeper}
use Rattle.orphan_laws.specs.Orphans.{Locals, Task}
use Rattle.orphan_laws.specs.Steps.{adopted_as, left_as, rested_on, returned_as, spared_on, spares_back, sparing}
use Rattle.orphan_laws.specs.Steps.{with_book}
use Rattle.post_laws.specs.After.{task_taken}
use Rattle.orphan_tasks.specs.Laws.{RowLeaves, RowsLeaveOrphanTasks}
use Rattle.orphan_tasks.specs.Orphans.{adopted_spares, adopted_task, back_spares, back_task, left_task, rested_task}
use Rattle.orphan_tasks.specs.Orphans.{returned_spares, returned_task, spared_spares, spared_task, sparing_spares}
use Rattle.orphan_tasks.specs.Orphans.{sparing_task}

put_here : {A : Type 0} (f : ℕ → A) (i j : ℕ) (a : A) → i ≡ j → put f i a j ≡ a
put_here f i j a same = ⊎_elim
    (λ (z : (eqb i j ≡ true) × (i ≡ j)). ap (λ (b : Bool). cond b a (f j)) z.0)
    (λ (z : (eqb i j ≡ false) × (i ≢ j)). absurd (z.1 same))
    (eqb_tells i j)

-- what a value is at each number, where it is put at one as it was
put_same : {A : Type 0} (f : ℕ → A) (i j : ℕ) → f j ≡ put f i (f i) j
put_same f i j = ⊎_elim
    (λ (z : (eqb i j ≡ true) × (i ≡ j)). ap f (sym z.1) ∙ sym (put_here f i j (f i) z.1))
    (λ (z : (eqb i j ≡ false) × (i ≢ j)). ap (λ (b : Bool). cond b (f i) (f j)) (sym z.0))
    (eqb_tells i j)

-- put twice at one number
put_twice : {A : Type 0} (f : ℕ → A) (i j : ℕ) (a b : A) → put (put f i a) i b j ≡ put f i b j
put_twice f i j a b = by (eqb i j)
  where
    by : (same : Bool) → cond same b (cond same a (f j)) ≡ cond same b (f j)
    by true = refl
    by false = refl

abbrev Same : ℕ → Locals → Task → Locals → Type 0
Same seat locals task later = RowLeaves seat locals later task (locals.spares seat)

stays : (seat : ℕ) (locals : Locals) (task : Task) (later : Locals) → later.tasks ≡ put locals.tasks seat task
    → later.spares ≡ locals.spares → Same seat locals task later
stays seat locals task later tasks spares = record {
  tasks' = tasks;
  spares' = λ other. ap (λ (all : ℕ → Rolled ℕ). all other) spares ∙ put_same locals.spares seat other;
}

leaves : (seat : ℕ) (locals : Locals) (slab : ℕ) (next : LeaveNext)
    → RowLeaves seat locals (left_as seat slab next locals) (left_task slab next) (locals.spares seat)
leaves seat locals slab (LeaveNext.Goes at) =
    stays seat locals _ (left_as seat slab (LeaveNext.Goes at) locals) refl refl
leaves seat locals slab LeaveNext.Filled = stays seat locals _ (left_as seat slab LeaveNext.Filled locals) refl refl
leaves seat locals slab LeaveNext.Left = stays seat locals _ (left_as seat slab LeaveNext.Left locals) refl refl

rests : (seat : ℕ) (locals : Locals) (class : ℕ) (enough : Bool) (rest : Option ℕ) → RowLeaves seat locals
    (rested_on seat class enough rest locals) (rested_task class enough rest) (locals.spares seat)
rests seat locals class enough (Some slab) =
    stays seat locals _ (rested_on seat class enough (Some slab) locals) refl refl
rests seat locals class enough None = stays seat locals _ (rested_on seat class enough None locals) refl refl

-- those that were put aside come back from spares that were put at the seat before
backs_one : (seat : ℕ) (locals : Locals) (class : ℕ) (one : Option ℕ) → RowLeaves seat locals
    (sparing seat class one locals) (sparing_task class one) (sparing_spares (locals.spares seat) one)
backs_one seat locals class (Some slab) = record { tasks' = refl; spares' = λ other. refl }
backs_one seat locals class None = stays seat locals _ (sparing seat class None locals) refl refl

backs : (seat : ℕ) (locals : Locals) (class : ℕ) → RowLeaves seat locals (spares_back seat class locals)
    (back_task class (locals.spares seat)) (back_spares (locals.spares seat))
backs seat locals class = backs_one seat locals class (newest_of (locals.spares seat))

abbrev with_spares : ℕ → Rolled ℕ → Locals → Locals
with_spares seat spares locals = record locals { spares = put locals.spares seat spares }

-- what is left of the locals with other spares is left of the locals
from_spares : (seat : ℕ) (locals : Locals) (spares : Rolled ℕ) (later : Locals) (task : Rolled ℕ → Task)
    (after : Rolled ℕ → Rolled ℕ)
    → RowLeaves seat (with_spares seat spares locals) later (task (put locals.spares seat spares seat))
    (after (put locals.spares seat spares seat))
    → RowLeaves seat locals later (task spares) (after spares)
from_spares seat locals spares later task after row =
    let here : put locals.spares seat spares seat ≡ spares = put_here locals.spares seat seat spares refl in record {
      tasks' = row.tasks' ∙ ap (λ (own : Rolled ℕ). put locals.tasks seat (task own)) here;
      spares' = λ other. row.spares' other
          ∙ put_twice locals.spares seat other spares (after (put locals.spares seat spares seat))
          ∙ ap (λ (own : Rolled ℕ). put locals.spares seat (after own) other) here;
    }

spares_on : (seat : ℕ) (locals : Locals) (class : ℕ) (rest : Option ℕ) → RowLeaves seat locals
    (spared_on seat class rest locals) (spared_task class (locals.spares seat) rest)
    (spared_spares (locals.spares seat) rest)
spares_on seat locals class (Some slab) = stays seat locals _ (spared_on seat class (Some slab) locals) refl refl
spares_on seat locals class None = backs seat locals class

adopts : (seat : ℕ) (locals : Locals) (class : ℕ) (next : AdoptNext) → RowLeaves seat locals
    (adopted_as seat class next locals) (adopted_task class (locals.spares seat) next)
    (adopted_spares (locals.spares seat) next)
adopts seat locals class (AdoptNext.Goes at) =
    stays seat locals _ (adopted_as seat class (AdoptNext.Goes at) locals) refl refl
adopts seat locals class AdoptNext.Empty = stays seat locals _ (adopted_as seat class AdoptNext.Empty locals) refl refl
adopts seat locals class (AdoptNext.Adopted slab header rest) =
    stays seat locals _ (adopted_as seat class (AdoptNext.Adopted slab header rest) locals) refl refl
adopts seat locals class (AdoptNext.Spared slab rest) =
    let spares : Rolled ℕ = after_push (locals.spares seat) slab in
    from_spares seat locals spares (spared_on seat class rest (with_spares seat spares locals))
    (λ own. spared_task class own rest) (λ own. spared_spares own rest)
    (spares_on seat (with_spares seat spares locals) class rest)

returns : (seat : ℕ) (locals : Locals) (class slab : ℕ) (next : LeaveNext) → RowLeaves seat locals
    (returned_as seat class slab next locals) (returned_task class slab (locals.spares seat) next)
    (returned_spares (locals.spares seat) next)
returns seat locals class slab (LeaveNext.Goes at) =
    stays seat locals _ (returned_as seat class slab (LeaveNext.Goes at) locals) refl refl
returns seat locals class slab LeaveNext.Filled = backs seat locals class
returns seat locals class slab LeaveNext.Left =
    let later : Locals = with_book (with_keeper slab Keeper.Orphan locals.book) locals in
    record { tasks' = (backs seat later class).tasks'; spares' = (backs seat later class).spares' }

takes : (seat : ℕ) (locals : Locals) (class : ℕ) (first : Option ℕ)
    → task_taken class first ≡ adopted_task class (locals.spares seat) (adopt_taken first)
takes seat locals class (Some slab) = refl
takes seat locals class None = refl

pub rows_leave_orphan_tasks : RowsLeaveOrphanTasks
rows_leave_orphan_tasks seat locals = record {
  leaves = leaves seat locals;
  adopts = adopts seat locals;
  rests = rests seat locals;
  returns = returns seat locals;
  spares = spares_on seat locals;
  backs = backs seat locals;
  takes = takes seat locals;
}
