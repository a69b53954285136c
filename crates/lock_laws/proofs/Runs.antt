-- Lists stand where others write, and changes from their first step to their last.
use Rattle.std.proofs.Common.{◌≡◌, ℕ, ◌<◌, ◌≤◌, Some, None, List, ◌∷◌, ◌++◌, refl, sym, ap, subst, arith, ◌∙◌}
use Rattle.std.specs.declared.option.Option.{Option}
use Rattle.pool_words.specs.declared.words.Key.{Key}
use Rattle.pool_words.specs.declared.words.Word.{Word}
use Rattle.pool_words.specs.Words.{kind_of_word, at_of, forwards, backwards}
use Rattle.word_codes.specs.Links.{link_of, link_word}
use Rattle.locked_chain.specs.declared.ListCall.{ListCall}
use Rattle.locked_chain.specs.declared.insert.InsertAt.{InsertAt}
use Rattle.locked_chain.specs.declared.insert.InsertNext.{InsertNext}
use Rattle.locked_chain.specs.declared.remove.RemoveAt.{RemoveAt}
use Rattle.locked_chain.specs.declared.remove.RemoveNext.{RemoveNext}
use Rattle.locked_chain.specs.Insert.{insert_course}
use Rattle.locked_chain.specs.Remove.{remove_course, skip_course}
use Rattle.word_laws.specs.Memory.{Mem, stored, after}
use Rattle.word_laws.proofs.CallerLemmas.{put_else, write_else, stored-valid}
use Rattle.chain_laws.specs.Chains.{Leads, tally}
use Rattle.chain_laws.specs.Chains.Link.{Ends}
use Rattle.chain_laws.specs.Pushing.{IsOneWord}
use Rattle.chain_laws.proofs.CallerLemmas.{tally-here, tally-more, tally-append, leads-same}
use Rattle.lock_laws.specs.Lists.{TwoWay, nothing, Change, BackFits, IsList}
use Rattle.lock_laws.specs.Lists.Change.{LinkedBack, CutForward}
use Rattle.lock_laws.specs.Steps.{link_at, list_of, Inserts, Removes, AfterInsert, AfterRemove, IsHead, CanChange}
use Rattle.lock_laws.specs.Runs.{LeavesList, InsertRun, RemoveRun}
use Rattle.lock_laws.specs.Runs.InsertRun.{insert_begins, insert_steps, insert_waits}
use Rattle.lock_laws.specs.Runs.RemoveRun.{remove_begins, remove_steps, remove_waits}
use Rattle.lock_laws.specs.Laws.{OtherListsStand, BetweenLocksOneItem}
use Rattle.lock_laws.proofs.Back.{back-same}
use Rattle.lock_laws.proofs.ListsInWords.{next_stored, previous_stored, first_inside, before_inside, behind_inside}
use Rattle.lock_laws.proofs.ListsInWords.{insert_keeps_list, remove_keeps_list}

-- the item that comes or leaves, and those of the list
abbrev pub items_of : Change → List ℕ → List ℕ
items_of Change.Still items = items
items_of (LinkedBack x) items = x ∷ items
items_of (CutForward x behind before) items = x ∷ items

-- a list is what the words of its items and of its change say
pub list-same : (w new : TwoWay) (change : Change) (items : List ℕ) → new.head ≡ w.head
    → ((x : ℕ) → 0 < tally x items → new.next x ≡ w.next x)
    → ((x : ℕ) → 0 < tally x (items_of change items) → new.previous x ≡ w.previous x)
    → IsList w change items → IsList new change items
list-same w new change items first next previous list = record {
  forward = subst (λ l. Leads new.next l items (Ends 0)) (sym first)
      (leads-same w.next new.next w.head items (Ends 0) next list.forward);
  backward = by change previous list.backward;
}
  where
    by : (c : Change) → ((x : ℕ) → 0 < tally x (items_of c items) → new.previous x ≡ w.previous x)
        → BackFits w.previous c items → BackFits new.previous c items
    by Change.Still same leads = back-same w.previous new.previous nothing items same leads
    by (LinkedBack x) same leads = back-same w.previous new.previous nothing (x ∷ items) same leads
    by (CutForward x behind before) same (front, rest, is, last, leads) = (
      front,
      rest,
      is,
      last,
      back-same w.previous new.previous nothing (front ++ (x ∷ (behind ∷ rest)))
          (λ y some. same y
          (let a = tally-append y front (x ∷ (behind ∷ rest)) in
          let b = tally-append y front (behind ∷ rest) in
          let e = ap (λ xs. tally y xs) is in omega arith)) leads,
    )

-- the words of these items are the same, and that of the head
pub record IsLeft (w new : TwoWay) (items : List ℕ) : Type 0 where
  pub first : new.head ≡ w.head
  pub next : (y : ℕ) → 0 < tally y items → new.next y ≡ w.next y
  pub previous : (y : ℕ) → 0 < tally y items → new.previous y ≡ w.previous y

pub inserts-left : (w new : TwoWay) (x : ℕ) (items : List ℕ) (at : InsertAt) → IsLeft w new (x ∷ items)
    → Inserts w x items at → Inserts new x items at
inserts-left w new x items at left here = by at here
  where
    own : 0 < tally x (x ∷ items)
    own = let t = tally-here x items in omega arith

    still : IsList w Change.Still items → IsList new Change.Still items
    still list = list-same w new Change.Still items left.first
        (λ y some. left.next y (let m = tally-more y x items in omega arith))
        (λ y some. left.previous y (let m = tally-more y x items in omega arith)) list

    by : (a : InsertAt) → Inserts w x items a → Inserts new x items a
    by InsertAt.Head here = record { list = still here.list; noted = tt }
    by (InsertAt.Forward head) here = record { list = still here.list; noted = here.noted ∙ sym left.first }
    by (InsertAt.Backward head) here = record {
      list = still here.list;
      noted = (here.noted.0 ∙ sym left.first, left.next x own ∙ here.noted.1 ∙ sym left.first);
    }
    by (InsertAt.OldBackward old) here = record {
      list = still here.list;
      noted = (
        left.first ∙ here.noted.0,
        left.next x own ∙ here.noted.1 ∙ sym left.first,
        left.previous x own
            ∙ here.noted.2,
      );
    }
    by InsertAt.NewHead here = record {
      list = list-same w new (LinkedBack x) items left.first
          (λ y some. left.next y (let m = tally-more y x items in omega arith)) left.previous here.list;
      noted = left.next x own ∙ here.noted ∙ sym left.first;
    }

pub removes-left : (w new : TwoWay) (front : List ℕ) (x : ℕ) (back : List ℕ) (at : RemoveAt)
    → IsLeft w new (x ∷ (front ++ (x ∷ back))) → Removes w front x back at → Removes new front x back at
removes-left w new front x back at left here = by at here
  where
    own : 0 < tally x (x ∷ (front ++ (x ∷ back)))
    own = let t = tally-here x (front ++ (x ∷ back)) in omega arith

    still : IsList w Change.Still (front ++ (x ∷ back)) → IsList new Change.Still (front ++ (x ∷ back))
    still list = list-same w new Change.Still (front ++ (x ∷ back)) left.first
        (λ y some. left.next y (let m = tally-more y x (front ++ (x ∷ back)) in omega arith))
        (λ y some. left.previous y (let m = tally-more y x (front ++ (x ∷ back)) in omega arith)) list

    fewer : (y : ℕ) → tally y (x ∷ (front ++ back)) ≤ tally y (x ∷ (front ++ (x ∷ back)))
    fewer y = let a = tally-append y front (x ∷ back) in let b = tally-append y front back in omega arith

    by : (a : RemoveAt) → Removes w front x back a → Removes new front x back a
    by RemoveAt.Forward here = record { list = still here.list; noted = tt }
    by (RemoveAt.Backward forward) here = record { list = still here.list; noted = here.noted ∙ sym (left.next x own) }
    by (RemoveAt.Skip forward backward) here = record {
      list = still here.list;
      noted = (here.noted.0 ∙ sym (left.next x own), here.noted.1 ∙ sym (left.previous x own));
    }
    by (RemoveAt.SkipBack behind backward) here = record {
      list = list-same w new (CutForward x behind (link_at backward)) (front ++ back) left.first
          (λ y some. left.next y (let m = tally-more y x (front ++ back) in let f = fewer y in omega arith))
          (λ y some. left.previous y (let f = fewer y in omega arith)) here.list;
      noted = tt;
    }

-- what leaves a list's words leaves the list with its change
pub left_by : (head : Word) (items : List ℕ) (m new : Mem) → LeavesList head items m new
    → IsLeft (list_of head m) (list_of head new) items
left_by head items m new leaves = record { first = leaves.first; next = leaves.next; previous = leaves.previous }

-- a link of an item outside a list is stored, or another word
leaves_next : (k : Key) (head : Word) (items : List ℕ) (m : Mem) (x v : ℕ) → x < k.span → IsHead k head
    → tally x items ≡ 0
    → LeavesList head items m (stored k m (Word.Forward x) v)
leaves_next k head items m x v low is none = record {
  first = ap (λ (w : TwoWay). w.head) (next_stored k head m x v low is.no_forward);
  next = λ y some. ap (λ (w : TwoWay). w.next y) (next_stored k head m x v low is.no_forward)
      ∙ put_else (list_of head m).next x y (link_at v) (λ same. let e = ap (λ z. tally z items) same in omega arith);
  previous = λ y some. ap (λ (w : TwoWay). w.previous y) (next_stored k head m x v low is.no_forward);
}

leaves_previous : (k : Key) (head : Word) (items : List ℕ) (m : Mem) (x v : ℕ) → x < k.span → IsHead k head
    → tally x items ≡ 0 → LeavesList head items m (stored k m (Word.Backward x) v)
leaves_previous k head items m x v low is none = record {
  first = ap (λ (w : TwoWay). w.head) (previous_stored k head m x v low is.no_backward);
  next = λ y some. ap (λ (w : TwoWay). w.next y) (previous_stored k head m x v low is.no_backward);
  previous = λ y some. ap (λ (w : TwoWay). w.previous y) (previous_stored k head m x v low is.no_backward)
      ∙ put_else (list_of head m).previous x y (link_at v)
      (λ same. let e = ap (λ z. tally z items) same in omega arith);
}

pub leaves_word : (k : Key) (w head : Word) (items : List ℕ) (m : Mem) (v : ℕ) → IsHead k w → (IsOneWord w head → ⊥)
    → LeavesList head items m (stored k m w v)
leaves_word k w head items m v is other = record {
  first = ap (λ (n : Mem). (list_of head n).head) (stored-valid k m w v is.valid)
      ∙ ap link_at (write_else m (kind_of_word w) (kind_of_word head) (at_of w) v (at_of head)
      (λ e f. absurd (other (e, f))));
  next = λ y some. ap (λ (n : Mem). (list_of head n).next y) (stored-valid k m w v is.valid)
      ∙ ap link_at (write_else m (kind_of_word w) forwards (at_of w) v y (λ e f. absurd (is.no_forward e)));
  previous = λ y some. ap (λ (n : Mem). (list_of head n).previous y) (stored-valid k m w v is.valid)
      ∙ ap link_at (write_else m (kind_of_word w) backwards (at_of w) v y (λ e f. absurd (is.no_backward e)));
}

pub leaves_all : (head : Word) (items : List ℕ) (m : Mem) → LeavesList head items m m
leaves_all head items m = record { first = refl; next = λ y some. refl; previous = λ y some. refl }

pub other_lists_stand : OtherListsStand
other_lists_stand k c head others m is heads = record { inserts = inserting; removes = removing }
  where
    inserting : (items : List ℕ) (at : InsertAt) → CanChange k c items
        → ((x : ℕ) → 0 < tally x (c.item ∷ items) → tally x others ≡ 0) → Inserts (list_of c.head m) c.item items at
        → LeavesList head others m (after k m (insert_course c at))
    inserting items InsertAt.Head can apart here = leaves_all head others m
    inserting items (InsertAt.Forward first) can apart here =
        leaves_next k head others m c.item first can.item is
        (apart c.item (let t = tally-here c.item items in omega arith))
    inserting items (InsertAt.Backward first) can apart here =
        leaves_previous k head others m c.item 0 can.item is
        (apart c.item (let t = tally-here c.item items in omega arith))
    inserting items (InsertAt.OldBackward old) can apart here =
        let some = first_inside (list_of c.head m) items old here.noted.0 here.list in
        leaves_previous k head others m old (link_word (Some c.item)) (can.inside old some) is
        (apart old (let t = tally-more old c.item items in omega arith))
    inserting items InsertAt.NewHead can apart here =
        leaves_word k c.head head others m (link_word (Some c.item)) can.head heads

    removing : (front back : List ℕ) (at : RemoveAt) → CanChange k c (front ++ (c.item ∷ back))
        → ((x : ℕ) → 0 < tally x (front ++ (c.item ∷ back)) → tally x others ≡ 0)
        → Removes (list_of c.head m) front c.item back at → LeavesList head others m (after k m (remove_course c at))
    removing front back RemoveAt.Forward can apart here = leaves_all head others m
    removing front back (RemoveAt.Backward forward) can apart here = leaves_all head others m
    removing front back (RemoveAt.Skip forward backward) can apart here = by (link_of backward) refl
      where
        by : (before : Option ℕ) → link_of backward ≡ before
            → LeavesList head others m (after k m (skip_course c forward before))
        by (Some before) says =
            let some = before_inside
            (list_of c.head m) front c.item back backward before here.noted.1 says here.list in
            leaves_next k head others m before forward (can.inside before some) is (apart before some)
        by None says = leaves_word k c.head head others m forward can.head heads
    removing front back (RemoveAt.SkipBack behind backward) can apart here =
        let some = behind_inside (list_of c.head m).previous front c.item back behind
        (link_at backward) here.list.backward in
        leaves_previous k head others m behind backward (can.inside behind some) is (apart behind some)

-- an insertion between its steps, and a removal
pub insert_runs : (k : Key) (c : ListCall) (items : List ℕ) (start : Mem) → CanChange k c items
    → tally c.item items ≡ 0 → IsList (list_of c.head start) Change.Still items → (m : Mem) (next : InsertNext)
    → InsertRun k c items start m next → AfterInsert (list_of c.head m) c.item items next
insert_runs k c items start can none list m next insert_begins = record { list = list; noted = tt }
insert_runs k c items start can none list m next (insert_steps before at run) =
    insert_keeps_list k c before items at can none
    (insert_runs k c items start can none list before (InsertNext.Goes at) run)
insert_runs k c items start can none list m next (insert_waits before new on run leaves) =
    by on (insert_runs k c items start can none list before on run)
  where
    left : IsLeft (list_of c.head before) (list_of c.head m) (c.item ∷ items)
    left = left_by c.head (c.item ∷ items) before m leaves

    by : (n : InsertNext) → AfterInsert (list_of c.head before) c.item items n
        → AfterInsert (list_of c.head m) c.item items n
    by (InsertNext.Goes at) here = inserts-left (list_of c.head before) (list_of c.head m) c.item items at left here
    by InsertNext.Inserted here = list-same (list_of c.head before) (list_of c.head m) Change.Still (c.item ∷ items)
        left.first left.next left.previous here

pub remove_runs : (k : Key) (c : ListCall) (front back : List ℕ) (start : Mem)
    → CanChange k c (front ++ (c.item ∷ back))
    → IsList (list_of c.head start) Change.Still (front ++ (c.item ∷ back))
    → (m : Mem) (next : RemoveNext) → RemoveRun k c (front ++ (c.item ∷ back)) start m next
    → AfterRemove (list_of c.head m) front c.item back next
remove_runs k c front back start can list m next remove_begins = record { list = list; noted = tt }
remove_runs k c front back start can list m next (remove_steps before at run) =
    remove_keeps_list k c before front back at can
    (remove_runs k c front back start can list before (RemoveNext.Goes at) run)
remove_runs k c front back start can list m next (remove_waits before new on run leaves) =
    by on (remove_runs k c front back start can list before on run)
  where
    left : IsLeft (list_of c.head before) (list_of c.head m) (c.item ∷ (front ++ (c.item ∷ back)))
    left = left_by c.head (c.item ∷ (front ++ (c.item ∷ back))) before m leaves

    fewer : (y : ℕ) → 0 < tally y (front ++ back) → 0 < tally y (c.item ∷ (front ++ (c.item ∷ back)))
    fewer y some = let a = tally-append y front (c.item ∷ back) in let b = tally-append y front back in omega arith

    by : (n : RemoveNext) → AfterRemove (list_of c.head before) front c.item back n
        → AfterRemove (list_of c.head m) front c.item back n
    by (RemoveNext.Goes at) here = removes-left (list_of c.head before)
        (list_of c.head m) front c.item back at left here
    by RemoveNext.Out here = list-same (list_of c.head before) (list_of c.head m) Change.Still (front ++ back)
        left.first (λ y some. left.next y (fewer y some)) (λ y some. left.previous y (fewer y some)) here

pub between_locks_one_item : BetweenLocksOneItem
between_locks_one_item k c start = record {
  more = λ items m can none list run. insert_runs k c items start can none list m InsertNext.Inserted run;
  less = λ front back m can list run. remove_runs k c front back start can list m RemoveNext.Out run;
}
