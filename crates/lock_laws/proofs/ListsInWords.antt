-- What a store of a list's word makes of the list, and the actions of a change.
use Rattle.std.proofs.Common.{◌≡◌, ◌≢◌, inl, inr, ℕ, ◌+◌, ◌^◌, ◌<◌, Some, None, List, [], ◌∷◌, ◌++◌, refl, sym, ap}
use Rattle.std.proofs.Common.{subst, arith, ◌∙◌}
use Rattle.std.specs.declared.option.Option.{Option}
use Rattle.pool_words.specs.declared.words.Key.{Key}
use Rattle.pool_words.specs.declared.words.Word.{Word}
use Rattle.pool_words.specs.Words.{kind_of_word, number, at_of, forwards, backwards}
use Rattle.word_codes.specs.Links.{link_of, link_word}
use Rattle.word_codes.proofs.CallerLemmas.{links_read_back}
use Rattle.locked_chain.specs.declared.insert.InsertAt.{InsertAt}
use Rattle.locked_chain.specs.declared.remove.RemoveAt.{RemoveAt}
use Rattle.locked_chain.specs.declared.remove.RemoveNext.{RemoveNext}
use Rattle.locked_chain.specs.Insert.{insert_learn}
use Rattle.locked_chain.specs.Remove.{skip_course, skip_back}
use Rattle.word_laws.specs.Memory.{Mem, Valid, put, write, stored, word_at, after}
use Rattle.word_laws.proofs.CallerLemmas.{read_put, write_here, write_else, stored-valid}
use Rattle.chain_laws.specs.Chains.{Link, tally}
use Rattle.chain_laws.specs.Chains.Link.{To}
use Rattle.chain_laws.proofs.CallerLemmas.{tally-here, tally-append}
use Rattle.lock_laws.specs.Lists.{TwoWay, nothing, last_of, BackFits, IsList}
use Rattle.lock_laws.specs.Lists.Change.{Still, CutForward}
use Rattle.lock_laws.specs.Steps.{link_to, link_at, list_of, skip_list, AfterInsert, AfterRemove}
use Rattle.lock_laws.specs.Laws.{InsertKeepsList, RemoveKeepsList}
use Rattle.lock_laws.proofs.Back.{back-at, last_split}
use Rattle.lock_laws.proofs.Inserting.{inserts}
use Rattle.lock_laws.proofs.Removing.{removes}

pub link_at-item : (x : ℕ) → x + 1 < 2 ^ 64 → link_at (link_word (Some x)) ≡ To x
link_at-item x fits = ap link_to (links_read_back (Some x) fits)

pub link_at-end : link_at 0 ≡ nothing
unfolding link_of
link_at-end = refl

list_path : (one other : TwoWay) → one.head ≡ other.head → one.next ≡ other.next → one.previous ≡ other.previous
    → one ≡ other
list_path one other p q r = λ i. record { head = p i; next = q i; previous = r i }

pub next_stored : (k : Key) (head : Word) (m : Mem) (x v : ℕ) → x < k.span
    → number (kind_of_word head) ≢ number forwards
    → list_of head (stored k m (Word.Forward x) v)
    ≡ record (list_of head m) { next = put (list_of head m).next x (link_at v) }
next_stored k head m x v low differ =
    ap (λ (w : Mem). list_of head w) (stored-valid k m (Word.Forward x) v low)
    ∙ list_path (list_of head (write m forwards x v))
    (record (list_of head m) { next = put (list_of head m).next x (link_at v) })
    (ap link_at (write_else m forwards (kind_of_word head) x v (at_of head) (λ e f. absurd (differ (sym e)))))
    (λ n y. read_put link_at (m forwards) x v y n)
    refl

pub previous_stored : (k : Key) (head : Word) (m : Mem) (x v : ℕ) → x < k.span
    → number (kind_of_word head) ≢ number backwards
    → list_of head (stored k m (Word.Backward x) v)
    ≡ record (list_of head m) { previous = put (list_of head m).previous x (link_at v) }
previous_stored k head m x v low differ =
    ap (λ (w : Mem). list_of head w) (stored-valid k m (Word.Backward x) v low)
    ∙ list_path (list_of head (write m backwards x v))
    (record (list_of head m) { previous = put (list_of head m).previous x (link_at v) })
    (ap link_at (write_else m backwards (kind_of_word head) x v (at_of head) (λ e f. absurd (differ (sym e)))))
    refl
    (λ n y. read_put link_at (m backwards) x v y n)

pub first_stored : (k : Key) (head : Word) (m : Mem) (v : ℕ) → Valid k head
    → number (kind_of_word head) ≢ number forwards
    → number (kind_of_word head) ≢ number backwards
    → list_of head (stored k m head v) ≡ record (list_of head m) { head = link_at v }
first_stored k head m v valid differ other =
    ap (λ (w : Mem). list_of head w) (stored-valid k m head v valid)
    ∙ list_path (list_of head (write m (kind_of_word head) (at_of head) v))
    (record (list_of head m) { head = link_at v })
    (ap link_at (write_here m (kind_of_word head) (kind_of_word head) (at_of head) v (at_of head) refl refl))
    (λ n y. ap link_at (write_else m (kind_of_word head) forwards (at_of head) v y (λ e f. absurd (differ e))) n)
    (λ n y. ap link_at (write_else m (kind_of_word head) backwards (at_of head) v y (λ e f. absurd (other e))) n)

-- the first item of a list that has one
pub first_inside : (w : TwoWay) (items : List ℕ) (old : ℕ) → w.head ≡ To old → IsList w Still items
    → 0 < tally old items
first_inside w [] old first list = let q : To old ≡ nothing = sym first ∙ list.forward in absurd (cc)
first_inside w (y ∷ ys) old first list =
    let q : To old ≡ To y = sym first ∙ list.forward.0 in
    let same : old ≡ y = cc in
    let t = tally-here old ys in let u = ap (λ z. tally old (z ∷ ys)) same in omega arith

-- the last item of a list that has one
pub last_inside : (front : List ℕ) (y : ℕ) → last_of nothing front ≡ To y → 0 < tally y front
last_inside front y last = elim (last_split front) [
  | inl none ↦ let q : nothing ≡ To y = sym (ap (λ xs. last_of nothing xs) none) ∙ last in absurd (cc)
  | inr (init, z, ends, ends_at) ↦ let q : To z ≡ To y = sym (ends_at nothing) ∙ last in
      let same : y ≡ z = cc in
      let a = tally-append y init (z ∷ []) in
      let t = tally-here y [] in
      let u = ap (λ v. tally y (v ∷ [])) same in
      let e = ap (λ xs. tally y xs) ends in
      omega arith
]

pub insert_keeps_list : InsertKeepsList
insert_keeps_list k c m items InsertAt.Head can none here =
    inserts (list_of c.head m) c.item items InsertAt.Head (word_at m c.head) none refl here
insert_keeps_list k c m items (InsertAt.Forward head) can none here =
    subst (λ (w : TwoWay). AfterInsert w c.item items (insert_learn (InsertAt.Forward head) 0))
    (sym (next_stored k c.head m c.item head can.item can.head.no_forward))
    (inserts (list_of c.head m) c.item items (InsertAt.Forward head) 0 none tt here)
insert_keeps_list k c m items (InsertAt.Backward head) can none here =
    subst (λ (w : TwoWay). AfterInsert w c.item items (insert_learn (InsertAt.Backward head) 0))
    (sym (previous_stored k c.head m c.item 0 can.item can.head.no_backward
    ∙ ap (λ (l : Link). record (list_of c.head m)
    { previous = put (list_of c.head m).previous c.item l }) link_at-end))
    (inserts (list_of c.head m) c.item items (InsertAt.Backward head) 0 none tt here)
insert_keeps_list k c m items (InsertAt.OldBackward old) can none here =
    subst (λ (w : TwoWay). AfterInsert w c.item items (insert_learn (InsertAt.OldBackward old) 0))
    (sym (previous_stored k c.head m old (link_word (Some c.item)) low can.head.no_backward
    ∙ ap (λ (l : Link). record (list_of c.head m) { previous = put (list_of c.head m).previous old l })
    (link_at-item c.item (let a = can.item in let b = can.span in omega arith))))
    (inserts (list_of c.head m) c.item items (InsertAt.OldBackward old) 0 none tt here)
  where
    low : old < k.span
    low = can.inside old (first_inside (list_of c.head m) items old here.noted.0 here.list)
insert_keeps_list k c m items InsertAt.NewHead can none here =
    subst (λ (w : TwoWay). AfterInsert w c.item items (insert_learn InsertAt.NewHead 0))
    (sym (first_stored k c.head m (link_word (Some c.item)) can.head.valid can.head.no_forward can.head.no_backward
    ∙ ap (λ (l : Link). record (list_of c.head m) { head = l })
    (link_at-item c.item (let a = can.item in let b = can.span in omega arith))))
    (inserts (list_of c.head m) c.item items InsertAt.NewHead 0 none tt here)

-- what is before an item in its list, and what is behind one that is cut
pub before_inside : (w : TwoWay) (front : List ℕ) (x : ℕ) (back : List ℕ) (backward before : ℕ)
    → link_at backward ≡ w.previous x → link_of backward ≡ Some before → IsList w Still (front ++ (x ∷ back))
    → 0 < tally before (front ++ (x ∷ back))
before_inside w front x back backward before noted is list =
    let some = last_inside front before
    (sym (back-at w.previous nothing front x back list.backward) ∙ sym noted ∙ ap link_to is) in
    let a = tally-append before front (x ∷ back) in omega arith

pub behind_inside : (previous : ℕ → Link) (front : List ℕ) (x : ℕ) (back : List ℕ) (behind : ℕ) (before : Link)
    → BackFits previous (CutForward x behind before) (front ++ back) → 0 < tally behind (front ++ (x ∷ back))
behind_inside previous front x back behind before (init, rest, is, last, leads) =
    let e = ap (λ xs. tally behind xs) is in
    let a = tally-append behind front back in
    let b = tally-append behind front (x ∷ back) in
    let d = tally-append behind init (behind ∷ rest) in
    let t = tally-here behind rest in omega arith

pub remove_keeps_list : RemoveKeepsList
remove_keeps_list k c m front back RemoveAt.Forward can here =
    removes (list_of c.head m) front c.item back RemoveAt.Forward (m forwards c.item) refl here
remove_keeps_list k c m front back (RemoveAt.Backward forward) can here =
    removes (list_of c.head m) front c.item back (RemoveAt.Backward forward) (m backwards c.item) refl here
remove_keeps_list k c m front back (RemoveAt.Skip forward backward) can here = by (link_of backward) refl
  where
    by : (before : Option ℕ) → link_of backward ≡ before
        → AfterRemove (list_of c.head (after k m (skip_course c forward before))) front c.item back
        (skip_back backward (link_of forward))
    by (Some before) is =
        subst (λ (w : TwoWay). AfterRemove w front c.item back (skip_back backward (link_of forward)))
        (ap (λ o. skip_list o (link_at forward) (list_of c.head m)) is
        ∙ sym (next_stored k c.head m before forward
        (can.inside before (before_inside
        (list_of c.head m) front c.item back backward before here.noted.1 is here.list))
        can.head.no_forward))
        (removes (list_of c.head m) front c.item back (RemoveAt.Skip forward backward) 0 tt here)
    by None is =
        subst (λ (w : TwoWay). AfterRemove w front c.item back (skip_back backward (link_of forward)))
        (ap (λ o. skip_list o (link_at forward) (list_of c.head m)) is
        ∙ sym (first_stored k c.head m forward can.head.valid can.head.no_forward can.head.no_backward))
        (removes (list_of c.head m) front c.item back (RemoveAt.Skip forward backward) 0 tt here)
remove_keeps_list k c m front back (RemoveAt.SkipBack behind backward) can here =
    subst (λ (w : TwoWay). AfterRemove w front c.item back RemoveNext.Out)
    (sym (previous_stored k c.head m behind backward
    (can.inside behind (behind_inside (list_of c.head m).previous front c.item back behind
    (link_at backward) here.list.backward))
    can.head.no_backward))
    (removes (list_of c.head m) front c.item back (RemoveAt.SkipBack behind backward) 0 tt here)
