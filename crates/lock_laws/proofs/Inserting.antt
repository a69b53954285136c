-- An insertion keeps the list, store by store: of functions.
use Rattle.std.proofs.Common.{◌≡◌, ℕ, Some, None, List, [], ◌∷◌, refl, sym, ap, arith, ◌∙◌}
use Rattle.std.specs.declared.option.Option.{Option}
use Rattle.word_codes.specs.Links.{link_of}
use Rattle.locked_chain.specs.declared.insert.InsertAt.{InsertAt}
use Rattle.locked_chain.specs.Insert.{insert_learn, before_old}
use Rattle.word_laws.specs.Memory.{put}
use Rattle.word_laws.proofs.CallerLemmas.{put_here, put_else}
use Rattle.chain_laws.specs.Chains.{tally}
use Rattle.chain_laws.specs.Chains.Link.{To}
use Rattle.chain_laws.proofs.CallerLemmas.{tally-here, tally-first, other_links_leave_chain, chain-pushed}
use Rattle.chain_laws.proofs.CallerLemmas.{chains_have_no_repeats}
use Rattle.lock_laws.specs.Lists.{TwoWay, nothing, IsList}
use Rattle.lock_laws.specs.Lists.Change.{Still}
use Rattle.lock_laws.specs.Steps.{link_to, link_at, insert_list, Inserts, AfterInsert}
use Rattle.lock_laws.proofs.Back.{back-apart}

-- what the first look finds is where the head leads
abbrev pub Finds : TwoWay → ℕ → InsertAt → Type 0
Finds w found InsertAt.Head = link_at found ≡ w.head
Finds w found (InsertAt.Forward head) = Unit {0}
Finds w found (InsertAt.Backward head) = Unit {0}
Finds w found (InsertAt.OldBackward old) = Unit {0}
Finds w found InsertAt.NewHead = Unit {0}

pub inserts : (w : TwoWay) (x : ℕ) (items : List ℕ) (at : InsertAt) (found : ℕ) → tally x items ≡ 0
    → Finds w found at → Inserts w x items at → AfterInsert (insert_list x at w) x items (insert_learn at found)
inserts w x items InsertAt.Head found none finds here = record { list = here.list; noted = finds }
inserts w x items (InsertAt.Forward head) found none finds here = record {
  list = record {
    forward = other_links_leave_chain w.next w.head items 0 x (link_at head) none here.list.forward;
    backward = here.list.backward;
  };
  noted = (here.noted, put_here w.next x x (link_at head) refl ∙ here.noted);
}
inserts w x items (InsertAt.Backward head) found none finds here = by (link_of head) refl items none here.list
  where
    linked : put w.previous x nothing x ≡ nothing
    linked = put_here w.previous x x nothing refl

    by : (old : Option ℕ) → link_of head ≡ old → (xs : List ℕ) → tally x xs ≡ 0 → IsList w Still xs
        → AfterInsert (record w { previous = put w.previous x nothing }) x xs (before_old old)
    by (Some old) is xs none list = record {
      list = record {
        forward = list.forward;
        backward = back-apart w.previous nothing xs x nothing none list.backward;
      };
      noted = (sym here.noted.0 ∙ ap link_to is, here.noted.1, linked);
    }
    by None is [] none list = record {
      list = record { forward = list.forward; backward = (linked, tt) };
      noted = here.noted.1;
    }
    by None is (y ∷ ys) none list =
        let q : nothing ≡ To y = sym (ap link_to is) ∙ here.noted.0 ∙ list.forward.0 in absurd (cc)
inserts w x items (InsertAt.OldBackward old) found none finds here = by items none here.list
  where
    by : (xs : List ℕ) → tally x xs ≡ 0 → IsList w Still xs
        → Inserts (record w { previous = put w.previous old (To x) }) x xs InsertAt.NewHead
    by [] none list = let q : To old ≡ nothing = sym here.noted.0 ∙ list.forward in absurd (cc)
    by (y ∷ ys) none list =
        let q : To old ≡ To y = sym here.noted.0 ∙ list.forward.0 in
        let same : old ≡ y = cc in
        let alone : tally old ys
        ≡ 0 = (let o = chains_have_no_repeats w.next w.head
        (y ∷ ys) 0 list.forward old in let t = tally-here old ys in
        let u = ap (λ z. tally old (z ∷ ys)) same in omega arith) in
        record {
          list = record {
            forward = list.forward;
            backward = (
              put_else w.previous old x (To x) (λ e. tally-first x y ys none (sym e ∙ same)) ∙ here.noted.2,
              (
                put_here w.previous old y (To x) same,
                back-apart w.previous (To y) ys old
                    (To x) alone list.backward.1,
              ),
            );
          };
          noted = here.noted.1;
        }
inserts w x items InsertAt.NewHead found none finds here = record {
  forward = chain-pushed w.next w.head items 0 x here.noted here.list.forward;
  backward = here.list.backward;
}
