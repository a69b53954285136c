-- A new pool's locks and lists, those that are named, and what the wrong definitions come to.
use Rattle.std.proofs.Common.{List, None, Some, [], ap, arith, refl, subst, sym, ℕ, ◌<◌, ◌∙◌, ◌∷◌, ◌≡◌, ◌≢◌}
use Rattle.std.proofs.lemmas.Bool.Decides.{nat_tests}
use Rattle.pool_words.specs.declared.words.Word.{Word}
use Rattle.pool_words.specs.Words.{bin_heads}
use Rattle.word_codes.specs.Links.{link_of}
use Rattle.word_codes.specs.Locks.{lock_word}
use Rattle.locked_chain.specs.declared.insert.InsertAt.{InsertAt}
use Rattle.locked_chain.specs.declared.remove.RemoveAt.{RemoveAt}
use Rattle.std.specs.declared.option.Option.{Option}
use Rattle.word_laws.proofs.CallerLemmas.{put_else, read_put, equal_or, less_or}
use Rattle.word_laws.specs.Memory.{Mem, put, stored}
use Rattle.chain_laws.specs.Chains.{tally}
use Rattle.chain_laws.specs.Chains.Link.{To}
use Rattle.lock_laws.specs.Locks.{locks_of, LocksFit}
use Rattle.lock_laws.specs.Lists.{nothing, IsList}
use Rattle.lock_laws.specs.Lists.Change.{Still}
use Rattle.lock_laws.specs.Steps.{link_at, list_of, Inserts, Removes, CanChange}
use Rattle.lock_laws.specs.Named.{bin_lock_words, bins, three_listed, five_cut, four_linked, listed_blocks}
use Rattle.lock_laws.specs.Named.{left_blocks, holders, one_task, one_list}
use Rattle.chain_laws.specs.Named.{ten_key}
use Rattle.chain_laws.proofs.CallerLemmas.{put-each, pairs-put}
use Rattle.lock_laws.specs.Seats.{AreLists, Task, lock_in, TaskFits, AreApart, ListsGood}
use Rattle.lock_laws.specs.Seats.Task.{Away, Has, Inserting, Removing}
use Rattle.lock_laws.proofs.Seats.{apart-sym}
use Rattle.lock_laws.specs.Laws.{FreshLocksAreFree, NamedListStands}
use Rattle.lock_laws.specs.Wrong.{ForgetfulRemovalsAreWrong, HastyInsertionsAreWrong, SeizedLocksAreWrong}
use Rattle.lock_laws.specs.Wrong.{KeptLocksAreWrong, OneWayLocksAreWrong}
use Rattle.lock_laws.proofs.Locks.{lock_word-taken, locks-taken}
use Rattle.lock_laws.proofs.ListsInWords.{link_at-end}

free_fit : LocksFit (λ b. 0) (λ seat. None)
free_fit = record {
  held = λ seat b has. absurd (cc);
  named = λ seat b says. absurd (lock_word-taken seat (sym says));
}

pub fresh_locks_are_free : FreshLocksAreFree
fresh_locks_are_free k s = record {
  locks = free_fit;
  free = λ b low none. record { forward = link_at-end; backward = tt };
  fit = λ seat. tt;
  inside = λ b x more. absurd (omega arith);
  once = λ b c differ x more. refl;
  apart = λ seat other differ. tt;
}

named_locks : LocksFit (locks_of bin_lock_words three_listed) holders
unfolding lock_word
named_locks = locks-taken (λ b. 0) (λ seat. None) 1 7 refl refl free_fit

named_list : IsList (list_of (Word.BinHead 7) three_listed) Still listed_blocks
unfolding link_of
named_list = record { forward = (refl, (refl, (refl, refl))); backward = (refl, (refl, (refl, tt))) }

named_coming : Inserts (list_of (Word.BinHead 7) four_linked) 4 listed_blocks InsertAt.NewHead
unfolding link_of
named_coming = record {
  list = record { forward = (refl, (refl, (refl, refl))); backward = (refl, (refl, (refl, (refl, tt)))) };
  noted = refl;
}

named_leaving : Removes (list_of (Word.BinHead 7) five_cut) (3 ∷ []) 5 (9 ∷ []) (RemoveAt.SkipBack 9 4)
unfolding link_of
named_leaving = record {
  list = record {
    forward = (refl, (refl, refl));
    backward = (3 ∷ [], [], refl, refl, (refl, (refl, (refl, tt))));
  };
  noted = tt;
}

bins_are : AreLists ten_key bins
bins_are = record {
  span = omega arith;
  valid = λ b low. omega arith;
  locks = λ b. record { no_forward = λ e. omega arith; no_backward = λ e. omega arith };
  heads = λ b low. record { valid = omega arith; no_forward = λ e. omega arith; no_backward = λ e. omega arith };
  locks_apart = λ a b same. same.1;
  heads_apart = λ a b same. same.1;
  apart = λ b c same. let e = same.0 in absurd (omega arith);
}

-- one seat at work at one bin: what is to be said of the seat and of the bin alone
one_good : (m : Mem) (task : Task) (blocks : List ℕ)
    → LocksFit (locks_of bin_lock_words m) (λ t. lock_in (one_task task t))
    → lock_in task ≡ Some 7 → ((bin : ℕ) → 7 ≢ bin → m bin_heads bin ≡ 0) → ((x : ℕ) → 0 < tally x blocks → x < 10)
    → ((t : ℕ) → AreApart task Away) → TaskFits ten_key bins m (one_list blocks) task
    → ListsGood ten_key bins m (one_task task) (one_list blocks)
one_good m task blocks locks has heads few apart fit = record {
  locks = locks;
  free = λ bin low none. equal_or 7 bin
      (λ e. absurd (none 1 (has ∙ ap Some e)))
      (λ e. subst (λ l. IsList (list_of (Word.BinHead bin) m) Still l) (sym (put_else (λ b. []) 7 bin blocks e))
      (record { forward = ap link_at (heads bin e) ∙ link_at-end; backward = tt }));
  fit = put-each (λ t x. TaskFits ten_key bins m (one_list blocks) x) (λ seat. Away) 1 task (λ t differ. tt) fit;
  inside = put-each (λ b l. (x : ℕ) → 0 < tally x l → x < 10) (λ bin. []) 7 blocks
      (λ b differ x more. absurd (omega arith)) few;
  once = pairs-put (λ l r. (x : ℕ) → 0 < tally x l → tally x r ≡ 0) turn (λ bin. []) 7 blocks (λ b differ x more. refl)
      (λ b c differ x more. refl);
  apart = pairs-put AreApart apart-sym (λ seat. Away) 1 task (λ other differ. apart other) (λ one other differ. tt);
}
  where
    turn : (l r : List ℕ) → ((x : ℕ) → 0 < tally x l → tally x r ≡ 0) → (x : ℕ) → 0 < tally x r → tally x l ≡ 0
    turn l r none x more = less_or 0 (tally x l) (λ some. let n = none x some in absurd (omega arith))
        (λ zero. omega arith)

one_lock : (task : Task) → lock_in task ≡ Some 7
    → LocksFit (locks_of bin_lock_words three_listed) (λ t. lock_in (one_task task t))
one_lock task has =
    subst (λ (f : ℕ → Option ℕ). LocksFit (locks_of bin_lock_words three_listed) f)
    (sym (λ n t. read_put lock_in (λ seat. Away) 1 task t n))
    (subst (λ o. LocksFit (locks_of bin_lock_words three_listed) (put (λ seat. None) 1 o)) (sym has) named_locks)

other_heads : (bin : ℕ) → 7 ≢ bin → three_listed bin_heads bin ≡ 0
other_heads bin differ = put_else (λ i. 0) 7 bin 4 differ

few_listed : (x : ℕ) → 0 < tally x listed_blocks → x < 10
few_listed x some = grind (arith, nat_tests)

few_left : (x : ℕ) → 0 < tally x left_blocks → x < 10
few_left x some = grind (arith, nat_tests)

pub named_list_stands : NamedListStands
named_list_stands = record {
  words = bins_are;
  rests = one_good three_listed (Has 7) listed_blocks (one_lock (Has 7) refl) refl other_heads few_listed (λ t. tt)
      (omega arith, named_list);
  comes = one_good four_linked (Inserting 7 4 InsertAt.NewHead) listed_blocks
      (one_lock (Inserting 7 4 InsertAt.NewHead) refl) refl other_heads few_listed (λ t. tt)
      (record {
        some = omega arith;
        inside = omega arith;
        list = named_coming;
        outside = put-each (λ b l. tally 4 l ≡ 0) (λ bin. []) 7 listed_blocks (λ b differ. refl) refl;
      });
  leaves = one_good five_cut (Removing 7 5 (RemoveAt.SkipBack 9 4)) left_blocks
      (one_lock (Removing 7 5 (RemoveAt.SkipBack 9 4)) refl) refl other_heads few_left (λ t. tt)
      (record {
        some = omega arith;
        inside = omega arith;
        front = 3 ∷ [];
        back = 9 ∷ [];
        items_are = refl;
        list = named_leaving;
        outside = λ c differ. ap (λ l. tally 5 l) (put_else (λ bin. []) 7 c left_blocks (λ e. differ (sym e)));
      });
}

five : CanChange ten_key (record { head = Word.BinHead 7; item = 5 }) listed_blocks
five = record {
  span = omega arith;
  head = record { valid = omega arith; no_forward = λ e. omega arith; no_backward = λ e. omega arith };
  item = omega arith;
  inside = λ x some. below x some;
}
  where
    below : (x : ℕ) → 0 < tally x listed_blocks → x < 10
    below x some = grind (arith, nat_tests)

four : CanChange ten_key (record { head = Word.BinHead 7; item = 4 }) listed_blocks
four = record {
  span = five.span;
  head = five.head;
  item = omega arith;
  inside = five.inside;
}

pub forgetful_removals_are_wrong : ForgetfulRemovalsAreWrong
unfolding link_of stored
forgetful_removals_are_wrong forgets =
    let list = forgets ten_key (record { head = Word.BinHead 7; item = 5 }) three_listed (3 ∷ []) (9 ∷ [])
    (RemoveAt.Skip 10 4)
    five (record { list = named_list; noted = (refl, refl) }) in
    let clash : To 5 ≡ To 3 = list.backward.1.0 in
    let numbers : ◌≡◌ {A = ℕ} 5 3 = cc in
    omega arith

pub hasty_insertions_are_wrong : HastyInsertionsAreWrong
unfolding link_of
hasty_insertions_are_wrong hastes =
    let here = hastes ten_key (record { head = Word.BinHead 7; item = 4 }) three_listed listed_blocks InsertAt.Head
    four refl (record { list = named_list; noted = tt }) in
    let clash : nothing ≡ To 3 = here.noted in cc

pub seized_locks_are_wrong : SeizedLocksAreWrong
unfolding lock_word stored
seized_locks_are_wrong seizes =
    let fit = seizes ten_key three_listed holders 2 7 refl named_locks in
    let clash : ◌≡◌ {A = ℕ} 3 2 = fit.held 1 7 refl in
    omega arith

pub kept_locks_are_wrong : KeptLocksAreWrong
unfolding stored
kept_locks_are_wrong keeps =
    let fit = keeps ten_key three_listed holders 1 7 refl named_locks in
    lock_word-taken 1 (sym (fit.held 1 7 refl))

pub one_way_locks_are_wrong : OneWayLocksAreWrong
one_way_locks_are_wrong one_way =
    let clash : ◌≡◌ {A = ℕ} 2 0 = one_way (λ b. 2) (λ seat. None) 7 (λ seat b has. absurd (cc))
    (λ seat has. absurd (cc)) in
    omega arith
