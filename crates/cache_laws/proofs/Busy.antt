-- Three seats at three bins.
use Rattle.std.proofs.Common.{◌≡◌, ◌≢◌, inl, inr, ℕ, ◌<◌, ◌≤◌, true, false, cond, eqb, Some, None}
use Rattle.std.proofs.Common.{[], ◌∷◌, refl, sym, ap, subst, arith, ◌∙◌}
use Rattle.std.proofs.lemmas.Bool.Decides.{nat_tests}
use Rattle.pool_words.specs.Words.{cache_heads, cache_items, cache_used, cache_means, cache_thresholds}
use Rattle.word_codes.specs.Locks.{lock_word}
use Rattle.word_laws.specs.Memory.{put, fresh}
use Rattle.word_laws.proofs.CallerLemmas.{equal_or, less_or, put-other, each}
use Rattle.chain_laws.specs.Chains.{tally}
use Rattle.chain_laws.specs.Named.{ten_key}
use Rattle.lock_laws.specs.Locks.{LocksFit}
use Rattle.lock_laws.proofs.CallerLemmas.{locks-taken}
use Rattle.cache_laws.specs.Bins.{Bin, blocks_of, Says}
use Rattle.cache_laws.specs.Good.{Task, holds, hand, CallFits, Holding, BinFits, locked_in}
use Rattle.cache_laws.specs.Named.{empty_bin, no_bins, two_bin, named_bins, two_words, named_words, taking, named_tasks}
use Rattle.cache_laws.specs.Named.{putting, staying, going, stale_bin, busy_bins, busy_words, sweeping, busy_tasks}
use Rattle.cache_laws.specs.Laws.{BusyBinsStand}
use Rattle.cache_laws.proofs.Locks.{locked-put}
use Rattle.cache_laws.proofs.Examples.{empty_fits, word_says, three, two_fits, nobody_fits}

abbrev nobody : ℕ → Task
nobody seat = Task.Away

-- what holds of each seat, and of each bin
each_task : (P : ℕ → Task → Type 0) → ((o : ℕ) → P o Task.Away) → P 1 taking → P 2 putting → P 3 sweeping
    → (o : ℕ) → P o (busy_tasks o)
each_task P away one two three' = each P (put named_tasks 2 putting) 3 sweeping
    (λ o _. each P named_tasks 2 putting (λ o _. each P nobody 1 taking (λ o _. away o) one o) two o) three'

each_bin : (P : ℕ → Bin → Type 0) → ((b : ℕ) → b ≢ 2 → b ≢ 6 → P b empty_bin) → P 2 two_bin → P 6 stale_bin
    → (b : ℕ) → P b (busy_bins b)
each_bin P none two six = each P named_bins 6 stale_bin
    (λ b far. each (λ b bin. b ≢ 6 → P b bin) no_bins 2 two_bin (λ b ne far. none b ne far) (λ _. two) b far) six

-- locks
one_says : lock_word 1 ≡ 2
unfolding lock_word
one_says = refl

two_says : lock_word 2 ≡ 3
unfolding lock_word
two_says = refl

three_says : lock_word 3 ≡ 4
unfolding lock_word
three_says = refl

one_lock : LocksFit (put (λ b. 0) 2 2) (locked_in named_tasks)
one_lock = subst (LocksFit (put (λ b. 0) 2 2)) (locked-put nobody 1 taking (Some 2) refl)
    (subst (λ v. LocksFit (put (λ b. 0) 2 v) (put (λ seat. None) 1 (Some 2))) one_says
    (locks-taken (λ b. 0) (λ seat. None) 1 2 refl refl nobody_fits))

two_locks : LocksFit (put (put (λ b. 0) 2 2) 3 3) (locked_in (put named_tasks 2 putting))
two_locks = subst (LocksFit (put (put (λ b. 0) 2 2) 3 3)) (locked-put named_tasks 2 putting (Some 3) refl)
    (subst (λ v. LocksFit (put (put (λ b. 0) 2 2) 3 v) (put (locked_in named_tasks) 2 (Some 3))) two_says
    (locks-taken (put (λ b. 0) 2 2) (locked_in named_tasks) 2 3 refl refl one_lock))

three_locks : LocksFit (put (put (put (λ b. 0) 2 2) 3 3) 6 4) (locked_in busy_tasks)
three_locks = subst (LocksFit (put (put (put (λ b. 0) 2 2) 3 3) 6 4))
    (locked-put (put named_tasks 2 putting) 3 sweeping (Some 6) refl)
    (subst (λ v. LocksFit (put (put (put (λ b. 0) 2 2) 3 3) 6 v)
    (put (locked_in (put named_tasks 2 putting)) 3 (Some 6))) three_says
    (locks-taken (put (put (λ b. 0) 2 2) 3 3) (locked_in (put named_tasks 2 putting)) 3 6 refl refl two_locks))

-- words
empty_says : (b : ℕ) → b ≢ 2 → b ≢ 6 → Says busy_words b empty_bin
empty_says b two six = record {
  head = put-other (named_words cache_heads) 6 9 b six ∙ put-other (two_words cache_heads) 2 4 b two
      ∙ put-other (fresh cache_heads) 2 6 b two;
  count' = put-other (named_words cache_items) 6 2 b six ∙ put-other (fresh cache_items) 2 2 b two;
  used' = put-other (named_words cache_used) 6 1 b six ∙ put-other (fresh cache_used) 2 7 b two;
  mean' = put-other (named_words cache_means) 6 20 b six ∙ put-other (fresh cache_means) 2 4 b two;
  threshold' = put-other (fresh cache_thresholds) 6 10 b six;
  get' = refl;
  cleaned' = refl;
  listed = tt;
}

takes : Holding busy_bins busy_words taking
takes = record {
  says = record {
    head = three;
    count' = refl;
    used' = refl;
    mean' = refl;
    threshold' = refl;
    get' = refl;
    cleaned' = refl;
    listed = (refl, refl, tt);
  };
  noted = λ i. record { items = 2; block = 5; link = three i; age = 19; mean = 4 };
  in_hand = tt;
  own = λ x some. inl (let h : 0 < tally x (3 ∷ []) = some in omega arith);
}

puts : Holding busy_bins busy_words putting
puts = record {
  says = record {
    head = refl;
    count' = refl;
    used' = refl;
    mean' = refl;
    threshold' = refl;
    get' = refl;
    cleaned' = refl;
    listed = tt;
  };
  noted = (refl, refl);
  in_hand = (refl, refl);
  own = λ x some. inl some;
}

sweeps : Holding busy_bins busy_words sweeping
sweeps = record {
  says = record {
    head = sym (word_says 8 9 refl (omega arith));
    count' = refl;
    used' = refl;
    mean' = refl;
    threshold' = refl;
    get' = refl;
    cleaned' = refl;
    listed = (sym (word_says 7 8 refl (omega arith)), refl, (refl, refl, tt));
  };
  noted = record {
    fits = record {
      some = tt;
      counted = refl;
      judges = λ age. refl;
      front = staying ∷ [];
      stale' = going ∷ [];
      is = refl;
      kept' = refl;
      many = refl;
      newest' = refl;
      gone' = refl;
      all = (refl, tt);
      ends = inr (record { front = []; last = staying; is = refl; stays = refl });
    };
    stale = tt;
  };
  in_hand = tt;
  own = λ x some. inl some;
}

stale_fits : BinFits ten_key stale_bin
stale_fits = record {
  counted = refl;
  few = omega arith;
  inside = λ x some. inside x some;
  once = λ x. once x;
}
  where
    inside : (x : ℕ) → 0 < tally x (8 ∷ 7 ∷ []) → x < 10
    inside x some = grind (arith, nat_tests)

    once : (x : ℕ) → tally x (8 ∷ 7 ∷ []) ≤ 1
    once x = equal_or x 8 (λ e. grind (arith, nat_tests)) (λ ne. grind (arith, nat_tests))

-- the one bin in which a block may be
abbrev home : ℕ → ℕ
home x = cond (eqb x 5) 2 (cond (eqb x 3) 2 6)

two_home : (x : ℕ) → 0 < tally x (5 ∷ 3 ∷ []) → home x ≡ 2
two_home x some = grind (arith, nat_tests)

stale_home : (x : ℕ) → 0 < tally x (8 ∷ 7 ∷ []) → home x ≡ 6
stale_home x some = equal_or x 8 (λ e. ap home e) (λ ne. equal_or x 7 (λ e. ap home e)
    (λ far. absurd (grind (arith, nat_tests))))

at_home : (b x : ℕ) → 0 < tally x (blocks_of (busy_bins b).items) → home x ≡ b
at_home b x = each_bin (λ b (bin : Bin). 0 < tally x (blocks_of bin.items) → home x ≡ b)
    (λ b _ _ some. absurd (omega arith)) (two_home x) (stale_home x) b

in_hand : (o x : ℕ) → hand (busy_tasks o) ≡ Some x → (o ≡ 2) × (x ≡ 4)
in_hand o x = each_task (λ o q. hand q ≡ Some x → (o ≡ 2) × (x ≡ 4)) (λ o z. absurd (let q : None ≡ Some x = z in cc))
    (λ z. absurd (let q : None ≡ Some x = z in cc)) (λ z. (refl, (let q : 4 ≡ x = cc in sym q)))
    (λ z. absurd (let q : None ≡ Some x = z in cc)) o

pub busy_bins_stand : BusyBinsStand
busy_bins_stand = record {
  span = omega arith;
  locks = three_locks;
  rest = λ b free. each_bin
      (λ b bin. ((seat : ℕ) → locked_in busy_tasks seat ≢ Some b) → Says busy_words b bin)
      (λ b two six _. empty_says b two six) (λ free. absurd (free 1 refl)) (λ free. absurd (free 3 refl)) b free;
  held = each_task (λ o q. holds q ≡ true → Holding busy_bins busy_words q)
      (λ o z. absurd (let q : false ≡ true = z in cc)) (λ _. takes) (λ _. puts) (λ _. sweeps);
  calls = each_task (λ o q. CallFits ten_key q) (λ o. tt) (omega arith) (omega arith, omega arith)
      (omega arith, λ z. absurd (let q : true ≡ false = z in cc));
  bins = each_bin (λ b bin. BinFits ten_key bin) (λ b _ _. empty_fits ten_key) two_fits stale_fits;
  once = λ b c ne x some. less_or 0 (tally x (blocks_of (busy_bins c).items))
      (λ also. absurd (ne (sym (at_home b x some) ∙ at_home c x also))) (λ le. omega arith);
  hands = λ o x b z. subst (λ y. tally y (blocks_of (busy_bins b).items) ≡ 0) (sym (in_hand o x z).1)
      (each_bin (λ b (bin : Bin). tally 4 (blocks_of bin.items) ≡ 0) (λ b _ _. refl) refl refl b);
  apart = λ o p x ne z w. ne ((in_hand o x z).0 ∙ sym (in_hand p x w).0);
}
