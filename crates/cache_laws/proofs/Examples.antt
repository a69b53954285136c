-- A new pool's bins, the bin that is named, and what the wrong definitions come to.
use Rattle.std.proofs.Common.{◌≡◌, ◌≢◌, inl, ℕ, ◌+◌, ◌^◌, ◌<◌, ◌≤◌, true, false, Option, Some, None}
use Rattle.std.proofs.Common.{[], ◌∷◌, refl, sym, ap, subst, arith, ◌∙◌}
use Rattle.std.proofs.lemmas.Bool.Decides.{nat_tests}
use Rattle.cache_ages.specs.declared.CacheNumbers.{CacheNumbers}
use Rattle.pool_words.specs.declared.words.Key.{Key}
use Rattle.pool_words.specs.declared.words.Word.{Word}
use Rattle.pool_words.specs.Words.{cache_heads, cache_items, cache_used, cache_means, cache_links, cache_ages}
use Rattle.word_codes.specs.Links.{link_word}
use Rattle.word_codes.specs.Locks.{lock_word}
use Rattle.word_laws.specs.Memory.{put, stored, fresh}
use Rattle.word_laws.proofs.CallerLemmas.{equal_or, put-other, each}
use Rattle.chain_laws.specs.Chains.{tally}
use Rattle.chain_laws.specs.Named.{ten_key}
use Rattle.list_laws.proofs.Sums.{sum_below-none}
use Rattle.lock_laws.specs.Locks.{locks_of, LocksFit}
use Rattle.lock_laws.proofs.CallerLemmas.{lock_word-taken, locks-taken}
use Rattle.cache_laws.specs.Bins.{Bin, blocks_of, Lists, Says}
use Rattle.cache_laws.specs.Good.{Task, holds, hand, CallFits, Holding, BinFits, lock_words, CacheGood}
use Rattle.cache_laws.specs.Named.{empty_bin, no_bins, newer, older, two_bin, named_bins, two_words, named_words}
use Rattle.cache_laws.specs.Named.{taking}
use Rattle.cache_laws.specs.Named.{named_tasks}
use Rattle.cache_laws.specs.Laws.{FreshUsesAreNone, FreshBinsAreEmpty, NamedBinStands}
use Rattle.cache_laws.specs.Wrong.{ForgetfulGetsAreWrong, IdleCleanupsAreWrong, GreedyCleanupsAreWrong}
use Rattle.cache_laws.specs.Wrong.{LocklessStoresAreWrong}
use Rattle.std.specs.Prelude.{slice_index}
use Rattle.cache_laws.proofs.Words.{to_stored}
use Rattle.cache_laws.proofs.Locks.{locked-put}

-- a new pool
pub nobody_fits : LocksFit (λ b. 0) (λ seat. None)
nobody_fits = record {
  held = λ seat b z. absurd (cc);
  named = λ seat b z. absurd (lock_word-taken seat (sym z));
}

pub empty_fits : (k : Key) → BinFits k empty_bin
empty_fits k = record {
  counted = refl;
  few = omega arith;
  inside = λ x some. absurd (omega arith);
  once = λ x. omega arith;
}

pub fresh_bins_are_empty : FreshBinsAreEmpty
fresh_bins_are_empty k span = record {
  span = span;
  locks = nobody_fits;
  rest = λ b nobody. record {
    head = refl;
    count' = refl;
    used' = refl;
    mean' = refl;
    threshold' = refl;
    get' = refl;
    cleaned' = refl;
    listed = tt;
  };
  held = λ seat z. absurd (let q : false ≡ true = z in cc);
  calls = λ seat. tt;
  bins = λ b. empty_fits k;
  once = λ b c ne x some. absurd (omega arith);
  hands = λ seat x b z. refl;
  apart = λ seat other x ne z w. let q : None ≡ Some x = z in absurd (cc);
}

pub fresh_uses_are_none : FreshUsesAreNone
fresh_uses_are_none k span seats = record {
  cache = fresh_bins_are_empty k span;
  uses = record {
    seats = seats;
    counted = λ b. let x = sum_below-none (λ x. 0) k.span (λ x low. refl) in
        let s = sum_below-none (λ t. 0) k.seats (λ t low. refl) in omega (arith, x, s);
    fits = λ seat. tt;
    unused = λ b x some. refl;
  };
}

-- the bin that is named
pub word_says : (x n : ℕ) → x + 1 ≡ n → n < 2 ^ 32 → link_word (Some x) ≡ n
unfolding link_word
word_says x n is low = omega arith

pub three : ◌≡◌ {A = ℕ} 4 (link_word (Some 3))
three = sym (word_says 3 4 refl (omega arith))

seat_says : lock_word 1 ≡ 2
unfolding lock_word
seat_says = refl

two_listed : Lists (named_words cache_links) (named_words cache_ages) (newer ∷ older ∷ [])
two_listed = (three, refl, (refl, refl, tt))

named_says : (b : ℕ) → b ≢ 2 → Says named_words b empty_bin
named_says b ne = record {
  head = put-other (two_words cache_heads) 2 4 b ne ∙ put-other (fresh cache_heads) 2 6 b ne;
  count' = put-other (fresh cache_items) 2 2 b ne;
  used' = put-other (fresh cache_used) 2 7 b ne;
  mean' = put-other (fresh cache_means) 2 4 b ne;
  threshold' = refl;
  get' = refl;
  cleaned' = refl;
  listed = tt;
}

pub two_fits : BinFits ten_key two_bin
two_fits = record {
  counted = refl;
  few = omega arith;
  inside = λ x some. inside_two x some;
  once = λ x. once_two x;
}
  where
    inside_two : (x : ℕ) → 0 < tally x (5 ∷ 3 ∷ []) → x < 10
    inside_two x some = grind (arith, nat_tests)

    once_two : (x : ℕ) → tally x (5 ∷ 3 ∷ []) ≤ 1
    once_two x = equal_or x 5 (λ e. grind (arith, nat_tests)) (λ ne. grind (arith, nat_tests))

pub named_bin_stands : NamedBinStands
named_bin_stands = record {
  span = omega arith;
  locks = subst (λ (f : ℕ → Option ℕ). LocksFit (locks_of lock_words named_words) f)
      (locked-put (λ seat. Task.Away) 1 taking (Some 2) refl)
      (subst (λ v. LocksFit (put (λ b. 0) 2 v) (put (λ seat. None) 1 (Some 2))) seat_says
      (locks-taken (λ b. 0) (λ seat. None) 1 2 refl refl nobody_fits));
  rest = λ b nobody. equal_or b 2
      (λ e. absurd (nobody 1 (ap Some (sym e))))
      (λ ne. subst (Says named_words b) (sym (put-other no_bins 2 two_bin b ne)) (named_says b ne));
  held = each (λ o q. holds q ≡ true → Holding named_bins named_words q) (λ seat. Task.Away) 1 taking
      (λ o _ z. absurd (let q : false ≡ true = z in cc))
      (λ _. record {
        says = record {
          head = three;
          count' = refl;
          used' = refl;
          mean' = refl;
          threshold' = refl;
          get' = refl;
          cleaned' = refl;
          listed = two_listed.2;
        };
        noted = λ i. record { items = 2; block = 5; link = three i; age = 19; mean = 4 };
        in_hand = tt;
        own = λ x some. inl (let h : 0 < tally x (3 ∷ []) = some in omega arith);
      });
  calls = each (λ o q. CallFits ten_key q) (λ seat. Task.Away) 1 taking (λ o _. tt) (omega arith);
  bins = each (λ b bin. BinFits ten_key bin) no_bins 2 two_bin (λ b _. empty_fits ten_key) two_fits;
  once = λ b c ne x. each (λ b (bin : Bin). b ≢ c → 0 < tally x (blocks_of bin.items)
      → tally x (blocks_of (named_bins c).items) ≡ 0) no_bins 2 two_bin (λ b _ ne some. absurd (omega arith))
      (λ ne some. ap (λ (bin : Bin). tally x (blocks_of bin.items))
      (put-other no_bins 2 two_bin c (λ e. ne (sym e)))) b ne;
  hands = λ o x b. each (λ o q. hand q ≡ Some x → tally x (blocks_of (named_bins b).items) ≡ 0) (λ seat. Task.Away) 1
      taking (λ o _ z. absurd (let q : None ≡ Some x = z in cc)) (λ z. absurd (let q : None ≡ Some x = z in cc)) o;
  apart = λ o p x ne. each (λ o q. hand q ≡ Some x → hand (named_tasks p) ≢ Some x) (λ seat. Task.Away) 1 taking
      (λ o _ z. absurd (let q : None ≡ Some x = z in cc)) (λ z. absurd (let q : None ≡ Some x = z in cc)) o;
}

-- the wrong definitions
pub forgetful_gets_are_wrong : ForgetfulGetsAreWrong
forgetful_gets_are_wrong wrong =
    let same : ◌≡◌ {A = ℕ} 0 1 = ap (λ (n : CacheNumbers). n.used) (wrong empty_bin 1 (omega arith)) in
    absurd (omega arith)

pub idle_cleanups_are_wrong : IdleCleanupsAreWrong
idle_cleanups_are_wrong wrong =
    let same : ◌≡◌ {A = ℕ} 0 19 = ap (λ (n : CacheNumbers). n.cleaned) (wrong two_bin 20) in absurd (omega arith)

pub greedy_cleanups_are_wrong : GreedyCleanupsAreWrong
greedy_cleanups_are_wrong wrong =
    let same : ◌≡◌ {A = ℕ} 14 19 = ap (λ (n : CacheNumbers). slice_index n.ages.items 0) (wrong two_bin 20) in
    absurd (omega arith)

-- the bin 2 of the named pool names block 3 first
pub lockless_stores_are_wrong : LocklessStoresAreWrong
lockless_stores_are_wrong wrong =
    let after : CacheGood ten_key named_bins (stored ten_key named_words (Word.CacheHead 2) 9) named_tasks
    = wrong ten_key named_bins named_words named_tasks 0 2 9 refl named_bin_stands in
    let says = (after.held 1 refl).says.head in
    let stood : stored ten_key named_words (Word.CacheHead 2) 9 cache_heads 2 ≡ 9
    = to_stored (λ x. x cache_heads 2 ≡ 9) ten_key named_words (Word.CacheHead 2) 9 (omega arith) refl in
    let same : ◌≡◌ {A = ℕ} 9 4 = sym stood ∙ says ∙ word_says 3 4 refl (omega arith) in
    absurd (omega arith)
