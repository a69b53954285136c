-- A seat wins its bin's lock, or waits; and frees it, with the bin as it is then.
use Rattle.std.proofs.Common.{◌≡◌, ◌≢◌, inl, inr, ℕ, ◌<◌, Bool, true, false, cond, eqb, Option, Some, None, refl, sym}
use Rattle.std.proofs.Common.{ap, subst, arith, ◌∙◌}
use Rattle.std.specs.Prelude.{◌==◌}
use Rattle.std.proofs.lemmas.Bool.Decides.{nat_tests}
use Rattle.std.proofs.lemmas.Bool.{eqb-true}
use Rattle.pool_words.specs.declared.words.Key.{Key}
use Rattle.pool_words.specs.declared.words.Word.{Word}
use Rattle.pool_words.specs.Words.{cache_counts, cache_locks}
use Rattle.word_codes.specs.Locks.{lock_word}
use Rattle.pool_words.specs.Words.{cache_links, cache_ages}
use Rattle.word_laws.specs.Memory.{Mem, put, stored}
use Rattle.word_laws.proofs.CallerLemmas.{equal_or, less_or, put-same, put-other, each, read_put}
use Rattle.chain_laws.specs.Chains.{tally}
use Rattle.lock_laws.specs.Locks.{locks_of, LocksFit}
use Rattle.lock_laws.proofs.CallerLemmas.{lock_word-taken, locks-taken, locks-freed, lock_stored}
use Rattle.cache_laws.specs.Bins.{Bin, blocks_of, Says}
use Rattle.cache_laws.specs.Good.{InHand}
use Rattle.cache_laws.specs.Good.{Task, bin_of, holds, lock_in, hand, stage, Noted, CallFits, IsOwn, Holding, BinFits}
use Rattle.cache_laws.specs.Good.{lock_words, locked_in, CacheGood}
use Rattle.cache_laws.proofs.Words.{stored-else, apart_lock, says-locked}
use Rattle.cache_laws.proofs.Seats.{one_holder, lock_held, hand-same, holding-same}

-- which lock each seat has, where one seat has another task
pub locked-put : (tasks : ℕ → Task) (t : ℕ) (next : Task) (lock : Option ℕ) → lock_in next ≡ lock
    → put (locked_in tasks) t lock ≡ locked_in (put tasks t next)
locked-put tasks t next lock is =
    ap (put (locked_in tasks) t) (sym is) ∙ sym (λ n s. read_put lock_in tasks t next s n)

nobody_has : (tasks : ℕ → Task) (t : ℕ) (next : Task) (c : ℕ) → lock_in (tasks t) ≢ Some c
    → ((o : ℕ) → lock_in (put tasks t next o) ≢ Some c) → (o : ℕ) → lock_in (tasks o) ≢ Some c
nobody_has tasks t next c mine nobody o z = equal_or o t
    (λ e. mine (ap (λ s. lock_in (tasks s)) (sym e) ∙ z))
    (λ other. nobody o (ap lock_in (put-other tasks t next o other) ∙ z))

won : (k : Key) (g : ℕ → Bin) (m : Mem) (tasks : ℕ → Task) (t b : ℕ) (task next : Task) → CacheGood k g m tasks
    → tasks t ≡ task → holds task ≡ false → b < cache_counts → holds next ≡ true → bin_of next ≡ b
    → hand next ≡ hand task → CallFits k next → ((bin : Bin) → stage next bin ≡ bin) → Noted next (g b)
    → ((links ages : ℕ → ℕ) (bin : Bin) → InHand links ages next bin)
    → m cache_locks b ≡ 0 → CacheGood k g (stored k m (Word.CacheLock b) (lock_word t)) (put tasks t next)
won k g m tasks t b task next good is none low has at same call first noted start free = record {
  span = good.span;
  locks = subst (λ (f : ℕ → Option ℕ). LocksFit (locks_of lock_words m') f)
      (locked-put tasks t next (Some b) (lock_held next has ∙ ap Some at))
      (subst (λ (l : ℕ → ℕ). LocksFit l (put (locked_in tasks) t (Some b)))
      (sym (lock_stored k lock_words m b (lock_word t) (λ a c z. z.1) low))
      (locks-taken (locks_of lock_words m) (locked_in tasks) t b free mine good.locks));
  rest = λ c nobody. says-locked k m c b (lock_word t) (g c) low
      (good.rest c (nobody_has tasks t next c (λ z. let q : None ≡ Some c = sym mine ∙ z in absurd (cc)) nobody));
  held = each (λ o q. holds q ≡ true → Holding g m' q) tasks t next
      (λ o _ z. let old = good.held o z in record {
        says = says-locked k m (bin_of (tasks o)) b (lock_word t) (stage (tasks o) (g (bin_of (tasks o)))) low old.says;
        noted = old.noted;
        in_hand = hand-same (m cache_links) (m cache_ages) (m' cache_links) (m' cache_ages) (tasks o)
            (g (bin_of (tasks o))) (λ x _. link_stays x) (λ x _. age_stays x) old.in_hand;
        own = old.own;
      })
      (λ _. here);
  calls = each (λ o q. CallFits k q) tasks t next (λ o _. good.calls o) call;
  bins = good.bins;
  once = good.once;
  hands = λ o x c z. good.hands o x c (was o ∙ z);
  apart = λ o p x ne z w. good.apart o p x ne (was o ∙ z) (was p ∙ w);
}
  where
    m' : Mem
    m' = stored k m (Word.CacheLock b) (lock_word t)

    mine : lock_in (tasks t) ≡ None
    mine = ap lock_in is ∙ ap (λ (z : Bool). cond z (Some (bin_of task)) None) none

    link_stays : (x : ℕ) → stored k m (Word.CacheLock b) (lock_word t) cache_links x ≡ m cache_links x
    link_stays x = stored-else k m (Word.CacheLock b) (lock_word t) cache_links x (λ e _. omega arith)

    age_stays : (x : ℕ) → stored k m (Word.CacheLock b) (lock_word t) cache_ages x ≡ m cache_ages x
    age_stays x = stored-else k m (Word.CacheLock b) (lock_word t) cache_ages x (λ e _. omega arith)

    was : (o : ℕ) → hand (tasks o) ≡ hand (put tasks t next o)
    was = each (λ o q. hand (tasks o) ≡ hand q) tasks t next (λ o _. refl) (ap hand is ∙ sym same)

    says : Says (stored k m (Word.CacheLock b) (lock_word t)) b (g b)
    says = says-locked k m b b (lock_word t) (g b) low
        (good.rest b (λ o z. lock_word-taken o (sym (good.locks.held o b z) ∙ free)))

    here : Holding g (stored k m (Word.CacheLock b) (lock_word t)) next
    here = record {
      says = subst (λ c. Says (stored k m (Word.CacheLock b) (lock_word t)) c (stage next (g c))) (sym at)
          (subst (λ bin. Says (stored k m (Word.CacheLock b) (lock_word t)) b bin) (sym (first (g b))) says);
      noted = subst (λ c. Noted next (g c)) (sym at) noted;
      in_hand = start (m' cache_links) (m' cache_ages) (g (bin_of next));
      own = λ x some. inl (subst (λ (bin : Bin). 0 < tally x (blocks_of bin.items)) (first (g (bin_of next))) some);
    }

-- the exchange: the lock was free and is the seat's, or the seat waits
pub locks-as : (k : Key) (g : ℕ → Bin) (m : Mem) (tasks : ℕ → Task) (t b : ℕ) (task : Task) (next : Bool → Task)
    → CacheGood k g m tasks → tasks t ≡ task → holds task ≡ false → b < cache_counts → next false ≡ task
    → holds (next true) ≡ true → bin_of (next true) ≡ b → hand (next true) ≡ hand task → CallFits k (next true)
    → ((bin : Bin) → stage (next true) bin ≡ bin) → Noted (next true) (g b)
    → ((links ages : ℕ → ℕ) (bin : Bin) → InHand links ages (next true) bin)
    → CacheGood k g (cond (eqb (m cache_locks b) 0) (stored k m (Word.CacheLock b) (lock_word t)) m)
    (put tasks t (next (m cache_locks b == 0)))
locks-as k g m tasks t b task next good is none low wait has at same call first noted start =
    by (eqb (m cache_locks b) 0) (m cache_locks b == 0) refl refl
  where
    stays : put tasks t task ≡ tasks
    stays = λ n o. equal_or o t
        (λ e. ap (put tasks t task) e ∙ put-same tasks t task ∙ sym is ∙ ap tasks (sym e))
        (λ ne. put-other tasks t task o ne) n

    by : (one two : Bool) → eqb (m cache_locks b) 0 ≡ one → (m cache_locks b == 0) ≡ two
        → CacheGood k g (cond one (stored k m (Word.CacheLock b) (lock_word t)) m) (put tasks t (next two))
    by true true p q = won k g m tasks t b task (next true) good is none low has at same call first noted start
        (eqb-true (m cache_locks b) 0 p)
    by false false p q = subst (λ z. CacheGood k g m (put tasks t z)) (sym wait)
        (subst (CacheGood k g m) (sym stays) good)
    by true false p q = absurd (let z = ap (λ x. x == 0) (eqb-true (m cache_locks b) 0 p) in
        let w : true ≡ false = sym z ∙ q in cc)
    by false true p q = absurd (grind (arith, nat_tests))

-- the lock is freed: the bin is then what its words say
pub frees : (k : Key) (g : ℕ → Bin) (m : Mem) (tasks : ℕ → Task) (t b : ℕ) (task : Task) (done : Bin)
    → CacheGood k g m tasks → tasks t ≡ task → holds task ≡ true → bin_of task ≡ b → b < cache_counts
    → Says m b done → BinFits k done → ((x : ℕ) → 0 < tally x (blocks_of done.items) → IsOwn g task x)
    → CacheGood k (put g b done) (stored k m (Word.CacheLock b) 0) (put tasks t Task.Away)
frees k g m tasks t b task done good is has at low says fits from = record {
  span = good.span;
  locks = subst (λ (f : ℕ → Option ℕ). LocksFit (locks_of lock_words m') f) (locked-put tasks t Task.Away None refl)
      (subst (λ (l : ℕ → ℕ). LocksFit l (put (locked_in tasks) t None))
      (sym (lock_stored k lock_words m b 0 (λ a c z. z.1) low))
      (locks-freed (locks_of lock_words m) (locked_in tasks) t b mine good.locks));
  rest = each (λ c bin. ((o : ℕ) → lock_in (put tasks t Task.Away o) ≢ Some c) → Says m' c bin) g b done
      (λ c ne nobody. says-locked k m c b 0 (g c) low (good.rest c (nobody_has tasks t Task.Away c
      (λ z. let q : Some b ≡ Some c = sym mine ∙ z in ne (let w : b ≡ c = cc in sym w)) nobody)))
      (λ _. says-locked k m b b 0 done low says);
  held = each (λ o q. holds q ≡ true → Holding (put g b done) m' q) tasks t Task.Away
      (λ o ne z. let far = elsewhere o ne z in
      holding-same k g (put g b done) m m' tasks t o good ne (λ e. far (e ∙ ap bin_of is ∙ at))
      (put-other g b done (bin_of (tasks o)) far) (apart_lock k m b 0 (bin_of (tasks t)) (IsOwn g (tasks t)))
      (good.held o z))
      (λ z. absurd (let q : false ≡ true = z in cc));
  calls = each (λ o q. CallFits k q) tasks t Task.Away (λ o _. good.calls o) tt;
  bins = each (λ c bin. BinFits k bin) g b done (λ c _. good.bins c) fits;
  once = λ c d ne x. each (λ c (bin : Bin). c ≢ d → 0 < tally x (blocks_of bin.items)
      → tally x (blocks_of (put g b done d).items) ≡ 0) g b done
      (λ c cb ne some. each (λ d (bin : Bin). c ≢ d → tally x (blocks_of bin.items) ≡ 0) g b done
      (λ d _ ne. good.once c d ne x some)
      (λ _. none_in x (λ has. let z = moved x c has cb in omega arith)) d ne)
      (λ ne some. each (λ d (bin : Bin). b ≢ d → tally x (blocks_of bin.items) ≡ 0) g b done
      (λ d db _. moved x d some db) (λ far. absurd (far refl)) d ne) c ne;
  hands = λ o x c. each (λ o q. hand q ≡ Some x → tally x (blocks_of (put g b done c).items) ≡ 0) tasks t Task.Away
      (λ o ne z. each (λ c (bin : Bin). tally x (blocks_of bin.items) ≡ 0) g b done (λ c _. good.hands o x c z)
      (none_in x (λ some. not_mine o x ne z (from x some))) c)
      (λ z. absurd (let q : None ≡ Some x = z in cc)) o;
  apart = λ o p x. each (λ o q. o ≢ p → hand q ≡ Some x → hand (put tasks t Task.Away p) ≢ Some x) tasks t Task.Away
      (λ o _ ne z. each (λ p q. o ≢ p → hand q ≢ Some x) tasks t Task.Away (λ p _ far. good.apart o p x far z)
      (λ _ w. let q : None ≡ Some x = w in absurd (cc)) p ne)
      (λ _ z. absurd (let q : None ≡ Some x = z in cc)) o;
}
  where
    m' : Mem
    m' = stored k m (Word.CacheLock b) 0

    mine : lock_in (tasks t) ≡ Some b
    mine = ap lock_in is ∙ lock_held task has ∙ ap Some at

    elsewhere : (o : ℕ) → o ≢ t → holds (tasks o) ≡ true → bin_of (tasks o) ≢ b
    elsewhere o ne z e = ne (one_holder (locks_of lock_words m) tasks t o b good.locks mine
        (lock_held (tasks o) z ∙ ap Some e))

    none_in : (x : ℕ) → (0 < tally x (blocks_of done.items) → ⊥) → tally x (blocks_of done.items) ≡ 0
    none_in x never = less_or 0 (tally x (blocks_of done.items)) (λ some. absurd (never some)) (λ le. omega arith)

    at_bin : (x c : ℕ) → c ≢ b → IsOwn g task x → tally x (blocks_of (g c).items) ≡ 0
    at_bin x c ne (inl some) = good.once (bin_of task) c (λ e. ne (sym e ∙ at)) x some
    at_bin x c ne (inr has') = good.hands t x c (ap hand is ∙ has')

    moved : (x c : ℕ) → 0 < tally x (blocks_of done.items) → c ≢ b → tally x (blocks_of (g c).items) ≡ 0
    moved x c some ne = at_bin x c ne (from x some)

    not_mine : (o x : ℕ) → o ≢ t → hand (tasks o) ≡ Some x → IsOwn g task x → ⊥
    not_mine o x ne z (inl some) = let none = good.hands o x (bin_of task) z in omega arith
    not_mine o x ne z (inr has') = good.apart o t x ne z (ap hand is ∙ has')
