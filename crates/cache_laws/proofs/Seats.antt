-- A seat goes on at its bin, takes its lock or frees it: what others rest on stays.
use Rattle.std.proofs.Common.{◌≡◌, ◌≢◌, inl, inr, ℕ, ◌<◌, Bool, true, false, cond, Some, None, refl, sym}
use Rattle.std.proofs.Common.{ap, subst, arith, ◌∙◌}
use Rattle.std.specs.Prelude.{◌⊎◌}
use Rattle.pool_words.specs.declared.words.Key.{Key}
use Rattle.word_codes.specs.Locks.{lock_word}
use Rattle.pool_words.specs.Words.{cache_links, cache_ages}
use Rattle.word_laws.specs.Memory.{Mem, put}
use Rattle.word_laws.proofs.CallerLemmas.{equal_or, put-same, put-other, each}
use Rattle.chain_laws.specs.Chains.{tally}
use Rattle.lock_laws.specs.Locks.{locks_of, LocksFit}
use Rattle.lock_laws.proofs.CallerLemmas.{lock_word-inj}
use Rattle.cache_laws.specs.Bins.{Bin, blocks_of, Says}
use Rattle.large_cache.specs.declared.keep.KeepAt.{KeepAt}
use Rattle.cache_laws.specs.Puts.{HandFits}
use Rattle.cache_laws.specs.Good.{InHand}
use Rattle.cache_laws.specs.Good.{Task, bin_of, holds, lock_in, hand, stage, Noted, CallFits, IsOwn, Holding}
use Rattle.cache_laws.specs.Good.{lock_words, locked_in, CacheGood}
use Rattle.cache_laws.proofs.Words.{Apart, Leaves, says-same, SameCache, says-over}

-- the facts of a seat at a position
pub at_held : (k : Key) (g : ℕ → Bin) (m : Mem) (tasks : ℕ → Task) (t : ℕ) (task : Task) → tasks t ≡ task
    → holds task ≡ true → CacheGood k g m tasks → Holding g m task
at_held k g m tasks t task is has good = subst (λ q. holds q ≡ true → Holding g m q) is (good.held t) has

pub at_call : (k : Key) (g : ℕ → Bin) (m : Mem) (tasks : ℕ → Task) (t : ℕ) (task : Task) → tasks t ≡ task
    → CacheGood k g m tasks → CallFits k task
at_call k g m tasks t task is good = subst (CallFits k) is (good.calls t)

-- a lock is one seat's
pub one_holder : (locks : ℕ → ℕ) (tasks : ℕ → Task) (t o b : ℕ) → LocksFit locks (locked_in tasks)
    → lock_in (tasks t) ≡ Some b → lock_in (tasks o) ≡ Some b → o ≡ t
one_holder locks tasks t o b fit mine other =
    lock_word-inj o t (sym (fit.held o b other) ∙ fit.held t b mine)

pub lock_held : (task : Task) → holds task ≡ true → lock_in task ≡ Some (bin_of task)
lock_held task has = ap (λ (z : Bool). cond z (Some (bin_of task)) None) has

-- what is another seat's, at another bin, is not mine
own_apart : (k : Key) (g : ℕ → Bin) (m : Mem) (tasks : ℕ → Task) (t o x : ℕ) → CacheGood k g m tasks → o ≢ t
    → bin_of (tasks o) ≢ bin_of (tasks t) → IsOwn g (tasks o) x → IsOwn g (tasks t) x → ⊥
own_apart k g m tasks t o x good ne bins (inl some) (inl mine) =
    let none = good.once (bin_of (tasks o)) (bin_of (tasks t)) bins x some in omega arith
own_apart k g m tasks t o x good ne bins (inl some) (inr mine) =
    let none = good.hands t x (bin_of (tasks o)) mine in omega arith
own_apart k g m tasks t o x good ne bins (inr has) (inl mine) =
    let none = good.hands o x (bin_of (tasks t)) has in omega arith
own_apart k g m tasks t o x good ne bins (inr has) (inr mine) = good.apart o t x ne has mine

-- a bin that is not the seat's has nothing that is the seat's
bin_apart : (k : Key) (g : ℕ → Bin) (m : Mem) (tasks : ℕ → Task) (t c x : ℕ) → CacheGood k g m tasks
    → c ≢ bin_of (tasks t) → 0 < tally x (blocks_of (g c).items) → IsOwn g (tasks t) x → ⊥
bin_apart k g m tasks t c x good ne some (inl mine) =
    let none = good.once c (bin_of (tasks t)) ne x some in omega arith
bin_apart k g m tasks t c x good ne some (inr mine) = let none = good.hands t x c mine in omega arith

-- what a seat rests on of its block's words
keep-same : (links ages links' ages' : ℕ → ℕ) (time block : ℕ) (bin : Bin) (at : KeepAt) → links' block ≡ links block
    → ages' block ≡ ages block → HandFits links ages time block bin at → HandFits links' ages' time block bin at
keep-same links ages links' ages' time block bin (KeepAt.SetAge items released) same same' fits = same ∙ fits
keep-same links ages links' ages' time block bin (KeepAt.SetHead items released) same same' fits =
    (same ∙ fits.0, same' ∙ fits.1)
keep-same links ages links' ages' time block bin KeepAt.Lock same same' fits = tt
keep-same links ages links' ages' time block bin KeepAt.Items same same' fits = tt
keep-same links ages links' ages' time block bin (KeepAt.Head items) same same' fits = tt
keep-same links ages links' ages' time block bin (KeepAt.Walk tail) same same' fits = tt
keep-same links ages links' ages' time block bin (KeepAt.OldAge tail) same same' fits = tt
keep-same links ages links' ages' time block bin (KeepAt.Cut tail age) same same' fits = tt
keep-same links ages links' ages' time block bin (KeepAt.SetCleaned tail age) same same' fits = tt
keep-same links ages links' ages' time block bin (KeepAt.SetLink items head released) same same' fits = tt
keep-same links ages links' ages' time block bin (KeepAt.SetItems items released) same same' fits = tt
keep-same links ages links' ages' time block bin (KeepAt.Used released) same same' fits = tt
keep-same links ages links' ages' time block bin (KeepAt.SetUsed released used) same same' fits = tt
keep-same links ages links' ages' time block bin (KeepAt.Unlock released) same same' fits = tt

pub hand-same : (links ages links' ages' : ℕ → ℕ) (task : Task) (bin : Bin)
    → ((x : ℕ) → hand task ≡ Some x → links' x ≡ links x) → ((x : ℕ) → hand task ≡ Some x → ages' x ≡ ages x)
    → InHand links ages task bin → InHand links' ages' task bin
hand-same links ages links' ages' Task.Away bin same same' fits = tt
hand-same links ages links' ages' (Task.Getting b time at) bin same same' fits = tt
hand-same links ages links' ages' (Task.Undoing b at) bin same same' fits = tt
hand-same links ages links' ages' (Task.Sweeping b time cleanup gone at) bin same same' fits = tt
hand-same links ages links' ages' (Task.Keeping b time block at) bin same same' fits =
    keep-same links ages links' ages' time block bin at (same block refl) (same' block refl) fits

-- what a seat at another bin rests on
pub holding-same : (k : Key) (g h : ℕ → Bin) (m m' : Mem) (tasks : ℕ → Task) (t o : ℕ) → CacheGood k g m tasks → o ≢ t
    → bin_of (tasks o) ≢ bin_of (tasks t) → h (bin_of (tasks o)) ≡ g (bin_of (tasks o))
    → Apart m m' (bin_of (tasks t)) (IsOwn g (tasks t)) → Holding g m (tasks o) → Holding h m' (tasks o)
holding-same k g h m m' tasks t o good ne bins same leaves holding = record {
  says = subst (λ bin. Says m' (bin_of (tasks o)) (stage (tasks o) bin)) (sym same)
      (says-same m m' (bin_of (tasks t)) (bin_of (tasks o)) (IsOwn g (tasks t))
      (stage (tasks o) (g (bin_of (tasks o)))) leaves bins
      (λ x some. own_apart k g m tasks t o x good ne bins (holding.own x some)) holding.says);
  noted = subst (Noted (tasks o)) (sym same) holding.noted;
  in_hand = subst (InHand (m' cache_links) (m' cache_ages) (tasks o)) (sym same)
      (hand-same (m cache_links) (m cache_ages) (m' cache_links) (m' cache_ages) (tasks o) (g (bin_of (tasks o)))
      (λ x has. leaves.links x (own_apart k g m tasks t o x good ne bins (inr has)))
      (λ x has. leaves.ages x (own_apart k g m tasks t o x good ne bins (inr has))) holding.in_hand);
  own = subst
      (λ (bin : Bin). (x : ℕ) → 0 < tally x (blocks_of (stage (tasks o) bin).items)
      → (0 < tally x (blocks_of bin.items)) ⊎ (hand (tasks o) ≡ Some x)) (sym same) holding.own;
}

-- a seat goes on at its bin
pub goes : (k : Key) (g : ℕ → Bin) (m m' : Mem) (tasks : ℕ → Task) (t b : ℕ) (task next : Task)
    → CacheGood k g m tasks → tasks t ≡ task → holds task ≡ true → bin_of task ≡ b → holds next ≡ true
    → bin_of next ≡ b → hand next ≡ hand task → CallFits k next → Leaves m m' b (IsOwn g task) → Holding g m' next
    → CacheGood k g m' (put tasks t next)
goes k g m m' tasks t b task next good is has at has' at' same call leaves holding = record {
  span = good.span;
  locks = record {
    held = λ o c z. ap (λ (l : ℕ → ℕ). l c) leaves.locks ∙ held o c z;
    named = λ o c z. named o c (sym (ap (λ (l : ℕ → ℕ). l c) leaves.locks) ∙ z);
  };
  rest = λ c nobody. let ne = not_here c nobody in
      says-same m m' b c (IsOwn g task) (g c) leaves.others ne
      (λ x some own. bin_apart k g m tasks t c x good
      (λ e. ne (e ∙ ap bin_of is ∙ at)) some (subst (λ q. IsOwn g q x) (sym is) own))
      (good.rest c (before c ne nobody));
  held = each (λ o q. holds q ≡ true → Holding g m' q) tasks t next
      (λ o ne z. holding-same k g g m m' tasks t o good ne
      (λ e. ne (one_holder (locks_of lock_words m) tasks t o b good.locks mine
      (lock_held (tasks o) z ∙ ap Some (e ∙ ap bin_of is ∙ at)))) refl
      (subst (λ q. Apart m m' (bin_of q) (IsOwn g q)) (sym is)
      (subst (λ c. Apart m m' c (IsOwn g task)) (sym at) leaves.others)) (good.held o z))
      (λ _. holding);
  calls = each (λ o q. CallFits k q) tasks t next (λ o _. good.calls o) call;
  bins = good.bins;
  once = good.once;
  hands = λ o x c z. good.hands o x c (was o ∙ z);
  apart = λ o p x ne z w. good.apart o p x ne (was o ∙ z) (was p ∙ w);
}
  where
    mine : lock_in (tasks t) ≡ Some b
    mine = ap lock_in is ∙ lock_held task has ∙ ap Some at

    now : lock_in next ≡ Some b
    now = lock_held next has' ∙ ap Some at'

    held : (o c : ℕ) → lock_in (put tasks t next o) ≡ Some c → locks_of lock_words m c ≡ lock_word o
    held o c = each (λ o q. lock_in q ≡ Some c → locks_of lock_words m c ≡ lock_word o) tasks t next
        (λ o _ z. good.locks.held o c z) (λ z. good.locks.held t c (mine ∙ sym now ∙ z)) o

    named : (o c : ℕ) → locks_of lock_words m c ≡ lock_word o → lock_in (put tasks t next o) ≡ Some c
    named o c = each (λ o q. locks_of lock_words m c ≡ lock_word o → lock_in q ≡ Some c) tasks t next
        (λ o _ z. good.locks.named o c z) (λ z. now ∙ sym mine ∙ good.locks.named t c z) o

    not_here : (c : ℕ) → ((o : ℕ) → lock_in (put tasks t next o) ≢ Some c) → c ≢ b
    not_here c nobody e = nobody t (ap lock_in (put-same tasks t next) ∙ now ∙ ap Some (sym e))

    before : (c : ℕ) → c ≢ b → ((o : ℕ) → lock_in (put tasks t next o) ≢ Some c) → (o : ℕ)
        → lock_in (tasks o) ≢ Some c
    before c ne nobody o z = equal_or o t
        (λ e. let q : Some b ≡ Some c = sym mine ∙ ap (λ s. lock_in (tasks s)) (sym e) ∙ z in
        ne (let w : b ≡ c = cc in sym w))
        (λ other. nobody o (ap lock_in (put-other tasks t next o other) ∙ z))

    was : (o : ℕ) → hand (tasks o) ≡ hand (put tasks t next o)
    was = each (λ o q. hand (tasks o) ≡ hand q) tasks t next (λ o _. refl) (ap hand is ∙ sym same)

-- a seat without a lock has another task, and no lock with it
pub waits : (k : Key) (g : ℕ → Bin) (m : Mem) (tasks : ℕ → Task) (t : ℕ) (task next : Task) → CacheGood k g m tasks
    → tasks t ≡ task → holds task ≡ false → holds next ≡ false → CallFits k next
    → ((x b : ℕ) → hand next ≡ Some x → tally x (blocks_of (g b).items) ≡ 0)
    → ((o x : ℕ) → o ≢ t → hand next ≡ Some x → hand (tasks o) ≢ Some x) → CacheGood k g m (put tasks t next)
waits k g m tasks t task next good is none none' call absent others = record {
  span = good.span;
  locks = record {
    held = λ o c. each (λ o q. lock_in q ≡ Some c → locks_of lock_words m c ≡ lock_word o) tasks t next
        (λ o _ z. good.locks.held o c z) (λ z. absurd (let q : None ≡ Some c = sym now ∙ z in cc)) o;
    named = λ o c z. each (λ o q. lock_in (tasks o) ≡ Some c → lock_in q ≡ Some c) tasks t next (λ o _ w. w)
        (λ w. absurd (let q : None ≡ Some c = sym mine ∙ w in cc)) o (good.locks.named o c z);
  };
  rest = λ c nobody. good.rest c (λ o z. equal_or o t
      (λ e. let q : None ≡ Some c = sym mine ∙ ap (λ s. lock_in (tasks s)) (sym e) ∙ z in absurd (cc))
      (λ other. nobody o (ap lock_in (put-other tasks t next o other) ∙ z)));
  held = each (λ o q. holds q ≡ true → Holding g m q) tasks t next (λ o _. good.held o)
      (λ z. absurd (let q : true ≡ false = sym z ∙ none' in cc));
  calls = each (λ o q. CallFits k q) tasks t next (λ o _. good.calls o) call;
  bins = good.bins;
  once = good.once;
  hands = λ o x c. each (λ o q. hand q ≡ Some x → tally x (blocks_of (g c).items) ≡ 0) tasks t next
      (λ o _ z. good.hands o x c z) (absent x c) o;
  apart = λ o p x. each (λ o q. o ≢ p → hand q ≡ Some x → hand (put tasks t next p) ≢ Some x) tasks t next
      (λ o other ne z. each (λ p q. o ≢ p → hand q ≢ Some x) tasks t next (λ p _ far. good.apart o p x far z)
      (λ far w. others o x far w z) p ne)
      (λ ne z. each (λ p q. t ≢ p → hand q ≢ Some x) tasks t next (λ p other _. others p x other z)
      (λ far. absurd (far refl)) p ne) o;
}
  where
    mine : lock_in (tasks t) ≡ None
    mine = ap lock_in is ∙ ap (λ (z : Bool). cond z (Some (bin_of task)) None) none

    now : lock_in next ≡ None
    now = ap (λ (z : Bool). cond z (Some (bin_of next)) None) none'

-- a step on a word that is none of the cache's
pub other_keeps : (k : Key) (g : ℕ → Bin) (m m' : Mem) (tasks : ℕ → Task) → SameCache m m' → CacheGood k g m tasks
    → CacheGood k g m' tasks
other_keeps k g m m' tasks over good = record {
  span = good.span;
  locks = subst (λ (l : ℕ → ℕ). LocksFit l (locked_in tasks)) (sym over.locks) good.locks;
  rest = λ c nobody. says-over m m' c (g c) over (good.rest c nobody);
  held = λ o z. let old = good.held o z in record {
    says = says-over m m' (bin_of (tasks o)) (stage (tasks o) (g (bin_of (tasks o)))) over old.says;
    noted = old.noted;
    in_hand = hand-same (m cache_links) (m cache_ages) (m' cache_links) (m' cache_ages) (tasks o) (g (bin_of (tasks o)))
        (λ x _. over.links x) (λ x _. over.ages x) old.in_hand;
    own = old.own;
  };
  calls = good.calls;
  bins = good.bins;
  once = good.once;
  hands = good.hands;
  apart = good.apart;
}
