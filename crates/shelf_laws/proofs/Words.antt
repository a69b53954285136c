-- What holds of the cache, where its words are the same.
use Rattle.std.proofs.Common.{◌≡◌, ℕ, sym, ap, subst, ◌∙◌}
use Rattle.pool_words.specs.declared.words.Key.{Key}
use Rattle.pool_words.specs.Words.{cache_links, cache_ages}
use Rattle.word_laws.specs.Memory.{Mem}
use Rattle.lock_laws.specs.Locks.{LocksFit}
use Rattle.cache_laws.specs.Bins.{Bin, Lists, Says}
use Rattle.cache_laws.specs.Good.{Task, bin_of, stage, locked_in, InHand, CacheGood}
use Rattle.shelf_laws.specs.Steps.{SameCache}

says_as : (m m' : Mem) (b : ℕ) (bin : Bin) → SameCache m m' → Says m b bin → Says m' b bin
says_as m m' b bin same says = record {
  head = at_b same.heads ∙ says.head;
  count' = at_b same.items ∙ says.count';
  used' = at_b same.used ∙ says.used';
  mean' = at_b same.means ∙ says.mean';
  threshold' = at_b same.thresholds ∙ says.threshold';
  get' = at_b same.gets ∙ says.get';
  cleaned' = at_b same.cleaned ∙ says.cleaned';
  listed = subst (λ (f : ℕ → ℕ). Lists f (m' cache_ages) bin.items) (sym same.links)
      (subst (λ (f : ℕ → ℕ). Lists (m cache_links) f bin.items) (sym same.ages) says.listed);
}
  where
    at_b : {f g : ℕ → ℕ} → f ≡ g → f b ≡ g b
    at_b is = ap (λ (h : ℕ → ℕ). h b) is

pub cache_as : (k : Key) (g : ℕ → Bin) (m m' : Mem) (jobs : ℕ → Task) → SameCache m m' → CacheGood k g m jobs
    → CacheGood k g m' jobs
cache_as k g m m' jobs same good = record {
  span = good.span;
  locks = subst (λ (f : ℕ → ℕ). LocksFit f (locked_in jobs)) (sym same.locks) good.locks;
  rest = λ b free. says_as m m' b (g b) same (good.rest b free);
  held = λ t has. let old = good.held t has in record {
    says = says_as m m' (bin_of (jobs t)) (stage (jobs t) (g (bin_of (jobs t)))) same old.says;
    noted = old.noted;
    in_hand = subst (λ (f : ℕ → ℕ). InHand f (m' cache_ages) (jobs t) (g (bin_of (jobs t)))) (sym same.links)
        (subst (λ (f : ℕ → ℕ). InHand (m cache_links) f (jobs t) (g (bin_of (jobs t)))) (sym same.ages) old.in_hand);
    own = old.own;
  };
  calls = good.calls;
  bins = good.bins;
  once = good.once;
  hands = good.hands;
  apart = good.apart;
}
