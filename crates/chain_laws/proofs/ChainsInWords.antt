-- What a store of a head or of a link makes of the chain in the memory.
use Rattle.std.proofs.Common.{◌≡◌, ℕ, refl, sym, ap, ◌∙◌}
use Rattle.pool_words.specs.declared.words.Key.{Key}
use Rattle.pool_words.specs.Words.{kind_of_word, number, at_of}
use Rattle.word_laws.specs.Memory.{Mem, Valid, put, stored}
use Rattle.word_laws.proofs.CallerLemmas.{put_here, put_else, equal_or, write_here, write_else, stored-valid}
use Rattle.chain_laws.specs.Pushing.{ChainWords, head_of, links_of, AreApart}

pub link_stored-links : (k : Key) (c : ChainWords) (m : Mem) (x v : ℕ) → AreApart c → Valid k (c.link x)
    → links_of c (stored k m (c.link x) v) ≡ put (links_of c m) x (c.reads_link v)
link_stored-links k c m x v apart valid = λ n y. each y n
  where
    each : (y : ℕ) → links_of c (stored k m (c.link x) v) y ≡ put (links_of c m) x (c.reads_link v) y
    each y = ap (λ (w : Mem). links_of c w y) (stored-valid k m (c.link x) v valid) ∙ equal_or x y
        (λ same. ap c.reads_link
        (write_here m (kind_of_word (c.link x)) (kind_of_word (c.link y)) (at_of (c.link x)) v (at_of (c.link y))
        (ap (λ z. number (kind_of_word (c.link z))) same) (ap (λ z. at_of (c.link z)) same))
        ∙ sym (put_here (links_of c m) x y (c.reads_link v) same))
        (λ differ. ap c.reads_link
        (write_else m (kind_of_word (c.link x)) (kind_of_word (c.link y)) (at_of (c.link x)) v (at_of (c.link y))
        (λ e f. differ (apart.items x y (e, f))))
        ∙ sym (put_else (links_of c m) x y (c.reads_link v) differ))

pub link_stored-head : (k : Key) (c : ChainWords) (m : Mem) (x v : ℕ) → AreApart c → Valid k (c.link x)
    → head_of c (stored k m (c.link x) v) ≡ head_of c m
link_stored-head k c m x v apart valid =
    ap (λ (w : Mem). head_of c w) (stored-valid k m (c.link x) v valid)
    ∙ ap c.reads_head (write_else m (kind_of_word (c.link x)) (kind_of_word c.head) (at_of (c.link x)) v (at_of c.head)
    (λ e f. apart.heads x (e, f)))

pub head_stored-links : (k : Key) (c : ChainWords) (m : Mem) (v : ℕ) → AreApart c → Valid k c.head
    → links_of c (stored k m c.head v) ≡ links_of c m
head_stored-links k c m v apart valid = λ n y. each y n
  where
    each : (y : ℕ) → links_of c (stored k m c.head v) y ≡ links_of c m y
    each y = ap (λ (w : Mem). links_of c w y) (stored-valid k m c.head v valid)
        ∙ ap c.reads_link (write_else m (kind_of_word c.head) (kind_of_word (c.link y)) (at_of c.head) v
        (at_of (c.link y))
        (λ e f. absurd (apart.heads y (sym e, sym f))))

pub head_stored-head : (k : Key) (c : ChainWords) (m : Mem) (v : ℕ) → Valid k c.head
    → head_of c (stored k m c.head v) ≡ c.reads_head v
head_stored-head k c m v valid =
    ap (λ (w : Mem). head_of c w) (stored-valid k m c.head v valid)
    ∙ ap c.reads_head (write_here m (kind_of_word c.head) (kind_of_word c.head) (at_of c.head) v
    (at_of c.head) refl refl)
