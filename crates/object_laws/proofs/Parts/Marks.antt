-- Marks and grants against the holders.
use Rattle.std.proofs.Common.{◌≡◌, ◌≢◌, ◌⊎◌, inl, inr, ℕ, ◌+◌, ◌<◌, ◌≤◌, Some, None}
use Rattle.std.proofs.Common.{refl, sym, ap, subst, arith, ◌∙◌, le_trans}
use Rattle.std.proofs.lemmas.Bool.Decides.{nat_tests}
use Rattle.pool_types.specs.declared.values.Grant.{Grant}
use Rattle.pool_words.specs.declared.words.Key.{Key}
use Rattle.word_codes.specs.declared.marks.Mark.{Mark}
use Rattle.word_codes.specs.declared.kinds.Kind.{Kind}
use Rattle.word_codes.specs.Places.{granule_of}
use Rattle.word_laws.specs.Memory.{put}
use Rattle.word_laws.proofs.CallerLemmas.{equal_or, less_or}
use Rattle.slab_laws.specs.Books.{Keeper}
use Rattle.slab_laws.specs.Heaps.{slab_of}
use Rattle.object_laws.specs.Objects.{Held, granted_in, grant_by, with_end}
use Rattle.object_laws.specs.Parts.{MarkFits, MarksFit, GrantsApart, LargeFits, LargesFit}
use Rattle.object_laws.specs.Rows.{taken_back}
use Rattle.slab_laws.proofs.CallerLemmas.{put-same, each, both}

pub marks-set : (held : ℕ → Held) (marks : ℕ → Mark) (u : ℕ) (h : Held) (m : Mark) → MarkFits h m → MarksFit held marks
    → MarksFit (put held u h) (put marks u m)
marks-set held marks u h m here fit = both (λ x. MarkFits) held marks u h m (λ x ne. fit x) here

pub marks-mark : (held : ℕ → Held) (marks : ℕ → Mark) (u : ℕ) (m : Mark) → MarkFits (held u) m → MarksFit held marks
    → MarksFit held (put marks u m)
marks-mark held marks u m here fit = each (λ x. MarkFits (held x)) marks u m (λ x ne. fit x) here

pub marks-held : (held : ℕ → Held) (marks : ℕ → Mark) (u : ℕ) (h : Held) → MarkFits h (marks u) → MarksFit held marks
    → MarksFit (put held u h) marks
marks-held held marks u h here fit = each (λ x q. MarkFits q (marks x)) held u h (λ x ne. fit x) here

pub mark-back : (h : Held) (m : Mark) → MarkFits h m → MarkFits (taken_back h) m
mark-back Held.NotOut m fit = fit
mark-back Held.Private m fit = fit
mark-back Held.Listed m fit = fit
mark-back (Held.Object gr) m fit = fit
mark-back (Held.InHand t) m fit = fit
mark-back (Held.Ready t x n) m fit = fit
mark-back (Held.Large gr x n) m fit = fit

-- a mark that names a grant is that of an object that is held
pub granted_is_held : (h : Held) (gr : Grant) → MarkFits h (Mark.Granted gr) → granted_in h ≡ Some gr
granted_is_held Held.NotOut gr fit = absurd fit
granted_is_held Held.Private gr fit = absurd fit
granted_is_held Held.Listed gr fit = absurd fit
granted_is_held (Held.Object other) gr fit = cc
granted_is_held (Held.InHand t) gr fit = absurd fit
granted_is_held (Held.Ready t x n) gr fit = absurd fit
granted_is_held (Held.Large other x n) gr fit = cc

-- an object or a large one
pub data IsGranted (h : Held) (gr : Grant) : Type 0 where
  small : h ≡ Held.Object gr → IsGranted h gr
  large : (first granules : ℕ) → h ≡ Held.Large gr first granules → IsGranted h gr

pub granted-cases : (h : Held) (gr : Grant) → granted_in h ≡ Some gr → IsGranted h gr
granted-cases Held.NotOut gr e = absurd (cc)
granted-cases Held.Private gr e = absurd (cc)
granted-cases Held.Listed gr e = absurd (cc)
granted-cases (Held.Object other) gr e = small (cc)
granted-cases (Held.InHand t) gr e = absurd (cc)
granted-cases (Held.Ready t x n) gr e = absurd (cc)
granted-cases (Held.Large other x n) gr e = large x n (cc)

same_grant : (one other : Grant) → one.seat ≡ other.seat → one.number ≡ other.number → one ≡ other
same_grant one other e f = ap (λ n. grant_by one.seat n) f ∙ ap (λ n. grant_by n other.number) e

-- a grant with the seat's next number
pub grants-granted : (held : ℕ → Held) (lasts : ℕ → ℕ) (ended : ℕ → ℕ → ℕ) (u t : ℕ) (h : Held)
    → granted_in h ≡ Some (grant_by t (lasts t + 1)) → GrantsApart held lasts ended
    → GrantsApart (put held u h) (put lasts t (lasts t + 1)) ended
grants-granted held lasts ended u t h is good = record {
  apart = λ x y gr. each (λ x q. granted_in q ≡ Some gr → granted_in (put held u h y) ≡ Some gr → x ≡ y) held u h
      (λ x ne ex. each (λ y q. granted_in q ≡ Some gr → x ≡ y) held u h (λ y _ ey. good.apart x y gr ex ey)
      (λ here. absurd (newer x gr ex here)) y)
      (λ here. each (λ y q. granted_in q ≡ Some gr → u ≡ y) held u h (λ y _ ey. absurd (newer y gr ey here))
      (λ _. refl) y) x;
  least = λ x gr. each (λ x q. granted_in q ≡ Some gr → gr.number ≤ put lasts t (lasts t + 1) gr.seat) held u h
      (λ x _ ex. le_trans (good.least x gr ex) (more gr.seat))
      (λ here. subst (λ (z : Grant). z.number ≤ put lasts t (lasts t + 1) z.seat) (names gr here)
      (let e = put-same lasts t (lasts t + 1) in omega arith)) x;
  gone = λ x gr some. each (λ x q. granted_in q ≢ Some gr) held u h (λ x _. good.gone x gr some)
      (λ here. absurd (late gr some here)) x;
  past = λ seat number some. le_trans (good.past seat number some) (more seat);
  once = good.once;
}
  where
    names : (gr : Grant) → granted_in h ≡ Some gr → grant_by t (lasts t + 1) ≡ gr
    names gr here = cc

    newer : (x : ℕ) (gr : Grant) → granted_in (held x) ≡ Some gr → granted_in h ≡ Some gr → ⊥
    newer x gr ex here =
        let low = subst (λ (z : Grant). z.number ≤ lasts z.seat) (sym (names gr here)) (good.least x gr ex) in
        omega arith

    late : (gr : Grant) → 0 < ended gr.seat gr.number → granted_in h ≡ Some gr → ⊥
    late gr some here =
        let low = subst (λ (z : Grant). z.number ≤ lasts z.seat) (sym (names gr here))
        (good.past gr.seat gr.number some) in
        omega arith

    more : (seat : ℕ) → lasts seat ≤ put lasts t (lasts t + 1) seat
    more = each (λ seat n. lasts seat ≤ n) lasts t (lasts t + 1) (λ seat _. omega arith) (omega arith)

pub end-cases : (gr : Grant) (ended : ℕ → ℕ → ℕ) (seat number : ℕ)
    → ((seat ≡ gr.seat) × (number ≡ gr.number) × (with_end gr ended seat number ≡ ended seat number + 1))
    ⊎ (with_end gr ended seat number ≡ ended seat number)
end-cases gr ended seat number = equal_or seat gr.seat
    (λ e. equal_or number gr.number (λ f. inl (e, f, (grind (arith, nat_tests)))) (λ ne. inr (grind (arith, nat_tests))))
    (λ ne. inr (grind (arith, nat_tests)))

-- a grant is ended
pub grants-ended : (held : ℕ → Held) (lasts : ℕ → ℕ) (ended : ℕ → ℕ → ℕ) (u : ℕ) (h : Held) (gr : Grant)
    → granted_in (held u) ≡ Some gr → granted_in h ≡ None → GrantsApart held lasts ended
    → GrantsApart (put held u h) lasts (with_end gr ended)
grants-ended held lasts ended u h gr was none good = record {
  apart = λ x y z ex ey. good.apart x y z (still x z ex) (still y z ey);
  least = λ x z ex. good.least x z (still x z ex);
  gone = λ x z some ex. by x z (still x z ex) ex some (end-cases gr ended z.seat z.number);
  past = λ seat number some. passed seat number some (end-cases gr ended seat number);
  once = λ seat number. single seat number (end-cases gr ended seat number);
}
  where
    still : (x : ℕ) (z : Grant) → granted_in (put held u h x) ≡ Some z → granted_in (held x) ≡ Some z
    still x z = each (λ y q. granted_in q ≡ Some z → granted_in (held y) ≡ Some z) held u h (λ y ne e. e)
        (λ e. absurd (let q : None ≡ Some z = sym none ∙ e in cc)) x

    by : (x : ℕ) (z : Grant) → granted_in (held x) ≡ Some z → granted_in (put held u h x) ≡ Some z
        → 0 < with_end gr ended z.seat z.number
        → ((z.seat ≡ gr.seat) × (z.number ≡ gr.number) × (with_end gr ended z.seat z.number ≡ ended z.seat z.number + 1))
        ⊎ (with_end gr ended z.seat z.number ≡ ended z.seat z.number) → ⊥
    by x z ex now some (inl c) =
        let same : x ≡ u = good.apart x u gr (ex ∙ ap Some (same_grant z gr c.0 c.1)) was in
        let q : None ≡ Some z = sym none ∙ sym (ap granted_in (put-same held u h))
        ∙ ap (λ y. granted_in (put held u h y)) (sym same) ∙ now in cc
    by x z ex now some (inr e) = good.gone x z (omega arith) ex

    passed : (seat number : ℕ) → 0 < with_end gr ended seat number
        → ((seat ≡ gr.seat) × (number ≡ gr.number) × (with_end gr ended seat number ≡ ended seat number + 1))
        ⊎ (with_end gr ended seat number ≡ ended seat number) → number ≤ lasts seat
    passed seat number some (inl c) =
        let low = good.least u gr was in let e = ap lasts c.0 in let f = c.1 in omega arith
    passed seat number some (inr e) = good.past seat number (omega arith)

    single : (seat number : ℕ)
        → ((seat ≡ gr.seat) × (number ≡ gr.number) × (with_end gr ended seat number ≡ ended seat number + 1))
        ⊎ (with_end gr ended seat number ≡ ended seat number) → with_end gr ended seat number ≤ 1
    single seat number (inl c) = less_or 0 (ended seat number)
        (λ some. absurd (good.gone u gr (subst (λ n. 0 < ended gr.seat n) c.1
        (subst (λ n. 0 < ended n number) c.0 some)) was))
        (λ zero. let e = c.2 in omega arith)
    single seat number (inr e) = let o = good.once seat number in omega arith

-- no more are held than were
pub grants-fewer : (held other : ℕ → Held) (lasts : ℕ → ℕ) (ended : ℕ → ℕ → ℕ)
    → ((u : ℕ) (gr : Grant) → granted_in (other u) ≡ Some gr → granted_in (held u) ≡ Some gr)
    → GrantsApart held lasts ended → GrantsApart other lasts ended
grants-fewer held other lasts ended fewer good = record {
  apart = λ x y gr ex ey. good.apart x y gr (fewer x gr ex) (fewer y gr ey);
  least = λ x gr ex. good.least x gr (fewer x gr ex);
  gone = λ x gr some ex. good.gone x gr some (fewer x gr ex);
  past = good.past;
  once = good.once;
}

pub grants-put : (held : ℕ → Held) (lasts : ℕ → ℕ) (ended : ℕ → ℕ → ℕ) (u : ℕ) (h : Held) → granted_in h ≡ None
    → GrantsApart held lasts ended → GrantsApart (put held u h) lasts ended
grants-put held lasts ended u h none good = grants-fewer held (put held u h) lasts ended
    (λ x gr. each (λ y q. granted_in q ≡ Some gr → granted_in (held y) ≡ Some gr) held u h (λ y ne e. e)
    (λ e. absurd (let q : None ≡ Some gr = sym none ∙ e in cc)) x) good

-- large objects
pub larges-set : (k : Key) (held : ℕ → Held) (keeper : ℕ → Keeper) (kinds : ℕ → Kind) (u : ℕ) (h : Held)
    → LargeFits k u (keeper (slab_of u)) (kinds (granule_of u)) h → LargesFit k held keeper kinds
    → LargesFit k (put held u h) keeper kinds
larges-set k held keeper kinds u h here fit =
    each (λ x q. LargeFits k x (keeper (slab_of x)) (kinds (granule_of x)) q) held u h (λ x ne. fit x) here
