-- Each private, given back and taken object once.
use Rattle.std.proofs.Common.{◌≡◌, ◌≢◌, ◌⊎◌, inl, inr, ℕ, ◌+◌, ◌<◌, List, [], ◌∷◌, ◌++◌, refl, sym}
use Rattle.std.proofs.Common.{ap, arith, ◌∙◌}
use Rattle.std.proofs.lemmas.Bool.Decides.{nat_tests}
use Rattle.word_laws.specs.Memory.{put}
use Rattle.chain_laws.specs.Chains.{tally}
use Rattle.chain_laws.proofs.CallerLemmas.{tally-append, tally-here}
use Rattle.slab_laws.specs.Heaps.{slab_of}
use Rattle.object_laws.specs.Objects.{Held}
use Rattle.object_laws.specs.Parts.{is_private, is_listed, in_slab, PrivatesOnce, ListedOnce}
use Rattle.object_laws.specs.Rows.{taken_back, back_in}
use Rattle.slab_laws.proofs.CallerLemmas.{each}

-- what is not private is in no private list
pub privates-none : (held : ℕ → Held) (privates taken : ℕ → List ℕ) (u : ℕ) → is_private (held u) ≡ 0
    → PrivatesOnce held privates taken → (e : ℕ) → (tally u (privates e) ≡ 0) × (tally u (taken e) ≡ 0)
privates-none held privates taken u z once e = let o = once e u in (grind (arith, nat_tests), grind (arith, nat_tests))

-- what is private is in the lists of its slab alone
pub privates-other : (held : ℕ → Held) (privates taken : ℕ → List ℕ) (u e : ℕ) → e ≢ slab_of u
    → PrivatesOnce held privates taken → (tally u (privates e) ≡ 0) × (tally u (taken e) ≡ 0)
privates-other held privates taken u e ne once = let o = once e u in
    (grind (arith, nat_tests), grind (arith, nat_tests))

pub listed-none : (held : ℕ → Held) (listed : ℕ → List ℕ) (u : ℕ) → is_listed (held u) ≡ 0 → ListedOnce held listed
    → (e : ℕ) → tally u (listed e) ≡ 0
listed-none held listed u z once e = let o = once e u in grind (arith, nat_tests)

pub listed-set : (held : ℕ → Held) (listed : ℕ → List ℕ) (u : ℕ) (h : Held) → is_listed h ≡ is_listed (held u)
    → ListedOnce held listed → ListedOnce (put held u h) listed
listed-set held listed u h same once e = each (λ y q. tally y (listed e) ≡ in_slab e y (is_listed q)) held u h
    (λ y ne. once e y) (once e u ∙ ap (in_slab e u) (sym same))

pub privates-set : (held : ℕ → Held) (privates taken : ℕ → List ℕ) (u : ℕ) (h : Held)
    → is_private h ≡ is_private (held u) → PrivatesOnce held privates taken
    → PrivatesOnce (put held u h) privates taken
privates-set held privates taken u h same once e =
    each (λ y q. tally y (privates e) + tally y (taken e) ≡ in_slab e y (is_private q)) held u h
    (λ y ne. once e y) (once e u ∙ ap (in_slab e u) (sym same))

-- the newest private object leaves the list
pub privates-popped : (held : ℕ → Held) (privates taken : ℕ → List ℕ) (e u : ℕ) (rest : List ℕ) (h : Held)
    → is_private h ≡ 0 → privates e ≡ u ∷ rest → PrivatesOnce held privates taken
    → PrivatesOnce (put held u h) (put privates e rest) taken
privates-popped held privates taken e u rest h z is once c x =
    let o = once c x in let o2 = once e x in let l = ap (tally x) is in grind (arith, nat_tests)

-- an object goes to the front of its slab's private list, or of that of objects given back
pub privates-pushed : (held : ℕ → Held) (privates taken : ℕ → List ℕ) (e u : ℕ) (h : Held) → is_private h ≡ 1
    → is_private (held u) ≡ 0 → slab_of u ≡ e → PrivatesOnce held privates taken
    → PrivatesOnce (put held u h) (put privates e (u ∷ privates e)) taken
privates-pushed held privates taken e u h one was at once c x =
    let o = once c x in let o2 = once e u in grind (arith, nat_tests)

pub listed-pushed : (held : ℕ → Held) (listed : ℕ → List ℕ) (e u : ℕ) (h : Held) → is_listed h ≡ 1
    → is_listed (held u) ≡ 0 → slab_of u ≡ e → ListedOnce held listed
    → ListedOnce (put held u h) (put listed e (u ∷ listed e))
listed-pushed held listed e u h one was at once c x =
    let o = once c x in let o2 = once e u in grind (arith, nat_tests)

pub private-back : (h : Held) → is_private (taken_back h) ≡ is_private h + is_listed h
private-back Held.NotOut = refl
private-back Held.Private = refl
private-back Held.Listed = refl
private-back (Held.Object gr) = refl
private-back (Held.InHand t) = refl
private-back (Held.Ready t x n) = refl
private-back (Held.Large gr x n) = refl

pub listed-back : (h : Held) → is_listed (taken_back h) ≡ 0
listed-back Held.NotOut = refl
listed-back Held.Private = refl
listed-back Held.Listed = refl
listed-back (Held.Object gr) = refl
listed-back (Held.InHand t) = refl
listed-back (Held.Ready t x n) = refl
listed-back (Held.Large gr x n) = refl

-- all that was given back to a slab is taken
pub privates-taken : (held : ℕ → Held) (privates taken listed : ℕ → List ℕ) (e : ℕ) → taken e ≡ []
    → PrivatesOnce held privates taken → ListedOnce held listed
    → PrivatesOnce (back_in e held) privates (put taken e (listed e))
privates-taken held privates taken listed e none once listed_once c x =
    let o = once c x in let l = listed_once e x in let j = private-back (held x) in
    let z = ap (tally x) none in grind (arith, nat_tests)

pub listed-taken : (held : ℕ → Held) (listed : ℕ → List ℕ) (e : ℕ) → ListedOnce held listed
    → ListedOnce (back_in e held) (put listed e [])
listed-taken held listed e once c x = let o = once c x in let j = listed-back (held x) in grind (arith, nat_tests)

-- what was taken goes in front of the private list
pub privates-joined : (held : ℕ → Held) (privates taken : ℕ → List ℕ) (e : ℕ) → PrivatesOnce held privates taken
    → PrivatesOnce held (put privates e (taken e ++ privates e)) (put taken e [])
privates-joined held privates taken e once c x =
    let o = once c x in let o2 = once e x in let a = tally-append x (taken e) (privates e) in grind (arith, nat_tests)

pub private-one : (h : Held) → is_private h ≡ 1 → h ≡ Held.Private
private-one Held.NotOut e = absurd (omega arith)
private-one Held.Private e = refl
private-one Held.Listed e = absurd (omega arith)
private-one (Held.Object gr) e = absurd (omega arith)
private-one (Held.InHand t) e = absurd (omega arith)
private-one (Held.Ready t x n) e = absurd (omega arith)
private-one (Held.Large gr x n) e = absurd (omega arith)

pub private-cases : (h : Held) → (is_private h ≡ 0) ⊎ (is_private h ≡ 1)
private-cases Held.NotOut = inl refl
private-cases Held.Private = inr refl
private-cases Held.Listed = inl refl
private-cases (Held.Object gr) = inl refl
private-cases (Held.InHand t) = inl refl
private-cases (Held.Ready t x n) = inl refl
private-cases (Held.Large gr x n) = inl refl

pub listed-one : (h : Held) → is_listed h ≡ 1 → h ≡ Held.Listed
listed-one Held.NotOut e = absurd (omega arith)
listed-one Held.Private e = absurd (omega arith)
listed-one Held.Listed e = refl
listed-one (Held.Object gr) e = absurd (omega arith)
listed-one (Held.InHand t) e = absurd (omega arith)
listed-one (Held.Ready t x n) e = absurd (omega arith)
listed-one (Held.Large gr x n) e = absurd (omega arith)

pub listed-cases : (h : Held) → (is_listed h ≡ 0) ⊎ (is_listed h ≡ 1)
listed-cases Held.NotOut = inl refl
listed-cases Held.Private = inl refl
listed-cases Held.Listed = inr refl
listed-cases (Held.Object gr) = inl refl
listed-cases (Held.InHand t) = inl refl
listed-cases (Held.Ready t x n) = inl refl
listed-cases (Held.Large gr x n) = inl refl

-- what stands in a private list, or was taken, is private and of that slab
pub private-there : (held : ℕ → Held) (privates taken : ℕ → List ℕ) (e u : ℕ) → PrivatesOnce held privates taken
    → 0 < tally u (privates e) + tally u (taken e) → (held u ≡ Held.Private) × (slab_of u ≡ e)
private-there held privates taken e u once some =
    let o = once e u in
    let c = private-cases (held u) in
    (private-one (held u) (grind (arith, nat_tests)), grind (arith, nat_tests))

pub listed-there : (held : ℕ → Held) (listed : ℕ → List ℕ) (e u : ℕ) → ListedOnce held listed
    → 0 < tally u (listed e) → (held u ≡ Held.Listed) × (slab_of u ≡ e)
listed-there held listed e u once some =
    let o = once e u in
    let c = listed-cases (held u) in
    (listed-one (held u) (grind (arith, nat_tests)), grind (arith, nat_tests))

-- a list of which no item is
pub all_none : (xs : List ℕ) → ((x : ℕ) → tally x xs ≡ 0) → xs ≡ []
all_none [] none = refl
all_none (x ∷ xs) none = absurd (let n = none x in let h = tally-here x xs in omega arith)
