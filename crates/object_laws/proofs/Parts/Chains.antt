-- Chains of links against the lists.
use Rattle.std.proofs.Common.{◌≡◌, ◌≢◌, ℕ, ◌<◌, Option, List, [], ◌∷◌, ◌++◌, refl}
use Rattle.std.proofs.Common.{sym, ap, subst, arith}
use Rattle.word_codes.specs.declared.marks.Mark.{Mark}
use Rattle.word_codes.specs.declared.publics.Public.{Public}
use Rattle.word_laws.specs.Memory.{put}
use Rattle.word_laws.proofs.CallerLemmas.{put_else}
use Rattle.chain_laws.specs.Chains.{Link, IsChain, tally}
use Rattle.chain_laws.specs.Chains.Link.{To, Ends}
use Rattle.chain_laws.proofs.CallerLemmas.{leads-same, leads-split}
use Rattle.object_laws.specs.Objects.{links_in, mark_link, public_link_to, head_link}
use Rattle.object_laws.specs.Parts.{IsPublicChain, PublicChains, PrivateChains}
use Rattle.object_laws.specs.Rows.{tail_of}
use Rattle.slab_laws.proofs.CallerLemmas.{both}

-- the links of marks of which one was written that is none of a list's
pub marked-else : (marks : ℕ → Mark) (u : ℕ) (m : Mark) (us : List ℕ) → tally u us ≡ 0 → (x : ℕ) → 0 < tally x us
    → links_in (put marks u m) x ≡ links_in marks x
marked-else marks u m us none x some =
    ap mark_link (put_else marks u x m (λ same. let e = ap (λ z. tally z us) same in absurd (omega arith)))

pub chain-marked : (marks : ℕ → Mark) (u : ℕ) (m : Mark) (head : Link) (us : List ℕ) (end : ℕ) → tally u us ≡ 0
    → IsChain (links_in marks) head us end → IsChain (links_in (put marks u m)) head us end
chain-marked marks u m head us end none chain = leads-same (links_in marks) (links_in (put marks u m)) head us
    (Ends end) (marked-else marks u m us none) chain

pub public-marked : (marks : ℕ → Mark) (u : ℕ) (m : Mark) (public : Public) (us : List ℕ) → tally u us ≡ 0
    → IsPublicChain (links_in marks) public us → IsPublicChain (links_in (put marks u m)) public us
public-marked marks u m Public.Null us none chain = chain
public-marked marks u m Public.Unusable us none chain = chain
public-marked marks u m (Public.Filled v) us none (end, chain) = (end, chain-marked marks u m (To v) us end none chain)

pub publics-marked : (marks : ℕ → Mark) (publics : ℕ → Public) (listed : ℕ → List ℕ) (u : ℕ) (m : Mark)
    → ((e : ℕ) → tally u (listed e) ≡ 0) → PublicChains (links_in marks) publics listed
    → PublicChains (links_in (put marks u m)) publics listed
publics-marked marks publics listed u m none fit e = public-marked marks u m (publics e) (listed e) (none e) (fit e)

pub privates-marked : (marks : ℕ → Mark) (heads : ℕ → Option ℕ) (privates : ℕ → List ℕ) (u : ℕ) (m : Mark)
    → ((e : ℕ) → tally u (privates e) ≡ 0) → PrivateChains (links_in marks) heads privates
    → PrivateChains (links_in (put marks u m)) heads privates
privates-marked marks heads privates u m none fit e =
    chain-marked marks u m (head_link (heads e)) (privates e) 0 (none e) (fit e)

-- one slab's private chain changes with one mark
pub privates-changed : (marks : ℕ → Mark) (heads : ℕ → Option ℕ) (privates : ℕ → List ℕ) (e u : ℕ) (m : Mark)
    (head : Option ℕ) (us : List ℕ) → ((c : ℕ) → c ≢ e → tally u (privates c) ≡ 0)
    → IsChain (links_in (put marks u m)) (head_link head) us 0 → PrivateChains (links_in marks) heads privates
    → PrivateChains (links_in (put marks u m)) (put heads e head) (put privates e us)
privates-changed marks heads privates e u m head us none here fit =
    both (λ c q xs. IsChain (links_in (put marks u m)) (head_link q) xs 0) heads privates e head us
    (λ c ne. chain-marked marks u m (head_link (heads c)) (privates c) 0 (none c ne) (fit c)) here

pub publics-changed : (links : ℕ → Link) (publics : ℕ → Public) (listed : ℕ → List ℕ) (e : ℕ) (public : Public)
    (us : List ℕ) → IsPublicChain links public us → PublicChains links publics listed
    → PublicChains links (put publics e public) (put listed e us)
publics-changed links publics listed e public us here fit =
    both (λ c. IsPublicChain links) publics listed e public us (λ c ne. fit c) here

-- an object that leads to what was found goes in front of it
pub public-pushed : (links : ℕ → Link) (found : Public) (us : List ℕ) (u : ℕ) → links u ≡ public_link_to found
    → IsPublicChain links found us → IsPublicChain links (Public.Filled u) (u ∷ us)
public-pushed links Public.Null us u leads none =
    (0, (refl, subst (λ xs. IsChain links (links u) xs 0) (sym none) leads))
public-pushed links Public.Unusable us u leads none =
    (1, (refl, subst (λ xs. IsChain links (links u) xs 1) (sym none) leads))
public-pushed links (Public.Filled v) us u leads (end, chain) =
    (end, (refl, subst (λ l. IsChain links l us end) (sym leads) chain))

-- a chain whose head is a unit begins with it
pub chain-starts : (links : ℕ → Link) (u : ℕ) (us : List ℕ) (end : ℕ) → IsChain links (To u) us end
    → (us ≡ u ∷ tail_of us) × IsChain links (links u) (tail_of us) end
chain-starts links u [] end chain = absurd (cc)
chain-starts links u (x ∷ us) end (first, chain) =
    let same : u ≡ x = cc in
    (ap (λ y. y ∷ us) (sym same), subst (λ y. IsChain links (links y) us end) (sym same) chain)

-- what the mark of an item of a chain says: it leads to the item behind it, or ends
pub data Ahead (link : Link) (back : List ℕ) : Type 0 where
  on : (next : ℕ) (rest : List ℕ) → link ≡ To next → back ≡ next ∷ rest → Ahead link back
  over : (which : ℕ) → link ≡ Ends which → back ≡ [] → Ahead link back

pub ahead_of : (links : ℕ → Link) (link : Link) (back : List ℕ) (end : ℕ) → IsChain links link back end
    → Ahead link back
ahead_of links link [] end chain = over end chain refl
ahead_of links link (x ∷ back) end (first, chain) = on x back first refl

pub chain_at : (links : ℕ → Link) (head : Link) (us front back : List ℕ) (at end : ℕ) → us ≡ front ++ (at ∷ back)
    → IsChain links head us end → Ahead (links at) back
chain_at links head us front back at end is chain =
    ahead_of links (links at) back end
    (leads-split links head front at back (Ends end) (subst (λ xs. IsChain links head xs end) is chain)).1
