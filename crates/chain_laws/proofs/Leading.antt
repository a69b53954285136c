-- What becomes of a chain when one link changes, and what its links lead through.
use Rattle.std.proofs.Common.{◌≡◌, ℕ, zero, suc, ◌<◌, List, [], ◌∷◌, ◌++◌, length, length-append, refl, sym, ap, subst}
use Rattle.std.proofs.Common.{arith, ◌∙◌}
use Rattle.word_laws.specs.Memory.{put}
use Rattle.word_laws.proofs.CallerLemmas.{put_here, put_else, equal_or, less_or}
use Rattle.chain_laws.specs.Chains.{Link, Leads, IsChain, tally, walk}
use Rattle.chain_laws.specs.Chains.Link.{To, Ends}
use Rattle.chain_laws.specs.Laws.{OtherLinksLeaveChain, FrontComesOff, LinkJoinsChains, WalkerSplitsChain}
use Rattle.chain_laws.specs.Laws.{HeadsHaveOneList, ChainsHaveNoRepeats, WalkGivesList}
use Rattle.chain_laws.proofs.Tallies.{tally-here, tally-else, tally-more, tally-split}

-- the links of a chain's items decide alone
pub leads-same : (links other : ℕ → Link) (here : Link) (xs : List ℕ) (there : Link)
    → ((x : ℕ) → 0 < tally x xs → other x ≡ links x) → Leads links here xs there → Leads other here xs there
leads-same links other here [] there same leads = leads
leads-same links other here (x ∷ xs) there same (first, leads) = (
  first,
  subst (λ l. Leads other l xs there) (sym (same x (let h = tally-here x xs in omega arith)))
      (leads-same links other (links x) xs there (λ y some. same y (let m = tally-more y x xs in omega arith)) leads),
)

pub leads-apart : (links : ℕ → Link) (here : Link) (xs : List ℕ) (there : Link) (x : ℕ) (link : Link) → tally x xs ≡ 0
    → Leads links here xs there → Leads (put links x link) here xs there
leads-apart links here xs there x link none =
    leads-same links (put links x link) here xs there (λ y some. put_else links x y link (λ same. absent y some same))
  where
    absent : (y : ℕ) → 0 < tally y xs → x ≡ y → ⊥
    absent y some same = let e = ap (λ z. tally z xs) same in omega arith

pub other_links_leave_chain : OtherLinksLeaveChain
other_links_leave_chain links head items end x link none chain = leads-apart links head items
    (Ends end) x link none chain

pub front_comes_off : FrontComesOff
front_comes_off links head x items end chain = chain

-- the parts of a list that the links lead through
pub leads-split : (links : ℕ → Link) (here : Link) (front : List ℕ) (x : ℕ) (back : List ℕ) (there : Link)
    → Leads links here (front ++ (x ∷ back)) there → Leads links here front (To x) × Leads links (links x) back there
leads-split links here [] x back there leads = leads
leads-split links here (y ∷ front) x back there (first, leads) =
    let r = leads-split links (links y) front x back there leads in ((first, r.0), r.1)

pub leads-join : (links : ℕ → Link) (here : Link) (front : List ℕ) (between : Link) (back : List ℕ) (there : Link)
    → Leads links here front between → Leads links between back there → Leads links here (front ++ back) there
leads-join links here [] between back there is leads = subst (λ l. Leads links l back there) (sym is) leads
leads-join links here (y ∷ front) between back there (first, walked) leads =
    (first, leads-join links (links y) front between back there walked leads)

pub walker_splits_chain : WalkerSplitsChain
walker_splits_chain links head front x back end chain =
    let r = leads-split links head front x back (Ends end) chain in record { walked = r.0; ahead = r.1 }

pub link_joins_chains : LinkJoinsChains
link_joins_chains links head other front x back others end stop before after chain next =
    let r = leads-split links head front x back (Ends end) chain in
    leads-join (put links x other) head front (To x) (x ∷ others) (Ends stop)
    (leads-apart links head front (To x) x other before r.0) (
      refl,
      subst (λ l. Leads (put links x other) l others (Ends stop)) (sym (put_here links x x other refl))
          (leads-apart links other others (Ends stop) x other after next),
    )

pub heads_have_one_list : HeadsHaveOneList
heads_have_one_list links head [] [] end stop e f = (refl, (let q : Ends end ≡ Ends stop = sym e ∙ f in cc))
heads_have_one_list links head [] (y ∷ ys) end stop e (f, d) = let q : Ends end ≡ To y = sym e ∙ f in absurd (cc)
heads_have_one_list links head (x ∷ xs) [] end stop (e, c) f = let q : To x ≡ Ends stop = sym e ∙ f in absurd (cc)
heads_have_one_list links head (x ∷ xs) (y ∷ ys) end stop (e, c) (f, d) =
    let q : To x ≡ To y = sym e ∙ f in
    let same : x ≡ y = cc in
    let r = heads_have_one_list links (links x) xs ys end stop c
    (subst (λ z. Leads links (links z) ys (Ends stop)) (sym same) d) in
    (ap (λ z. z ∷ xs) same ∙ ap (λ zs. y ∷ zs) r.0, r.1)

pub chains_have_no_repeats : ChainsHaveNoRepeats
chains_have_no_repeats links head [] end chain y = omega arith
chains_have_no_repeats links head (x ∷ xs) end (first, chain) y = equal_or y x
    (λ same. let none = alone in let t = tally-here x xs in let e = ap (λ z. tally z (x ∷ xs)) same in omega arith)
    (λ differ. let t = tally-else y x xs differ in let r = chains_have_no_repeats links
    (links x) xs end chain y in omega arith)
  where
    -- what follows the item follows it at each place
    repeats : 0 < tally x xs → ⊥
    repeats some =
        let s = tally-split x xs some in
        let back : IsChain links (links x) s.1 end =
        (leads-split links (links x) s.0 x s.1 (Ends end)
        (subst (λ ys. IsChain links (links x) ys end) s.2 chain)).1 in
        let same = (heads_have_one_list links (links x) xs s.1 end end chain back).0 in
        let short = ap length same in
        let long = ap length s.2 in
        let parts = length-append s.0 (x ∷ s.1) in
        omega arith

    alone : tally x xs ≡ 0
    alone = less_or 0 (tally x xs) (λ some. absurd (repeats some)) (λ none. omega arith)

pub walk_gives_list : WalkGivesList
walk_gives_list links head [] end zero chain enough = refl
walk_gives_list links head (x ∷ xs) end zero chain enough = absurd (omega arith)
walk_gives_list links head [] end (suc fuel) chain enough = ap (walk (suc fuel) links) chain
walk_gives_list links head (x ∷ xs) end (suc fuel) (first, chain) enough =
    ap (walk (suc fuel) links) first
    ∙ ap (λ ys. x ∷ ys) (walk_gives_list links (links x) xs end fuel chain (omega arith))

-- a chain over links and a head that are these
pub chain-over : (links other : ℕ → Link) (head first : Link) (items : List ℕ) (end : ℕ) → other ≡ links → first ≡ head
    → IsChain links head items end → IsChain other first items end
chain-over links other head first items end same is chain =
    subst (λ l. IsChain other l items end) (sym is) (subst (λ f. IsChain f head items end) (sym same) chain)

-- an item outside a chain, whose link leads where the head does, is in front of it
pub chain-pushed : (links : ℕ → Link) (head : Link) (items : List ℕ) (end x : ℕ) → links x ≡ head
    → IsChain links head items end → IsChain links (To x) (x ∷ items) end
chain-pushed links head items end x linked chain =
    (refl, subst (λ l. IsChain links l items end) (sym linked) chain)
