-- A new pool's chains, the queue that is named, and what the wrong definitions come to.
use Rattle.std.proofs.Common.{◌≡◌, ◌≢◌, ℕ, List, [], ◌∷◌, refl, sym, subst, arith}
use Rattle.pool_words.specs.Words.{queue_links}
use Rattle.word_laws.specs.Memory.{write}
use Rattle.chain_words.specs.declared.pushing.PushAt.{PushAt}
use Rattle.chain_laws.specs.Chains.Link.{To, Ends}
use Rattle.chain_laws.specs.Pushing.{AreApart}
use Rattle.chain_laws.specs.Laws.{FreshChainsAreEmpty, NamedChainStands}
use Rattle.chain_laws.specs.Named.{ten_key, queue_words, any_number, queued_blocks, two_queued, seventh, seventh_at}
use Rattle.chain_laws.specs.Named.{one_pusher}
use Rattle.chain_laws.specs.Wrong.{StalePushesAreWrong, TakingsByLoadAreWrong, LooseChainsAreWrong, AnyLinksAreWrong}
use Rattle.chain_laws.specs.Wrong.{PushesOfMembersAreWrong}
use Rattle.word_laws.specs.Wrong.{least_key}
use Rattle.word_laws.proofs.CallerLemmas.{put_else}
use Rattle.chain_laws.specs.Seats.{PusherFits, MayPush, IsAwayFrom, AreAway}
use Rattle.chain_laws.specs.Seats.Pusher.{Away, Pushes}
use Rattle.chain_laws.proofs.Seats.{put-each}

pub fresh_chains_are_empty : FreshChainsAreEmpty
fresh_chains_are_empty k c fits end empty fit = record {
  chain = empty;
  head = fit;
  pushing = λ seat. tt;
  apart = λ seat other differ. tt;
}

queue_apart : AreApart queue_words
queue_apart = record { items = λ x y same. same.1; heads = λ x same. let e = same.0 in absurd (omega arith) }

seventh_may : MayPush ten_key queue_words any_number queued_blocks seventh
seventh_may = record {
  can = record { head = omega arith; link = omega arith; names = refl };
  outside = refl;
  filled = refl;
  links = λ number fit. refl;
}

pub named_chain_stands : NamedChainStands
named_chain_stands = record {
  apart = queue_apart;
  good = record {
    chain = (refl, (refl, refl));
    head = refl;
    pushing = λ seat. put-each (λ t x. PusherFits ten_key queue_words any_number queued_blocks two_queued x)
        (λ t. Away) 1
        (Pushes seventh seventh_at) (λ t differ. tt) (seventh_may, refl) seat;
    apart = λ seat other differ. alone seat other differ;
  };
}
  where
    alone : (seat other : ℕ) → seat ≢ other → AreAway (one_pusher seat) (one_pusher other)
    alone seat other differ = put-each (λ t x. t ≢ other → AreAway x (one_pusher other)) (λ t. Away) 1
        (Pushes seventh seventh_at) (λ t far apart. tt)
        (λ apart. subst (λ x. IsAwayFrom 7 x)
        (sym (put_else (λ t. Away) 1 other (Pushes seventh seventh_at) apart)) tt)
        seat differ

-- block 5 was found first, and block 3 came in between
pub stale_pushes_are_wrong : StalePushesAreWrong
stale_pushes_are_wrong stale =
    let after = stale least_key (write two_queued queue_links 7 6) (PushAt.Exchange 6) queued_blocks refl refl refl
    (refl, (refl, refl)) in
    let clash : To 5 ≡ To 3 = after.1 in
    let numbers : ◌≡◌ {A = ℕ} 5 3 = cc in
    omega arith

pub takings_by_load_are_wrong : TakingsByLoadAreWrong
takings_by_load_are_wrong takes =
    let clash : To 3 ≡ Ends 0 = takes least_key two_queued queued_blocks (refl, (refl, refl)) in cc

pub loose_chains_are_wrong : LooseChainsAreWrong
loose_chains_are_wrong one =
    let clash : ◌≡◌ {A = List ℕ} (3 ∷ []) [] = one (λ x. Ends 0) (To 3) (3 ∷ []) [] (refl, tt) tt in cc

pub any_links_are_wrong : AnyLinksAreWrong
any_links_are_wrong any =
    let chain = any (λ x. Ends 0) (To 3) (3 ∷ []) 0 3 (To 3) (refl, refl) in
    let clash : To 3 ≡ Ends 0 = chain.1 in cc

pub pushes_of_members_are_wrong : PushesOfMembersAreWrong
pushes_of_members_are_wrong pushes =
    let chain = pushes (λ x. Ends 0) (To 3) (3 ∷ []) 0 3 (refl, refl) in
    let clash : To 3 ≡ Ends 0 = chain.1.1 in cc
