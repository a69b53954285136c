-- A slab's count against its lists.
use Rattle.std.proofs.Common.{◌≡◌, ℕ, ◌+◌, List, length, arith}
use Rattle.word_laws.specs.Memory.{put}
use Rattle.object_laws.specs.Parts.{CountsFit}
use Rattle.slab_laws.proofs.CallerLemmas.{both}

pub counts-set : (handed counts : ℕ → ℕ) (privates : ℕ → List ℕ) (e n : ℕ) (us : List ℕ) → n + length us ≡ handed e
    → CountsFit handed counts privates → CountsFit handed (put counts e n) (put privates e us)
counts-set handed counts privates e n us here fit =
    both (λ c q xs. q + length xs ≡ handed c) counts privates e n us (λ c ne. fit c) here

pub counts-more : (handed counts : ℕ → ℕ) (privates : ℕ → List ℕ) (e : ℕ) → CountsFit handed counts privates
    → CountsFit (put handed e (handed e + 1)) (put counts e (counts e + 1)) privates
counts-more handed counts privates e fit =
    both (λ c q n. q + length (privates c) ≡ n) counts handed e (counts e + 1) (handed e + 1) (λ c ne. fit c)
    (let f = fit e in omega arith)
