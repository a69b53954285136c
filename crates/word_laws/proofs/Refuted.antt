-- What the wrong definitions come to.
use Rattle.std.proofs.Common.{◌≡◌, ℕ, List, length, replicate, refl, ap, arith}
use Rattle.std.proofs.lemmas.List.{length-replicate}
use Rattle.pool_words.specs.declared.words.Word.{Word}
use Rattle.pool_words.specs.Words.{words_of, bin_locks}
use Rattle.word_laws.specs.Memory.{Mem}
use Rattle.word_laws.specs.Wrong.{least_key, StoresAnywhereAreWrong, EarlyLeftsAreWrong}

differ : ◌≡◌ {A = ℕ} 0 9 → ⊥
differ e = absurd (omega arith)

pub stores_anywhere_are_wrong : StoresAnywhereAreWrong
stores_anywhere_are_wrong stores =
    let row : List ℕ = replicate (words_of least_key) 0 in
    let long : length row ≡ words_of least_key = length-replicate {A = ℕ} (words_of least_key) 0 in
    differ (ap (λ (m : Mem). m bin_locks 512)
    (stores row (Word.BinLock 512) 9 long))

pub early_lefts_are_wrong : EarlyLeftsAreWrong
early_lefts_are_wrong early = early 0 1 refl
