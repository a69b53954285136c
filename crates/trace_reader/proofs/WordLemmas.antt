-- Splitting a text into its parts.
use Rattle.std.proofs.Common.{◌≡◌, ◌≢◌, ℕ, suc, Bool, true, false, ◌==◌, List, [], ◌∷◌, ◌++◌, map, arith, refl, sym, ◌∙◌, ap, append_assoc}
use Rattle.std.specs.Borrow.{Bor}
use Rattle.std.proofs.lemmas.List.{map-append}
use Rattle.std.specs.Prelude.{if◌then◌else◌}
use Rattle.std.proofs.lemmas.Bool.Decides.{Decides-eqb, nat_tests}
use Rattle.trace_reader.specs.Words.{HasNo, bytes_in, split_on, with_first}

-- what does not stand in a text stands in no rest of it
pub HasNo-rest : (byte first : ℕ) (text : List ℕ) → HasNo byte (first ∷ text) → HasNo byte text
HasNo-rest byte first text none = λ k below. none (suc k) (omega arith)

eq_true : (n : ℕ) → (n == n) ≡ true
eq_true n = (Decides-eqb n n).1 refl

eq_false : (m n : ℕ) → m ≢ n → (m == n) ≡ false
eq_false m n differ = grind (arith, nat_tests)

-- a text is divided at its first separator
pub split_first : (separator : ℕ) (front rest : List ℕ) → HasNo separator front → split_on separator (front ++ separator ∷ rest) ≡ front ∷ split_on separator rest
split_first separator [] rest none = ap (λ (b : Bool). if b then [] ∷ split_on separator rest else with_first separator (split_on separator rest)) (eq_true separator)
split_first separator (byte ∷ front) rest none =
    let more : List (List ℕ) = split_on separator (front ++ separator ∷ rest) in
    ap (λ (b : Bool). if b then [] ∷ more else with_first byte more) (eq_false byte separator (none 0 (omega arith)))
    ∙ ap (λ (parts : List (List ℕ)). with_first byte parts) (split_first separator front rest (HasNo-rest separator byte front none))

-- and a text without one is one part
pub split_none : (separator : ℕ) (text : List ℕ) → HasNo separator text → split_on separator text ≡ text ∷ []
split_none separator [] none = refl
split_none separator (byte ∷ text) none =
    ap (λ (b : Bool). if b then [] ∷ split_on separator text else with_first byte (split_on separator text)) (eq_false byte separator (none 0 (omega arith)))
    ∙ ap (λ (parts : List (List ℕ)). with_first byte parts) (split_none separator text (HasNo-rest separator byte text none))

-- parts, of which one is the last
pub record HasLast (parts : List (List ℕ)) : Type 0 where
  pub texts : List (List ℕ)
  pub last : List ℕ
  pub are : parts ≡ texts ++ last ∷ []

first_longer : (byte : ℕ) (parts texts : List (List ℕ)) (last : List ℕ) → parts ≡ texts ++ last ∷ [] → HasLast (with_first byte parts)
first_longer byte parts [] last are = record { texts = []; last = byte ∷ last; are = ap (λ (ps : List (List ℕ)). with_first byte ps) are }
first_longer byte parts (text ∷ texts) last are = record { texts = (byte ∷ text) ∷ texts; last = last; are = ap (λ (ps : List (List ℕ)). with_first byte ps) are }

one_longer : (b : Bool) (byte : ℕ) (parts : List (List ℕ)) → HasLast parts → HasLast (if b then [] ∷ parts else with_first byte parts)
one_longer true byte parts some = record { texts = [] ∷ some.texts; last = some.last; are = ap (λ (ps : List (List ℕ)). [] ∷ ps) some.are }
one_longer false byte parts some = first_longer byte parts some.texts some.last some.are

-- each text has a last part
pub split_last : (separator : ℕ) (bytes : List ℕ) → HasLast (split_on separator bytes)
split_last separator [] = record { texts = []; last = []; are = refl }
split_last separator (byte ∷ bytes) = one_longer (byte == separator) byte (split_on separator bytes) (split_last separator bytes)

-- parts that were found: one more, and the last
pub parts_more : (parts after : List (Bor (List ℕ))) (part : Bor (List ℕ)) (separator : ℕ) (rest more text : List ℕ) → after ≡ parts ++ part ∷ [] → rest ≡ part.now ++ separator ∷ more → HasNo separator part.now →
    map bytes_in parts ++ split_on separator rest ≡ split_on separator text → map bytes_in after ++ split_on separator more ≡ split_on separator text
parts_more parts after part separator rest more text pushed is none so_far =
    ap (λ (ps : List (Bor (List ℕ))). map bytes_in ps ++ split_on separator more) pushed
    ∙ ap (λ (ws : List (List ℕ)). ws ++ split_on separator more) (map-append bytes_in parts (part ∷ []))
    ∙ append_assoc (map bytes_in parts) (part.now ∷ []) (split_on separator more)
    ∙ ap (λ (ws : List (List ℕ)). map bytes_in parts ++ ws) (sym (split_first separator part.now more none))
    ∙ ap (λ (t : List ℕ). map bytes_in parts ++ split_on separator t) (sym is)
    ∙ so_far

pub parts_last : (parts after : List (Bor (List ℕ))) (part : Bor (List ℕ)) (separator : ℕ) (text : List ℕ) → after ≡ parts ++ part ∷ [] → HasNo separator part.now →
    map bytes_in parts ++ split_on separator part.now ≡ split_on separator text → map bytes_in after ≡ split_on separator text
parts_last parts after part separator text pushed none so_far =
    ap (map bytes_in) pushed
    ∙ map-append bytes_in parts (part ∷ [])
    ∙ ap (λ (ws : List (List ℕ)). map bytes_in parts ++ ws) (sym (split_none separator part.now none))
    ∙ so_far
