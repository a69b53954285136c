-- Each text is read in one way.
use Rattle.std.proofs.Common.{◌≡◌, ℕ, ◌+◌, inl, inr, List, [], ◌∷◌, ◌++◌, refl, sym, ◌∙◌, ap, subst, arith, true≢false}
use Rattle.std.specs.Prelude.{Result, Ok, Err, Some, None}
use Rattle.std.specs.declared.option.Option.{Option}
use Rattle.std.proofs.lemmas.Option.{same_Some}
use Rattle.trace_reader.specs.Laws.{TracesAreClear}
use Rattle.trace_reader.specs.declared.refusal.Refusal.{Refusal}
use Rattle.trace_reader.specs.declared.acts.Forms.{Forms}
use Rattle.trace_reader.specs.declared.acts.Act.{Act}
use Rattle.trace_reader.specs.Words.{words_of}
use Rattle.trace_reader.specs.Contexts.{Context}
use Rattle.trace_reader.specs.Acts.{Enters}
use Rattle.trace_reader.specs.Text.{Outcome, FirstRefused, ReadsLine, ReadsLines, behind, is_skipped, nothing_yet}
use Rattle.trace_reader.proofs.OneSlot.{ok_same, err_same, not_both}
use Rattle.trace_reader.proofs.OneLine.{words_one}
use Rattle.trace_reader.proofs.EnterLemmas.{enters_one}

line_one : (forms : Forms) (before : Context) (number : ℕ) (text : List ℕ) (one other : Result (Option Act) Refusal) → ReadsLine forms before number text one → ReadsLine forms before number text other → one ≡ other
line_one forms before number text one other h k = elim h [
  | inl p ↦ elim k [
    | inl q ↦ p.1 ∙ sym q.1
    | inr r ↦ elim r [ inl q ↦ absurd (omega (arith, p.0, q.0)) | inr r ↦ elim r [ inl q ↦ absurd (omega (arith, p.0, q.0)) | inr r ↦ elim r [ inl q ↦ absurd (omega (arith, p.0, q.0)) | inr q ↦ absurd (omega (arith, p.0, q.0)) ] ] ]
  ]
  | inr s ↦ elim s [
    | inl p ↦ elim k [
      | inl q ↦ absurd (omega (arith, p.0, q.0))
      | inr r ↦ elim r [ inl q ↦ p.2 ∙ sym q.2 | inr r ↦ elim r [ inl q ↦ absurd (omega (arith, p.1, q.1)) | inr r ↦ elim r [ inl q ↦ absurd (omega (arith, p.1, q.1)) | inr q ↦ absurd (omega (arith, p.1, q.1)) ] ] ]
    ]
    | inr s ↦ elim s [
      | inl p ↦ elim k [
        | inl q ↦ absurd (omega (arith, p.0, q.0))
        | inr r ↦ elim r [
          | inl q ↦ absurd (omega (arith, p.1, q.1))
          | inr r ↦ elim r [ inl q ↦ p.3 ∙ sym q.3 | inr r ↦ elim r [ inl q ↦ absurd (true≢false (sym p.2 ∙ q.2)) | inr q ↦ absurd (true≢false (sym p.2 ∙ q.2)) ] ]
        ]
      ]
      | inr s ↦ elim s [
        | inl p ↦ elim k [
          | inl q ↦ absurd (omega (arith, p.0, q.0))
          | inr r ↦ elim r [
            | inl q ↦ absurd (omega (arith, p.1, q.1))
            | inr r ↦ elim r [
              | inl q ↦ absurd (true≢false (sym q.2 ∙ p.2))
              | inr r ↦ elim r [
                | inl q ↦ let e : p.3 ≡ q.3 = err_same (words_one forms before (words_of text) (Err p.3) (Err q.3) p.4 q.4) in cc
                | inr q ↦ absurd (not_both (words_one forms before (words_of text) (Ok q.3) (Err p.3) q.4 p.4))
              ]
            ]
          ]
        ]
        | inr p ↦ elim k [
          | inl q ↦ absurd (omega (arith, p.0, q.0))
          | inr r ↦ elim r [
            | inl q ↦ absurd (omega (arith, p.1, q.1))
            | inr r ↦ elim r [
              | inl q ↦ absurd (true≢false (sym q.2 ∙ p.2))
              | inr r ↦ elim r [
                | inl q ↦ absurd (not_both (words_one forms before (words_of text) (Ok p.3) (Err q.3) p.4 q.4))
                | inr q ↦ let e : p.3 ≡ q.3 = ok_same (words_one forms before (words_of text) (Ok p.3) (Ok q.3) p.4 q.4) in cc
              ]
            ]
          ]
        ]
      ]
    ]
  ]
]

none_some : {A : Type 0} {a : A} → ◌≡◌ {A = Option A} None (Some a) → ⊥
none_some same = cc

lines_one : (forms : Forms) (before : Context) (number : ℕ) (texts : List (List ℕ)) (last : List ℕ) (one other : Outcome) → ReadsLines forms before number texts last one → ReadsLines forms before number texts last other → one ≡ other
lines_one forms before number [] last one other h k = elim h [
  | inl p ↦ elim k [ inl q ↦ p.1 ∙ sym q.1 | inr q ↦ absurd (q.0 p.0) ]
  | inr p ↦ elim k [ inl q ↦ absurd (p.0 q.0) | inr q ↦ p.1 ∙ sym q.1 ]
]
lines_one forms before number (text ∷ texts) last one other h k = elim h [
  | inl p ↦ elim k [
    | inl q ↦ let e : p.0 ≡ q.0 = err_same (line_one forms before number text (Err p.0) (Err q.0) p.1 q.1) in p.2 ∙ ap (λ (f : Refusal). FirstRefused number f) e ∙ sym q.2
    | inr r ↦ elim r [ inl q ↦ absurd (not_both (line_one forms before number text (Ok None) (Err p.0) q.0 p.1)) | inr q ↦ absurd (not_both (line_one forms before number text (Ok (Some q.0)) (Err p.0) q.3 p.1)) ]
  ]
  | inr s ↦ elim s [
    | inl p ↦ elim k [
      | inl q ↦ absurd (not_both (line_one forms before number text (Ok None) (Err q.0) p.0 q.1))
      | inr r ↦ elim r [
        | inl q ↦ lines_one forms before (number + 1) texts last one other p.1 q.1
        | inr q ↦ absurd (none_some (ok_same (line_one forms before number text (Ok None) (Ok (Some q.0)) p.0 q.3)))
      ]
    ]
    | inr p ↦ elim k [
      | inl q ↦ absurd (not_both (line_one forms before number text (Ok (Some p.0)) (Err q.0) p.3 q.1))
      | inr r ↦ elim r [
        | inl q ↦ absurd (none_some (ok_same (line_one forms before number text (Ok None) (Ok (Some p.0)) q.0 p.3)))
        | inr q ↦
            let e : p.0 ≡ q.0 = same_Some _ _ (ok_same (line_one forms before number text (Ok (Some p.0)) (Ok (Some q.0)) p.3 q.3)) in
            let same : p.1 ≡ q.1 = enters_one before (words_of text) q.0 p.1 q.1 (subst (λ (a : Act). Enters before (words_of text) a p.1) e p.4) q.4 in
            let rest : p.2 ≡ q.2 = lines_one forms q.1 (number + 1) texts last p.2 q.2 (subst (λ (b : Context). ReadsLines forms b (number + 1) texts last p.2) same p.5) q.5 in
            p.6 ∙ ap (λ (a : Act). behind (record { line = number; act = a } ∷ []) p.2) e ∙ ap (λ (r : Outcome). behind (record { line = number; act = q.0 } ∷ []) r) rest ∙ sym q.6
      ]
    ]
  ]
]

-- two lists with a last item that are equal have equal fronts and equal last items
cons_head : (a b : List ℕ) (xs ys : List (List ℕ)) → a ∷ xs ≡ b ∷ ys → a ≡ b
cons_head a b xs ys same = cc

cons_rest : (a b : List ℕ) (xs ys : List (List ℕ)) → a ∷ xs ≡ b ∷ ys → xs ≡ ys
cons_rest a b xs ys same = cc

no_front : (x : List ℕ) (xs : List (List ℕ)) (y : List ℕ) → [] ≡ xs ++ y ∷ [] → ⊥
no_front x [] y same = let h : ◌≡◌ {A = List (List ℕ)} [] (y ∷ []) = same in cc
no_front x (z ∷ xs) y same = let h : ◌≡◌ {A = List (List ℕ)} [] (z ∷ (xs ++ y ∷ [])) = same in cc

last_same : (xs ys : List (List ℕ)) (x y : List ℕ) → xs ++ x ∷ [] ≡ ys ++ y ∷ [] → (xs ≡ ys) × (x ≡ y)
last_same [] [] x y same = (refl, cons_head x y [] [] same)
last_same [] (b ∷ ys) x y same = absurd (no_front x ys y (cons_rest x b [] (ys ++ y ∷ []) same))
last_same (a ∷ xs) [] x y same = absurd (no_front y xs x (sym (cons_rest a y (xs ++ x ∷ []) [] same)))
last_same (a ∷ xs) (b ∷ ys) x y same =
    let rest = last_same xs ys x y (cons_rest a b (xs ++ x ∷ []) (ys ++ y ∷ []) same) in
    (ap (λ (t : List ℕ). t ∷ xs) (cons_head a b (xs ++ x ∷ []) (ys ++ y ∷ []) same) ∙ ap (λ (ts : List (List ℕ)). b ∷ ts) rest.0, rest.1)

pub traces_are_clear : TracesAreClear
traces_are_clear forms bytes one other h k =
    let parts = last_same h.texts k.texts h.last k.last (sym h.parts ∙ k.parts) in
    lines_one forms nothing_yet 1 k.texts k.last one other
    (subst (λ (ts : List (List ℕ)). ReadsLines forms nothing_yet 1 ts k.last one) parts.0 (subst (λ (l : List ℕ). ReadsLines forms nothing_yet 1 h.texts l one) parts.1 h.reads)) k.reads
