-- The laws of traces that were read.
use Rattle.std.proofs.Common.{◌≡◌, ℕ, ◌+◌, ◌≤◌, inl, inr, List, [], ◌∷◌, length, refl, sym, ◌∙◌, ap, subst, arith}
use Rattle.std.specs.Prelude.{Result, Ok, Err, Some, None}
use Rattle.std.specs.declared.option.Option.{Option}
use Rattle.pool_types.specs.Limits.{most_lines}
use Rattle.trace_reader.specs.Laws.{LinesAreNumbered}
use Rattle.trace_reader.specs.declared.refusal.Refusal.{Refusal}
use Rattle.arrayvec.specs.ArrayVec.{ArrayVec}
use Rattle.trace_reader.specs.declared.acts.Forms.{Forms}
use Rattle.trace_reader.specs.declared.acts.PoolOption.{PoolOption}
use Rattle.trace_reader.specs.declared.acts.Act.{Act}
use Rattle.trace_reader.specs.declared.acts.TraceLine.{TraceLine}
use Rattle.trace_reader.specs.Words.{words_of}
use Rattle.trace_reader.specs.Contexts.{Context}
use Rattle.trace_reader.specs.Acts.{Enters, ReadsWords}
use Rattle.trace_reader.specs.Text.{Outcome, AllRead, FirstRefused, ReadsLine, ReadsLines, behind, nothing_yet}
use Rattle.trace_reader.specs.Served.{AreNumbered}
use Rattle.trace_reader.proofs.TextLemmas.{line_fits}

-- a line that was read and does something, among those that are not skipped
pub record IsNext (forms : Forms) (before : Context) (least : ℕ) (line : TraceLine) (words : List (List ℕ)) : Type 0 where
  pub low : least ≤ line.line
  pub high : line.line ≤ most_lines
  pub read : ReadsWords forms before words (Ok line.act)

-- the lines that do something, one after another, up to what stands behind them
unfoldable pub Follow : Forms → Context → ℕ → List TraceLine → Context → Type 0
Follow forms before least [] last = last ≡ before
Follow forms before least (line ∷ lines) last = (words : List (List ℕ)) × (next : Context) × IsNext forms before least line words × Enters before words line.act next × Follow forms next (line.line + 1) lines last

-- they may follow an earlier line too
earlier : (forms : Forms) (before : Context) (least : ℕ) (lines : List TraceLine) (last : Context) → Follow forms before (least + 1) lines last → Follow forms before least lines last
unfolding Follow
earlier forms before least [] last follow = follow
earlier forms before least (line ∷ lines) last follow = (follow.0, follow.1, record { low = omega (arith, follow.2.low); high = follow.2.high; read = follow.2.read }, follow.3, follow.4)

-- and their end has these names and pools
pub record FollowTo (forms : Forms) (before : Context) (least : ℕ) (lines : List TraceLine) (names : List (List ℕ)) (pools : List (ArrayVec PoolOption)) : Type 0 where
  pub last : Context
  pub follow : Follow forms before least lines last
  pub named : names ≡ last.names
  pub made : pools ≡ last.pools

-- the words of a line that does something
words_read : (forms : Forms) (before : Context) (number : ℕ) (text : List ℕ) (deed : Act) → ReadsLine forms before number text (Ok (Some deed)) → ReadsWords forms before (words_of text) (Ok deed)
words_read forms before number text deed read = elim read [
  | inl long ↦ let h : ◌≡◌ {A = Result (Option Act) Refusal} (Ok (Some deed)) (Err _) = long.1 in absurd (cc)
  | inr rest ↦ elim rest [
    | inl many ↦ let h : ◌≡◌ {A = Result (Option Act) Refusal} (Ok (Some deed)) (Err _) = many.2 in absurd (cc)
    | inr rest ↦ elim rest [
      | inl skipped ↦ let h : ◌≡◌ {A = Result (Option Act) Refusal} (Ok (Some deed)) (Ok None) = skipped.3 in absurd (cc)
      | inr rest ↦ elim rest [
        | inl refused ↦ let h : ◌≡◌ {A = Result (Option Act) Refusal} (Ok (Some deed)) (Err refused.3) = refused.5 in absurd (cc)
        | inr went ↦ let h : ◌≡◌ {A = Result (Option Act) Refusal} (Ok (Some deed)) (Ok (Some went.3)) = went.5 in let same : went.3 ≡ deed = cc in subst (λ (d : Act). ReadsWords forms before (words_of text) (Ok d)) same went.4
      ]
    ]
  ]
]

-- lines behind a first one
record IsBehind (line : TraceLine) (lines : List TraceLine) (names : List (List ℕ)) (pools : List (ArrayVec PoolOption)) (rest : Outcome) : Type 0 where
  more : List TraceLine
  is : rest ≡ AllRead more names pools
  whole : lines ≡ line ∷ more

whole_behind : (line : TraceLine) (lines : List TraceLine) (names : List (List ℕ)) (pools : List (ArrayVec PoolOption)) (rest : Outcome) → AllRead lines names pools ≡ behind (line ∷ []) rest →
    IsBehind line lines names pools rest
whole_behind line lines names pools (AllRead more others made) same =
    let h : AllRead lines names pools ≡ AllRead (line ∷ more) others made = same in
    let named : names ≡ others = cc in
    let all : pools ≡ made = cc in
    record { more = more; is = ap (λ (ns : List (List ℕ)). AllRead more ns made) (sym named) ∙ ap (λ (ps : List (ArrayVec PoolOption)). AllRead more names ps) (sym all); whole = cc }
whole_behind line lines names pools (FirstRefused number refusal) same = let h : AllRead lines names pools ≡ FirstRefused number refusal = same in absurd (cc)

none_behind : (before : Context) (lines : List TraceLine) (names : List (List ℕ)) (pools : List (ArrayVec PoolOption)) → AllRead lines names pools ≡ AllRead [] before.names before.pools →
    (lines ≡ []) × (names ≡ before.names) × (pools ≡ before.pools)
none_behind before lines names pools same = (cc, cc, cc)

one_in_front : (forms : Forms) (before next : Context) (number : ℕ) (text : List ℕ) (deed : Act) (lines more : List TraceLine) (names : List (List ℕ)) (pools : List (ArrayVec PoolOption)) →
    ReadsLine forms before number text (Ok (Some deed)) → Enters before (words_of text) deed next → lines ≡ record { line = number; act = deed } ∷ more → FollowTo forms next (number + 1) more names pools →
    FollowTo forms before number lines names pools
unfolding Follow
one_in_front forms before next number text deed lines more names pools read enters whole to = record {
  last = to.last;
  follow = subst (λ (ls : List TraceLine). Follow forms before number ls to.last) (sym whole)
      (words_of text, next, record { low = omega arith; high = line_fits forms before number text (Some deed) read; read = words_read forms before number text deed read }, enters, to.follow);
  named = to.named;
  made = to.made;
}

-- lines that were read follow each other
pub lines_follow : (forms : Forms) (before : Context) (number : ℕ) (texts : List (List ℕ)) (last : List ℕ) (lines : List TraceLine) (names : List (List ℕ)) (pools : List (ArrayVec PoolOption)) →
    ReadsLines forms before number texts last (AllRead lines names pools) → FollowTo forms before number lines names pools
unfolding Follow
lines_follow forms before number [] last lines names pools read = elim read [
  | inl ended ↦
      let none = none_behind before lines names pools ended.1 in
      record { last = before; follow = subst (λ (ls : List TraceLine). Follow forms before number ls before) (sym none.0) refl; named = none.1; made = none.2 }
  | inr cut ↦ let h : AllRead lines names pools ≡ FirstRefused number _ = cut.1 in absurd (cc)
]
lines_follow forms before number (text ∷ texts) last lines names pools read = elim read [
  | inl refused ↦ let h : AllRead lines names pools ≡ FirstRefused number refused.0 = refused.2 in absurd (cc)
  | inr rest ↦ elim rest [
    | inl skipped ↦
        let to = lines_follow forms before (number + 1) texts last lines names pools skipped.1 in
        record { last = to.last; follow = earlier forms before number lines to.last to.follow; named = to.named; made = to.made }
    | inr went ↦
        let line : TraceLine = record { line = number; act = went.0 } in
        let is = whole_behind line lines names pools went.2 went.6 in
        one_in_front forms before went.1 number text went.0 lines is.more names pools went.3 went.4 is.whole
        (lines_follow forms went.1 (number + 1) texts last is.more names pools (subst (λ (o : Outcome). ReadsLines forms went.1 (number + 1) texts last o) is.is went.5))
  ]
]

numbered : (forms : Forms) (before : Context) (least : ℕ) (lines : List TraceLine) (last : Context) → Follow forms before least lines last → AreNumbered least lines
unfolding Follow
numbered forms before least [] last follow = tt
numbered forms before least (line ∷ lines) last follow = (follow.2.low, follow.2.high, numbered forms follow.1 (line.line + 1) lines last follow.4)

few : (least : ℕ) (lines : List TraceLine) → least ≤ 65537 → AreNumbered least lines → length lines + least ≤ 65537
few least [] low are = omega (arith, low)
few least (line ∷ lines) low are = let rest = few (line.line + 1) lines (omega (arith, are.1)) are.2 in omega (arith, are.0, rest)

pub lines_are_numbered : LinesAreNumbered
lines_are_numbered forms bytes trace read =
    let to = lines_follow forms nothing_yet 1 read.texts read.last trace.lines.items _ _ read.reads in
    let are = numbered forms nothing_yet 1 trace.lines.items to.last to.follow in
    (are, omega (arith, few 1 trace.lines.items (omega arith) are))
