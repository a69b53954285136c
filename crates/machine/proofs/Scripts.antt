-- A callback with scripts answers once.
use Rattle.std.proofs.Common.{◌≡◌, ℕ, ◌+◌, ◌*◌, ◌<◌, Bool, true, false, inl, inr, List, [], ◌∷◌, ◌++◌, length, take, drop, Some, None, refl, sym, ◌∙◌, ap, arith}
use Rattle.std.specs.Prelude.{slice_get, option_to_list, is_some, if◌then◌else◌}
use Rattle.std.specs.declared.option.Option.{Option}
use Rattle.std.proofs.lemmas.Bool.{cases_lt}
use Rattle.std.proofs.Math.Seq.{take-append_seam, drop-append_seam}
use Rattle.pool_types.specs.Causes.{counted_up}
use Rattle.pool_types.specs.Regions.{overlaps_any, Loses}
use Rattle.pool_types.specs.Script.{Script, IsLeastFree, IsGiven, IsAnswer}
use Rattle.pool_types.specs.declared.values.Region.{Region}
use Rattle.machine.specs.Callback.{IsOutOnce, ScriptsAnswerOnce}

-- two least bases are one
one_base : (out : List Region) (bytes base base' : ℕ) → IsLeastFree out bytes base → IsLeastFree out bytes base' → base ≡ base'
one_base out bytes base base' one other = elim (cases_lt one.steps other.steps) [
  | inl less ↦ absurd (not_before one.steps other.steps base base' one.multiple one.free other.least less)
  | inr least ↦ elim (cases_lt other.steps one.steps) [
    | inl less ↦ absurd (not_before other.steps one.steps base' base other.multiple other.free one.least less)
    | inr most ↦ (let m = one.multiple in let m' = other.multiple in omega (arith, m, m', least, most))
  ]
]
  where
    not_before : (steps steps' base base' : ℕ) → base ≡ 1048576 * (steps + 1) → overlaps_any out (record { base = base; bytes = bytes }) ≡ false →
        ((k : ℕ) → k < steps' → overlaps_any out (record { base = 1048576 * (k + 1); bytes = bytes }) ≡ true) → steps < steps' → ⊥
    not_before steps steps' base base' multiple free least less =
        let clash : true ≡ false = sym (least steps less) ∙ ap (λ b. overlaps_any out (record { base = b; bytes = bytes })) (sym multiple) ∙ free in cc

-- the script, or the rule, gives one region
one_given : (script : Option (Option Region)) (out : List Region) (bytes : ℕ) (one other : Region) → IsGiven script out bytes one → IsGiven script out bytes other → one ≡ other
one_given None out bytes one other given given' =
    same (one_base out bytes one.base other.base given.least given'.least) (given.exact ∙ sym given'.exact)
  where
    same : one.base ≡ other.base → one.bytes ≡ other.bytes → one ≡ other
    same base size = ap (λ b. record { base = b; bytes = one.bytes }) base ∙ ap (λ n. record { base = other.base; bytes = n }) size
one_given (Some None) out bytes one other given given' = absurd given
one_given (Some (Some entry)) out bytes one other given given' = given.0 ∙ sym given'.0

one_answer : (script : Option (Option Region)) (out : List Region) (bytes : ℕ) (one other : Option Region) → IsAnswer script out bytes one → IsAnswer script out bytes other → one ≡ other
one_answer script out bytes (Some one) (Some other) is is' = ap Some (one_given script out bytes one other is.1 is'.1)
one_answer script out bytes (Some one) None is is' = absurd (is' is.0 one is.1)
one_answer script out bytes None (Some other) is is' = absurd (is is'.0 other is'.1)
one_answer script out bytes None None is is' = refl

-- two scripts of the same parts
same_script : (one other : Script) → one.gets ≡ other.gets → one.puts ≡ other.puts → one.out ≡ other.out → one.faults ≡ other.faults → one ≡ other
same_script one other gets puts out faults =
    ap (λ x. record { gets = x; puts = one.puts; out = one.out; faults = one.faults }) gets
    ∙ ap (λ x. record { gets = other.gets; puts = x; out = one.out; faults = one.faults }) puts
    ∙ ap (λ x. record { gets = other.gets; puts = other.puts; out = x; faults = one.faults }) out
    ∙ ap (λ x. record { gets = other.gets; puts = other.puts; out = other.out; faults = x }) faults

-- where a member stands
at_seam : {X : Type 0} → (front : List X) (x : X) (back : List X) → slice_get (front ++ x ∷ back) (length front) ≡ Some x
at_seam [] x back = refl
at_seam (y ∷ front) x back = at_seam front x back

-- what is left without a region that stands in the list once
one_left : (old : List Region) (region : Region) (new new' : List Region) → IsOutOnce region old → Loses old region new → Loses old region new' → new ≡ new'
one_left old region new new' once one other =
    one.after ∙ ap (λ front. front ++ one.back) fronts ∙ ap (λ back. other.front ++ back) backs ∙ sym other.after
  where
    places : length one.front ≡ length other.front
    places = once (length one.front) (length other.front)
        (ap (λ xs. slice_get xs (length one.front)) one.before ∙ at_seam one.front region one.back)
        (ap (λ xs. slice_get xs (length other.front)) other.before ∙ at_seam other.front region other.back)

    fronts : one.front ≡ other.front
    fronts = sym (take-append_seam one.front (region ∷ one.back)) ∙ ap (λ xs. take (length one.front) xs) (sym one.before) ∙ ap (λ n. take n old) places
        ∙ ap (λ xs. take (length other.front) xs) other.before ∙ take-append_seam other.front (region ∷ other.back)

    behind : region ∷ one.back ≡ region ∷ other.back
    behind = sym (drop-append_seam one.front (region ∷ one.back)) ∙ ap (λ xs. drop (length one.front) xs) (sym one.before) ∙ ap (λ n. drop n old) places
        ∙ ap (λ xs. drop (length other.front) xs) other.before ∙ drop-append_seam other.front (region ∷ other.back)

    backs : one.back ≡ other.back
    backs = ap (λ xs. drop 1 xs) behind

-- a callback with scripts answers once
pub scripts_answer_once : ScriptsAnswerOnce
scripts_answer_once = record {
  gets = λ old bytes one other new new' got got'.
      let same = one_answer (slice_get old.gets 0) old.out bytes one other got.answered got'.answered in (
        same,
        same_script new new' (got.gets ∙ sym got'.gets) (got.puts ∙ sym got'.puts) (got.out ∙ ap (λ o. old.out ++ option_to_list o) same ∙ sym got'.out)
            (got.faults ∙ ap (λ (o : Option Region). if is_some o then old.faults else counted_up old.faults) same ∙ sym got'.faults),
      );
  puts = λ old region one other new new' once put put'.
      let same : one ≡ other = put.answered ∙ sym put'.answered in (
        same,
        same_script new new' (put.gets ∙ sym put'.gets) (put.puts ∙ sym put'.puts) (one_left old.out region new.out new'.out once put.out put'.out)
            (put.faults ∙ ap (λ (b : Bool). if b then old.faults else counted_up old.faults) same ∙ sym put'.faults),
      );
}
