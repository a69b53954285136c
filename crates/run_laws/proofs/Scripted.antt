-- A callback with scripts answers once.
use Rattle.std.proofs.Common.{◌≡◌, ℕ, Bool, sym, ◌∙◌, ap}
use Rattle.std.specs.Prelude.{if◌then◌else◌, Option}
use Rattle.pool_types.specs.Causes.{counted_up}
use Rattle.pool_types.specs.Script.{Script, Gets, Puts}
use Rattle.pool_types.specs.declared.values.Region.{Region}
use Rattle.machine.proofs.Scripts.{scripts_answer_once}

-- two scripts of the same parts
same_script : (one other : Script) → one.gets ≡ other.gets → one.puts ≡ other.puts → one.out ≡ other.out →
    one.faults ≡ other.faults → one ≡ other
same_script one other gets puts out faults =
    ap (λ x. record { gets = x; puts = one.puts; out = one.out; faults = one.faults }) gets
    ∙ ap (λ x. record { gets = other.gets; puts = x; out = one.out; faults = one.faults }) puts
    ∙ ap (λ x. record { gets = other.gets; puts = other.puts; out = x; faults = one.faults }) out
    ∙ ap (λ x. record { gets = other.gets; puts = other.puts; out = other.out; faults = x }) faults

pub gets_once : (old : Script) (bytes : ℕ) (one other : Option Region) (new new' : Script) → Gets old bytes one new →
    Gets old bytes other new' → (one ≡ other) × (new ≡ new')
gets_once = scripts_answer_once.gets

-- a put that leaves the same regions out
pub puts_once : (old : Script) (region : Region) (one other : Bool) (new new' : Script) → new.out ≡ new'.out →
    Puts old region one new → Puts old region other new' → (one ≡ other) × (new ≡ new')
puts_once old region one other new new' outs put put' =
    let same : one ≡ other = put.answered ∙ sym put'.answered in (
      same,
      same_script new new' (put.gets ∙ sym put'.gets) (put.puts ∙ sym put'.puts) outs
          (put.faults ∙ ap (λ (b : Bool). if b then old.faults else counted_up old.faults) same ∙ sym put'.faults),
    )
