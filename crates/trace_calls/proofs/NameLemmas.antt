-- What names stand for, and what calls ask of them.
use Rattle.std.proofs.Common.{◌≡◌, ℕ, Some, None, refl, ap}
use Rattle.std.specs.Prelude.{if◌then◌else◌, ◌==◌}
use Rattle.std.specs.declared.option.Option.{Option}
use Rattle.pool_types.specs.declared.values.Place.{Place}
use Rattle.pool_types.specs.declared.values.Answer.{Answer}
use Rattle.pool_types.specs.declared.values.Request.TheVariants as request
use Rattle.trace_reader.specs.declared.acts.What.{What}
use Rattle.trace_reader.specs.declared.acts.What.TheVariants as what
use Rattle.trace_reader.specs.declared.acts.TraceCall.{TraceCall}
use Rattle.trace_reader.specs.declared.acts.TraceCall.TheVariants as call
use Rattle.trace_reader.specs.Acts.{bound_by}
use Rattle.trace_calls.specs.Names.{Names, no_names, place_of, place_got, request_of, names_with, names_after}

-- names that stand for the same ask the same
place_same : (names other : Names) → ((name : ℕ) → names name ≡ other name) → (what : What) → place_of names what ≡ place_of other what
place_same names other same what.Null = refl
place_same names other same (what.Name name) = same name
place_same names other same (what.Place place) = refl

pub request_same : (names other : Names) → ((name : ℕ) → names name ≡ other name) → (call : TraceCall) → request_of names call ≡ request_of other call
request_same names other same (call.Malloc name size) = refl
request_same names other same (call.Aligned name size alignment) = refl
request_same names other same (call.Realloc name what size) = ap (λ (place : Option Place). request.Realloc place size) (place_same names other same what)
request_same names other same (call.AlignedRealloc name what size alignment) = ap (λ (place : Option Place). request.AlignedRealloc place size alignment) (place_same names other same what)
request_same names other same (call.Free what) = ap (λ (place : Option Place). request.Free place) (place_same names other same what)
request_same names other same (call.Msize what) = ap (λ (place : Option Place). request.Msize place) (place_same names other same what)
request_same names other same (call.Identify what) = ap (λ (place : Option Place). request.Identify place) (place_same names other same what)
request_same names other same call.Exit = refl

-- and still do after a call
with_same : (names other : Names) → ((name : ℕ) → names name ≡ other name) → (bound : Option ℕ) (answer : Answer) (asked : ℕ) → names_with names bound answer asked ≡ names_with other bound answer asked
with_same names other same None answer asked = same asked
with_same names other same (Some name) answer asked = ap (λ (place : Option Place). if asked == name then place_got answer else place) (same asked)

pub after_same : (names other : Names) → ((name : ℕ) → names name ≡ other name) → (call : TraceCall) (answer : Answer) (asked : ℕ) → names_after names call answer asked ≡ names_after other call answer asked
after_same names other same call answer asked = with_same names other same (bound_by call) answer asked
