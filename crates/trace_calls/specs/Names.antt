-- What the names of a trace stand for while its calls are run, and what these ask of a pool.
use Rattle.std.specs.Prelude.{ℕ, ◌==◌, if◌then◌else◌, List, [], ◌∷◌, Some, None}
use Rattle.std.specs.declared.option.Option.{Option}
use Rattle.pool_types.specs.declared.values.Place.{Place}
use Rattle.pool_types.specs.declared.values.Request.{Request}
use Rattle.pool_types.specs.declared.values.Request.TheVariants as request
use Rattle.pool_types.specs.declared.values.Answer.{Answer}
use Rattle.pool_types.specs.declared.values.Answer.TheVariants.{Got}
use Rattle.trace_reader.specs.declared.acts.What.{What}
use Rattle.trace_reader.specs.declared.acts.What.TheVariants as what
use Rattle.trace_reader.specs.declared.acts.TraceCall.{TraceCall}
use Rattle.trace_reader.specs.declared.acts.TraceCall.TheVariants as call
use Rattle.trace_reader.specs.declared.acts.Act.{Act}
use Rattle.trace_reader.specs.declared.acts.Act.TheVariants as act
use Rattle.trace_reader.specs.declared.acts.TraceLine.{TraceLine}
use Rattle.trace_reader.specs.Acts.{bound_by}

-- what each name stands for, by its number: a place, or null
abbrev pub Names : Type 0
Names = ℕ → Option Place

-- before the first call each stands for null
abbrev pub no_names : Names
no_names = λ name. None

-- the same, but the name stands for this
abbrev pub with_name : Names → ℕ → Option Place → Names
with_name names name place = λ other. if other == name then place else names other

-- the place that a call is asked of, or null
abbrev pub place_of : Names → What → Option Place
place_of names what.Null = None
place_of names (what.Name name) = names name
place_of names (what.Place place) = Some place

-- what a call asks of the pool
abbrev pub request_of : Names → TraceCall → Request
request_of names (call.Malloc name size) = request.Malloc size
request_of names (call.Aligned name size alignment) = request.Aligned size alignment
request_of names (call.Realloc name what size) = request.Realloc (place_of names what) size
request_of names (call.AlignedRealloc name what size alignment) =
    request.AlignedRealloc (place_of names what) size alignment
request_of names (call.Free what) = request.Free (place_of names what)
request_of names (call.Msize what) = request.Msize (place_of names what)
request_of names (call.Identify what) = request.Identify (place_of names what)
request_of names call.Exit = request.Exit

-- the place that a call got, or null
abbrev pub place_got : Answer → Option Place
place_got (Got place usable grant) = Some place
place_got other = None

-- the same names, and the one that is bound, which stands for what its call got
abbrev pub names_with : Names → Option ℕ → Answer → Names
names_with names None answer = names
names_with names (Some name) answer = with_name names name (place_got answer)

-- what the names stand for after a call that was answered so
abbrev pub names_after : Names → TraceCall → Answer → Names
names_after names call answer = names_with names (bound_by call) answer

-- the call that a line makes whole
abbrev pub call_at : Act → Option TraceCall
call_at (act.Call thread pool call) = Some call
call_at other = None

-- what this call asks, if there is one, and then what the later ones ask, where these are the answers
abbrev pub asks : (Names → List Answer → List Request) → Names → Option TraceCall → List Answer → List Request
asks later names None answers = later names answers
asks later names (Some call) [] = request_of names call ∷ later names []
asks later names (Some call) (answer ∷ answers) = request_of names call ∷ later (names_after names call answer) answers

-- What the calls of the lines ask, where the names stand for this before them, and each call takes the next of the
-- answers. A line that makes no call takes none.
abbrev pub requests_from : Names → List TraceLine → List Answer → List Request
requests_from names [] answers = []
requests_from names (line ∷ lines) answers =
    asks (λ later given. requests_from later lines given) names (call_at line.act) answers
