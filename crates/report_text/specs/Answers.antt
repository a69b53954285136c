-- The texts of answers.
use Rattle.std.specs.Prelude.{ℕ, List, ◌++◌, codes}
use Rattle.std.specs.Fmt.{decimal}
use Rattle.pool_types.specs.declared.values.Answer.{Answer}
use Rattle.pool_types.specs.declared.values.Answer.TheVariants.{Got, Null, Freed, False, Size, Pool, NoPool, NotHeld, Exited}
use Rattle.pool_types.specs.declared.values.NullCause.{NullCause}
use Rattle.pool_types.specs.declared.values.NullCause.TheVariants.{BadRequest, FreedByRealloc, NumbersSpent, TooLarge, RawFailed, SpanFull, RegionsFull, NoFit}
use Rattle.pool_types.specs.declared.values.Looks.{Looks}
use Rattle.pool_types.specs.declared.values.Found.{Found}
use Rattle.pool_types.specs.declared.values.Found.TheVariants.{NoPlace, NoGrant, Other}
use Rattle.report_text.specs.Pieces.{object_text, grant_text}

-- a scan of bins in which no block fitted
unfoldable pub looks_text : Looks → List ℕ
looks_text looks = codes "no-fit "
    ++ (decimal looks.first ++ (codes ".." ++ (decimal looks.last ++ (codes " " ++ decimal looks.seen))))

-- why a call answered null
abbrev pub cause_text : NullCause → List ℕ
cause_text BadRequest = codes "bad-request"
cause_text FreedByRealloc = codes "freed"
cause_text NumbersSpent = codes "numbers-spent"
cause_text (TooLarge granules) = codes "too-large " ++ decimal granules
cause_text RawFailed = codes "raw-failed"
cause_text (SpanFull asked greatest) = codes "span-full " ++ (decimal asked ++ (codes " " ++ decimal greatest))
cause_text (RegionsFull out next) = codes "regions-full " ++ (decimal out ++ (codes " " ++ decimal next))
cause_text (NoFit looks) = looks_text looks

-- what a call found in the place of an object that is held
abbrev pub found_text : List (List ℕ) → Found → List ℕ
found_text names NoPlace = codes "place"
found_text names NoGrant = codes "none"
found_text names (Other grant) = grant_text names grant

-- an answer
abbrev pub answer_text : List (List ℕ) → Answer → List ℕ
answer_text names (Got place usable grant) = codes "got " ++ object_text names place usable grant
answer_text names (Null cause) = codes "null " ++ cause_text cause
answer_text names Freed = codes "freed"
answer_text names False = codes "false"
answer_text names (Size size) = codes "size " ++ decimal size
answer_text names (Pool pool) = codes "pool P" ++ decimal pool
answer_text names NoPool = codes "no-pool"
answer_text names (NotHeld found) = codes "not-held " ++ found_text names found
answer_text names Exited = codes "exited"
