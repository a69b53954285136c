-- The text of a summary.
use Rattle.std.specs.Prelude.{ℕ, List, ◌++◌, codes}
use Rattle.std.specs.Fmt.{decimal}
use Rattle.trace_runs.specs.declared.ends.Summary.{Summary}

-- what the calls came to
abbrev pub calls_text : Summary → List ℕ
calls_text summary =
    codes "gen calls " ++ (decimal summary.calls ++ (codes " got " ++ (decimal summary.got
    ++ (codes " null " ++ (decimal summary.null ++ (codes " freed " ++ decimal summary.freed))))))

-- what is held at the end
abbrev pub held_text : Summary → List ℕ
held_text summary =
    codes " leaks " ++ (decimal summary.leaks ++ (codes " bytes " ++ (decimal summary.bytes ++ codes "\n")))

-- the one line of a summary
unfoldable pub summary_text : Summary → List ℕ
summary_text summary = calls_text summary ++ held_text summary
