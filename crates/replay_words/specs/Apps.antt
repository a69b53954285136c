-- The two commands as `clap` knows them.
use Rattle.std.specs.Prelude.{true, codes, Some}
use Rattle.clap.specs.Walk.{Rule, Text}
use Rattle.clap.specs.Simple.{App, new_app, new_rule, on_top, with_rule}
use Rattle.clap.specs.declared.builder.action.ArgAction.TheVariants.{SetTrue}

-- the flag `--moves`
abbrev pub moves_rule : Rule
moves_rule = record (new_rule (codes "moves")) { long = Some (codes "moves"); action = Some SetTrue }

-- a text that has to be there, in the place behind those before it
abbrev pub text_rule : Text → Rule
text_rule id = record (new_rule id) { required = true }

-- a command without help and version
abbrev pub bare_app : Text → App
bare_app name =
    on_top (λ s. record s { disable_help_flag = true; disable_version_flag = true }) (new_app name)

-- `replay`, with its one flag
abbrev pub replay_app : App
replay_app = with_rule (bare_app (codes "replay")) moves_rule

-- `gen`, with its three texts
abbrev pub gen_app : App
gen_app =
    with_rule (with_rule (with_rule (bare_app (codes "gen")) (text_rule (codes "seed"))) (text_rule (codes "threads")))
    (text_rule (codes "calls"))
