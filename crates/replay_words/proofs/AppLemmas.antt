-- The commands as they are built.
use Rattle.std.proofs.Common.{◌≡◌, true, ap, ◌∙◌}
use Rattle.clap.specs.Walk.{Text}
use Rattle.clap.specs.Simple.{App, app_of, app_of_fields, new_app, on_top}
use Rattle.clap.specs.declared.builder.command.Command.TheViews.{out-Command}
use Rattle.clap.specs.declared.builder.command.Command.{Command}
use Rattle.replay_words.specs.Apps.{bare_app}

-- a command whose help and version were switched off
pub bare_is : (made helpless bare : Command) (name : Text) → app_of made ≡ new_app name
    → out-Command helpless ≡ record (out-Command made) { disable_help_flag = true }
    → out-Command bare ≡ record (out-Command helpless) { disable_version_flag = true } → app_of bare ≡ bare_app name
bare_is made helpless bare name named help version =
    ap app_of_fields version
    ∙ ap (λ f. app_of_fields (record f { disable_version_flag = true })) help
    ∙ ap (λ (a : App). on_top (λ s. record s { disable_help_flag = true; disable_version_flag = true }) a) named
