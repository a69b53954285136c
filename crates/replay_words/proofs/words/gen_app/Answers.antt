use Rattle.std.proofs.Common.{◌≡◌, ◌∙◌, ap₂, codes, rules}
use Rattle.std.proofs.lemmas.Result.{IfOk-weaker}
use Rattle.clap.specs.Walk.{Rule, rule_of}
use Rattle.clap.specs.Simple.{App, app_of, with_rule}
use Rattle.replay_words.specs.Apps.{bare_app, text_rule}
use Rattle.replay_words.proofs.AppLemmas.{bare_is}
use Rattle.replay_words.proofs.words.gen_app.Goals as goal

pub returns : goal.returns
returns c =
    let seed_is : rule_of c.required-seed.result ≡ text_rule (codes "seed") = search rules in
    let threads_is : rule_of c.required-threads.result ≡ text_rule (codes "threads") = search rules in
    let calls_is : rule_of c.required-calls.result ≡ text_rule (codes "calls") = search rules in
    let bare : app_of c.disable_version_flag.result ≡ bare_app (codes "gen") =
    bare_is c.new-4.result c.disable_help_flag.result c.disable_version_flag.result (codes "gen") c.new-4.ensures.app c.disable_help_flag.ensures c.disable_version_flag.ensures in
    IfOk-weaker c.arg-3.result _ _ (λ command adds. adds.shape (search rules) ∙ ap₂ with_rule
    (c.in_ok-arg-2.ensures.shape (search rules) ∙ ap₂ with_rule (c.in_ok-arg.ensures.shape (search rules) ∙ ap₂ with_rule bare seed_is) threads_is) calls_is)
    c.arg-3.ensures
