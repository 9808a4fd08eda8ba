-- The argument that is added is the one rule of the common table.
use Rattle.std.proofs.Common.{ap, ap₂, ◌≡◌, ◌∙◌, codes, [], true}
use Rattle.std.proofs.lemmas.Result.{IfOk-weaker}
use Rattle.clap.specs.Simple.{App, app_of, app_of_fields, with_rule}
use Rattle.lxr_words.specs.Arguments.{app_for}
use Rattle.lxr_words.proofs.arguments.common_arguments.Goals as goal

pub returns : goal.returns
returns c =
    let plain : App → App = λ a. record a { top = record a.top { no_binary_name = true; disable_help_flag = true } } in
    let start : app_of c.disable_help_flag.result ≡ app_for (codes "lxr") [] =
    ap app_of_fields c.disable_help_flag.ensures ∙ ap (λ f. app_of_fields (record f { disable_help_flag = true })) c.no_binary_name.ensures ∙ ap plain c.new.ensures.app in
    IfOk-weaker c.arg.result _ _ (λ r h. h.shape c.argument.ensures.local ∙ ap₂ with_rule start c.argument.ensures.rule) c.arg.ensures
