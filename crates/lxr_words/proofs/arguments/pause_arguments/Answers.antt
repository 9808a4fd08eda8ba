-- Each argument that is added is one rule more of the command, so the four make the table of `judge` but its flag.
use Rattle.std.proofs.Common.{ap₂, ◌∙◌}
use Rattle.std.proofs.lemmas.Result.{IfOk-weaker}
use Rattle.clap.specs.Simple.{with_rule}
use Rattle.lxr_words.proofs.arguments.pause_arguments.Goals as goal

pub returns : goal.returns
returns c =
    let one = c.in_ok-common_arguments.ensures in
    let two = c.in_ok-arg.ensures.shape c.argument.ensures.local ∙ ap₂ with_rule one c.argument.ensures.rule in
    let three = c.in_ok-arg-2.ensures.shape c.argument-2.ensures.local ∙ ap₂ with_rule two c.argument-2.ensures.rule in
    let four = c.in_ok-arg-3.ensures.shape c.argument-3.ensures.local ∙ ap₂ with_rule three c.argument-3.ensures.rule in
    IfOk-weaker c.arg-4.result _ _ (λ r h. h.shape c.argument-4.ensures.local ∙ ap₂ with_rule four c.argument-4.ensures.rule) c.arg-4.ensures
