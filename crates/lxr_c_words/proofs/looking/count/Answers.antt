use Rattle.std.proofs.Common.{◌∙◌, ap, Some, length}
use Rattle.std.specs.Prelude.{option_map}
use Rattle.lxr_large_model.specs.History.{large_state}
use Rattle.lxr_c_words.specs.Words.{length_in}
use Rattle.lxr_c_words.proofs.FormLemmas.{form_length}
use Rattle.lxr_c_words.proofs.looking.count.Goals as goal

pub returns : goal.returns
returns c = λ h is. ap Some c.length.ensures ∙ ap (option_map length_in) (c.in_ok-form.ensures.form h is) ∙ form_length (large_state h) c.args.base
