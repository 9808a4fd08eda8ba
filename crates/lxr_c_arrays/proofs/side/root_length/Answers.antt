use Rattle.std.proofs.Common.{◌∙◌, ap, sym}
use Rattle.std.specs.Prelude.{option_map}
use Rattle.lxr_c_arrays.proofs.side.root_length.Goals as goal

pub returns-in-None-clause-told : goal.returns-in-None-clause-told
returns-in-None-clause-told c = λ h is. sym (ap (option_map (λ root. root.elements)) c.in-None.is) ∙ c.root_in.ensures.told h is

pub returns-in-Some-clause-told : goal.returns-in-Some-clause-told
returns-in-Some-clause-told c = λ h is. sym (ap (option_map (λ root. root.elements)) c.in-Some.is) ∙ c.root_in.ensures.told h is
