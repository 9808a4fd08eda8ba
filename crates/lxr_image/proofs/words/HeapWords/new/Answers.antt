use Rattle.std.proofs.Common.{◌∙◌, ap}
use Rattle.lxr_image.specs.Settled.{of_blocks}
use Rattle.lxr_image.specs.Tables.{tables_in}
use Rattle.lxr_image.proofs.OpenLemmas.{tables_cleared}
use Rattle.lxr_image.proofs.WriteLemmas.{zeros_are_clear}
use Rattle.lxr_image.proofs.words.HeapWords.new.Goals as goal

pub invariant_of-result : goal.invariant_of-result
invariant_of-result c =
    let l = of_blocks c.in_ok-new-2.field-0.blocks in
    c.in_ok-new-2.ensures.knows _ (zeros_are_clear l _ c.in_ok-new.field-0 (ap (tables_in l) c.in_ok-new.ensures ∙ tables_cleared l _))
