use Rattle.std.proofs.Common.{◌∙◌, ap}
use Rattle.lxr_c_base.specs.Codes.{number_of}
use Rattle.lxr_c.proofs.arrays.lxr_array_new.Goals as goal

pub returns : goal.returns
returns c = (c.new.result, c.new.ensures, c.number.ensures ∙ ap number_of c.code_told.ensures)
