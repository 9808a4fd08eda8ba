use Rattle.std.proofs.Common.{◌∙◌, ap}
use Rattle.lxr_c_base.specs.Codes.{number_of}
use Rattle.lxr_c.proofs.arrays.lxr_array_load.Goals as goal

pub returns : goal.returns
returns c = (c.load.result, c.load.ensures, c.number.ensures ∙ ap number_of c.code_told.ensures)
