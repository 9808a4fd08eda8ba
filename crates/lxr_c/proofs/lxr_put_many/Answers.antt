use Rattle.std.proofs.Common.{◌∙◌, ap}
use Rattle.lxr_c_base.specs.Codes.{number_of}
use Rattle.lxr_c.proofs.lxr_put_many.Goals as goal

pub returns : goal.returns
returns c = (c.put_many.result, c.put_many.ensures, c.number.ensures ∙ ap number_of c.bulk_code.ensures)
