use Rattle.std.proofs.Common.{◌∙◌, ap}
use Rattle.lxr_c_base.specs.Codes.{number_of}
use Rattle.lxr_c.proofs.lxr_get_many.Goals as goal

pub returns : goal.returns
returns c = (c.get_many.result, c.get_many.ensures.reads, c.get_many.ensures.kept, c.number.ensures ∙ ap number_of c.bulk_code.ensures)
