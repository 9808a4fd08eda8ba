use Rattle.std.proofs.Common.{◌∙◌, ap}
use Rattle.lxr_c_base.specs.Codes.{number_of}
use Rattle.lxr_c.proofs.lxr_store_many.Goals as goal

pub returns : goal.returns
returns c = (c.store_many.result, c.store_many.ensures, c.number.ensures ∙ ap number_of c.bulk_code.ensures)
