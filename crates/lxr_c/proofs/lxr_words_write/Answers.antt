use Rattle.std.proofs.Common.{◌∙◌, ap}
use Rattle.lxr_c_base.specs.Codes.{number_of}
use Rattle.lxr_c.proofs.lxr_words_write.Goals as goal

pub returns : goal.returns
returns c = (c.write.result, c.write.ensures, c.number.ensures ∙ ap number_of c.bulk_code.ensures)
