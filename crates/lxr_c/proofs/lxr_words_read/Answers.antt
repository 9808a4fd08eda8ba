use Rattle.std.proofs.Common.{◌∙◌, ap}
use Rattle.lxr_c_base.specs.Codes.{number_of}
use Rattle.lxr_c.proofs.lxr_words_read.Goals as goal

pub returns : goal.returns
returns c = (c.read.result, c.read.ensures.reads, c.read.ensures.kept, c.number.ensures ∙ ap number_of c.bulk_code.ensures)
