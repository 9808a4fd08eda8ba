use Rattle.std.proofs.Common.{◌∙◌, ap}
use Rattle.lxr_c_base.specs.Codes.{number_of}
use Rattle.lxr_c.proofs.passes.lxr_station_leave.Goals as goal

pub returns : goal.returns
returns c = (c.let_out.result, c.let_out.ensures.done, c.let_out.ensures.kept, c.number.ensures ∙ ap number_of c.sent_code.ensures)
