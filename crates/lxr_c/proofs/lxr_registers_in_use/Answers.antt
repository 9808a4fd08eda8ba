use Rattle.std.specs.Prelude.{Ok, Err}
use Rattle.lxr_c.proofs.lxr_registers_in_use.Goals as goal

pub returns-in-Err : goal.returns-in-Err
returns-in-Err c = (Err c.in-Err.code, c.in-Err.ensures, c.number.ensures)

pub returns-in-Ok : goal.returns-in-Ok
returns-in-Ok c = (Ok tt, c.in-Ok.ensures, c.number-in-Ok.ensures)
