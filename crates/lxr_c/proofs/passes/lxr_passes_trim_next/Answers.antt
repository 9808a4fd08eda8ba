use Rattle.std.proofs.Common.{refl}
use Rattle.std.specs.Prelude.{Ok, Err}
use Rattle.lxr_c.proofs.passes.lxr_passes_trim_next.Goals as goal

pub returns-in-Ok : goal.returns-in-Ok
returns-in-Ok c = (Ok c.in-Ok.found, c.in-Ok.ensures, c.number.ensures, refl)

pub returns-in-Err : goal.returns-in-Err
returns-in-Err c = (Err c.in-Err.code, c.in-Err.ensures, c.number-in-Err.ensures, refl)
