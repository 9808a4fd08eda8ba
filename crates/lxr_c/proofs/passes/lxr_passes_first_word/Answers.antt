use Rattle.lxr_c_base.specs.declared.codes.Code.TheVariants as code
use Rattle.lxr_c.proofs.passes.lxr_passes_first_word.Goals as goal

pub returns-in-Ok : goal.returns-in-Ok
returns-in-Ok c = (code.Done, c.in-Ok.ensures, c.number.ensures)

pub returns-in-Err : goal.returns-in-Err
returns-in-Err c = (c.in-Err.code, c.in-Err.ensures, c.number-in-Err.ensures)
