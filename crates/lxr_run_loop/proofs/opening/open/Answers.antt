use Rattle.std.proofs.Common.{◌/◌, ap}
use Rattle.lxr_layout.specs.declared.limits.Limits.{Limits}
use Rattle.lxr_text_script.specs.declared.TheConstants.{SCRIPT_REGISTERS}
use Rattle.lxr_run_history.specs.Left.{run_limits}
use Rattle.lxr_placing.proofs.OpenedListLemmas.{opened_is_listed}
use Rattle.lxr_placing.proofs.OpeningLemmas.{opened_is_quiescent}
use Rattle.lxr_run_loop.proofs.OpeningLemmas.{opened_run}
use Rattle.lxr_run_loop.proofs.opening.open.Goals as goal

pub returns-clause-opened : goal.returns-clause-opened
returns-clause-opened c =
    let limits : Limits = record { blocks = c.args.options.blocks; threads = c.len.result; log = c.args.options.log; remember = c.args.options.remember; registers = SCRIPT_REGISTERS; evacuate = c.args.options.blocks / 8 } in
    opened_run c.args.options c.args.script.items limits c.open.new.self c.in_ok-actors.actors.items (ap (run_limits c.args.options) c.len.ensures) c.requires.options c.requires.script c.in_ok-actors.ensures
    c.in_ok-open.ensures.opened (opened_is_quiescent c.open.new.self limits c.in_ok-open.ensures.space c.in_ok-open.ensures.opened c.in_ok-open.ensures.image)
    (opened_is_listed c.open.new.self limits c.in_ok-open.ensures.space c.in_ok-open.ensures.opened)
