-- The references that are left are those from what isn't dead.
use Rattle.lxr_judge_report.proofs.last_pause.LastPause.new.Goals as goal

pub returns-clause-state : goal.returns-clause-state
returns-clause-state c = record {
  registers = c.in_ok-told.ensures.registers;
  dead = c.in_ok-told.ensures.dead;
  count = λ o h k. c.in_ok-told.ensures.counts o h k;
}
