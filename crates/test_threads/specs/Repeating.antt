-- A repeater as a machine.
use Rattle.std.specs.Prelude.{◌-◌, ◌==◌, true, false, Option, Some, None, if◌then◌else◌}
use Rattle.lxr_actor.specs.declared.Action.{Action}
use Rattle.lxr_actor.specs.Machine.{Machine}
use Rattle.test_threads.specs.declared.repeater.Repeater.{Repeater}

-- the same step on word 0, as long as there is something to do
abbrev pub repeats : Repeater → Option Action
repeats r = if r.todo == 0 then None else Some (record { kind = r.kind; word = 0; operand = r.operand })

abbrev pub repeating : Machine Repeater
repeating = record {
  action = repeats;
  after = λ r old. record r { todo = r.todo - 1; found = old };
  rests = λ r. true;
  left = λ r. 1;
  offered = λ r place. (r, false);
  spared = λ r. (r, None);
  ordered = λ r o. (r, false);
}
