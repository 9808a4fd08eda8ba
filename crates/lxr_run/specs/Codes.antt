-- The exit status of the program for each way in which a run ends.
use Rattle.std.specs.Prelude.{ℕ}
use Rattle.lxr_run.specs.declared.Status.{Status}
use Rattle.lxr_run.specs.declared.Status.TheVariants as status

-- 0 is success, and each refusal or failure has a number of its own
abbrev pub code_of : Status → ℕ
code_of status.Done = 0
code_of status.Words = 1
code_of status.Script = 2
code_of status.ReadFault = 3
code_of status.WriteFault = 4
code_of status.Memory = 5
