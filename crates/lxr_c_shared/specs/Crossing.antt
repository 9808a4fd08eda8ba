-- That what a program has of a heap that threads share may go to another thread.
use denote.Param.Send.{IsSend}
use Rattle.lxr_c_shared.specs.contracts.holder.Holder as Holder

-- What a holder owns, its heap or its station with it, names no thread. So another thread may use it, where the host orders their calls.
abbrev pub HoldersCross : Type 0
HoldersCross = IsSend Holder.the_row
