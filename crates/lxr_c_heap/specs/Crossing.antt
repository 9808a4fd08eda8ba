-- That a handle may go to another thread.
use denote.Param.Send.{IsSend}
use Rattle.lxr_c_heap.specs.contracts.handle.Handle as Handle

-- What a handle owns, its heap with it, names no thread. So another thread may use it, where the host orders their calls.
abbrev pub HandlesCross : Type 0
HandlesCross = IsSend Handle.the_row
