-- Mutators that tell no names: what they reply where others tell the name of what they have loaded or swapped out.
use Rattle.std.specs.Prelude.{Bool, true, false, Option, Some, List, map}
use Rattle.lxr_layout.specs.declared.Name.{Name}
use Rattle.lxr_graph.specs.declared.Reply.{Reply}
use Rattle.lxr_graph.specs.declared.Reply.TheVariants as reply
use Rattle.lxr_mutator.specs.declared.phases.MutEnd.{MutEnd}
use Rattle.lxr_mutator.specs.declared.phases.MutEnd.TheVariants as ends
use Rattle.lxr_mutator.specs.declared.phases.MutatorPhase.{MutatorPhase}
use Rattle.lxr_mutator.specs.declared.phases.MutatorPhase.TheVariants as phase
use Rattle.lxr_mutator.specs.Mutating.{Mutating}

-- a name that no object has, since a thread's first object has serial 1: it stands for one that isn't looked up
abbrev pub unnamed : Name
unnamed = record { thread = 1; serial = 0 }

-- a reply without the name that it tells: that something was found is told all the same
abbrev pub blank : Reply → Reply
blank (reply.Loaded (Some n)) = reply.Loaded (Some unnamed)
blank (reply.Swapped (Some n)) = reply.Swapped (Some unnamed)
blank r = r

-- a reply as it is told, with names or without
abbrev pub told_as : Bool → Reply → Reply
told_as true r = r
told_as false r = blank r

-- replies as they are told
abbrev pub all_told_as : Bool → List Reply → List Reply
all_told_as true rs = rs
all_told_as false rs = map blank rs

-- how a unit ended, without the name that its reply tells
abbrev pub blank_end : Option MutEnd → Option MutEnd
blank_end (Some (ends.OpDone r)) = Some (ends.OpDone (blank r))
blank_end e = e

-- it is to look up the name of what it has loaded or swapped out
abbrev pub looks_up : MutatorPhase → Bool
looks_up (phase.Referent place) = true
looks_up p = false

-- a mutator that tells names, as if it told none
abbrev pub without_names : Mutating → Mutating
without_names m = record m { names = false; replies = record m.replies { items = map blank m.replies.items }; end = blank_end m.end }
