-- The lists of a thread of a script, as a reply is put into them.
use Rattle.std.specs.Prelude.{◌+◌, Option, Some, None, length, slice_index_or}
use Rattle.lxr_base.specs.Roomy.{pushed}
use Rattle.lxr_graph.specs.declared.Op.{Op}
use Rattle.lxr_graph.specs.declared.Op.TheVariants as op
use Rattle.lxr_graph.specs.declared.Reply.{Reply}
use Rattle.lxr_mutator.specs.declared.agenda.Kept.{Kept}

-- the lists with one more reply, if they are kept
abbrev pub kept_with : Option Kept → Reply → Option Kept
kept_with (Some k) r = Some (record k { replies = pushed k.replies r })
kept_with None r = None

-- the operation whose turn it is then, and where none are kept the one that it was
abbrev pub next_kept : Option Kept → Op → Op
next_kept (Some k) o = slice_index_or k.operations.items (length k.replies.items + 1) op.End
next_kept None o = o
