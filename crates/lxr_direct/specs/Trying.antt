-- What an operation on a field comes to where it may find no such field.
use Rattle.std.specs.Prelude.{ℕ, ⊤}
use Rattle.lxr_graph.specs.declared.Op.{Op}
use Rattle.lxr_graph.specs.declared.Reply.{Reply}
use Rattle.lxr_graph.specs.declared.Reply.TheVariants as reply
use Rattle.lxr_image.specs.declared.space.Space.{Space}
use Rattle.lxr_invariant.specs.AbstractState.{AbstractState}
use Rattle.lxr_direct.specs.Operating.{IsDone}

-- a reply that there is no such field: the base is nil, or its object has none of that index
abbrev pub IsMissing : Reply → Type 0
IsMissing reply.Bad = ⊤
IsMissing reply.Range = ⊤
IsMissing r = ⊥

-- an operation finds no such field, and nothing changes
abbrev pub Misses : Space → AbstractState → ℕ → Op → Type 0
Misses s g t o = (r : Reply) × IsMissing r × IsDone s s g t o r
