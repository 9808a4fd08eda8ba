-- What a heap tells of what a register holds.
use Rattle.std.specs.Prelude.{ℕ, ◌/◌, ⊤, Option, Some, None, List, length}
use Rattle.lxr_layout.specs.declared.Name.{Name}
use Rattle.lxr_layout.specs.declared.Shape.{Shape}
use Rattle.lxr_layout.specs.declared.TheConstants.{WORDS_IN_BLOCK}
use Rattle.lxr_graph.specs.declared.Op.{Op}
use Rattle.lxr_graph.specs.declared.Op.TheVariants as op
use Rattle.lxr_graph.specs.State.{object_at}
use Rattle.lxr_direct.specs.Operating.{shape_found}
use Rattle.lxr_large_model.specs.declared.LargeOp.{LargeOp}
use Rattle.lxr_large_model.specs.declared.LargeOp.TheVariants as large_op
use Rattle.lxr_large_model.specs.State.{LargeState, body_of}

-- an operation on small objects that only looks: a data word is read, or two registers are compared
abbrev pub IsSmallLook : Op → Type 0
IsSmallLook (op.Get base index) = ⊤
IsSmallLook (op.Same left right) = ⊤
IsSmallLook _ = ⊥

-- an operation that only looks: one of these, or a read of a word of a body
abbrev pub IsLook : LargeOp → Type 0
IsLook (large_op.Small o) = IsSmallLook o
IsLook (large_op.BigGet base index) = ⊤
IsLook _ = ⊥

-- how many blocks a body has, where there is one
abbrev pub body_blocks : Option (List ℕ) → ℕ
body_blocks None = 0
body_blocks (Some words) = length words / WORDS_IN_BLOCK

-- the shape of what is held, and how many blocks its body has, 0 where it has none; nothing of nil
abbrev pub shape_held : LargeState → Option Name → Option (Shape × ℕ)
shape_held s None = None
shape_held s (Some n) = Some (shape_found (object_at s.small.graph n), body_blocks (body_of s.large n))
