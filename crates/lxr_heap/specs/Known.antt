-- An object of a heap that was looked up.
use Rattle.std.specs.Prelude.{ℕ, Bool, true, false, Option, option_map}
use Rattle.lxr_layout.specs.declared.Shape.{Shape}
use Rattle.lxr_graph.specs.declared.Reply.TheVariants as reply
use Rattle.lxr_graph.specs.State.{State, register_at}
use Rattle.lxr_direct.specs.Operating.{named_shape}
use Rattle.lxr_large_model.specs.declared.Acted.{Acted}
use Rattle.lxr_large_model.specs.declared.Acted.TheVariants as acted
use Rattle.lxr_large_model.specs.declared.LargeReply.TheVariants as large_reply

-- the shape of the object that a register holds; none where it is nil
abbrev pub shape_at : State → ℕ → Option Shape
shape_at s register = option_map (λ p. p.1) (named_shape s (register_at s 1 register))

-- what comes of a store to a reference that is there: it is done, or it finds the log full
abbrev pub acted_if : Bool → Acted
acted_if true = acted.Replied (large_reply.Small reply.Stored)
acted_if false = acted.Log
