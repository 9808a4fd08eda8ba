-- The pause that an operation asks for.
use Rattle.std.specs.Prelude.{Bool, true, false, Option, Some, None}
use Rattle.lxr_graph.specs.declared.Op.TheVariants as op
use Rattle.lxr_large_model.specs.declared.LargeOp.{LargeOp}
use Rattle.lxr_large_model.specs.declared.LargeOp.TheVariants as large_op

-- whether an operation asks for a pause, and whether that collects
abbrev pub asked_by : LargeOp → Option Bool
asked_by (large_op.Small op.Pause) = Some false
asked_by (large_op.Small op.Collect) = Some true
asked_by (large_op.Small op.End) = Some true
asked_by _ = None
