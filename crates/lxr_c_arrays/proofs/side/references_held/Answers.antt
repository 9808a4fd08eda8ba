use Rattle.lxr_graph.specs.State.{register_at}
use Rattle.lxr_large_model.specs.History.{large_state}
use Rattle.lxr_c_arrays.proofs.SideLemmas.{none_told, references_told}
use Rattle.lxr_c_arrays.proofs.side.references_held.Goals as goal

pub returns-in-None : goal.returns-in-None
returns-in-None c = λ h is. none_told (large_state h) (register_at (large_state h).small 1 c.args.base) (c.in-None.ensures h is)

pub returns-in-Some : goal.returns-in-Some
returns-in-Some c = λ h is. references_told (large_state h) (register_at (large_state h).small 1 c.args.base) c.in-Some.shape c.in-Some.field-0-1 (c.in-Some.ensures h is)
