use Rattle.std.proofs.Common.{◌≡◌, take}
use Rattle.std.specs.Prelude.{not, ◌&&◌}
use Rattle.lxr_layout.specs.declared.Name.{Name}
use Rattle.lxr_graph.specs.Names.{has}
use Rattle.lxr_judge_sets.specs.ByName.{value_at}
use Rattle.lxr_judge_sets.proofs.dying.mortals.Given as goal

abbrev pub invariant-loop-name : goal.invariant-loop-name
invariant-loop-name l = (o : Name) → value_at l.mortal o ≡ (has (take l.name-index l.us) o && not (has l.stuck o))
