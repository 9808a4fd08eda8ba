use Rattle.std.proofs.Common.{sym, subst}
use Rattle.lxr_c_heap.specs.Hosting.{IsServing}
use Rattle.lxr_c_heap.proofs.handle.Handle.take.Goals as goal

pub returns-clause-serving : goal.returns-clause-serving
returns-clause-serving c = subst IsServing (sym c.into_box.ensures) (c.replace-registers.result.serving _ c.into_parts.ensures)
