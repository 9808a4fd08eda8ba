use Rattle.std.proofs.Common.{subst, sym}
use Rattle.lxr_c_heap.specs.Hosting.{IsServing}
use Rattle.lxr_c_heap.proofs.calls.boxed.Goals as goal

pub returns-in-Ok-new-clause-serving : goal.returns-in-Ok-new-clause-serving
returns-in-Ok-new-clause-serving c = subst IsServing (sym c.in-Ok-new.ensures.ok) c.in-Ok.ensures.serving
