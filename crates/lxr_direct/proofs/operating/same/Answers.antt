use Rattle.lxr_direct.proofs.RegisterLemmas.{same_done}
use Rattle.lxr_direct.proofs.operating.same.Goals as goal

pub returns : goal.returns
returns c = λ g serial may. same_done c.args.space.now g c.args.thread serial c.args.left c.args.right c.held.result c.held-2.result may c.held.ensures c.held-2.ensures
