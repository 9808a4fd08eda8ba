use Rattle.lxr_image.proofs.RegisterLemmas.{hold_few}
use Rattle.lxr_image.proofs.registers.RegisterFile.hold_few.Goals as goal

pub returns : goal.returns
returns c = rw (← c.self.view_is) (hold_few c.self.inside c.args.threads c.self.invariant)
