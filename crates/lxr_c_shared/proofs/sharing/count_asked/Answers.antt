use Rattle.std.proofs.Common.{refl}
use Rattle.lxr_c_shared.proofs.sharing.count_asked.Goals as goal

pub returns-in-Some : goal.returns-in-Some
returns-in-Some c = (c.in-Some.ensures.some.0 refl, c.in-Some.ensures.most)
