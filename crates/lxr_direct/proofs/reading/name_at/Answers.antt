use Rattle.std.proofs.Common.{sym, subst}
use Rattle.lxr_direct.specs.Operating.{Tells}
use Rattle.lxr_direct.proofs.reading.name_at.Goals as goal

pub returns-in-Some : goal.returns-in-Some
returns-in-Some c = λ g v is. sym (subst (Tells g c.args.place v) c.in-Some.is (c.object_at.ensures g v is)).is

pub returns-in-None : goal.returns-in-None
returns-in-None c = λ g v is. sym (subst (Tells g c.args.place v) c.in-None.is (c.object_at.ensures g v is))
