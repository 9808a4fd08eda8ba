use Rattle.std.proofs.Common.{subst, refl}
use Rattle.lxr_direct.specs.Operating.{IsBase}
use Rattle.lxr_direct.proofs.KnownLemmas.{found_known}
use Rattle.lxr_direct.proofs.known.look_up.Goals as goal

pub returns-in-Some-clause-base : goal.returns-in-Some-clause-base
returns-in-Some-clause-base c = λ g serial may. subst (IsBase g c.args.thread c.args.register) c.in-Some.is (c.base_of.ensures.holds g serial may)

pub returns-in-None-clause-base : goal.returns-in-None-clause-base
returns-in-None-clause-base c = λ g serial may. subst (IsBase g c.args.thread c.args.register) c.in-None.is (c.base_of.ensures.holds g serial may)

pub returns-in-Some-clause-known : goal.returns-in-Some-clause-known
returns-in-Some-clause-known c =
    let (g, serial, may) = c.requires.state in
    (found_known c.args.space.now g c.args.thread serial may c.args.register c.in-Some.base c.ranges.register.fits (subst (IsBase g c.args.thread c.args.register) c.in-Some.is (c.base_of.ensures.holds g serial may)), refl)
