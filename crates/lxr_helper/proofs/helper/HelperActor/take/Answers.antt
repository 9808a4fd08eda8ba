use Rattle.std.proofs.Common.{◌≡◌, ◌<◌, subst, sym}
use Rattle.lxr_actor.specs.Machine.{to_go}
use Rattle.lxr_helper.specs.Helpers.{IsHelper, after, helper_machine, left}
use Rattle.lxr_helper.proofs.HelperLemmas.{nearer, stay_so}
use Rattle.lxr_helper.proofs.helper.HelperActor.take.Goals as goal

pub invariant_of-self : goal.invariant_of-self
invariant_of-self g c =
    let w = g.P.Phase.work in
    let h = c.args.self.now in
    let is : c.see.new.helper ≡ after w h c.args.old = cc in
    subst (IsHelper w) (sym is) ((stay_so w g.met.P.Phase.lawful).after h c.args.old c.begin.ensures.sound)

pub returns-clause-nearer : goal.returns-clause-nearer
returns-clause-nearer g c =
    let w = g.P.Phase.work in
    let h = c.args.self.now in
    let is : c.see.new.helper ≡ after w h c.args.old = cc in
    subst (λ x. to_go (helper_machine w) x < left w h) (sym is) (nearer w g.met.P.Phase.lawful h c.args.old c.begin.ensures.sound)
