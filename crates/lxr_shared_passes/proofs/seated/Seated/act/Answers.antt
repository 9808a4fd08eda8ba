use Rattle.std.proofs.Common.{◌<◌, subst, sym}
use Rattle.lxr_shared_passes.specs.Rule.{seen_in}
use Rattle.lxr_shared_passes.proofs.Turns.{word-fits}
use Rattle.lxr_shared_passes.proofs.seated.Seated.act.Goals as goal

pub perform-requires-clause-word : goal.perform-requires-clause-word
perform-requires-clause-word g c =
    let s = c.args.self.now in
    let a = c.requires.0 in
    let seated = c.requires.1.1 in
    subst (λ n. c.args.action.word < n) (sym seated.words)
    (word-fits g.A.Actor.machine s.seat.me.0.core (seen_in s.seat.me.0) s.number a c.args.action seated.fits seated.reached c.requires.2)
