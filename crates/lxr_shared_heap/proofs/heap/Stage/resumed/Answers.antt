use Rattle.std.proofs.Common.{refl, subst, sym}
use Rattle.std.specs.Prelude.{None}
use Rattle.lxr_image.specs.declared.space.Space.{Space}
use Rattle.lxr_invariant.specs.AbstractState.{AbstractState}
use Rattle.lxr_rounds_invariant.specs.LoopInvariant.{IsBetweenEpochs}
use Rattle.lxr_shared_heap.specs.Heaps.{IsBetween, StandsFor}
use Rattle.lxr_shared_heap.specs.Settings.{run_of}
use Rattle.lxr_shared_heap.proofs.HeapLemmas.{has_opened, some_begins}
use Rattle.lxr_shared_heap.proofs.heap.Stage.resumed.Goals as goal

pub open-requires : goal.open-requires
open-requires c =
    let (settings, to_list, script, h, of) = c.requires in
    let stands = subst (StandsFor (run_of settings script) h) c.in-Between.is of.stands in
    let amid = subst (λ (s : Space). (g : AbstractState) × IsBetweenEpochs (run_of settings script) s None c.in-Between.actors.items h g) (sym c.into_space.ensures) stands.0 in
    some_begins (run_of settings script) h c.into_space.result c.in-Between.actors.items amid

pub returns-in-Ok : goal.returns-in-Ok
returns-in-Ok c = λ settings to_list. (
  subst IsBetween (sym c.in-Between.is) tt,
  tt,
  record {
    settings = refl;
    lists = refl;
    holds = λ script h of. (
        let stands = subst (StandsFor (run_of settings script) h) c.in-Between.is of.stands in
        let amid = subst (λ (s : Space). (g : AbstractState) × IsBetweenEpochs (run_of settings script) s None c.in-Between.actors.items h g) (sym c.into_space.ensures) stands.0 in
        record {
          settings = of.settings;
          threads = of.threads;
          stands = has_opened (run_of settings script) h c.into_space.result c.in-Between.actors.items c.in-Ok.live.epoch amid stands.1 stands.2 c.in-Ok.ensures.runs c.in-Ok.ensures.actors;
          told = tt;
        });
  },
)
