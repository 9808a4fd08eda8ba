use Rattle.std.proofs.Common.{ap, ◌∙◌}
use Rattle.lxr_heap.specs.declared.heap.Heap.{Heap}
use Rattle.lxr_large_run.proofs.CallLemmas.{listed_pauses}
use Rattle.lxr_large_run.proofs.playing.pause_and_list.Goals as goal

pub returns-clause-pauses : goal.returns-clause-pauses
returns-clause-pauses c = λ h is.
    let paused = c.pause.ensures.pauses h is in
    listed_pauses c.args.heap.now c.pause.new.self c.tell_names.new.self h c.args.collect paused (c.tell_names.ensures _ paused.holds)

pub returns-clause-names : goal.returns-clause-names
returns-clause-names c = λ h is. (c.tell_names.ensures _ (c.pause.ensures.pauses h is).holds).told

pub returns-clause-untold : goal.returns-clause-untold
returns-clause-untold c = λ h is.
    let listed = c.tell_names.ensures _ (c.pause.ensures.pauses h is).holds in
    ap (λ (w : Heap). w.space.report.told.items) listed.heap ∙ c.pause.ensures.untold
