use Rattle.lxr_c_heap.proofs.PacingLemmas.{sliced_host}
use Rattle.lxr_c_heap.proofs.host.HostHeap.take_turn.Goals as goal

pub returns-clause-turns : goal.returns-clause-turns
returns-clause-turns c = λ h is.
    let works = c.work_if_due.ensures.works h is in
    let (k, pauses) = c.pause_if_due.ensures.pauses h (sliced_host c.args.self.now c.work_if_due.new.self h is works) in
    record { worked = c.work_if_due.new.self; works = works; history = k; pauses = pauses }
