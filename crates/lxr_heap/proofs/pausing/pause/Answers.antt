use Rattle.std.proofs.Common.{◌≡◌, ◌*◌, ◌+◌, ◌≤◌, sym, ap, subst, ◌∙◌, arith, length}
use Rattle.lxr_layout.specs.declared.TheConstants.{REGISTERS}
use Rattle.lxr_image.specs.declared.space.Space.{Space}
use Rattle.lxr_image.specs.Registers.{Registers}
use Rattle.lxr_graph.specs.History.{report_of}
use Rattle.lxr_graph.specs.Listing.{NameList}
use Rattle.lxr_large_bodies.specs.Bodies.{left_by}
use Rattle.lxr_one_pause.specs.Pausing.{CanPause, Pauses}
use Rattle.lxr_heap.specs.Holding.{abstract_of}
use Rattle.lxr_heap.specs.Pausing.{PausesHeap}
use Rattle.lxr_heap.proofs.HeapLemmas.{one_thread, standing}
use Rattle.lxr_heap.proofs.PausingLemmas.{PausesAnywhere, can_pause, fits, numbers_behind, once, pauses_heap, recounted, rooms, with_dead}
use Rattle.lxr_heap.proofs.pausing.pause.Goals as goal

pub recount-requires : goal.recount-requires
recount-requires c =
    let (h, is) = c.requires.holds in
    let one = one_thread c.args.heap.now h is in
    let many = is.stands.0.safepoint.holds.as_many.0 in
    omega (arith, one, many)

pub one_pause-requires-clause-space : goal.one_pause-requires-clause-space
one_pause-requires-clause-space c =
    let (h, is) = c.requires.holds in
    let x = c.args.heap.now in
    (abstract_of x h is.at, subst (λ s. CanPause s (abstract_of x h is.at)) (sym (ap (λ (r : Registers). record x.space { registers = r }) c.recount.ensures)) (can_pause x h is c.requires.number))

pub report_gone-requires-clause-once : goal.report_gone-requires-clause-once
report_gone-requires-clause-once c =
    let (h, is) = c.requires.holds in
    let x = c.args.heap.now in
    let pauses = recounted x.space c.one_pause.new.space c.recount.new.self c.asked-ask.result c.untraced_pace-pace.result c.recount.ensures c.one_pause.ensures.pauses in
    let (at', p) = pauses (abstract_of x h is.at) (can_pause x h is c.requires.number) in
    once x h is c.one_pause.new.space c.args.collect c.untraced_pace-pace.result c.untraced_pace-pace.ensures.apart at'
    (subst (λ a. Pauses x.space c.one_pause.new.space (abstract_of x h is.at) at' a c.untraced_pace-pace.result) c.asked-ask.ensures p)

pub report_gone-requires-clause-room : goal.report_gone-requires-clause-room
report_gone-requires-clause-room c =
    let (h, is) = c.requires.holds in
    let x = c.args.heap.now in
    let pauses = recounted x.space c.one_pause.new.space c.recount.new.self c.asked-ask.result c.untraced_pace-pace.result c.recount.ensures c.one_pause.ensures.pauses in
    let (at', p) = pauses (abstract_of x h is.at) (can_pause x h is c.requires.number) in
    fits x h is c.one_pause.new.space c.args.collect c.untraced_pace-pace.result c.untraced_pace-pace.ensures.apart at'
    (subst (λ a. Pauses x.space c.one_pause.new.space (abstract_of x h is.at) at' a c.untraced_pace-pace.result) c.asked-ask.ensures p)

pub report_gone-requires-clause-rooms : goal.report_gone-requires-clause-rooms
report_gone-requires-clause-rooms c =
    let (h, is) = c.requires.holds in
    let x = c.args.heap.now in
    let pauses = recounted x.space c.one_pause.new.space c.recount.new.self c.asked-ask.result c.untraced_pace-pace.result c.recount.ensures c.one_pause.ensures.pauses in
    let (at', p) = pauses (abstract_of x h is.at) (can_pause x h is c.requires.number) in
    rooms x h is c.one_pause.new.space c.args.collect c.untraced_pace-pace.result c.untraced_pace-pace.ensures.apart at'
    (subst (λ a. Pauses x.space c.one_pause.new.space (abstract_of x h is.at) at' a c.untraced_pace-pace.result) c.asked-ask.ensures p)

pub left_after-heap-requires-clause-few : goal.left_after-heap-requires-clause-few
left_after-heap-requires-clause-few c =
    let (h, is) = c.requires.holds in
    let x = c.args.heap.now in
    let pauses = recounted x.space c.one_pause.new.space c.recount.new.self c.asked-ask.result c.untraced_pace-pace.result c.recount.ensures c.one_pause.ensures.pauses in
    let (at', p) = pauses (abstract_of x h is.at) (can_pause x h is c.requires.number) in
    let counted = numbers_behind x h is c.one_pause.new.space c.args.collect c.untraced_pace-pace.result c.untraced_pace-pace.ensures.apart at'
    (subst (λ a. Pauses x.space c.one_pause.new.space (abstract_of x h is.at) at' a c.untraced_pace-pace.result) c.asked-ask.ensures p) in
    let promoted = counted.promoted in
    let few = is.counts.few in
    let made = is.counts.young in
    omega (arith, promoted, few, made)

pub left_after-heap-requires-clause-gone : goal.left_after-heap-requires-clause-gone
left_after-heap-requires-clause-gone c =
    let (h, is) = c.requires.holds in
    let x = c.args.heap.now in
    let pauses = recounted x.space c.one_pause.new.space c.recount.new.self c.asked-ask.result c.untraced_pace-pace.result c.recount.ensures c.one_pause.ensures.pauses in
    let (at', p) = pauses (abstract_of x h is.at) (can_pause x h is c.requires.number) in
    subst (λ (dead : NameList). length dead.items + length c.one_pause.new.space.report.swept.items ≤ x.left + length c.one_pause.new.space.report.promoted.items) (sym c.report_gone.ensures.dead)
    (numbers_behind x h is c.one_pause.new.space c.args.collect c.untraced_pace-pace.result c.untraced_pace-pace.ensures.apart at'
    (subst (λ a. Pauses x.space c.one_pause.new.space (abstract_of x h is.at) at' a c.untraced_pace-pace.result) c.asked-ask.ensures p)).gone

pub returns-clause-pauses : goal.returns-clause-pauses
returns-clause-pauses c = λ h is.
    let x = c.args.heap.now in
    let one = c.one_pause.new.space in
    let left = c.left_after-heap.result in
    let pauses = recounted x.space one c.recount.new.self c.asked-ask.result c.untraced_pace-pace.result c.recount.ensures c.one_pause.ensures.pauses in
    let numbers = subst (λ (dead : NameList). left + (length dead.items + length one.report.swept.items) ≡ x.left + length one.report.promoted.items) c.report_gone.ensures.dead c.left_after-heap.ensures in
    let bodies : c.after_pause.new.self ≡ record x.bodies { bodies = left_by (report_of (with_dead one x.gone.items).report) x.bodies.bodies } =
    c.after_pause.ensures ∙ ap (λ (dead : NameList). record x.bodies { bodies = left_by (report_of (record one.report { dead = dead })) x.bodies.bodies }) c.report_gone.ensures.dead in
    subst (λ z. PausesHeap x z h c.args.collect)
    (λ i. record x {
      space = record one { report = record one.report { dead = sym c.report_gone.ensures.dead i } };
      bodies = sym bodies i;
      gone = c.report_gone.new.gone;
      made_before = x.made;
      left = left;
      fresh = c.args.collect;
    })
    (pauses_heap x h is one left c.args.collect c.untraced_pace-pace.result c.report_gone.new.gone c.report_gone.ensures.gone.0 c.report_gone.ensures.gone.1 c.untraced_pace-pace.ensures.apart
    (subst (λ a. PausesAnywhere x h one a c.untraced_pace-pace.result) c.asked-ask.ensures
    (λ at stands. pauses (abstract_of x h at) (can_pause x h (standing x h is at stands) c.requires.number))) numbers)
