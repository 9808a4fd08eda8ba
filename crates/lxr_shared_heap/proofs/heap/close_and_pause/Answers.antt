use Rattle.std.proofs.Common.{subst, sym}
use Rattle.lxr_rounds_invariant.specs.Laws.{beginning_of}
use Rattle.lxr_shared_heap.specs.declared.heap.Stage.TheVariants as stage
use Rattle.lxr_shared_heap.specs.Heaps.{Heaped, PausesWith}
use Rattle.lxr_shared_heap.specs.Settings.{run_of}
use Rattle.lxr_shared_heap.proofs.HeapLemmas.{actors_many, as_handed_in, epoch_made, has_paused_with, not_closed}
use Rattle.lxr_shared_heap.proofs.heap.close_and_pause.Goals as goal

pub close-requires-clause-running : goal.close-requires-clause-running
close-requires-clause-running w c =
    let (script, h, of) = c.requires.heap in (beginning_of (run_of c.args.settings script) of.stands.space h of.stands.abstract_state, of.stands.running)

pub pause_behind-requires-clause-made : goal.pause_behind-requires-clause-made
pause_behind-requires-clause-made w c =
    let (script, h, of) = c.requires.heap in
    let on = epoch_made c.args.settings script h c.args.live.epoch of.stands c.args.arrivals.now c.in-Ok.space c.in-Ok.actors.items c.in-Ok.ensures.closed in (on.script', on.before, on.calls, on.abstract_state, on.ran)

pub pause_behind-requires-clause-live : goal.pause_behind-requires-clause-live
pause_behind-requires-clause-live w c =
    let (script, h, of) = c.requires.heap in (epoch_made c.args.settings script h c.args.live.epoch of.stands c.args.arrivals.now c.in-Ok.space c.in-Ok.actors.items c.in-Ok.ensures.closed).live

pub returns-in-Ok : goal.returns-in-Ok
returns-in-Ok w c = (
  tt,
  λ script h of. (
      let on = epoch_made c.args.settings script h c.args.live.epoch of.stands c.args.arrivals.now c.in-Ok.space c.in-Ok.actors.items c.in-Ok.ensures.closed in
      let closed = c.in-Ok.ensures.closed (beginning_of (run_of c.args.settings script) of.stands.space h of.stands.abstract_state) of.stands.running in
      has_paused_with c.args.begins c.args.arrivals.now c.args.settings c.args.to_list.now c.pause_behind.new.to_list script h c.args.live c.pause_behind.result of c.in-Ok.space c.in-Ok.actors.items on c.pause_behind.ensures.rests c.pause_behind.ensures.lists
      (as_handed_in c.args.arrivals.now c.in-Ok.actors.items closed.closes.actors_rest.helpers.order c.in-Ok.ensures.handed)),
)

pub returns-in-Err : goal.returns-in-Err
returns-in-Err w c =
    let (script, h, of) = c.requires.heap in
    let before : Heaped = record { settings = c.args.settings; stage = stage.Within c.args.live; to_list = c.args.to_list.now } in
    subst (λ l. PausesWith c.args.begins c.args.arrivals.now c.paused_for.result before (record { settings = c.args.settings; stage = stage.Within l; to_list = c.args.to_list.now })) (sym c.in-Err.ensures.kept)
    (subst (λ p. PausesWith c.args.begins c.args.arrivals.now p before before) (sym c.paused_for.ensures)
    (not_closed c.args.begins c.args.settings c.args.to_list.now c.args.live c.args.arrivals.now c.in-Err.field-0.why (actors_many c.args.settings c.args.to_list.now script h c.args.live of) c.in-Err.ensures.why c.in-Err.ensures.unended c.in-Err.ensures.wanted))
