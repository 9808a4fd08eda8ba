use Rattle.std.proofs.Common.{◌≡◌, ap, subst, sym, false}
use Rattle.std.specs.Prelude.{◌&&◌}
use Rattle.lxr_heap.specs.Pausing.{PausesHeap}
use Rattle.lxr_large_run.specs.Playing.{TellsPrinted}
use Rattle.lxr_large_run.proofs.CallLemmas.{names_stay, tells_asked, tells_none, told_pauses}
use Rattle.lxr_large_run.proofs.playing.pause_and_tell.Goals as goal
use Rattle.lxr_large_run.proofs.playing.pause_and_tell.Goals.{else-counts-via-then-counts+else-collect, else-counts-via-else-counts}

pub returns-then-collect-clause-pauses : goal.returns-then-collect-clause-pauses
returns-then-collect-clause-pauses c = λ h is.
    let paused = c.pause_and_list.ensures.pauses h is in
    told_pauses c.args.heap.now c.pause_and_list.new.heap c.tell_counts.new.self h c.args.collect paused (c.tell_counts.ensures _ paused.holds)

pub returns-then-collect-clause-names : goal.returns-then-collect-clause-names
returns-then-collect-clause-names c = λ h is.
    let paused = c.pause_and_list.ensures.pauses h is in
    names_stay c.pause_and_list.new.heap c.tell_counts.new.self _ (c.tell_counts.ensures _ paused.holds) (c.pause_and_list.ensures.names h is)

pub returns-then-collect-clause-told : goal.returns-then-collect-clause-told
returns-then-collect-clause-told c = λ h is.
    let paused = c.pause_and_list.ensures.pauses h is in
    subst (λ b. TellsPrinted b c.tell_counts.new.self.space.report) (sym c.if-counts.true)
    (tells_asked c.args.heap.now c.pause_and_list.new.heap c.tell_counts.new.self h is (subst (PausesHeap c.args.heap.now c.pause_and_list.new.heap h) c.if-collect.true paused) (c.tell_counts.ensures _ paused.holds))

pub returns-else-counts-clause-told : goal.returns-else-counts-clause-told
returns-else-counts-clause-told c = λ h is.
    let unasked : (c.args.counts && c.args.collect) ≡ false =
    elim c.else-counts.branch [
      | else-counts-via-then-counts+else-collect w ↦ (λ i. w.if-counts.true i && w.if-collect.false i)
      | else-counts-via-else-counts w ↦ ap (λ b. b && c.args.collect) w.if-counts.false
    ] in
    tells_none c.args.heap.now c.pause_and_list.new.heap h c.args.collect c.args.counts (c.pause_and_list.ensures.pauses h is) (c.pause_and_list.ensures.untold h is) unasked
