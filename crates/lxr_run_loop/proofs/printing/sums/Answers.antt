use Rattle.std.proofs.Common.{◌∙◌, arith}
use Rattle.lxr_run_loop.specs.Summing.{SomeHasRun}
use Rattle.lxr_run_loop.specs.Tasks.{rounds_of}
use Rattle.lxr_run_loop.proofs.SummingLemmas.{all_calls, all_kept, calls_fit, leaves, refusals_fit, sums_are}
use Rattle.lxr_run_loop.proofs.printing.sums.Goals as goal

pub calls-requires : goal.calls-requires
calls-requires c =
    let has : SomeHasRun c.args.space.now c.args.actors.now c.args.totals.now = c.requires in
    let (task, written, seen, course, same, (h, run, drawn, totals, noted, full)) = has in
    calls_fit (rounds_of task) c.args.space.now seen c.args.actors.now h run.rounds

pub overflow_sub-result : goal.overflow_sub-result
overflow_sub-result c =
    let has : SomeHasRun c.args.space.now c.args.actors.now c.args.totals.now = c.requires in
    let (task, written, seen, course, same, (h, run, drawn, totals, noted, full)) = has in
    let calls = all_calls (rounds_of task) c.args.space.now seen c.args.actors.now h run.rounds in
    let is = c.calls.ensures in
    let ended = c.from.ensures in
    omega arith

pub refusals-requires : goal.refusals-requires
refusals-requires c =
    let has : SomeHasRun c.args.space.now c.args.actors.now c.args.totals.now = c.requires in
    let (task, written, seen, course, same, (h, run, drawn, totals, noted, full)) = has in
    record { kept = all_kept (rounds_of task) c.args.space.now seen c.args.actors.now h run.rounds full; fits = refusals_fit (rounds_of task) c.args.space.now seen c.args.actors.now h run.rounds }

pub live-requires-clause-room : goal.live-requires-clause-room
live-requires-clause-room c =
    let has : SomeHasRun c.args.space.now c.args.actors.now c.args.totals.now = c.requires in
    let (task, written, seen, course, same, complete) = has in
    (leaves task c.args.space.now written seen c.args.actors.now course c.args.totals.now same complete).room

pub live-requires-clause-gone : goal.live-requires-clause-gone
live-requires-clause-gone c =
    let has : SomeHasRun c.args.space.now c.args.actors.now c.args.totals.now = c.requires in
    let (task, written, seen, course, same, complete) = has in
    (leaves task c.args.space.now written seen c.args.actors.now course c.args.totals.now same complete).gone

pub returns : goal.returns
returns c = λ task written seen h run totals.
    let has : SomeHasRun c.args.space.now c.args.actors.now c.args.totals.now = c.requires in
    let (other, written_by, seen_by, course, same, complete) = has in
    sums_are (rounds_of task) c.args.space.now seen c.args.actors.now h run.rounds c.args.totals.now totals c.calls.result c.from.result c.refusals.result c.live.result c.calls.ensures c.from.ensures c.refusals.ensures
    (c.live.ensures ∙ (leaves other c.args.space.now written_by seen_by c.args.actors.now course c.args.totals.now same complete).live)
