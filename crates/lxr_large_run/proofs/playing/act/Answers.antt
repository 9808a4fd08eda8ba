use Rattle.std.proofs.Common.{◌∷◌, subst, sym, arith, true, false}
use Rattle.std.proofs.lemmas.Result.{IfOk-weaker, on_err_weaker}
use Rattle.lxr_heap.specs.declared.heap.Heap.{Heap}
use Rattle.lxr_heap.specs.Acting.{Acts, MayBeCalled, WantsPause}
use Rattle.lxr_large_run.specs.Playing.{IsPlaying}
use Rattle.lxr_large_run.proofs.EndLemmas.{few_replies, registers_are}
use Rattle.lxr_large_run.proofs.PlayLemmas.{came_directly}
use Rattle.lxr_large_run.proofs.playing.act.Goals as goal

pub act-requires-clause-made : goal.act-requires-clause-made
act-requires-clause-made g c =
    let (task, same, rest, h, p) = c.requires.playing in
    let few = few_replies task c.args.op rest c.args.heap.now (g.O.Sink.written c.args.output.now) c.args.replies.now.items h p in
    let made = p.made in
    omega (arith, few, made)

pub act-requires-clause-op : goal.act-requires-clause-op
act-requires-clause-op g c =
    let (task, same, rest, h, p) = c.requires.playing in
    subst (λ n. MayBeCalled n c.args.op) (sym (registers_are task (c.args.op ∷ rest) c.args.heap.now (g.O.Sink.written c.args.output.now) c.args.replies.now.items h p)) c.requires.op

pub returns-in-Replied-clause-ok : goal.returns-in-Replied-clause-ok
returns-in-Replied-clause-ok g c = λ task same rest h p. (
  h,
  came_directly task c.args.op rest c.args.heap.now (g.O.Sink.written c.args.output.now) c.args.replies.now.items h p c.act.new.self c.in-Replied.reply c.requires.op
      (subst (Acts c.args.heap.now c.act.new.self h c.args.op) c.in-Replied.is (c.act.ensures h p.holds)),
)

pub act_after_pause-requires-clause-wants : goal.act_after_pause-requires-clause-wants
act_after_pause-requires-clause-wants g c =
    let (task, same, rest, h, p) = c.requires.playing in
    let came = subst (Acts c.args.heap.now c.act.new.self h c.args.op) c.in-Room.is (c.act.ensures h p.holds) in
    let stays = sym came.2 in
    (task, same, rest, h, subst (λ (x : Heap). IsPlaying task (c.args.op ∷ rest) x (g.O.Sink.written c.args.output.now) c.args.replies.now.items h) stays p, subst (λ (x : Heap). WantsPause x h c.args.op true) stays came.0)

pub act_after_pause-requires-in-Log-clause-wants : goal.act_after_pause-requires-in-Log-clause-wants
act_after_pause-requires-in-Log-clause-wants g c =
    let (task, same, rest, h, p) = c.requires.playing in
    let came = subst (Acts c.args.heap.now c.act.new.self h c.args.op) c.in-Log.is (c.act.ensures h p.holds) in
    let stays = sym came.1 in
    (task, same, rest, h, subst (λ (x : Heap). IsPlaying task (c.args.op ∷ rest) x (g.O.Sink.written c.args.output.now) c.args.replies.now.items h) stays p, subst (λ (x : Heap). WantsPause x h c.args.op false) stays came.0)

pub returns-in-Room-clause-ok : goal.returns-in-Room-clause-ok
returns-in-Room-clause-ok g c = IfOk-weaker c.act_after_pause.result _ _ (λ reply done. λ task same rest h p.
    let came = subst (Acts c.args.heap.now c.act.new.self h c.args.op) c.in-Room.is (c.act.ensures h p.holds) in
    let stays = sym came.2 in
    done task same rest h (subst (λ (x : Heap). IsPlaying task (c.args.op ∷ rest) x (g.O.Sink.written c.args.output.now) c.args.replies.now.items h) stays p) (subst (λ (x : Heap). WantsPause x h c.args.op true) stays came.0)) c.act_after_pause.ensures.ok

pub returns-in-Room-clause-err : goal.returns-in-Room-clause-err
returns-in-Room-clause-err g c = on_err_weaker c.act_after_pause.result (λ cut. λ task same rest h p.
    let came = subst (Acts c.args.heap.now c.act.new.self h c.args.op) c.in-Room.is (c.act.ensures h p.holds) in
    let stays = sym came.2 in
    cut task same rest h (subst (λ (x : Heap). IsPlaying task (c.args.op ∷ rest) x (g.O.Sink.written c.args.output.now) c.args.replies.now.items h) stays p) (subst (λ (x : Heap). WantsPause x h c.args.op true) stays came.0)) c.act_after_pause.ensures.err

pub returns-in-Log-clause-ok : goal.returns-in-Log-clause-ok
returns-in-Log-clause-ok g c = IfOk-weaker c.act_after_pause-in-Log.result _ _ (λ reply done. λ task same rest h p.
    let came = subst (Acts c.args.heap.now c.act.new.self h c.args.op) c.in-Log.is (c.act.ensures h p.holds) in
    let stays = sym came.1 in
    done task same rest h (subst (λ (x : Heap). IsPlaying task (c.args.op ∷ rest) x (g.O.Sink.written c.args.output.now) c.args.replies.now.items h) stays p) (subst (λ (x : Heap). WantsPause x h c.args.op false) stays came.0)) c.act_after_pause-in-Log.ensures.ok

pub returns-in-Log-clause-err : goal.returns-in-Log-clause-err
returns-in-Log-clause-err g c = on_err_weaker c.act_after_pause-in-Log.result (λ cut. λ task same rest h p.
    let came = subst (Acts c.args.heap.now c.act.new.self h c.args.op) c.in-Log.is (c.act.ensures h p.holds) in
    let stays = sym came.1 in
    cut task same rest h (subst (λ (x : Heap). IsPlaying task (c.args.op ∷ rest) x (g.O.Sink.written c.args.output.now) c.args.replies.now.items h) stays p) (subst (λ (x : Heap). WantsPause x h c.args.op false) stays came.0)) c.act_after_pause-in-Log.ensures.err
