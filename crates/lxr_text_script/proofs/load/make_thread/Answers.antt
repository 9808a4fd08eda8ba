use Rattle.std.proofs.Common.{◌∙◌, ℕ, ◌+◌, ◌%◌, ◌^◌, ap}
use Rattle.lxr_text_script.specs.Load.{rounds}
use Rattle.lxr_text_script.proofs.Rounds.{goes_on, is_done}
use Rattle.lxr_text_script.proofs.load.make_thread.Goals as goal

pub loop-preserved : goal.loop-preserved
loop-preserved c =
    let made = rw (c.from-value.ensures, c.draw.ensures.drawn, c.draw-in-loop.ensures.drawn, c.draw-in-loop-2.ensures.drawn) at c.round.ensures in
    rw c.in_ok-extend_from_slice.ensures.items (goes_on c.loop.operations.items c.round.result c.args.rounds c.loop.counter c.args.thread c.loop.generator.state
    c.draw.new.self.state c.draw-in-loop.new.self.state c.draw-in-loop-2.new.self.state _ c.loop-test.true c.draw.ensures.state c.draw-in-loop.ensures.state c.draw-in-loop-2.ensures.state made c.loop.invariant)

pub returns : goal.returns
returns c =
    c.from_vec.ensures ∙ is_done c.loop.operations.items c.args.rounds c.loop.counter c.args.thread c.loop.generator.state _ c.loop-test.false c.loop.invariant
    ∙ ap (λ (t : ℕ). rounds c.args.rounds c.args.thread ((c.args.seed + t) % 2 ^ 64)) c.from.ensures
