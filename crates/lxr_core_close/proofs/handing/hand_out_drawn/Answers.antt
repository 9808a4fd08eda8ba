use Rattle.std.proofs.Common.{◌≡◌, ℕ, arith, subst}
use Rattle.lxr_image.specs.Spaces.{tables_of}
use Rattle.lxr_core_close.specs.HandingOut.{HasHandedOut, drawn_blocks, drawn_runs}
use Rattle.lxr_core_close.proofs.HandingLemmas.{none_handed}
use Rattle.lxr_core_close.proofs.handing.hand_out_drawn.Goals as goal

pub loop-number-init : goal.loop-number-init
loop-number-init c listed may = none_handed listed c.args.space.now may

pub returns : goal.returns
returns c listed may =
    let end : c.loop-number-2.number ≡ drawn_blocks (tables_of c.args.space.now) = omega (arith, c.loop-number-2.auto.number-end, c.loop-number-2-test.false, c.drawn-blocks.ensures) in
    subst (λ (k : ℕ). HasHandedOut listed c.args.space.now c.loop-number-2.space (drawn_runs (tables_of c.args.space.now)) k) end (c.loop-number-2.invariant listed may)
