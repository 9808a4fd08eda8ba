use Rattle.lxr_image.specs.Spaces.{tables_of}
use Rattle.lxr_image.specs.declared.space.Space.{Space as SpaceNow}
use Rattle.lxr_core_close.specs.HandingOut.{HasHandedOut, MayHandOut, drawn_runs}
use Rattle.lxr_core_close.proofs.handing.hand_out_drawn.Given as goal

abbrev pub invariant-loop-number : goal.invariant-loop-number
invariant-loop-number l = (listed : SpaceNow) → MayHandOut listed l.fn.space → HasHandedOut listed l.fn.space l.space l.number 0

abbrev pub invariant-loop-number-2 : goal.invariant-loop-number-2
invariant-loop-number-2 l = (listed : SpaceNow) → MayHandOut listed l.fn.space → HasHandedOut listed l.fn.space l.space (drawn_runs (tables_of l.fn.space)) l.number
