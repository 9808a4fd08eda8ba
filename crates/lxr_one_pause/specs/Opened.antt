-- That an opened space may pause.
use Rattle.lxr_layout.specs.declared.limits.Limits.{Limits}
use Rattle.lxr_layout.specs.Spaces.{AreLimits}
use Rattle.lxr_image.specs.declared.space.Space.{Space}
use Rattle.lxr_image.specs.Opened.{IsOpened}
use Rattle.lxr_invariant.specs.AbstractState.{AbstractState}
use Rattle.lxr_one_pause.specs.Pausing.{CanPause}

-- the first pause may be made right after the opening
abbrev pub OpenedCanPause : Type 0
OpenedCanPause = (s : Space) (l : Limits) → AreLimits l → IsOpened s l → (g : AbstractState) × CanPause s g
