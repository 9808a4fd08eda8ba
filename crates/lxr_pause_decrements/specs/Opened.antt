-- That the decrements of an opened space may be finished.
use Rattle.lxr_layout.specs.declared.limits.Limits.{Limits}
use Rattle.lxr_layout.specs.Spaces.{AreLimits}
use Rattle.lxr_image.specs.declared.space.Space.{Space}
use Rattle.lxr_image.specs.Image.{opening_at}
use Rattle.lxr_image.specs.Opened.{IsOpened}
use Rattle.lxr_model.specs.Moments.{opening_moment}
use Rattle.lxr_pause_decrements.specs.Finishing.{CanFinish}

-- an opened space holds the opening moment, and nothing waits in it
abbrev pub OpenedCanFinish : Type 0
OpenedCanFinish = (s : Space) (l : Limits) → AreLimits l → IsOpened s l → CanFinish s (opening_moment l.threads) opening_at
