-- What an opened space stands for.
use Rattle.std.specs.Prelude.{ℕ}
use Rattle.lxr_layout.specs.declared.limits.Limits.{Limits}
use Rattle.lxr_image.specs.declared.space.Space.{Space}
use Rattle.lxr_image.specs.Image.{IsOpeningImage, opening_at}
use Rattle.lxr_image.specs.Opened.{IsOpened}
use Rattle.lxr_image.specs.Spaces.{IsSpace}
use Rattle.lxr_model.specs.Moments.{opening_moment}
use Rattle.lxr_invariant.specs.AbstractState.{AbstractState, no_report}
use Rattle.lxr_invariant.specs.Quiescent.{IsQuiescent}

-- what an opened space of so many threads stands for
abbrev pub opening_abstract_state : ℕ → AbstractState
opening_abstract_state threads = record { moment = opening_moment threads; at = opening_at; reported = no_report }

-- each opened space is between epochs
abbrev pub OpenedIsQuiescent : Type 0
OpenedIsQuiescent = (space : Space) (limits : Limits) → IsSpace space → IsOpened space limits → IsOpeningImage space
    → IsQuiescent space (opening_abstract_state limits.threads)
