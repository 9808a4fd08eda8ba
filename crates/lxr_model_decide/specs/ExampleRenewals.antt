-- A history in which names are renewed, and renewals that are refused.
use Rattle.std.specs.Prelude.{true, List, [], ◌∷◌, reverse}
use Rattle.lxr_graph.specs.declared.report.Kind.TheVariants as kind
use Rattle.lxr_graph.specs.History.{Item, Pause, PauseReport, Renew}
use Rattle.lxr_model.specs.Terms.{Terms}
use Rattle.lxr_model.specs.Legal.{IsLegalSoFar}
use Rattle.lxr_model_decide.specs.ExampleWords.{usual_terms, made, makes, stores, clears, asks, collects, quiet, world_count, counted}
use Rattle.lxr_model_decide.specs.NearMisses.{IsNearMiss}

-- names may be renewed
abbrev pub renewing_terms : Terms
renewing_terms = record usual_terms { renews = true }

-- 1.1 is let go at once, and 1.2 is left, which the world and a register hold
abbrev pub one_left : List Item
one_left =
    makes 1 0 1 ∷ makes 2 0 2 ∷ stores 0 0 2 ∷ clears 1 ∷ collects
    ∷ Pause (record (quiet 1 kind.Collect (world_count ∷ counted 2 2 ∷ [])) { promoted = made 2 ∷ [] })
    ∷ []

-- it becomes 1.1
abbrev pub renewed : List Item
renewed = Renew (made 2 ∷ []) ∷ reverse one_left

-- the next pause is the first again
abbrev pub first_again : PauseReport
first_again = record (quiet 1 kind.Collect (world_count ∷ counted 1 2 ∷ counted 2 1 ∷ [])) { promoted = made 2 ∷ [] }

-- and the next object is 1.2 again
abbrev pub RenewedGoesOn : Type 0
RenewedGoesOn = IsLegalSoFar renewing_terms (Pause first_again ∷ collects ∷ makes 3 0 2 ∷ renewed)

-- ---- renewals that are refused

-- 1.1, which the world holds, is left by a plain pause
abbrev pub plainly_left : List Item
plainly_left =
    makes 1 0 1 ∷ stores 0 0 1 ∷ clears 1 ∷ asks
    ∷ Pause (record (quiet 1 kind.Plain []) { promoted = made 1 ∷ [] })
    ∷ []

-- where terms forbid it, where an object that is left is left out, and behind a plain pause
pub record RenewalsAreRefused : Type 0 where
  pub forbidden : IsNearMiss usual_terms one_left (Renew (made 2 ∷ []))
  pub forgotten : IsNearMiss renewing_terms one_left (Renew [])
  pub undrained : IsNearMiss renewing_terms plainly_left (Renew (made 1 ∷ []))
