-- Whole units of helpers: which steps are done from rest to rest, what they find, and how that ends.
use Rattle.std.specs.Prelude.{◌≡◌, ℕ, Bool, true, false, List, [], ◌∷◌, ◌++◌}
use Rattle.lxr_layout.specs.declared.Place.{Place}
use Rattle.lxr_layout.specs.declared.limits.Regions.{Regions}
use Rattle.lxr_base.specs.Roomy.{Roomy, pushed}
use Rattle.lxr_actor.specs.declared.Action.{Action}
use Rattle.lxr_helper.specs.Looks.{start_look}
use Rattle.lxr_helper.specs.Units.{Told, told}
use Rattle.lxr_helper.specs.Words.{has_bit}

-- Work is asked for by this action on a place, whose word tells whether it is needed, and an object is claimed by that one.
module _ (asking : Regions → Place → Action) (is_needed : Place → ℕ → Bool) (claim : Regions → Place → Action) (r : Regions) where
  -- The place needs no work: none is needed there, no unreclaimed object begins there, or the object was claimed before. What it asks
  -- for and the start bit are both looked at in any case.
  pub data NeedsNoWork (place : Place) : List Told → Type 0 where
    unneeded : (a s : ℕ) → is_needed place a ≡ false → NeedsNoWork place (told (asking r place) a ∷ told (start_look r place) s ∷ [])
    unstarted : (a s : ℕ) → has_bit place s ≡ false → NeedsNoWork place (told (asking r place) a ∷ told (start_look r place) s ∷ [])
    claimed_before : (a s b : ℕ) → is_needed place a ≡ true → has_bit place s ≡ true → has_bit place b ≡ true
        → NeedsNoWork place (told (asking r place) a ∷ told (start_look r place) s ∷ told (claim r place) b ∷ [])

  -- An object that needs work is at the place, and is claimed: the bit that claims it was clear until then.
  pub data ClaimsObject (place : Place) : List Told → Type 0 where
    claims : (a s b : ℕ) → is_needed place a ≡ true → has_bit place s ≡ true → has_bit place b ≡ false
        → ClaimsObject place (told (asking r place) a ∷ told (start_look r place) s ∷ told (claim r place) b ∷ [])

  -- An object is handled so, and so a unit goes on that has found no work in its pocket: by the pocket before, the steps, the pocket
  -- after, and how the unit ended.
  module _ {E : Type 0} (Handles : Place → Roomy Place → List Told → Roomy Place → E → Type 0) (Turns : Roomy Place → List Told → Roomy Place → E → Type 0) where
    -- A whole unit. Places of the pocket that need no work are given up, the last one first. The first that needs work is handled
    -- whole; where none does, the unit turns to what else there is.
    pub data DoesUnit : Roomy Place → List Told → Roomy Place → E → Type 0 where
      gives_up : (pocket pocket' : Roomy Place) (place : Place) (ts us : List Told) (how : E) → NeedsNoWork place ts → DoesUnit pocket us pocket' how
          → DoesUnit (pushed pocket place) (ts ++ us) pocket' how
      handles : (pocket pocket' : Roomy Place) (place : Place) (ts us : List Told) (how : E) → ClaimsObject place ts → Handles place pocket us pocket' how
          → DoesUnit (pushed pocket place) (ts ++ us) pocket' how
      turns : (pocket pocket' : Roomy Place) (ts : List Told) (how : E) → pocket.items ≡ [] → Turns pocket ts pocket' how → DoesUnit pocket ts pocket' how
