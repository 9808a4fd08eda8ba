-- Whole units of a decrementer: which steps it does from rest to rest, what it finds, and how that ends.
use Rattle.std.specs.Prelude.{◌≡◌, ◌≢◌, ℕ, ◌+◌, ◌<◌, ◌≤◌, Bool, true, false, nat_eq, List, [], ◌∷◌, ◌++◌, Option, Some, None, if◌then◌else◌}
use Rattle.lxr_layout.specs.declared.TheConstants.{STUCK}
use Rattle.lxr_layout.specs.declared.Place.{Place}
use Rattle.lxr_layout.specs.declared.limits.Regions.{Regions}
use Rattle.lxr_base.specs.Roomy.{Roomy}
use Rattle.lxr_helper.specs.Pockets.{kept}
use Rattle.lxr_helper.specs.Words.{references_in, referent_in}
use Rattle.lxr_helper.specs.HelperUnits as helper
use Rattle.lxr_helper.specs.Looks.{graying, header_look, reference_look, tracing_look}
use Rattle.lxr_helper.specs.Units.{Told, told}
use Rattle.lxr_decrement.specs.declared.phases.DecEnd.{DecEnd}
use Rattle.lxr_decrement.specs.declared.phases.DecEnd.TheVariants.{Worked, Nothing}
use Rattle.lxr_decrement.specs.Words.{count_in, is_uncounted, listed_in}
use Rattle.lxr_decrement.specs.Steps.{claim, count_look, cursor_look, drawing, entry_look, lowering, number_look}

module _ (r : Regions) where
  -- The count of a place is lowered, unless it is 0 or stuck, and what became of the pocket.
  pub data LowersPlace (place : Place) (pocket : Roomy Place) : List Told → Roomy Place → Type 0 where
    is_zero : (c : ℕ) → count_in place c ≡ 0 → LowersPlace place pocket (told (count_look r place) c ∷ []) pocket
    is_stuck : (c : ℕ) → count_in place c ≡ STUCK → LowersPlace place pocket (told (count_look r place) c ∷ []) pocket
    lowers : (c old : ℕ) → count_in place c ≢ 0 → count_in place c ≢ STUCK
        → LowersPlace place pocket (told (count_look r place) c ∷ told (lowering r place) old ∷ [])
        (if nat_eq (count_in place old) 1 then kept pocket place else pocket)

  -- What a word refers to is lowered, and before that made gray where a trace runs; nil is not.
  pub data LowersReferent (pocket : Roomy Place) : Option Place → Bool → List Told → Roomy Place → Type 0 where
    nil : (traced : Bool) → LowersReferent pocket None traced [] pocket
    untraced : (place : Place) (ts : List Told) (pocket' : Roomy Place) → LowersPlace place pocket ts pocket' → LowersReferent pocket (Some place) false ts pocket'
    traced : (place : Place) (gray : ℕ) (ts : List Told) (pocket' : Roomy Place) → LowersPlace place pocket ts pocket'
        → LowersReferent pocket (Some place) true (told (graying r place) gray ∷ ts) pocket'

  -- The references of an object from an index on are read, one after another, and what each refers to is lowered.
  pub data LowersFrom (place : Place) (refs : ℕ) (traced : Bool) : ℕ → Roomy Place → List Told → Roomy Place → Type 0 where
    through : (pocket : Roomy Place) → LowersFrom place refs traced refs pocket [] pocket
    next : (index : ℕ) (pocket between pocket' : Roomy Place) (word : ℕ) (ts us : List Told) → index < refs
        → LowersReferent pocket (referent_in r word) traced ts between → LowersFrom place refs traced (index + 1) between us pocket'
        → LowersFrom place refs traced index pocket (told (reference_look r place index) word ∷ (ts ++ us)) pocket'

  -- The object at a place is handled whole: its header and the tracing word are read, and each of its references is lowered.
  pub data HandlesObject (place : Place) (pocket : Roomy Place) : List Told → Roomy Place → DecEnd → Type 0 where
    handles : (h t : ℕ) (ts : List Told) (pocket' : Roomy Place) → LowersFrom place (references_in r place h) (nat_eq t 1) 0 pocket ts pocket'
        → HandlesObject place pocket (told (header_look r place) h ∷ told (tracing_look r) t ∷ ts) pocket' Worked

  -- No entry of the list is left: the cursor was loaded, or a number drawn from it, that isn't below the list's length.
  pub data FindsNoEntry : List Told → Type 0 where
    loaded : (cursor count : ℕ) → listed_in r count ≤ cursor → FindsNoEntry (told (cursor_look r) cursor ∷ told (number_look r) count ∷ [])
    drawn : (cursor count number : ℕ) → cursor < listed_in r count → listed_in r count ≤ number
        → FindsNoEntry (told (cursor_look r) cursor ∷ told (number_look r) count ∷ told (drawing r) number ∷ [])

  -- A number below the list's length is drawn, and the entry of that number is lowered.
  pub data LowersEntry (pocket : Roomy Place) : List Told → Roomy Place → Type 0 where
    lowers_entry : (cursor count number entry : ℕ) (ts : List Told) (pocket' : Roomy Place) → cursor < listed_in r count → number < listed_in r count
        → LowersReferent pocket (referent_in r entry) false ts pocket'
        → LowersEntry pocket (told (cursor_look r) cursor ∷ told (number_look r) count ∷ told (drawing r) number ∷ told (entry_look r number) entry ∷ ts) pocket'

  -- No place of the pocket needs work: the unit turns to the list.
  pub data TurnsToList (pocket : Roomy Place) : List Told → Roomy Place → DecEnd → Type 0 where
    works : (ts : List Told) (pocket' : Roomy Place) → LowersEntry pocket ts pocket' → TurnsToList pocket ts pocket' Worked
    finds_nothing : (ts : List Told) → FindsNoEntry ts → TurnsToList pocket ts pocket Nothing

  -- A whole unit: the pocket before, the steps, the pocket after, and how the unit ended. A dead object, whose count is 0, is claimed
  -- by its done bit; the unit turns to the list only where no place of the pocket needs work.
  abbrev pub DoesUnit : Roomy Place → List Told → Roomy Place → DecEnd → Type 0
  DoesUnit = helper.DoesUnit count_look is_uncounted claim r HandlesObject TurnsToList
