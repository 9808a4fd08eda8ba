-- What threads hold while they relay, and what the caller keeps.
use Rattle.std.specs.Prelude.{◌≡◌, ℕ, ◌+◌, ◌≤◌, Bool, List, All, length, Option, Some, None, slice_get, slice_set, vec_capacity}
use Rattle.crossbeam_channel.specs.Claims.{IsSeatAt, Pass, view}
use Rattle.crossbeam_channel.specs.Ends.{sends_on}
use Rattle.lxr_stand.specs.declared.rule.Baton.{Baton}
use Rattle.lxr_stand.specs.declared.rule.Holding.{Holding}
use Rattle.lxr_stand.specs.declared.line.Line.{Line}
use Rattle.lxr_stand.specs.declared.hands.Hand.{Hand}
use Rattle.lxr_stand.specs.declared.keeper.Keeper.{Keeper}
use Rattle.lxr_stand.specs.Relaying.{IsFinished, one_at, places_weigh, weigh}

-- the work's own words mean what the race says: whatever fits the one fits the other, its turns are turns of the race, and as much is left
pub record IsRaceOf {T : Type 0} (fits : T → Type 0) (made : T → T → Bool → Type 0) (left : T → ℕ) (fits' : T → Type 0) (made' : T → T → Bool → Type 0) (left' : T → ℕ) : Type 0 where
  pub fit : (v : T) → fits' v → fits v
  pub fit_back : (v : T) → fits v → fits' v
  pub turn : (v w : T) (finished : Bool) → made' v w finished → made v w finished
  pub left_is : (v : T) → left' v ≡ left v

-- the pass is one of the line's
abbrev pub IsAt : {T J : Type 0} → Line T J → Pass (Baton T) Holding → Type 0
IsAt line pass = IsSeatAt (sends_on line.sender) pass

-- behind a send of the value of this place, which is not out any more
pub record HasLetGo (place : ℕ) (v w : Holding) : Type 0 where
  pub parts : w.parts ≡ v.parts
  pub taken : w.taken ≡ v.taken
  pub out : (weight : ℕ → ℕ) → weigh weight w.out + weight place ≡ weigh weight v.out

-- A slot for each value. What stands in one is finished; where nothing does yet, the pass isn't out with that value, unless it is one of
-- those that are still to be sent.
pub record AreSlots {T : Type 0} (made : T → T → Bool → Type 0) (values : List T) (to_send out : List ℕ) (slots : List (Option T)) : Type 0 where
  pub many : length slots ≡ length values
  pub filled : (place : ℕ) (v : T) → slice_get slots place ≡ Some (Some v) → IsFinished made values (record { place = place; value = v })
  pub empty : (place : ℕ) → slice_get slots place ≡ Some None → weigh (one_at place) out ≡ weigh (one_at place) to_send

-- `at` tells which passes are those of the channel
module _ {T : Type 0} (made : T → T → Bool → Type 0) (values : List T) (at : Pass (Baton T) Holding → Type 0) where
  -- A thread's own: a pass with one part, out with the places of the values that the thread has finished, and room for all values.
  pub record IsHand (hand : Hand T) : Type 0 where
    pub seated : at hand.pass
    pub part : (view hand.pass).parts ≡ 1
    pub out : (weight : ℕ → ℕ) → weigh weight (view hand.pass).out ≡ places_weigh weight hand.finished.items
    pub finished : All (IsFinished made values) hand.finished.items
    pub room : length values ≤ vec_capacity hand.finished

  -- The caller's own: its pass, and its slots, some of whose values are still to be sent.
  pub record IsKeeper (to_send : List ℕ) (keeper : Keeper T) : Type 0 where
    pub seated : at keeper.pass
    pub slots : AreSlots made values to_send (view keeper.pass).out keeper.slots.items

-- such a value stands in the slot of this place now, and all other slots are as they were
pub record HasKept {T : Type 0} (P : T → Type 0) (place : ℕ) (slots after : List (Option T)) : Type 0 where
  pub value : T
  pub such : P value
  pub is : after ≡ slice_set slots place (Some value)
