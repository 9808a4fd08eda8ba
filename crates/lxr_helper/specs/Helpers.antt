-- Helpers: machines that work from a pocket of places, one unit after another. What is the same for all of them stands here; what
-- differs from one kind to another is its work.
use Rattle.std.specs.Prelude.{ℕ, Bool, true, false, ◌&&◌, nat_eq, if◌then◌else◌, List, length, Option, Some, None}
use Rattle.std.specs.List.{All}
use Rattle.lxr_layout.specs.declared.Place.{Place}
use Rattle.lxr_layout.specs.declared.limits.Limits.{Limits}
use Rattle.lxr_layout.specs.declared.limits.Regions.{Regions}
use Rattle.lxr_layout.specs.Spaces.{regions_of}
use Rattle.lxr_base.specs.Roomy.{emptied, pushed}
use Rattle.lxr_actor.specs.declared.Action.{Action}
use Rattle.lxr_actor.specs.Machine.{Machine}
use Rattle.lxr_helper.specs.declared.states.HelperState.{HelperState}
use Rattle.lxr_helper.specs.Indexes.{HaveIndexes}
use Rattle.lxr_helper.specs.Pockets.{IsPocket, has_room, kept, last_of, no_places, taken_from}
use Rattle.lxr_helper.specs.Words.{InHeap, is_in_heap}

-- where a step leads: into a phase, to the pocket's last place, which is taken out, or to the end of the unit
pub data Outcome (P E : Type 0) : Type 0 where
  goes_to : P → Outcome P E
  tries_next : Outcome P E
  ends : E → Outcome P E

-- the work of a kind of helpers, whose units are in phases of type P and end in one of the ways of type E
pub record Work (P E : Type 0) : Type 1 where
  -- the phase between units, and whether a phase is it
  pub resting : P
  pub rests : P → Bool
  -- what a unit begins with: a place that was taken out of the pocket, or what it turns to where there is none
  pub question : Option Place → P
  -- how a unit ends that found nothing to do, and whether one ended so
  pub nothing : E
  pub is_nothing : E → Bool
  -- the action of a phase; at rest there is none until a unit begins
  pub action : Regions → P → Option Action
  -- the place that the step of a phase puts into the pocket, if it does, by the word that it found
  pub keeps : P → ℕ → Option Place
  -- where that step leads
  pub leads : Regions → P → ℕ → Outcome P E
  -- the most steps that are left of a unit with so many places in the pocket
  pub left : ℕ → P → ℕ
  -- what holds in a phase
  pub may : Regions → P → Type 0

module _ {P E : Type 0} (w : Work P E) where
  -- ---- where a step leads

  -- in another phase
  abbrev pub in_phase : HelperState P E → P → HelperState P E
  in_phase h p = record h { phase = p }

  -- its unit is through
  abbrev pub through : HelperState P E → E → HelperState P E
  through h how = record h { phase = w.resting; end = Some how }

  -- it goes on with the pocket's last place, which it takes out, or with what it turns to where the pocket is empty
  abbrev pub looks_on : HelperState P E → HelperState P E
  looks_on h = record h { pocket = taken_from h.pocket; phase = w.question (last_of h.pocket.items) }

  -- with a further place in its pocket, if there is one and room for it
  abbrev pub keeping : HelperState P E → Option Place → HelperState P E
  keeping h None = h
  keeping h (Some place) = record h { pocket = kept h.pocket place }

  abbrev pub led : HelperState P E → Outcome P E → HelperState P E
  led h (goes_to p) = in_phase h p
  led h tries_next = looks_on h
  led h (ends how) = through h how

  -- after the step of its phase, which found this word
  abbrev pub after_in : HelperState P E → P → ℕ → HelperState P E
  after_in h p word = led (keeping h (w.keeps p word)) (w.leads h.regions p word)

  -- ---- units

  -- at rest a unit begins with the next step
  abbrev pub begun : HelperState P E → HelperState P E
  begun h = if w.rests h.phase then looks_on h else h

  -- the last unit found nothing to do
  abbrev pub found_nothing : Option E → Bool
  found_nothing None = false
  found_nothing (Some how) = w.is_nothing how

  -- it is finished for the epoch: it rests, its last unit found nothing to do, and its pocket is empty
  abbrev pub is_finished : HelperState P E → Bool
  is_finished h = w.rests h.phase && (found_nothing h.end && nat_eq (length h.pocket.items) 0)

  -- its next step, if it isn't finished
  abbrev pub action : HelperState P E → Option Action
  action h = if is_finished h then None else w.action h.regions (begun h).phase

  -- after its next step
  abbrev pub after : HelperState P E → ℕ → HelperState P E
  after h word = after_in (begun h) (begun h).phase word

  -- the most steps that are left of its unit
  abbrev pub left : HelperState P E → ℕ
  left h = w.left (length h.pocket.items) h.phase

  -- a place is offered: it goes into the pocket, where it is one of the heap and there is room for it
  abbrev pub offered : HelperState P E → Place → HelperState P E × Bool
  offered h place = if is_in_heap h.regions place.0 && has_room h.pocket then (record h { pocket = pushed h.pocket place }, true) else (h, false)

  -- it gives up the pocket's last place
  abbrev pub spared : HelperState P E → HelperState P E × Option Place
  spared h = (record h { pocket = taken_from h.pocket }, last_of h.pocket.items)

  -- what a helper means
  abbrev pub helper_machine : Machine (HelperState P E)
  helper_machine = record {
    action = action;
    after = after;
    rests = λ h. w.rests h.phase;
    left = left;
    offered = offered;
    spared = spared;
    -- a helper takes no orders
    ordered = λ h o. (h, false);
  }

  -- ---- what holds of it

  -- what holds of each helper
  pub record IsHelper (h : HelperState P E) : Type 0 where
    pub indexes : HaveIndexes h.regions
    pub pocket : IsPocket h.pocket
    pub places : All (InHeap h.regions) h.pocket.items
    pub phase : w.may h.regions h.phase

  -- a helper as it is made
  abbrev pub first : Limits → HelperState P E
  first limits = record { regions = regions_of limits; pocket = no_places; phase = w.resting; end = None }

  -- a new epoch begins
  abbrev pub again : HelperState P E → HelperState P E
  again h = record h { pocket = emptied h.pocket; phase = w.resting; end = None }
