-- What tracers' pockets are filled with as an epoch opens: places of gray objects that are not marked yet.
use Rattle.std.specs.Prelude.{◌≡◌, ℕ, zero, suc, ◌+◌, ◌-◌, ◌*◌, ◌<◌, ◌≤◌, false, Option, Some, None, List, [], ◌∷◌, IsTrue, if◌then◌else◌, length, map, slice_get, take}
use Rattle.std.specs.List.{flat_map}
use Rattle.lxr_layout.specs.declared.TheConstants.{GRANULES_IN_BLOCK}
use Rattle.lxr_layout.specs.declared.Place.{Place}
use Rattle.lxr_layout.specs.declared.limits.Limits.{Limits}
use Rattle.lxr_layout.specs.Places.{place_at}
use Rattle.lxr_image.specs.Tables.{Tables}
use Rattle.lxr_image.specs.Reads.{granule_of}
use Rattle.lxr_image_search.specs.declared.Wanted.TheVariants.{ToScan}
use Rattle.lxr_image_search.specs.Search.{is_wanted}
use Rattle.lxr_trace.specs.Tracing.{TracerState}
use Rattle.lxr_core_invariant.specs.Counted.{IsInHeap}
use Rattle.lxr_core_sim_helpers.specs.TracerShowing.{IsTracerOf}
use Rattle.lxr_core.specs.declared.actors.AnyActor.{AnyActor}
use Rattle.lxr_core.specs.declared.actors.AnyActor.TheVariants as any
use Rattle.lxr_core.specs.Actors.{tracers_in}

-- a gray object that isn't marked begins at a place of the heap
pub record IsToScan (t : Tables) (blocks : ℕ) (place : Place) : Type 0 where
  pub in_heap : IsInHeap blocks place.0
  pub gray : IsTrue (t.grays (granule_of place.0))
  pub unmarked : t.marks (granule_of place.0) ≡ false

-- what stands in all pockets, that of the first tracer first
abbrev pub in_pockets : List TracerState → List Place
in_pockets tracers = flat_map (λ d. d.pocket.items) tracers

-- the places of the next so many granules that have a gray object without a mark, in order
abbrev pub places_of : Tables → ℕ → ℕ → List Place
places_of t from zero = []
places_of t from (suc count) = if is_wanted t ToScan from then place_at from ∷ places_of t (from + 1) count else places_of t (from + 1) count

-- the places that are to be scanned from one granule up to another, in order
abbrev pub places_between : Tables → ℕ → ℕ → List Place
places_between t from to = places_of t from (to - from)

-- a tracer's pocket holds what stands from one granule up to another: it is full, or that is the heap's end
pub record HoldsPlaces (t : Tables) (blocks from to : ℕ) (d : TracerState) : Type 0 where
  pub reached : from ≤ to
  pub places : d.pocket.items ≡ places_between t from to
  pub few : length (places_between t from to) ≤ 64
  pub full : length (places_between t from to) < 64 → to ≡ GRANULES_IN_BLOCK * blocks

-- tracers hold what stands from one granule up to another in the order of granules: each from there on where the one before it has stopped
abbrev pub HoldInOrder : Tables → ℕ → ℕ → ℕ → List TracerState → Type 0
HoldInOrder t blocks from to [] = to ≡ from
HoldInOrder t blocks from to (d ∷ tracers) = (next : ℕ) × HoldsPlaces t blocks from next d × HoldInOrder t blocks next to tracers

-- The pockets are filled: each has room for 64 places, and one has fewer only where all that is to be scanned stands in some pocket.
pub record FillsPockets (t : Tables) (blocks : ℕ) (tracers : List TracerState) : Type 0 where
  pub few : (i : ℕ) (d : TracerState) → slice_get tracers i ≡ Some d → length d.pocket.items ≤ 64
  -- what stands in a pocket is to be scanned
  pub found : (k : ℕ) (place : Place) → slice_get (in_pockets tracers) k ≡ Some place → IsToScan t blocks place
  -- no place stands twice in all pockets together
  pub once : (j k : ℕ) (place : Place) → slice_get (in_pockets tracers) j ≡ Some place → slice_get (in_pockets tracers) k ≡ Some place → j ≡ k
  -- where one isn't full, nothing is left over
  pub all : (i : ℕ) (d : TracerState) → slice_get tracers i ≡ Some d → length d.pocket.items < 64
      → (place : Place) → IsToScan t blocks place → (k : ℕ) × (slice_get (in_pockets tracers) k ≡ Some place)
  -- they stand there in the order of granules, the first tracer's pocket is filled first, and the next one only where that is full
  pub order : (to : ℕ) × HoldInOrder t blocks 0 to tracers

-- no pocket has a place
abbrev pub HaveEmptyPockets : List TracerState → Type 0
HaveEmptyPockets tracers = (i : ℕ) (d : TracerState) → slice_get tracers i ≡ Some d → d.pocket.items ≡ []

-- The pockets as an epoch opens: they are filled while a trace runs, which began at the pause of some number, and empty where none runs.
abbrev pub FilledWhileTraced : Option ℕ → Tables → ℕ → List TracerState → Type 0
FilledWhileTraced None t blocks tracers = HaveEmptyPockets tracers
FilledWhileTraced (Some began) t blocks tracers = FillsPockets t blocks tracers

-- a tracer whose pocket has these places
abbrev pub holding_places : TracerState → List Place → TracerState
holding_places d places = record d { pocket = record d.pocket { items = places } }

-- an actor, were its pocket not filled as the epoch opened
abbrev pub unfilled : AnyActor → AnyActor
unfilled (any.Mutator m) = any.Mutator m
unfilled (any.Decrementer d) = any.Decrementer d
unfilled (any.Tracer d) = any.Tracer (holding_places d [])

-- ---- how they are filled

-- a tracer's empty pocket was filled with what stands from one granule up to another; it is full, or that is the heap's end
pub record FillsPocket (t : Tables) (blocks from to : ℕ) (before after : TracerState) : Type 0 where
  pub reached : from ≤ to
  pub within : to ≤ GRANULES_IN_BLOCK * blocks
  pub places : after ≡ holding_places before (places_between t from to)
  pub few : length (places_between t from to) ≤ 64
  pub full : length (places_between t from to) < 64 → to ≡ GRANULES_IN_BLOCK * blocks

-- so it is with an actor; only tracers' pockets are filled
abbrev pub FillsActor : Tables → ℕ → ℕ → ℕ → AnyActor → AnyActor → Type 0
FillsActor t blocks from to (any.Tracer d) after = (e : TracerState) × (after ≡ any.Tracer e) × FillsPocket t blocks from to d e
FillsActor t blocks from to before after = (after ≡ before) × (to ≡ from)

-- an actor's pocket may be filled in a space of these limits: a tracer's is empty
abbrev pub MayFill : Limits → AnyActor → Type 0
MayFill l (any.Tracer d) = IsTracerOf l d × (d.pocket.items ≡ [])
MayFill l a = Unit {0}

abbrev pub MayAllFill : Limits → List AnyActor → Type 0
MayAllFill l actors = (i : ℕ) (a : AnyActor) → slice_get actors i ≡ Some a → MayFill l a

-- the pockets of the first so many actors are filled, with what stands up to a granule
pub record HaveFilled (t : Tables) (blocks to : ℕ) (before after : List AnyActor) (count : ℕ) : Type 0 where
  pub within : to ≤ GRANULES_IN_BLOCK * blocks
  pub same : map unfilled after ≡ map unfilled before
  pub others : (i : ℕ) → count ≤ i → slice_get after i ≡ slice_get before i
  pub places : in_pockets (tracers_in (take count after)) ≡ places_between t 0 to
  pub few : (i : ℕ) (d : TracerState) → slice_get (tracers_in (take count after)) i ≡ Some d → length d.pocket.items ≤ 64
  pub full : (i : ℕ) (d : TracerState) → slice_get (tracers_in (take count after)) i ≡ Some d → length d.pocket.items < 64 → to ≡ GRANULES_IN_BLOCK * blocks
  pub order : HoldInOrder t blocks 0 to (tracers_in (take count after))
