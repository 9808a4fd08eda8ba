-- What an epoch says of the words that a decrementer reads: an unreclaimed object stands at each place that it has learned of.
use Rattle.std.proofs.Common.{◌≡◌, ℕ, ◌+◌, ◌-◌, ◌*◌, ◌/◌, ◌≤◌, Bool, true, false, arith, refl, sym, subst, ap, ◌∙◌}
use Rattle.std.specs.Prelude.{Some, None, IsTrue, ◌&&◌, nat_le, if◌then◌else◌}
use Rattle.std.proofs.lemmas.Bool.{le-leb}
use Rattle.lxr_layout.specs.declared.TheConstants.{DECREMENT_COUNT, GRANULES_IN_BLOCK, WORDS_IN_BLOCK}
use Rattle.lxr_layout.specs.declared.Header.TheVariants as header
use Rattle.lxr_layout.specs.declared.Name.{Name}
use Rattle.lxr_layout.specs.declared.Place.{Place}
use Rattle.lxr_layout.specs.declared.Shape.{Shape}
use Rattle.lxr_layout.specs.declared.limits.Limits.{Limits}
use Rattle.lxr_layout.specs.declared.limits.Regions.{Regions}
use Rattle.lxr_layout.specs.Objects.{header_of, word_count}
use Rattle.lxr_layout.specs.Places.{first_word}
use Rattle.lxr_layout.specs.Spaces.{decs_region, region_begin, regions_of}
use Rattle.lxr_image.specs.Reads.{granule_of}
use Rattle.lxr_image.proofs.ImageLemmas.{starts_stand_whole}
use Rattle.lxr_image.proofs.ReadLemmas.{header_unpacked}
use Rattle.lxr_invariant.specs.AbstractState.{members}
use Rattle.lxr_invariant.proofs.NameLemmas.{in_first}
use Rattle.lxr_helper.specs.Words.{references_in, references_told, referent_in}
use Rattle.lxr_decrement.specs.Words.{listed_in}
use Rattle.lxr_core_access.specs.declared.Access.{Access}
use Rattle.lxr_core_access.specs.Accesses.{done_to}
use Rattle.lxr_core_access.specs.Decrementers.{Decrementing}
use Rattle.lxr_core_invariant.specs.EpochStates.{Beginning, EpochState, limits_of, moment_of}
use Rattle.lxr_core_invariant.specs.Counted.{IsInHeap, KnowsCounts, StandsAt}
use Rattle.lxr_core_invariant.specs.Decremented.{MayDecrement}
use Rattle.lxr_core_invariant.specs.Epoch.{IsEpoch}
use Rattle.lxr_core_invariant.proofs.ShowingLemmas.{set_here}
use Rattle.lxr_core_inv_counts.proofs.GroundLemmas.{ground_of}
use Rattle.lxr_core_inv_counts.proofs.KeepingLemmas.{decrementers_keep_counts}

-- ---- places

-- an unreclaimed name's object stands at a place of the heap, where its start bit is set
pub record IsStarted (b : Beginning) (s : EpochState) (place : ℕ) : Type 0 where
  pub in_heap : IsInHeap (limits_of b).blocks place
  pub started : IsTrue (s.tables.starts (granule_of place))

-- an object that lies in the words of the heap begins at a place of it
begins_within : (place refs blocks : ℕ) → 1 ≤ place → 2 * (place - 1) + 1 + refs ≤ WORDS_IN_BLOCK * blocks → place ≤ GRANULES_IN_BLOCK * blocks
begins_within place refs blocks some within = omega arith

pub started_there : (b : Beginning) (s : EpochState) (place : ℕ) → IsEpoch b s → StandsAt b.abstract_state.moment b.abstract_state.at place → IsStarted b s place
started_there b s place is there =
    let ground = ground_of b s is in
    let n : Name = there.name in
    let stands = ground.stands n there.member in
    subst (IsStarted b s) (sym there.stands) (record {
      in_heap = (stands.placed, begins_within (b.abstract_state.at n) stands.shape.refs (limits_of b).blocks stands.placed stands.in_heap);
      started = ground.starts.each n there.member;
    })

-- what a decrementer is about to do next, it knows then
pub known_next : (b : Beginning) (s : EpochState) (i : ℕ) (access : Access) (next : Decrementing) → IsEpoch b s → MayDecrement b s i access next
    → KnowsCounts (limits_of b).blocks (done_to s.tables access) b.abstract_state.moment b.abstract_state.at next
known_next b s i access next is may = (decrementers_keep_counts b s i access next is may).knows i next (set_here s.decrementers i next may.before may.shows)

-- ---- headers

-- The header at a place tells of an object that lies in the heap.
pub record HasHeader (b : Beginning) (s : EpochState) (r : Regions) (place : Place) : Type 0 where
  pub name : Name
  pub shape : Shape
  pub told : header_of (s.tables.heap (first_word place.0)) ≡ header.Object name shape
  pub refs : references_in r place (s.tables.heap (first_word place.0)) ≡ shape.refs

-- an object that lies in the granules of the heap lies in its words
whole_words : (place words blocks counts : ℕ) → 1 ≤ place → place - 1 + words / 2 ≤ GRANULES_IN_BLOCK * blocks → words ≡ words / 2 * 2 → counts ≡ 4096 * blocks
    → nat_le (2 * (place - 1) + words) counts ≡ true
whole_words place words blocks counts some inside even is = let h : 2 * (place - 1) + words ≤ counts = omega (arith, some, inside, even, is) in grind (arith, h)

pub header_there : (b : Beginning) (s : EpochState) (r : Regions) (place : Place) → IsEpoch b s → r ≡ regions_of (limits_of b) → IsStarted b s place.0 → HasHeader b s r place
header_there b s r place is regions there =
    let m = moment_of b s in
    let stands = starts_stand_whole s.tables (limits_of b).blocks s.at m.state.graph m.unreclaimed (members m) is.image.placed.image is.logged.bits.starts (in_first m.unreclaimed m.made)
    (granule_of place.0) there.started in
    let shape : Shape = stands.1 in
    let whole = stands.2 in
    let told = ap header_of whole.header ∙ header_unpacked stands.0 shape whole.name whole.shape in
    let counts : r.counts ≡ 4096 * (limits_of b).blocks = ap (λ x. x.counts) regions ∙ omega arith in
    record {
      name = stands.0;
      shape = shape;
      told = told;
      refs = ap (references_told r place) told
          ∙ ap (λ c. if c then shape.refs else 0) (whole_words place.0 (word_count shape) (limits_of b).blocks r.counts there.in_heap.0 whole.in_heap (omega arith) counts);
    }

-- ---- the list of decrements

-- it lies in its table
pub list_told : (b : Beginning) (s : EpochState) (r : Regions) → IsEpoch b s → r ≡ regions_of (limits_of b) → listed_in r (s.tables.cursors DECREMENT_COUNT) ≡ s.tables.cursors DECREMENT_COUNT
list_told b s r is regions =
    let l = limits_of b in
    let count : ℕ = s.tables.cursors DECREMENT_COUNT in
    let fits = (ground_of b s is).decrements.fits in
    let decs : r.decs ≡ region_begin l decs_region = ap (λ x. x.decs) regions in
    let after : r.remembered ≡ region_begin l decs_region + l.threads * (l.log + l.registers) = ap (λ x. x.remembered) regions ∙ omega arith in
    let within : r.decs + count ≤ r.remembered = omega (arith, decs, after, fits) in
    let test = le-leb (r.decs + count) r.remembered within in
    ap (λ c. if c then count else 0) test
