-- The steps that write a new object.
use Rattle.std.proofs.Common.{◌≡◌, ℕ, ◌+◌, ◌-◌, ◌*◌, ◌<◌, ◌≤◌, Bool, true, false, arith, refl, sym, ap, ◌∙◌, length}
use Rattle.std.specs.Prelude.{List, nat_lt, slice_set, if◌then◌else◌}
use Rattle.lxr_layout.specs.Spaces.{regions_of}
use Rattle.lxr_layout.specs.declared.TheConstants.{WORDS_IN_BLOCK}
use Rattle.lxr_layout.specs.declared.Name.{Name}
use Rattle.lxr_layout.specs.declared.Place.{Place}
use Rattle.lxr_layout.specs.declared.limits.Limits.{Limits}
use Rattle.lxr_layout.specs.Objects.{header_word, word_count}
use Rattle.lxr_layout.specs.Places.{IsPlace, first_word}
use Rattle.lxr_graph.specs.declared.Reply.TheVariants as reply
use Rattle.lxr_graph.specs.State.{next_name}
use Rattle.lxr_image.specs.ImageLaws.{with_heap}
use Rattle.lxr_actor.specs.declared.Kindred.TheVariants as kind
use Rattle.lxr_core_access.specs.declared.Access.TheVariants.{PutHeap}
use Rattle.lxr_mutator.specs.declared.phases.MutatorPhase.TheVariants as phase
use Rattle.lxr_mutator.specs.Mutating.{Mutating, op_now, next_name as next_made}
use Rattle.lxr_mutator.specs.Operating.{dest_of}
use Rattle.lxr_mutator.specs.Steps.{shape_now, with_register}
use Rattle.lxr_mutator.proofs.NowLemmas.{dest_now}
use Rattle.lxr_core_invariant.specs.ThreadStates.{Makes}
use Rattle.lxr_core_invariant.specs.Events as epoch
use Rattle.lxr_core_invariant.specs.Happening.{intends}
use Rattle.lxr_core_invariant.specs.EpochStates.{Beginning, EpochState, limits_of, moment_of}
use Rattle.lxr_core_sim_mutator.specs.Showing.{IsMutatorOf, IsNew, thread_state_of}
use Rattle.lxr_core_sim_mutator.specs.Stepping.{ShowsAs, StepIsEvent}
use Rattle.lxr_core_sim_mutator.proofs.KeepingLemmas.{GoesOn, IsOfSpace, goes_on, no_end_now, now_shown, of_space, thread_state_done, to_done, to_phase, with_place}
use Rattle.lxr_core_sim_mutator.proofs.OutcomeLemmas.{by_access, in_phase, new_parts, none_more, on_heap, one_more, told_from, told_lt}
use Rattle.lxr_core_sim_mutator.proofs.KnowingLemmas.{making_there}

-- ---- it wipes a word

-- the machine once it has wiped a word, by whether there are more
abbrev wiped_to : Mutating → Place → ℕ → Bool → Mutating
wiped_to m place next more = record m { phase = if more then phase.Wiping place (next + 1) else phase.Heading place }

-- what it shows then
wiped_shown : (m : Mutating) (place : Place) (next : ℕ) (more : Bool) → 1 ≤ next → next < word_count (shape_now m) → nat_lt (next + 1) (word_count (shape_now m)) ≡ more
    → intends (thread_state_of m) (Makes place.0 (shape_now m) (next - 1 + 1)) ≡ thread_state_of (wiped_to m place next more)
wiped_shown m place next true some below e =
    let same : next - 1 + 1 ≡ next + 1 - 1 = omega arith in
    ap (λ (k : ℕ). intends (thread_state_of m) (Makes place.0 (shape_now m) k)) same
wiped_shown m place next false some below e =
    let last = told_from (next + 1) (word_count (shape_now m)) e in
    let same : next - 1 + 1 ≡ word_count (shape_now m) - 1 = omega (arith, last, some, below) in
    ap (λ (k : ℕ). intends (thread_state_of m) (Makes place.0 (shape_now m) k)) same

-- it is a mutator of the space then
wiped_kept : (l : Limits) (m : Mutating) (place : Place) (next : ℕ) (more : Bool) → GoesOn m → IsOfSpace l m → length m.replies.items < length m.operations → IsNew m → IsPlace place
    → 1 ≤ next → nat_lt (next + 1) (word_count (shape_now m)) ≡ more → IsMutatorOf l (wiped_to m place next more)
wiped_kept l m place next true goes space left new is some e =
    to_phase l m (phase.Wiping place (next + 1)) goes space left (is, (omega arith, told_lt (next + 1) (word_count (shape_now m)) e)) new
wiped_kept l m place next false goes space left new is some e = to_phase l m (phase.Heading place) goes space left is new

-- a step that wipes a word is an event
pub wiping_step : (b : Beginning) (s : EpochState) (words : List ℕ) (i : ℕ) (m : Mutating) (place : Place) (next : ℕ) → ShowsAs b s words i (in_phase m (phase.Wiping place next))
    → StepIsEvent b s words i (in_phase m (phase.Wiping place next))
wiping_step b s words i m place next shows =
    let n = in_phase m (phase.Wiping place next) in
    let l = limits_of b in
    let is = shows.epoch in
    let goes = goes_on n shows.mutator.sound (λ e. cc) in
    let left = shows.mutator.sound.busy refl in
    let may = shows.mutator.sound.phase in
    let some = may.1.0 in
    let below = may.1.1 in
    let at : ℕ = first_word place.0 + next in
    let there = making_there b s place.0 (shape_now n) is (is.drawn.makes i (thread_state_of n) place.0 (shape_now n) (next - 1) shows.thread_state refl) in
    let more : Bool = nat_lt (next + 1) (word_count (shape_now n)) in
    let same : first_word place.0 + 1 + (next - 1) ≡ at = behind (first_word place.0) next some in
    by_access b s words i n (PutHeap at 0) shows (on_heap l n.regions kind.Store at 0 shows.mutator.regions)
    (record { table_entry = within (first_word place.0) next (word_count (shape_now n)) (WORDS_IN_BLOCK * l.blocks) below there; entry = tt })
    (λ old told. record {
      accepts = refl;
      event = epoch.Wipes place.0 (shape_now n) (next - 1);
      may = record { stage = refl; more = before next (word_count (shape_now n)) some below };
      tables = ap (λ (k : ℕ). with_heap s.tables k 0) same;
      thread_states = ap (slice_set s.thread_states i) (wiped_shown n place next more some below refl);
      mutator = wiped_kept l n place next more goes (of_space shows.mutator) left shows.mutator.steady may.0 some refl;
      history = none_more _ _ n.replies.items;
      places = refl;
    })
  where
    behind : (first next : ℕ) → 1 ≤ next → first + 1 + (next - 1) ≡ first + next
    behind first next some = omega arith

    within : (first next words end : ℕ) → next < words → first + words ≤ end → first + next < end
    within first next words end below there = omega arith

    before : (next words : ℕ) → 1 ≤ next → next < words → next - 1 + 1 < words
    before next words some below = omega arith

-- ---- it makes the object by its header

-- the next name of the machine is that of the model
pub heading_step : (b : Beginning) (s : EpochState) (words : List ℕ) (i : ℕ) (m : Mutating) (place : Place) → ShowsAs b s words i (in_phase m (phase.Heading place))
    → next_name (moment_of b s).state.graph m.thread ≡ next_made m → StepIsEvent b s words i (in_phase m (phase.Heading place))
heading_step b s words i m place shows named =
    let n = in_phase m (phase.Heading place) in
    let l = limits_of b in
    let is = shows.epoch in
    let goes = goes_on n shows.mutator.sound (λ e. cc) in
    let left = shows.mutator.sound.busy refl in
    let dest : ℕ = dest_of (op_now n) in
    let at : ℕ = first_word place.0 in
    let shape = shape_now n in
    let value : ℕ = header_word (next_made n) shape in
    let may = shows.mutator.sound.phase in
    let there = making_there b s place.0 shape is (is.drawn.makes i (thread_state_of n) place.0 shape (word_count shape - 1) shows.thread_state refl) in
    by_access b s words i n (PutHeap at value) shows (on_heap l n.regions kind.Store at value shows.mutator.regions) (record { table_entry = within at (word_count shape) (WORDS_IN_BLOCK * l.blocks) (omega arith) there; entry = tt })
    (λ old told. record {
      accepts = refl;
      event = epoch.MakesObject (op_now n) dest place.0 shape;
      may = record { wiped = word_count shape - 1; stage = refl; all = omega arith; does = now_shown n goes; makes = new_parts (op_now n) shows.mutator.steady };
      tables = ap (λ (k : Name). with_heap s.tables at (header_word k shape)) named;
      thread_states = ap (λ (k : Name). slice_set s.thread_states i (epoch.done_with (thread_state_of (with_register n dest place)) (op_now n) (reply.New k))) named
          ∙ ap (slice_set s.thread_states i) (sym (thread_state_done (with_register n dest place) (op_now n) (reply.New (next_made n)) goes.since (no_end_now n goes left)));
      mutator = to_done l (with_register n dest place) (reply.New (next_made n)) (with_place n dest place (dest_now n shows.mutator.sound) goes may.1) (of_space shows.mutator) left;
      history = one_more _ _ n.replies.items (reply.New (next_made n));
      places = refl;
    })
  where
    within : (first words end : ℕ) → 1 ≤ words → first + words ≤ end → first < end
    within first words end some there = omega arith
