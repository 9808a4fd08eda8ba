-- What a mutator has learned of objects stays true where members keep their places and shapes.
use Rattle.std.proofs.Common.{◌≡◌, ◌≢◌, ℕ, ◌+◌, ◌<◌, refl, sym, ap, subst, ◌∙◌, inl, inr, Bool, true, false}
use Rattle.std.specs.Prelude.{Some, None, IsTrue, slice_get, slice_set, slice_index_or, nat_eq, if◌then◌else◌}
use Rattle.lxr_layout.specs.declared.Name.{Name}
use Rattle.lxr_layout.specs.declared.Place.{Place}
use Rattle.lxr_layout.specs.declared.Shape.{Shape}
use Rattle.lxr_layout.specs.Registers.{nil}
use Rattle.lxr_graph.specs.declared.Op.{Op}
use Rattle.lxr_graph.specs.Names.{has}
use Rattle.lxr_graph.specs.State.{Object, object_at, shape_of, world_name}
use Rattle.lxr_image.specs.Tables.{Tables}
use Rattle.lxr_image.specs.Image.{IsImage}
use Rattle.lxr_model.specs.Moments.{Moment}
use Rattle.lxr_invariant.specs.AbstractState.{members}
use Rattle.lxr_core_invariant.specs.ThreadStates.{Intent, Stage, ThreadState, is_end, op_now, Plain, AtReference, AtValue, Clears, Stores, DrewRun, HasRun, NeedsBlock, DrewBlock, HasBlock, Makes, GivesUp, Rests, Works, Names, Through}
use Rattle.lxr_core_invariant.specs.ThreadStates as why
use Rattle.lxr_core_invariant.specs.EpochStates.{Beginning, EpochState, limits_of, moment_of}
use Rattle.lxr_core_invariant.specs.Events.{WorksOn, done_with, found_reply, stage_after}
use Rattle.lxr_core_invariant.specs.Happening.{at_stage, loaded_with}
use Rattle.lxr_core_invariant.specs.Imaged.{IsPlacedIn, IsReferenceAt, IsValueAt, IsWipedTo, Knows}
use Rattle.lxr_core_invariant.proofs.ShowingLemmas.{shown_cases}

-- Members of a moment are those of another one, at their places, with objects of their shapes.
pub record KeepsMembers (m k : Moment) (at to : Name → ℕ) : Type 0 where
  pub member : (n : Name) → IsTrue (has (members m) n) → IsTrue (has (members k) n)
  pub place : (n : Name) → IsTrue (has (members m) n) → to n ≡ at n
  pub object : (n : Name) (o : Object) → IsTrue (has (members m) n) → object_at m.state.graph n ≡ Some o → (c : Object) × (object_at k.state.graph n ≡ Some c) × (shape_of c ≡ shape_of o)

-- all is as it was
pub all_kept : (m : Moment) (at : Name → ℕ) → KeepsMembers m m at at
all_kept m at = record { member = λ n h. h; place = λ n h. refl; object = λ n o h e. (o, e, refl) }

-- ---- what is learned

-- another thread state of the same operation and registers works on the same object
pub works_as : (v w : ThreadState) (place index : ℕ) → op_now w ≡ op_now v → w.registers ≡ v.registers → WorksOn v place index → WorksOn w place index
works_as v w place index now registers on = record {
  now = on.now;
  base = on.base;
  is = now ∙ on.is;
  named = on.named;
  held = ap (λ rs. (slice_index_or rs on.base nil).0) registers ∙ on.held;
  some = on.some;
}

-- a reference of a member stands where it did
reference_kept : (m k : Moment) (at to : Name → ℕ) (place index : ℕ) → KeepsMembers m k at to → IsReferenceAt m at place index → IsReferenceAt k to place index
reference_kept m k at to place index keeps is =
    let c = keeps.object is.name is.object is.member is.is in
    record {
      name = is.name;
      object = c.0;
      member = keeps.member is.name is.member;
      is = c.1;
      stands = is.stands ∙ sym (keeps.place is.name is.member);
      within = subst (λ (s : Shape). index < s.refs) (sym c.2) is.within;
    }

-- and so does a data word
value_kept : (m k : Moment) (at to : Name → ℕ) (place refs index : ℕ) → KeepsMembers m k at to → IsValueAt m at place refs index → IsValueAt k to place refs index
value_kept m k at to place refs index keeps is =
    let c = keeps.object is.name is.object is.member is.is in
    record {
      name = is.name;
      object = c.0;
      member = keeps.member is.name is.member;
      is = c.1;
      stands = is.stands ∙ sym (keeps.place is.name is.member);
      refs_are = is.refs_are ∙ ap (λ (s : Shape). s.refs) (sym c.2);
      within = subst (λ (s : Shape). index < s.values) (sym c.2) is.within;
    }

-- where wiped words stay so
abbrev pub KeepsWiped : Tables → Tables → Stage → Type 0
KeepsWiped t u stage = (place : ℕ) (shape : Shape) (wiped : ℕ) → stage ≡ Works (Makes place shape wiped) → IsWipedTo t place shape wiped → IsWipedTo u place shape wiped

-- what a mutator knows it goes on to know
pub knows_on : (t u : Tables) (m k : Moment) (at to : Name → ℕ) (v : ThreadState) (stage : Stage) → KeepsMembers m k at to → KeepsWiped t u stage → Knows t m at v stage → Knows u k to v stage
knows_on t u m k at to v Rests keeps wiped knows = tt
knows_on t u m k at to v (Works (AtReference place index)) keeps wiped knows = record { stands = reference_kept m k at to place index keeps knows.stands; on = knows.on }
knows_on t u m k at to v (Works (AtValue place refs index)) keeps wiped knows = record { stands = value_kept m k at to place refs index keeps knows.stands; on = knows.on }
knows_on t u m k at to v (Works (Clears e)) keeps wiped knows = record { stands = reference_kept m k at to e.place.0 e.index keeps knows.stands; on = knows.on }
knows_on t u m k at to v (Works (Stores place index)) keeps wiped knows = record { stands = reference_kept m k at to place index keeps knows.stands; on = knows.on }
knows_on t u m k at to v (Works (Makes place shape done)) keeps wiped knows = wiped place shape done refl knows
knows_on t u m k at to v (Works Plain) keeps wiped knows = tt
knows_on t u m k at to v (Works (DrewRun number)) keeps wiped knows = tt
knows_on t u m k at to v (Works (HasRun number)) keeps wiped knows = tt
knows_on t u m k at to v (Works NeedsBlock) keeps wiped knows = tt
knows_on t u m k at to v (Works (DrewBlock number)) keeps wiped knows = tt
knows_on t u m k at to v (Works (HasBlock number)) keeps wiped knows = tt
knows_on t u m k at to v (Works (GivesUp reason)) keeps wiped knows = tt
knows_on t u m k at to v (Names place) keeps wiped knows = tt
knows_on t u m k at to v (Through reason) keeps wiped knows = tt

-- a mutator that is done with an operation has nothing to know
pub knows_done : (t : Tables) (m : Moment) (at : Name → ℕ) (w v : ThreadState) (o : Op) → Knows t m at w (stage_after v o)
knows_done t m at w v o = by_end (is_end o) (nat_eq (v.since + 1) v.every)
  where
    by_end : (ends turns : Bool) → Knows t m at w (if ends then (Through why.Ended) else (if turns then (Through why.Turns) else Rests))
    by_end true turns = tt
    by_end false true = tt
    by_end false false = tt

-- what holds of two thread states holds of the one that is shown
either_thread_state : (P : ThreadState → Type 0) (b : Bool) (x y : ThreadState) → P x → P y → P (if b then x else y)
either_thread_state P true x y hx hy = hx
either_thread_state P false x y hx hy = hy

-- nor has one that has taken a reference
pub knows_loaded : (t : Tables) (m : Moment) (at : Name → ℕ) (v : ThreadState) (o : Op) (dest : ℕ) (p : Place) → Knows t m at (loaded_with v o dest p) (loaded_with v o dest p).stage
knows_loaded t m at v o dest p =
    let held : ThreadState = record v { registers = slice_set v.registers dest p } in
    let done : ThreadState = done_with held o (found_reply o None) in
    either_thread_state (λ w. Knows t m at w w.stage) (nat_eq p.0 0) done (at_stage held (Names p.0)) (knows_done t m at done held o) tt

-- ---- what an event keeps

-- Objects stay placed where the image is kept, members keep their places, others' wiped words stay wiped, and the mutator
-- knows what it is to.
pub still_placed : (b : Beginning) (s u : EpochState) (i : ℕ) (v w : ThreadState) → IsPlacedIn b s → slice_get s.thread_states i ≡ Some v → IsTrue (has (members (moment_of b s)) world_name)
    → ((n : Name) → IsTrue (has (members b.abstract_state.moment) n) → IsTrue (has (members (moment_of b s)) n))
    → IsImage u.tables (limits_of b).blocks u.at (moment_of b u).state.graph (members (moment_of b u)) → KeepsMembers (moment_of b s) (moment_of b u) s.at u.at
    → ((j : ℕ) (x : ThreadState) → j ≢ i → slice_get s.thread_states j ≡ Some x → KeepsWiped s.tables u.tables x.stage)
    → Knows u.tables (moment_of b u) u.at w w.stage → u.thread_states ≡ slice_set s.thread_states i w → IsPlacedIn b u
still_placed b s u i v w placed shown world opening image keeps wiped own thread_states = record {
  image = image;
  world = keeps.place world_name world ∙ placed.world;
  unmoved = λ n h. keeps.place n (opening n h) ∙ placed.unmoved n h;
  knows = λ j x e. elim (shown_cases s.thread_states i v w j x shown (ap (λ xs. slice_get xs j) (sym thread_states) ∙ e)) [
    | inl q ↦ subst (λ y. Knows u.tables (moment_of b u) u.at y y.stage) (sym q.1) own
    | inr q ↦ knows_on s.tables u.tables (moment_of b s) (moment_of b u) s.at u.at x x.stage keeps (wiped j x q.0 q.1) (placed.knows j x q.1)
  ];
}
