-- A step that does an access, by what becomes of the machine once it is told a word that tells of the access's entry.
use Rattle.std.proofs.Common.{◌≡◌, ℕ, ◌+◌, ◌<◌, ◌≤◌, Bool, true, false, arith, refl, sym, subst, ap, ◌∙◌, List, [], ◌∷◌, ◌++◌, length, length-append}
use Rattle.std.specs.Prelude.{Option, Some, IsTrue, ◌&&◌, nat_eq, nat_le, nat_lt, slice_index, slice_set, if◌then◌else◌}
use Rattle.lxr_layout.specs.Spaces.{regions_of}
use Rattle.lxr_layout.specs.declared.Shape.{Shape}
use Rattle.lxr_layout.specs.declared.limits.Limits.{Limits}
use Rattle.lxr_layout.specs.declared.limits.Regions.{Regions}
use Rattle.lxr_graph.specs.declared.Op.{Op}
use Rattle.lxr_graph.specs.declared.Op.TheVariants as op
use Rattle.lxr_graph.specs.declared.Reply.{Reply}
use Rattle.lxr_graph.specs.declared.Reply.TheVariants as reply
use Rattle.lxr_graph.specs.History.{Item, Call}
use Rattle.lxr_graph.specs.Step.{step}
use Rattle.lxr_image.specs.Tables.{tables_in}
use Rattle.lxr_actor.specs.declared.Action.{Action}
use Rattle.lxr_actor.specs.declared.Kindred.{Kindred}
use Rattle.lxr_actor.specs.Run.{acted}
use Rattle.lxr_core_access.specs.declared.Access.{Access}
use Rattle.lxr_core_access.specs.Accesses.{MayBeDone, Tells, action_of, done_to, table_entry_of}
use Rattle.lxr_core_access.proofs.AccessLemmas.{access_done, regions_are}
use Rattle.lxr_mutator.specs.declared.phases.MutatorPhase.{MutatorPhase}
use Rattle.lxr_mutator.specs.Mutating.{Mutating, op_now}
use Rattle.lxr_mutator.specs.Operating.{dest_of, shape_made}
use Rattle.lxr_mutator.specs.Steps.{accepts_in, action, after, after_in, done_with, mutator_machine, shape_now}
use Rattle.lxr_core_invariant.specs.EpochStates.{Beginning, EpochState, limits_of, moment_of}
use Rattle.lxr_core_invariant.specs.Events.{Event}
use Rattle.lxr_core_invariant.specs.Happening.{DoesNew, May, happen}
use Rattle.lxr_core_sim_mutator.specs.Showing.{IsMutatorOf, IsNew, thread_state_of}
use Rattle.lxr_core_sim_mutator.specs.Stepping.{ShowsAs, StepIsEvent, history_after, places_after}
use Rattle.lxr_core_sim_mutator.proofs.KeepingLemmas.{GoesOn, now_shown}

-- the event, where the machine is this afterwards
pub record IsEventTo (b : Beginning) (s : EpochState) (i : ℕ) (m : Mutating) (d : Access) (to : Mutating) : Type 0 where
  pub event : Event
  pub may : May b s (thread_state_of m) event
  pub tables : (happen b s i (thread_state_of m) event).tables ≡ done_to s.tables d
  pub thread_states : (happen b s i (thread_state_of m) event).thread_states ≡ slice_set s.thread_states i (thread_state_of to)
  pub mutator : IsMutatorOf (limits_of b) to
  pub history : (happen b s i (thread_state_of m) event).history ≡ history_after b s m to
  pub places : (happen b s i (thread_state_of m) event).at ≡ places_after b s m

-- what the machine is once it is told a word that tells what its phase looks for
abbrev pub told_in_phase : Mutating → ℕ → Mutating
told_in_phase m old = after_in m m.phase old

-- an event of mutator i which does this access, once the machine is told this word
pub record IsEventOf (b : Beginning) (s : EpochState) (i : ℕ) (m : Mutating) (d : Access) (old : ℕ) : Type 0 where
  pub accepts : IsTrue (accepts_in m m.phase old)
  pub event : Event
  pub may : May b s (thread_state_of m) event
  pub tables : (happen b s i (thread_state_of m) event).tables ≡ done_to s.tables d
  pub thread_states : (happen b s i (thread_state_of m) event).thread_states ≡ slice_set s.thread_states i (thread_state_of (told_in_phase m old))
  pub mutator : IsMutatorOf (limits_of b) (told_in_phase m old)
  pub history : (happen b s i (thread_state_of m) event).history ≡ history_after b s m (told_in_phase m old)
  pub places : (happen b s i (thread_state_of m) event).at ≡ places_after b s m

-- so it is the event of the machine's step
event_is : (b : Beginning) (s : EpochState) (i : ℕ) (m : Mutating) (d : Access) (old : ℕ) → IsEventOf b s i m d old → IsEventTo b s i m d (after m old)
event_is b s i m d old is =
    subst (IsEventTo b s i m d) (ap (λ (c : Bool). if c then told_in_phase m old else done_with m reply.Bad) (sym is.accepts))
    (record {
      event = is.event;
      may = is.may;
      tables = is.tables;
      thread_states = is.thread_states;
      mutator = is.mutator;
      history = is.history;
      places = is.places;
    })

-- an action is that of its option
same_action : (a c : Action) → Some a ≡ Some c → a ≡ c
same_action a c e = cc

-- a step that does an access is the event that it is by what it is told
pub by_access : (b : Beginning) (s : EpochState) (words : List ℕ) (i : ℕ) (m : Mutating) (d : Access) → ShowsAs b s words i m → action m ≡ Some (action_of m.regions d)
    → MayBeDone (limits_of b) s.tables d → ((old : ℕ) → Tells s.tables (table_entry_of d) old → IsEventOf b s i m d old) → StepIsEvent b s words i m
by_access b s words i m d shows acts may leads =
    let l = limits_of b in
    let act : Action = action_of m.regions d in
    let old : ℕ = slice_index words act.word in
    let done = access_done l m.regions words (regions_are l m.regions shows.mutator.regions) shows.size d (subst (λ t. MayBeDone l t d) shows.tables may) in
    let is = event_is b s i m d old (leads old (subst (λ t. Tells t (table_entry_of d) old) (sym shows.tables) done.told)) in
    let step : Option Action = action m in
    record {
      fits = λ a e. subst (λ x. x.word < length words) (same_action act a (sym acts ∙ e)) done.within;
      event = is.event;
      may = is.may;
      size = subst (λ x. length (acted mutator_machine words m x).0 ≡ length words) (sym acts) done.size;
      tables = subst (λ x. (happen b s i (thread_state_of m) is.event).tables ≡ tables_in l (acted mutator_machine words m x).0) (sym acts) (is.tables ∙ ap (λ t. done_to t d) shows.tables ∙ sym done.tables);
      thread_states = subst (λ x. (happen b s i (thread_state_of m) is.event).thread_states ≡ slice_set s.thread_states i (thread_state_of (acted mutator_machine words m x).1)) (sym acts) is.thread_states;
      mutator = subst (λ x. IsMutatorOf l (acted mutator_machine words m x).1) (sym acts) is.mutator;
      history = subst (λ x. (happen b s i (thread_state_of m) is.event).history ≡ history_after b s m (acted mutator_machine words m x).1) (sym acts) is.history;
      places = is.places;
    }

-- one reply more is counted as one more, and no reply more isn't
pub one_more : {A : Type 0} (h k : A) (rs : List Reply) (r : Reply) → h ≡ (if nat_eq (length (rs ++ r ∷ [])) (length rs + 1) then h else k)
one_more h k rs r = ap (λ c. if c then h else k) (sym (counted rs r))
  where
    counted : (rs : List Reply) (r : Reply) → nat_eq (length (rs ++ r ∷ [])) (length rs + 1) ≡ true
    counted rs r = let e : length (rs ++ r ∷ []) ≡ length rs + 1 = length-append rs (r ∷ []) in grind (arith, e)

-- and none more is none
pub none_more : {A : Type 0} (h k : A) (rs : List Reply) → k ≡ (if nat_eq (length rs) (length rs + 1) then h else k)
none_more h k rs = ap (λ c. if c then h else k) (sym (counted rs))
  where
    counted : (rs : List Reply) → nat_eq (length rs) (length rs + 1) ≡ false
    counted rs = grind arith

-- a mutator in a phase
abbrev pub in_phase : Mutating → MutatorPhase → Mutating
in_phase m p = record m { phase = p }

-- an action, as an option
abbrev pub some_action : Action → Option Action
some_action a = Some a

-- a step on a word of the heap, and on a cursor, is that of its entry
pub on_heap : (l : Limits) (r : Regions) (k : Kindred) (at operand : ℕ) → r ≡ regions_of l
    → ◌≡◌ {A = Option Action} (Some (record { kind = k; word = at; operand = operand })) (Some (record { kind = k; word = r.heap + at; operand = operand }))
on_heap l r k at operand is =
    let begins : r.heap ≡ 0 = ap (λ x. x.heap) is in
    let e : at ≡ r.heap + at = omega (arith, begins) in
    ap (λ (w : ℕ). some_action (record { kind = k; word = w; operand = operand })) e

-- so is one on the pause word
pub on_pause_word : (r : Regions) (k : Kindred) (operand : ℕ)
    → ◌≡◌ {A = Option Action} (Some (record { kind = k; word = r.cursors; operand = operand })) (Some (record { kind = k; word = r.cursors + 0; operand = operand }))
on_pause_word r k operand = let e : r.cursors ≡ r.cursors + 0 = omega arith in ap (λ (w : ℕ). some_action (record { kind = k; word = w; operand = operand })) e

-- tests that hold
pub is_le : (a b : ℕ) → a ≤ b → IsTrue (nat_le a b)
is_le a b h = grind (arith, h)

-- so with less
pub is_lt : (a b : ℕ) → a < b → IsTrue (nat_lt a b)
is_lt a b h = grind (arith, h)

-- and with both of two
pub both : (a c : Bool) → IsTrue a → IsTrue c → IsTrue (a && c)
both true true h k = refl
both true false h k = k
both false c h k = h

-- the machine accepts what it is told, and is what the event makes of it
pub of_event : (b : Beginning) (s : EpochState) (i : ℕ) (m : Mutating) (d : Access) (old : ℕ) → IsTrue (accepts_in m m.phase old) → IsEventTo b s i m d (told_in_phase m old) → IsEventOf b s i m d old
of_event b s i m d old accepts is = record {
  accepts = accepts;
  event = is.event;
  may = is.may;
  tables = is.tables;
  thread_states = is.thread_states;
  mutator = is.mutator;
  history = is.history;
  places = is.places;
}

-- the parts of a `new`
pub new_parts : (o : Op) → (dest : ℕ) × (shape : Shape) × (o ≡ op.New dest shape) → o ≡ op.New (dest_of o) (shape_made o)
new_parts o is = subst (λ z. z ≡ op.New (dest_of z) (shape_made z)) (sym is.2) refl

-- an operation, as an option
abbrev pub some_op : Op → Option Op
some_op o = Some o

-- it shows that it is in a `new`
pub new_shown : (m : Mutating) → GoesOn m → IsNew m → DoesNew (thread_state_of m) (shape_now m)
new_shown m goes new = (dest_of (op_now m), now_shown m goes ∙ ap some_op (new_parts (op_now m) new))

-- the history by how many replies there are after a step that isn't one of a load
abbrev pub history_by : Beginning → EpochState → Mutating → ℕ → List Item
history_by b s m many = if nat_eq many (length m.replies.items + 1) then Call m.thread (op_now m) (step (moment_of b s).state m.thread (op_now m)).1 ∷ s.history else s.history

-- what tests tell
pub told_le : (a b : ℕ) → nat_le a b ≡ true → a ≤ b
told_le a b e = grind (arith, e)

-- not at most is above
pub told_above : (a b : ℕ) → nat_le a b ≡ false → b < a
told_above a b e = grind (arith, e)

-- a test of less
pub told_lt : (a b : ℕ) → nat_lt a b ≡ true → a < b
told_lt a b e = grind (arith, e)

-- not less is from there on
pub told_from : (a b : ℕ) → nat_lt a b ≡ false → b ≤ a
told_from a b e = grind (arith, e)
