-- What a step of a mutator leads to in an epoch, whether it tells names or not: that of one that tells none is the step of one that does, or two of
-- them where the second looks at a header.
use Rattle.std.proofs.Common.{◌≡◌, ℕ, zero, suc, ◌+◌, Bool, true, false, refl, sym, ap, subst, ◌∙◌, arith, List, [], ◌∷◌, ◌++◌, length, nat_eq}
use Rattle.std.specs.Prelude.{Option, Some, None, IsSome, IsTrue, if◌then◌else◌, map, nat_le, slice_get, slice_index, slice_set}
use Rattle.std.proofs.lemmas.List.{length-append, length-map, set-get_or}
use Rattle.std.proofs.lemmas.Option.{slice_get_within}
use Rattle.lxr_layout.specs.declared.Name.{Name}
use Rattle.lxr_layout.specs.declared.Place.{Place}
use Rattle.lxr_layout.specs.Objects.{header_of}
use Rattle.lxr_layout.specs.Places.{first_word}
use Rattle.lxr_layout.specs.Spaces.{all_regions, region_begin}
use Rattle.lxr_graph.specs.declared.Op.{Op}
use Rattle.lxr_graph.specs.declared.Op.TheVariants as op
use Rattle.lxr_graph.specs.declared.Reply.{Reply}
use Rattle.lxr_graph.specs.declared.Reply.TheVariants as reply
use Rattle.lxr_graph.specs.History.{Call, Item, replies_of}
use Rattle.lxr_graph.specs.Step.{step}
use Rattle.lxr_image.specs.Tables.{tables_in}
use Rattle.lxr_actor.specs.declared.Action.{Action}
use Rattle.lxr_actor.specs.Change.{changed}
use Rattle.lxr_actor.specs.Machine.{Fits}
use Rattle.lxr_actor.specs.Run.{acted, stepped}
use Rattle.lxr_actor.proofs.Runs.{slice_get-set_same}
use Rattle.lxr_barrier.specs.Storing.{swaps_next}
use Rattle.lxr_mutator.specs.declared.phases.MutatorPhase.{MutatorPhase}
use Rattle.lxr_mutator.specs.declared.phases.MutatorPhase.TheVariants as phase
use Rattle.lxr_mutator.specs.Laws.{StepsByRule}
use Rattle.lxr_mutator.specs.Laws.StepsByRule.{does_one, finds_asked, finds_end, gave_up, goes_on, stands_still}
use Rattle.lxr_mutator.specs.Mutating.{Mutating, op_now}
use Rattle.lxr_mutator.specs.Naming.{blank, looks_up, without_names}
use Rattle.lxr_mutator.specs.Operating.{found_reply as told_reply}
use Rattle.lxr_mutator.specs.Steps.{action, action_in, after, done_with, is_header, mutator_machine, name_told, next_in}
use Rattle.lxr_mutator.proofs.AgendaLemmas.{last_at}
use Rattle.lxr_mutator.proofs.NamelessLemmas.{steps_without_names}
use Rattle.lxr_mutator.proofs.StepLemmas.{step_by_rule}
use Rattle.lxr_core_invariant.specs.ThreadStates.{ThreadState}
use Rattle.lxr_core_invariant.specs.EpochStates.{Beginning, EpochState, limits_of, moment_of}
use Rattle.lxr_core_invariant.specs.Events.{found_reply, takes_reference}
use Rattle.lxr_core_invariant.specs.Events as event
use Rattle.lxr_core_invariant.specs.Called.{AreReplies, IsToTell}
use Rattle.lxr_core_invariant.specs.Happening.{happen}
use Rattle.lxr_core_invariant.specs.Epoch.{IsEpoch}
use Rattle.lxr_core_invariant.specs.Laws.{HaveNotFallen}
use Rattle.lxr_core_inv_memory.proofs.RaisingLemmas.{cursors_dont_fall}
use Rattle.lxr_core_sim_mutator.specs.Showing.{HasTold, IsMutatorOf, stage_in, thread_state_of, told_by, told_in}
use Rattle.lxr_core_sim_mutator.specs.Stepping.{ShowsAs, history_after, places_after, places_in, stands_in}
use Rattle.lxr_core_sim_mutator.proofs.StepLemmas.{each_step}
use Rattle.lxr_core.proofs.KeptLemmas.{epoch_is_kept}
use Rattle.lxr_core.proofs.ToldLemmas.{now_without, of_with, of_without, shown_in, told_names, told_with, untold, untold_shown}

-- ---- what a step leads to

-- what helpers are about to do stays at events of mutators
record HelpersStay (s after : EpochState) : Type 0 where
  decrementers : after.decrementers ≡ s.decrementers
  tracers : after.tracers ≡ s.tracers

helpers_show : (b : Beginning) (s : EpochState) (i : ℕ) (v : ThreadState) (e : event.Event) → HelpersStay s (happen b s i v e)
helpers_show b s i v event.Stays = record { decrementers = refl; tracers = refl }
helpers_show b s i v event.Obeys = record { decrementers = refl; tracers = refl }
helpers_show b s i v event.Begins = record { decrementers = refl; tracers = refl }
helpers_show b s i v event.BeginsBlock = record { decrementers = refl; tracers = refl }
helpers_show b s i v (event.Bumps from shape) = record { decrementers = refl; tracers = refl }
helpers_show b s i v (event.DoesAtOnce o r registers) = record { decrementers = refl; tracers = refl }
helpers_show b s i v (event.FindsReference place index) = record { decrementers = refl; tracers = refl }
helpers_show b s i v (event.FindsValue place refs index) = record { decrementers = refl; tracers = refl }
helpers_show b s i v (event.FindsNone o) = record { decrementers = refl; tracers = refl }
helpers_show b s i v (event.LoadsReference o dest place index) = record { decrementers = refl; tracers = refl }
helpers_show b s i v (event.TellsName o n) = record { decrementers = refl; tracers = refl }
helpers_show b s i v (event.GetsValue o place refs index) = record { decrementers = refl; tracers = refl }
helpers_show b s i v (event.PutsValue o place refs index value) = record { decrementers = refl; tracers = refl }
helpers_show b s i v (event.AddsValue o place refs index value) = record { decrementers = refl; tracers = refl }
helpers_show b s i v (event.SeesClear place index) = record { decrementers = refl; tracers = refl }
helpers_show b s i v (event.SeesFull place index) = record { decrementers = refl; tracers = refl }
helpers_show b s i v (event.LoadsOld place index) = record { decrementers = refl; tracers = refl }
helpers_show b s i v (event.ClearsFirst e n) = record { decrementers = refl; tracers = refl }
helpers_show b s i v (event.ClearsLate e) = record { decrementers = refl; tracers = refl }
helpers_show b s i v (event.StoresReference o place index value) = record { decrementers = refl; tracers = refl }
helpers_show b s i v (event.SwapsReference o dest place index value) = record { decrementers = refl; tracers = refl }
helpers_show b s i v event.DrawsRun = record { decrementers = refl; tracers = refl }
helpers_show b s i v event.MissesRun = record { decrementers = refl; tracers = refl }
helpers_show b s i v (event.SeesRun number) = record { decrementers = refl; tracers = refl }
helpers_show b s i v (event.TakesRun r shape) = record { decrementers = refl; tracers = refl }
helpers_show b s i v event.DrawsBlock = record { decrementers = refl; tracers = refl }
helpers_show b s i v event.MissesBlock = record { decrementers = refl; tracers = refl }
helpers_show b s i v (event.SeesBlock number) = record { decrementers = refl; tracers = refl }
helpers_show b s i v (event.TakesBlock block shape) = record { decrementers = refl; tracers = refl }
helpers_show b s i v (event.Wipes place shape wiped) = record { decrementers = refl; tracers = refl }
helpers_show b s i v (event.MakesObject o dest place shape) = record { decrementers = refl; tracers = refl }
helpers_show b s i v (event.Asks o r) = record { decrementers = refl; tracers = refl }
helpers_show b s i v (event.Leaves why) = record { decrementers = refl; tracers = refl }

-- A step of mutator i, which led to these words and to what it is now, led to a state of the epoch where it shows this.
pub record LeadsTo (b : Beginning) (s : EpochState) (words : List ℕ) (i : ℕ) (m : Mutating) (to : List ℕ × Mutating) (shows : EpochState → ThreadState) : Type 0 where
  pub reached : EpochState
  pub epoch : IsEpoch b reached
  pub fits : Fits mutator_machine words m
  pub size : length to.0 ≡ length words
  pub tables : reached.tables ≡ tables_in (limits_of b) to.0
  pub thread_states : reached.thread_states ≡ slice_set s.thread_states i (shows reached)
  pub decrementers : reached.decrementers ≡ s.decrementers
  pub tracers : reached.tracers ≡ s.tracers
  pub mutator : IsMutatorOf (limits_of b) to.1
  pub history : reached.history ≡ history_after b s m to.1
  pub places : reached.at ≡ places_after b s m
  pub risen : HaveNotFallen s.tables reached.tables

-- it tells names
record NamesTo (b : Beginning) (s : EpochState) (words : List ℕ) (i : ℕ) (m : Mutating) (to : List ℕ × Mutating) : Type 0 where
  leads : LeadsTo b s words i m to (λ reached. thread_state_of to.1)
  names : to.1.names ≡ true

-- whether it does or not, it has told what the history has of it
pub record StepsTo (b : Beginning) (s : EpochState) (words : List ℕ) (i : ℕ) (m : Mutating) (to : List ℕ × Mutating) : Type 0 where
  pub leads : LeadsTo b s words i m to (λ reached. shown_in reached.history to.1)
  pub told : HasTold leads.reached.history to.1

-- ---- who tells names

-- a step leaves it so
pub names_by : (m : Mutating) (old : ℕ) (to : Mutating) → StepsByRule m old to → to.names ≡ m.names
names_by m old to (goes_on log registers spans p busy) = refl
names_by m old to (finds_asked ready is) = refl
names_by m old to (finds_end ready unasked is) = refl
names_by m old to (gave_up why is) = refl
names_by m old to (does_one log registers r) = refl
names_by m old to (stands_still is) = refl

names_stay : (words : List ℕ) (m : Mutating) (o : Option Action) → (acted mutator_machine words m o).1.names ≡ m.names
names_stay words m None = refl
names_stay words m (Some act) = names_by m (slice_index words act.word) (after m (slice_index words act.word)) (step_by_rule m (slice_index words act.word))

-- its step is an event, which keeps the invariant
module _ (b : Beginning) (s : EpochState) (words : List ℕ) (i : ℕ) (m : Mutating) where
  step_named : ShowsAs b s words i m → IsSome (action m) → NamesTo b s words i m (stepped mutator_machine words m)
  step_named shows some =
      let by = each_step b s words i m shows some in
      let helpers = helpers_show b s i (thread_state_of m) by.event in
      record {
        leads = record {
          reached = happen b s i (thread_state_of m) by.event;
          epoch = epoch_is_kept b s i (thread_state_of m) by.event shows.epoch shows.thread_state by.may;
          fits = by.fits;
          size = by.size;
          tables = by.tables;
          thread_states = by.thread_states;
          decrementers = helpers.decrementers;
          tracers = helpers.tracers;
          mutator = by.mutator;
          history = by.history;
          places = by.places;
          risen = cursors_dont_fall.mutators b s i (thread_state_of m) by.event shows.epoch by.may;
        };
        names = names_stay words m (action m) ∙ shows.names;
      }

  -- it has told all that it shows
  module _ (to : List ℕ × Mutating) where
    named_told : NamesTo b s words i m to → StepsTo b s words i m to
    named_told by =
        let is = by.leads in
        record {
          leads = record {
            reached = is.reached;
            epoch = is.epoch;
            fits = is.fits;
            size = is.size;
            tables = is.tables;
            thread_states = is.thread_states ∙ ap (λ c. slice_set s.thread_states i (thread_state_of (told_by c is.reached.history to.1))) (sym by.names);
            decrementers = is.decrementers;
            tracers = is.tracers;
            mutator = is.mutator;
            history = is.history;
            places = is.places;
            risen = is.risen;
          };
          told = λ e. let bad : true ≡ false = sym by.names ∙ e in absurd (cc);
        }

    -- and stands in the epoch so for its next step
    named_shows : ShowsAs b s words i m → (by : NamesTo b s words i m to) → ShowsAs b by.leads.reached to.0 i to.1
    named_shows shows by =
        let is = by.leads in
        record {
          epoch = is.epoch;
          size = is.size ∙ shows.size;
          tables = is.tables;
          thread_state = ap (λ vs. slice_get vs i) is.thread_states ∙ slice_get-set_same s.thread_states i (thread_state_of to.1) (slice_get_within s.thread_states i (thread_state_of m) shows.thread_state);
          mutator = is.mutator;
          names = by.names;
        }

-- its replies are those of the history, before it looks up a name
replies_stand : (b : Beginning) (s : EpochState) (words : List ℕ) (i : ℕ) (m : Mutating) → ShowsAs b s words i m → looks_up m.phase ≡ false → replies_of m.thread s.history ≡ m.replies.items
replies_stand b s words i m shows looks = by_phase m.phase looks (shows.epoch.called.each i (thread_state_of m) shows.thread_state).replies
  where
    by_phase : (p : MutatorPhase) → looks_up p ≡ false → AreReplies b s (thread_state_of m) (stage_in m p) → replies_of m.thread s.history ≡ m.replies.items
    by_phase (phase.Referent place) looks same = absurd (cc)
    by_phase p looks same = same

-- ---- who tells none, with one step of one that does

-- a list is not one longer than itself
not_longer : (n k : ℕ) → k ≡ n → nat_eq k (n + 1) ≡ true → ⊥
not_longer n k same longer = grind (arith, same, longer)

-- the operation stands in the history at the same step
stands_without : (p : MutatorPhase) (m to : Mutating) → stands_in p m to ≡ stands_in p (without_names m) (without_names to)
stands_without p m to = by_phase p
  where
    as_long : nat_eq (length to.replies.items) (length m.replies.items + 1) ≡ nat_eq (length (map blank to.replies.items)) (length (map blank m.replies.items) + 1)
    as_long = ap (λ n. nat_eq n (length m.replies.items + 1)) (sym (length-map to.replies.items blank)) ∙ ap (λ n. nat_eq (length (map blank to.replies.items)) (n + 1)) (sym (length-map m.replies.items blank))

    by_phase : (p : MutatorPhase) → stands_in p m to ≡ stands_in p (without_names m) (without_names to)
    by_phase (phase.Reference base) = refl
    by_phase (phase.Referent place) = refl
    by_phase (phase.Storing store) = ap (λ c. if swaps_next store then true else c) as_long
    by_phase p = as_long

-- the history by whether it does, and by the operation
abbrev history_by : Beginning → EpochState → ℕ → Bool → Op → List Item
history_by b s t c o = if c then Call t o (step (moment_of b s).state t o).1 ∷ s.history else s.history

-- an object is placed at the same step
places_without : (b : Beginning) (s : EpochState) (m : Mutating) (p : MutatorPhase) → places_in p b s m ≡ places_in p b s (without_names m)
places_without b s m (phase.Heading place) = refl
places_without b s m p = refl

-- ---- and with two

-- an operation that is done looks up no name
done_looks : (c : Bool) → looks_up (if c then phase.Finished else phase.Ready) ≡ false
done_looks true = refl
done_looks false = refl

-- a step that leads to a look at a header gives no reply
record GoesToLook (m to : Mutating) : Type 0 where
  thread : to.thread ≡ m.thread
  replies : to.replies.items ≡ m.replies.items

looks_by : (m : Mutating) (old : ℕ) (to : Mutating) → StepsByRule m old to → looks_up m.phase ≡ false → looks_up to.phase ≡ true → GoesToLook m to
looks_by m old to (goes_on log registers spans p busy) before looks = record { thread = refl; replies = refl }
looks_by m old to (finds_asked ready is) before looks = absurd (cc)
looks_by m old to (finds_end ready unasked is) before looks = absurd (cc)
looks_by m old to (gave_up why is) before looks = absurd (cc)
looks_by m old to (does_one log registers r) before looks = let bad : false ≡ true = sym (done_looks (nat_le m.every (m.since + 1))) ∙ looks in absurd (cc)
looks_by m old to (stands_still is) before looks = let bad : false ≡ true = sym before ∙ looks in absurd (cc)

look_reached : (words : List ℕ) (m : Mutating) (o : Option Action) → looks_up m.phase ≡ false → looks_up (acted mutator_machine words m o).1.phase ≡ true → GoesToLook m (acted mutator_machine words m o).1
look_reached words m None before looks = let bad : false ≡ true = sym before ∙ looks in absurd (cc)
look_reached words m (Some act) before looks = let old = slice_index words act.word in looks_by m old (after m old) (step_by_rule m old) before looks

-- the phase that looks one up
look_found : (p : MutatorPhase) → looks_up p ≡ true → (place : Place) × (p ≡ phase.Referent place)
look_found (phase.Referent place) looks = (place, refl)
look_found p looks = absurd (cc)

-- a step at which the operation stands, though it gives no reply, is one at which it always does
always_stands : (p : MutatorPhase) (m to x y : Mutating) → to.replies.items ≡ m.replies.items → stands_in p m to ≡ true → stands_in p x y ≡ true
always_stands p m to x y same = by_phase p
  where
    never : nat_eq (length to.replies.items) (length m.replies.items + 1) ≡ true → ⊥
    never longer = not_longer (length m.replies.items) (length to.replies.items) (ap length same) longer

    by_swap : (c : Bool) → (if c then true else nat_eq (length to.replies.items) (length m.replies.items + 1)) ≡ true → (if c then true else nat_eq (length y.replies.items) (length x.replies.items + 1)) ≡ true
    by_swap true stands = refl
    by_swap false stands = absurd (never stands)

    by_phase : (p : MutatorPhase) → stands_in p m to ≡ true → stands_in p x y ≡ true
    by_phase (phase.Reference base) stands = refl
    by_phase (phase.Referent place) stands = absurd (cc)
    by_phase (phase.Storing store) stands = by_swap (swaps_next store) stands
    by_phase p stands = absurd (never stands)

-- a history is longer by a call, or the same
by_standing : (b : Beginning) (s : EpochState) (t : ℕ) (o : Op) (c : Bool) → c ≡ false → history_by b s t c o ≡ s.history
by_standing b s t o c e = ap (λ c. history_by b s t c o) e

-- one that looks a name up goes by the history, which has the reply
telling : (b : Beginning) (s : EpochState) (words : List ℕ) (i : ℕ) (m : Mutating) (place : Place) → ShowsAs b s words i m → m.phase ≡ phase.Referent place → IsToTell b s (thread_state_of m) place.0
telling b s words i m place shows at = subst (λ p. AreReplies b s (thread_state_of m) (stage_in m p)) at (shows.epoch.called.each i (thread_state_of m) shows.thread_state).replies

-- the look at the header does the operation
module _ (m : Mutating) (place : Place) (at : m.phase ≡ phase.Referent place) (header : ℕ) where
  -- with the name that a header tells, or as bad where the word is none
  abbrev look_reply : Bool → Reply
  look_reply c = if c then told_reply (op_now m) (Some (name_told (header_of header))) else reply.Bad

  look_done : after m header ≡ done_with m (look_reply (is_header header))
  look_done = ap (λ p. next_in m p header) at ∙ by_test (is_header header)
    where
      by_test : (c : Bool) → (if c then done_with m (told_reply (op_now m) (Some (name_told (header_of header)))) else done_with m reply.Bad) ≡ done_with m (look_reply c)
      by_test true = refl
      by_test false = refl

-- what tells of a reference isn't bad
not_bad : (o : Op) (n : Name) → IsTrue (takes_reference o) → Some reply.Bad ≡ Some (found_reply o (Some n)) → ⊥
not_bad (op.Load dest base index) n takes e = cc
not_bad (op.Swap dest base index source) n takes e = cc
not_bad o n takes e = cc

-- one last item
one_last : (xs : List Reply) (x y : Reply) → xs ++ x ∷ [] ≡ xs ++ y ∷ [] → Some x ≡ Some y
one_last xs x y e = sym (last_at (xs ++ x ∷ []) xs x refl) ∙ last_at (xs ++ x ∷ []) xs y e

-- two changes of one item are the later one
set_twice : {X : Type 0} (xs : List X) (n : ℕ) (x y : X) → slice_set (slice_set xs n x) n y ≡ slice_set xs n y
set_twice [] n x y = refl
set_twice (z ∷ xs) zero x y = refl
set_twice (z ∷ xs) (suc n) x y = ap (λ zs. z ∷ zs) (set_twice xs n x y)

-- of a mutator that tells names and looks none up
module _ (b : Beginning) (s : EpochState) (words : List ℕ) (i : ℕ) (m : Mutating) (shows : ShowsAs b s words i m) (some : IsSome (action m)) (before : looks_up m.phase ≡ false) where
  -- where its step leads to
  abbrev to : List ℕ × Mutating
  to = stepped mutator_machine words m

  -- by an event
  by : NamesTo b s words i m to
  by = step_named b s words i m shows some

  next : ShowsAs b by.leads.reached to.0 i to.1
  next = named_shows b s words i m to shows by

  same_action : action (without_names m) ≡ action m
  same_action = (steps_without_names m 0 shows.names before).action

  fits : Fits mutator_machine words (without_names m)
  fits act e = by.leads.fits act (sym same_action ∙ e)

  -- ---- one step

  module _ (looks : looks_up to.1.phase ≡ false) where
    stepped_same : (o : Option Action) → looks_up (acted mutator_machine words m o).1.phase ≡ false → acted mutator_machine words (without_names m) o ≡ ((acted mutator_machine words m o).0, without_names (acted mutator_machine words m o).1)
    stepped_same None looks = refl
    stepped_same (Some act) looks =
        let old = slice_index words act.word in
        ap (λ (x : Mutating). (slice_set words act.word (changed act.kind old act.operand), x)) ((steps_without_names m old shows.names before).same looks)

    leads_same : stepped mutator_machine words (without_names m) ≡ (to.0, without_names to.1)
    leads_same = ap (acted mutator_machine words (without_names m)) same_action ∙ stepped_same (action m) looks

    replied : replies_of to.1.thread by.leads.reached.history ≡ to.1.replies.items
    replied = replies_stand b by.leads.reached to.0 i to.1 next looks

    one_step : StepsTo b s words i (without_names m) (to.0, without_names to.1)
    one_step =
        let is = by.leads in
        record {
          leads = record {
            reached = is.reached;
            epoch = is.epoch;
            fits = fits;
            size = is.size;
            tables = is.tables;
            thread_states = is.thread_states ∙ ap (slice_set s.thread_states i) (sym (untold_shown is.reached.history to.1 replied));
            decrementers = is.decrementers;
            tracers = is.tracers;
            mutator = of_without (limits_of b) to.1 is.mutator;
            history = is.history
                ∙ ap (λ c. history_by b s m.thread c (op_now m)) (stands_without m.phase m to.1)
                ∙ ap (history_by b s m.thread (stands_in m.phase (without_names m) (without_names to.1))) (sym (now_without m));
            places = is.places ∙ places_without b s m m.phase;
            risen = is.risen;
          };
          told = untold is.reached.history to.1 replied looks;
        }

  -- ---- two

  module _ (looks : looks_up to.1.phase ≡ true) (place : Place) (at : to.1.phase ≡ phase.Referent place) where
    goes : GoesToLook m to.1
    goes = look_reached words m (action m) before looks

    -- the word that it looks at
    abbrev header : ℕ
    header = slice_index to.0 (first_word place.0)

    -- the look changes no word
    looked : stepped mutator_machine to.0 to.1 ≡ (to.0, after to.1 header)
    looked = ap (λ p. acted mutator_machine to.0 to.1 (action_in to.1 p)) at ∙ ap (λ (words : List ℕ). (words, after to.1 header)) (set-get_or to.0 (first_word place.0) 0)

    -- and is an event too
    then_by : NamesTo b by.leads.reached to.0 i to.1 (to.0, after to.1 header)
    then_by = subst (NamesTo b by.leads.reached to.0 i to.1) looked (step_named b by.leads.reached to.0 i to.1 next (subst (λ p. IsSome (action_in to.1 p)) (sym at) refl))

    -- what it is then
    abbrev end : Mutating
    end = after to.1 header

    last : ShowsAs b then_by.leads.reached to.0 i end
    last = named_shows b by.leads.reached to.0 i to.1 (to.0, end) next then_by

    looks_none : looks_up end.phase ≡ false
    looks_none = ap (λ (x : Mutating). looks_up x.phase) (look_done to.1 place at header) ∙ done_looks (nat_le to.1.every (to.1.since + 1))

    replied_then : replies_of end.thread then_by.leads.reached.history ≡ end.replies.items
    replied_then = replies_stand b then_by.leads.reached to.0 i end last looks_none

    -- it leaves the history
    history_still : then_by.leads.reached.history ≡ by.leads.reached.history
    history_still = then_by.leads.history ∙ ap (λ p. history_by b by.leads.reached to.1.thread (stands_in p to.1 end) (op_now to.1)) at

    -- which has the reply: so the word is a header
    is_told : IsToTell b by.leads.reached (thread_state_of to.1) place.0
    is_told = telling b by.leads.reached to.0 i to.1 place next at

    is_there : is_header header ≡ true
    is_there = by_test (is_header header) refl
      where
        by_test : (c : Bool) → is_header header ≡ c → c ≡ true
        by_test true e = refl
        by_test false e =
            let done : end ≡ done_with to.1 reply.Bad = look_done to.1 place at header ∙ ap (λ c. done_with to.1 (look_reply to.1 place at header c)) e in
            let thread : end.thread ≡ to.1.thread = ap (λ (x : Mutating). x.thread) done in
            let items : to.1.replies.items ++ reply.Bad ∷ [] ≡ to.1.replies.items ++ found_reply is_told.now (Some is_told.name) ∷ [] =
            sym (ap (λ (x : Mutating). x.replies.items) done) ∙ sym replied_then ∙ ap (λ h. replies_of end.thread h) history_still ∙ ap (λ t. replies_of t by.leads.reached.history) thread ∙ is_told.reply in
            absurd (not_bad is_told.now is_told.name is_told.takes (one_last to.1.replies.items reply.Bad (found_reply is_told.now (Some is_told.name)) items))

    -- so who tells no names has done the operation with one step
    stepped_over : (o : Option Action) → looks_up (acted mutator_machine words m o).1.phase ≡ true
        → acted mutator_machine words (without_names m) o ≡ ((acted mutator_machine words m o).0, without_names (after (acted mutator_machine words m o).1 header))
    stepped_over None looks = let bad : false ≡ true = sym before ∙ looks in absurd (cc)
    stepped_over (Some act) looks =
        let old = slice_index words act.word in
        ap (λ (x : Mutating). (slice_set words act.word (changed act.kind old act.operand), x)) ((steps_without_names m old shows.names before).spared header looks is_there)

    leads_over : stepped mutator_machine words (without_names m) ≡ (to.0, without_names end)
    leads_over = ap (acted mutator_machine words (without_names m)) same_action ∙ stepped_over (action m) looks

    -- the operation stands at that step
    stands : stands_in m.phase m to.1 ≡ true
    stands = by_test (stands_in m.phase m to.1) refl
      where
        by_test : (c : Bool) → stands_in m.phase m to.1 ≡ c → c ≡ true
        by_test true e = refl
        by_test false e =
            let same : by.leads.reached.history ≡ s.history = by.leads.history ∙ by_standing b s m.thread (op_now m) (stands_in m.phase m to.1) e in
            let items : m.replies.items ≡ to.1.replies.items ++ found_reply is_told.now (Some is_told.name) ∷ [] =
            sym (replies_stand b s words i m shows before) ∙ ap (λ h. replies_of m.thread h) (sym same) ∙ ap (λ t. replies_of t by.leads.reached.history) (sym goes.thread) ∙ is_told.reply in
            let long = ap length items in
            let more = length-append to.1.replies.items (found_reply is_told.now (Some is_told.name) ∷ []) in
            let as_many = ap length goes.replies in
            absurd (omega (arith, long, more, as_many))

    two_steps : StepsTo b s words i (without_names m) (to.0, without_names end)
    two_steps =
        let first = by.leads in
        let second = then_by.leads in
        record {
          leads = record {
            reached = second.reached;
            epoch = second.epoch;
            fits = fits;
            size = first.size;
            tables = second.tables;
            thread_states = second.thread_states
                ∙ ap (λ vs. slice_set vs i (thread_state_of end)) first.thread_states
                ∙ set_twice s.thread_states i (thread_state_of to.1) (thread_state_of end)
                ∙ ap (slice_set s.thread_states i) (sym (untold_shown second.reached.history end replied_then));
            decrementers = second.decrementers ∙ first.decrementers;
            tracers = second.tracers ∙ first.tracers;
            mutator = of_without (limits_of b) end second.mutator;
            history = history_still ∙ first.history
                ∙ ap (λ c. history_by b s m.thread c (op_now m)) (stands ∙ sym (always_stands m.phase m to.1 (without_names m) (without_names end) goes.replies stands))
                ∙ ap (history_by b s m.thread (stands_in m.phase (without_names m) (without_names end))) (sym (now_without m));
            places = second.places ∙ ap (λ p. places_in p b first.reached to.1) at ∙ first.places ∙ places_without b s m m.phase;
            risen = λ c. (let low = first.risen c in let high = second.risen c in omega (arith, low, high));
          };
          told = untold second.reached.history end replied_then looks_none;
        }

  -- ---- either way

  nameless_step : StepsTo b s words i (without_names m) (stepped mutator_machine words (without_names m))
  nameless_step = by_look (looks_up to.1.phase) refl
    where
      by_look : (c : Bool) → looks_up to.1.phase ≡ c → StepsTo b s words i (without_names m) (stepped mutator_machine words (without_names m))
      by_look false looks = subst (StepsTo b s words i (without_names m)) (sym (leads_same looks)) (one_step looks)
      by_look true looks =
          let (place, at) = look_found to.1.phase looks in
          subst (StepsTo b s words i (without_names m)) (sym (leads_over looks place at)) (two_steps looks place at)

-- ---- of each mutator

-- the words and mutator i, whether it tells names or not, are those of a state of the epoch
pub record Shows (b : Beginning) (s : EpochState) (words : List ℕ) (i : ℕ) (m : Mutating) : Type 0 where
  pub epoch : IsEpoch b s
  pub size : length words ≡ region_begin (limits_of b) all_regions
  pub tables : s.tables ≡ tables_in (limits_of b) words
  pub thread_state : slice_get s.thread_states i ≡ Some (shown_in s.history m)
  pub mutator : IsMutatorOf (limits_of b) m
  pub told : HasTold s.history m

-- so each step leads to a state of the epoch
pub any_step : (b : Beginning) (s : EpochState) (words : List ℕ) (i : ℕ) (m : Mutating) → Shows b s words i m → IsSome (action m)
    → StepsTo b s words i m (stepped mutator_machine words m)
any_step b s words i m shows some = by_names m.names refl
  where
    by_names : (c : Bool) → m.names ≡ c → StepsTo b s words i m (stepped mutator_machine words m)
    by_names true e = named_told b s words i m (stepped mutator_machine words m) (step_named b s words i m (record {
      epoch = shows.epoch;
      size = shows.size;
      tables = shows.tables;
      thread_state = shows.thread_state ∙ ap (λ c. Some (thread_state_of (told_by c s.history m))) e;
      mutator = shows.mutator;
      names = e;
    }) some)
    by_names false e =
        let x : Mutating = told_in s.history m in
        let alike : without_names x ≡ m = (shows.told e).alike in
        let before : looks_up x.phase ≡ false = ap (λ (y : Mutating). looks_up y.phase) (told_with s.history m) ∙ (shows.told e).looks_none_up in
        let names = told_names s.history m in
        let acts : action x ≡ action m = sym (steps_without_names x 0 names before).action ∙ ap action alike in
        subst (λ y. StepsTo b s words i y (stepped mutator_machine words y)) alike
        (nameless_step b s words i x (record {
          epoch = shows.epoch;
          size = shows.size;
          tables = shows.tables;
          thread_state = shows.thread_state;
          mutator = of_with (limits_of b) x (subst (IsMutatorOf (limits_of b)) (sym alike) shows.mutator);
          names = names;
        }) (subst IsSome (sym acts) some) before)
