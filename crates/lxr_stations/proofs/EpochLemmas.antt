-- From the opening of an epoch of live mutators to its closing.
use Rattle.std.proofs.Common.{◌≡◌, ℕ, zero, suc, refl, sym, ap, subst, ◌∙◌, arith, true, List, length, map}
use Rattle.std.specs.Prelude.{Some, [], ◌∷◌, slice_get}
use Rattle.std.proofs.lemmas.List.{length-map}
use Rattle.std.proofs.lemmas.Option.{slice_get_within}
use Rattle.lxr_layout.specs.declared.limits.Limits.{Limits}
use Rattle.lxr_layout.specs.declared.Place.{Place}
use Rattle.lxr_image.specs.declared.space.Space.{Space}
use Rattle.lxr_actor.specs.declared.Core.{Core}
use Rattle.lxr_actor.specs.Run.{AlwaysFits, core_of, run}
use Rattle.lxr_core_invariant.specs.EpochStates.{Beginning, limits_of}
use Rattle.lxr_core.specs.declared.actors.AnyActor.{AnyActor}
use Rattle.lxr_core.specs.declared.actors.AnyActor.TheVariants as any
use Rattle.lxr_core.specs.Actors.{any_machine, decrementers_in, mutators_in, script_of, tracers_in}
use Rattle.lxr_core.specs.Closing.{AreResting, Closes, MayClose}
use Rattle.lxr_core.specs.Collecting.{actor_given_up}
use Rattle.lxr_core.specs.Executions.{Execution, HoldsExecution, tell_all}
use Rattle.lxr_core.specs.Filling.{unfilled}
use Rattle.lxr_core.specs.Opening.{Begins, Opens, execution_at}
use Rattle.lxr_core.specs.Ordering.{TellNames}
use Rattle.lxr_image.specs.Registers.{row_in}
use Rattle.lxr_core.specs.Starting.{started_again}
use Rattle.lxr_core.proofs.ExecutionLemmas.{epoch_invariant_holds}
use Rattle.lxr_core.proofs.LastingLemmas.{names_opened}
use Rattle.lxr_core.proofs.LineLemmas.{epoch_keeps_lines}
use Rattle.lxr_shared.specs.Sharing.{KeepsLinesAlways, Sharing}
use Rattle.lxr_shared_passes.specs.Passing.{Every, IsEnd, Passing}
use Rattle.lxr_shared.proofs.StartedLemmas.{started_helpers}
use Rattle.lxr_core.proofs.ScriptLemmas.{opened_script, unfilled_mutators}
use Rattle.lxr_stations.specs.Living.{AreLive}
use Rattle.lxr_stations.specs.Running.{BeganWith, IsRunning, shown_of}
use Rattle.lxr_stations.proofs.LivingLemmas.{live_opened}

-- what two are some of is one
some_same : (a b : AnyActor) → Some a ≡ Some b → a ≡ b
some_same a b e = cc

-- as many actors as before
pub started_many : (before after : Space) (resting started : List AnyActor) → Opens before after resting started → length started ≡ length resting
started_many before after resting started opens = sym (length-map started unfilled) ∙ opens.actors.as_many

-- each next step fits
pub fits_always : (b : Beginning) (space : Space) (actors : List AnyActor) → HoldsExecution b (execution_at b space actors) → AlwaysFits any_machine (core_of space.words actors)
fits_always b space actors holds = (epoch_invariant_holds b (execution_at b space actors) [] holds).fits

-- it runs
pub is_running : (b : Beginning) (before opened : Space) (resting started : List AnyActor) (epoch : Sharing) → Begins b before resting → Opens before opened resting started → HoldsExecution b (execution_at b opened started)
    → epoch.opening ≡ core_of opened.words started → epoch.space ≡ opened → IsRunning b epoch
is_running b before opened resting started epoch begins opens holds opening space = record {
  opened = execution_at b opened started;
  holds = holds;
  core = sym opening;
  space_is = subst (λ (s : Space). s ≡ record b.space { words = s.words }) (sym space) (opens.space.rest ∙ ap (λ (s : Space). record s { words = opened.words }) (sym begins.space_is));
}

-- no schedule of it moves a line
pub keeps_lines : (b : Beginning) (epoch : Sharing) → IsRunning b epoch → KeepsLinesAlways epoch.space.limits epoch.opening
keeps_lines b epoch running =
    subst (λ (l : Limits). KeepsLinesAlways l epoch.opening) (sym (ap (λ (s : Space). s.limits) running.space_is))
    (subst (KeepsLinesAlways (limits_of b)) running.core (epoch_keeps_lines b running.opened running.holds))

-- mutators that begin again show what they did
shown_again : (resting started : List AnyActor) → length started ≡ length resting → ((i : ℕ) (a : AnyActor) → slice_get resting i ≡ Some a → (registers : List Place) × (slice_get started i ≡ Some (started_again a registers)))
    → shown_of (mutators_in started) ≡ shown_of (mutators_in resting)
shown_again [] [] many each = refl
shown_again [] (x ∷ started) many each = absurd (omega (arith, many))
shown_again (a ∷ resting) [] many each = absurd (omega (arith, many))
shown_again (a ∷ resting) (x ∷ started) many each =
    let (registers, at) = each 0 a refl in
    let is : x ≡ started_again a registers = cc in
    let rest = shown_again resting started (omega (arith, many)) (λ i b there. each (suc i) b there) in
    subst (λ z. shown_of (mutators_in (z ∷ started)) ≡ shown_of (mutators_in (a ∷ resting))) (sym is) (first_again a registers rest)
  where
    first_again : (a : AnyActor) (registers : List Place) → shown_of (mutators_in started) ≡ shown_of (mutators_in resting) → shown_of (mutators_in (started_again a registers ∷ started)) ≡ shown_of (mutators_in (a ∷ resting))
    first_again (any.Mutator m) registers rest = ap (λ z. (m.replies.items, m.end) ∷ z) rest
    first_again (any.Decrementer d) registers rest = rest
    first_again (any.Tracer d) registers rest = rest

-- so it is as an epoch opens
opened_shown : (before after : Space) (resting started : List AnyActor) → Opens before after resting started → shown_of (mutators_in started) ≡ shown_of (mutators_in resting)
opened_shown before after resting started opens =
    ap shown_of (sym (unfilled_mutators started))
    ∙ shown_again resting (map unfilled started) opens.actors.as_many (λ i a at. (row_in before.registers.items i, opens.actors.started i a at (slice_get_within resting i a at)))

-- its actors are those that there were, as they begin again
pub began_with : (before opened : Space) (resting started : List AnyActor) (epoch : Sharing) → Opens before opened resting started → epoch.opening ≡ core_of opened.words started → BeganWith resting epoch
began_with before opened resting started epoch opens opening =
    let helpers = started_helpers before.registers.items resting started opens.actors in record {
      script = ap (λ (k : Core AnyActor). script_of (mutators_in k.actors)) opening ∙ opened_script before opened resting started opens;
      shown = ap (λ (k : Core AnyActor). shown_of (mutators_in k.actors)) opening ∙ opened_shown before opened resting started opens;
      decrementers = ap (λ (k : Core AnyActor). length (decrementers_in k.actors)) opening ∙ helpers.decrementers;
      tracers = ap (λ (k : Core AnyActor). length (tracers_in k.actors)) opening ∙ helpers.tracers;
      live = λ live. subst (λ (k : Core AnyActor). AreLive (mutators_in k.actors)) (sym opening) (live_opened before opened resting started opens live);
      names = λ b tell. subst (λ (k : Core AnyActor). TellNames b (mutators_in k.actors)) (sym opening) (names_opened b before opened resting started opens tell);
    }

-- ---- what it has come to

-- passes that rest have actors that do
resting_of : (ps : List (Passing AnyActor)) → Every (λ (p : Passing AnyActor). any_machine.rests p.actor ≡ true) ps → AreResting (map (λ (p : Passing AnyActor). p.actor) ps)
resting_of ps all i a at = rests_at ps all i a at
  where
    rests_at : (ps : List (Passing AnyActor)) → Every (λ (p : Passing AnyActor). any_machine.rests p.actor ≡ true) ps → (i : ℕ) (a : AnyActor) → slice_get (map (λ (p : Passing AnyActor). p.actor) ps) i ≡ Some a → any_machine.rests a ≡ true
    rests_at [] all i a at = absurd (cc)
    rests_at (p ∷ ps) all zero a at = subst (λ x. any_machine.rests x ≡ true) (some_same p.actor a at) all.0
    rests_at (p ∷ ps) all (suc i) a at = rests_at ps all.1 i a at

-- where all passes are gathered, and the epoch of this name is closed, it may be closed in the core's sense
pub may_close : (b : Beginning) (epoch : Sharing) (space : Space) (actors : List AnyActor) (ps : List (Passing AnyActor)) (running : IsRunning b epoch) (end : IsEnd any_machine epoch.opening space.words actors ps)
    → actors ≡ map (λ (p : Passing AnyActor). p.actor) ps → space ≡ record epoch.space { words = space.words } → Every (λ (p : Passing AnyActor). any_machine.rests p.actor ≡ true) ps
    → MayClose b (tell_all b running.opened end.0) space actors
may_close b epoch space actors ps running end are rest resting =
    let after = epoch_invariant_holds b running.opened end.0 running.holds in
    let there : Core AnyActor = run any_machine epoch.opening end.0 in
    let words : space.words ≡ there.words = end.1 in
    let same : actors ≡ there.actors = end.2 in
    record {
      holds = after.holds;
      core = after.core ∙ ap (λ c. run any_machine c end.0) running.core ∙ ap (λ ws. core_of ws there.actors) (sym words) ∙ ap (λ xs. core_of space.words xs) (sym same);
      space_is = rest ∙ ap (λ (s : Space). record s { words = space.words }) running.space_is;
      resting = subst AreResting (sym are) (resting_of ps resting);
    }

-- closing leaves as many actors
pub closed_many : (b : Beginning) (execution : Execution) (middle after : Space) (moved actors : List AnyActor) → MayClose b execution middle moved → Closes b execution middle after actors → length actors ≡ length moved
closed_many b execution middle after moved actors may closes =
    ap length closes.gave ∙ length-map execution.core.actors actor_given_up ∙ ap (λ (k : Core AnyActor). length k.actors) may.core
