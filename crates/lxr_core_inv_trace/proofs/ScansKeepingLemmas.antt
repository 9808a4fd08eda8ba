-- What tracers know in an epoch: mutators and decrementers clear no bit that they have seen set, and each step of a tracer keeps it and is
-- sound; as an epoch opens they know nothing yet.
use Rattle.std.proofs.Common.{◌≡◌, ℕ, refl, sym, ap, subst, ◌∙◌}
use Rattle.std.specs.Prelude.{Option, Some, None, slice_set}
use Rattle.lxr_layout.specs.declared.Name.{Name}
use Rattle.lxr_image.specs.Tables.{Tables}
use Rattle.lxr_model.specs.Moments.{Moment}
use Rattle.lxr_core_access.specs.declared.Access.{Access}
use Rattle.lxr_core_access.specs.Accesses.{done_to}
use Rattle.lxr_core_access.specs.Tracers.{Tracing}
use Rattle.lxr_core_invariant.specs.ThreadStates.{ThreadState}
use Rattle.lxr_core_invariant.specs.EpochStates.{Beginning, EpochState, limits_of}
use Rattle.lxr_core_invariant.specs.Events.{Event}
use Rattle.lxr_core_invariant.specs.Events as event
use Rattle.lxr_core_invariant.specs.Happening.{happen}
use Rattle.lxr_core_invariant.specs.Decremented.{IsSound, MayTrace, TracerLeaves, traced}
use Rattle.lxr_core_invariant.specs.Traced.{AreScanned, AreScannedIn, KnowsObjects, scanned_by}
use Rattle.lxr_core_invariant.specs.Epoch.{IsEpoch}
use Rattle.lxr_core_invariant.specs.Laws.{DecrementersKeepKnowledge, KnowledgeIsKept, OpeningKnowledge, TracersAreSound, TracersKeepKnowledge}
use Rattle.lxr_core_inv_counts.proofs.KeepingLemmas.{decrementers_are_sound}
use Rattle.lxr_core_inv_trace.proofs.ScansGroundLemmas.{IsGround, ground_of}
use Rattle.lxr_core_inv_trace.proofs.ScansNumberLemmas.{may_remember}
use Rattle.lxr_core_inv_trace.proofs.ScansTurnLemmas.{scans_still}
use Rattle.lxr_core_inv_trace.proofs.ScansStepLemmas.{IsAbout, after_access, is_about, step_scanned}
use Rattle.lxr_core_inv_trace.proofs.ScansSoundLemmas.{IsSoundWhere, step_sound}

-- ---- mutators

-- tables in which marks and grays are those of others
quiet : (b : Beginning) (s : EpochState) (u : Tables) → AreScannedIn b s → u.marks ≡ s.tables.marks → u.grays ≡ s.tables.grays
    → AreScanned (limits_of b).blocks u s.tracers b.abstract_state.moment b.abstract_state.at
quiet b s u is marks grays =
    scans_still (limits_of b).blocks s.tables u s.tracers b.abstract_state.moment b.abstract_state.at (record { marks = λ k set. ap (λ f. f k) marks ∙ set; grays = λ k set. ap (λ f. f k) grays ∙ set }) is

-- each event of a mutator leaves them
event_scanned : (b : Beginning) (s : EpochState) (i : ℕ) (v : ThreadState) (e : Event) → AreScannedIn b s → AreScannedIn b (happen b s i v e)
event_scanned b s i v (event.PutsValue o place refs index value) is = quiet b s _ is refl refl
event_scanned b s i v (event.AddsValue o place refs index value) is = quiet b s _ is refl refl
event_scanned b s i v (event.ClearsFirst e n) is = quiet b s _ is refl refl
event_scanned b s i v (event.StoresReference o place index value) is = quiet b s _ is refl refl
event_scanned b s i v (event.SwapsReference o dest place index value) is = quiet b s _ is refl refl
event_scanned b s i v event.DrawsRun is = quiet b s _ is refl refl
event_scanned b s i v event.DrawsBlock is = quiet b s _ is refl refl
event_scanned b s i v (event.Wipes place shape wiped) is = quiet b s _ is refl refl
event_scanned b s i v (event.MakesObject o dest place shape) is = quiet b s _ is refl refl
event_scanned b s i v (event.Asks o r) is = quiet b s _ is refl refl
event_scanned b s i v (event.Leaves why) is = quiet b s _ is refl refl
event_scanned b s i v _ is = is

pub knowledge_is_kept : KnowledgeIsKept
knowledge_is_kept b s i v e is shown may = event_scanned b s i v e is.scanned

-- ---- decrementers

pub decrementers_keep_knowledge : DecrementersKeepKnowledge
decrementers_keep_knowledge b s i access after is may =
    let leaves = (decrementers_are_sound b s i access after is may).1 in
    scans_still (limits_of b).blocks s.tables (done_to s.tables access) s.tracers b.abstract_state.moment b.abstract_state.at
    (record { marks = λ k set. ap (λ f. f k) leaves.marks ∙ set; grays = leaves.grays }) is.scanned

-- ---- tracers

module _ (b : Beginning) (s : EpochState) (i : ℕ) (access : Access) (after : Tracing) (is : IsEpoch b s) (may : MayTrace b s i access after) where
  abbrev m : Moment
  m = b.abstract_state.moment

  abbrev at : Name → ℕ
  at = b.abstract_state.at

  ground : IsGround (limits_of b) s.tables m at
  ground = ground_of b s is

  ready : IsAbout (limits_of b).blocks s.tables s.tracers m at i may.steps.about
  ready = is_about (limits_of b).blocks s.tables s.tracers m at i may.before may.steps.about is.scanned may.shows may.steps.attempts

  keeps : AreScannedIn b (traced s i access after)
  keeps =
      let scanned = step_scanned (limits_of b) s.tables ready.all m at ground ready.scanned i (limits_of b).remember may.steps.about after ready.shows may.steps.goes in
      subst (λ ts. AreScanned (limits_of b).blocks (done_to s.tables access) ts m at) (ready.after after)
      (subst (λ (o : Option Access). AreScanned (limits_of b).blocks (after_access s.tables o) (slice_set ready.all i after) m at) may.steps.access_is scanned)

  sound : IsSound b s access × TracerLeaves s.tables (done_to s.tables access)
  sound =
      let x = subst (IsSoundWhere (limits_of b) s.tables) may.steps.access_is (step_sound (limits_of b) s.tables ready.all m at ground ready.scanned i may.steps.about ready.shows (may_remember b s is i may.before may.steps.about may.shows may.steps.attempts)) in
      (record { may = x.may; leaves = x.leaves }, x.tracer_leaves)

pub tracers_keep_knowledge : TracersKeepKnowledge
tracers_keep_knowledge b s i access after is may = keeps b s i access after is may

pub tracers_are_sound : TracersAreSound
tracers_are_sound b s i access after is may = sound b s i access after is may

-- ---- the opening

pub opening_knowledge : OpeningKnowledge
opening_knowledge b s opens = record {
  knows = λ i d there. subst (KnowsObjects (limits_of b).blocks s.tables b.abstract_state.moment b.abstract_state.at) (sym (opens.tracers i d there)) tt;
  one_scanner = λ i j d e place at_i at_j by_d by_e. absurd (let r = ap scanned_by (opens.tracers i d at_i) in let nobody : None ≡ Some place = sym r ∙ by_d in cc);
}
