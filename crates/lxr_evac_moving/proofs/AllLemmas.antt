-- Objects of Chosen blocks are looked at one after another: how many have moved so far, and how many were kept.
use Rattle.std.proofs.Common.{◌≡◌, ℕ, ◌+◌, ◌≤◌, sym, ap, subst, ◌∙◌, arith, Bool, true, false, length}
use Rattle.std.specs.Prelude.{not}
use Rattle.lxr_layout.specs.declared.Name.{Name}
use Rattle.lxr_image.specs.declared.space.Space.{Space}
use Rattle.lxr_image.specs.Spaces.{tables_of}
use Rattle.lxr_blocks.specs.Masks.{one_if}
use Rattle.lxr_model.specs.Moments.{Moment}
use Rattle.lxr_evac_moving.specs.declared.evacuating.Evacuated.{Evacuated}
use Rattle.lxr_evac_moving.specs.Evacuation.{CanEvacuate}
use Rattle.lxr_evac_moving.specs.Stages.{EvacuationStage, IsMovingAway, granules, kept_names, moved_names}
use Rattle.lxr_evac_moving.specs.Steps.{ComesBehind, MovesAll, NoneBegins, first_stage}
use Rattle.lxr_evac_moving.proofs.BeginLemmas.{began, none_counted, none_moved}
use Rattle.lxr_evac_moving.proofs.LookedLemmas.{kept_further, looked_to}
use Rattle.lxr_evac_moving.proofs.StageLemmas.{same_limits}
use Rattle.lxr_evac_moving.proofs.StepLemmas.{looked_past, tells_stood}

-- all below a granule is looked at; so many objects have moved, and so many were kept
pub record HasMovedBelow (before s : Space) (m : Moment) (at : Name → ℕ) (from moved kept : ℕ) : Type 0 where
  pub now : Name → ℕ
  pub moving : IsMovingAway s m (looked_to (first_stage before at) from now)
  pub moved_are : moved ≡ length (moved_names m (looked_to (first_stage before at) from now))
  pub kept_are : kept ≡ length (kept_names m (looked_to (first_stage before at) from now))

pub moved_none : (s : Space) (m : Moment) (at : Name → ℕ) → CanEvacuate s m at → HasMovedBelow s s m at 0 0 0
moved_none s m at can = record { now = at; moving = began s m at can; moved_are = sym (none_moved s m at can); kept_are = sym (none_counted s m at can) }

-- the same heap
pub moved_limits : (before s : Space) (m : Moment) (at : Name → ℕ) (from moved kept : ℕ) → HasMovedBelow before s m at from moved kept → s.limits ≡ before.limits
moved_limits before s m at from moved kept is = same_limits s m (looked_to (first_stage before at) from is.now) is.moving.evacuating

-- one more is looked at
pub moved_more : (before s c : Space) (m : Moment) (at : Name → ℕ) (from moved kept k more less : ℕ) (is : HasMovedBelow before s m at from moved kept) (later : EvacuationStage) → IsMovingAway c m later
    → ComesBehind m (looked_to (first_stage before at) from is.now) later k more less → HasMovedBelow before c m at k (moved + more) (kept + less)
moved_more before s c m at from moved kept k more less is later moving behind =
    let same : later ≡ looked_to (first_stage before at) k later.now = λ i. record { found = behind.found i; at = behind.at i; now = later.now; looked = behind.looked_at i; cleared = moving.uncleared i } in
    record {
      now = later.now;
      moving = subst (IsMovingAway c m) same moving;
      moved_are = ap (λ n. n + more) is.moved_are ∙ sym behind.moved_more ∙ ap (λ st. length (moved_names m st)) same;
      kept_are = ap (λ n. n + less) is.kept_are ∙ sym behind.kept_more ∙ ap (λ st. length (kept_names m st)) same;
    }

-- no more begin, so all are looked at
pub moved_all : (before s : Space) (m : Moment) (at : Name → ℕ) (from : ℕ) (result : Evacuated) (is : HasMovedBelow before s m at from result.moved result.kept) → result.moved + result.kept ≤ from → from ≤ granules before
    → NoneBegins (tables_of s) from (granules before) → MovesAll before s m at is.now result
moved_all before s m at from result is few past none =
    let st : EvacuationStage = looked_to (first_stage before at) from is.now in
    record {
      evacuating = (looked_past s m st is.moving (granules before) past none).evacuating;
      answer = λ i. record {
        moved = is.moved_are i;
        kept = (is.kept_are ∙ ap length (sym (kept_further (tables_of s) m st (tells_stood s m st is.moving) (granules before) past none))) i;
      };
      few = omega (arith, few, past);
    }

-- the numbers then, by whether the object was moved
pub counted_moved : (before s : Space) (m : Moment) (at : Name → ℕ) (k : ℕ) (was now : Evacuated) (moved : Bool) → moved ≡ true → now ≡ record { moved = was.moved + 1; kept = was.kept }
    → HasMovedBelow before s m at k (was.moved + one_if moved) (was.kept + one_if (not moved)) → HasMovedBelow before s m at k now.moved now.kept
counted_moved before s m at k was now moved was_moved told below =
    let more : was.moved + one_if moved ≡ now.moved = ap (λ b. was.moved + one_if b) was_moved ∙ ap (λ (e : Evacuated). e.moved) (sym told) in
    let none : was.kept + 0 ≡ was.kept = omega arith in
    let same : was.kept + one_if (not moved) ≡ now.kept = ap (λ b. was.kept + one_if (not b)) was_moved ∙ none ∙ ap (λ (e : Evacuated). e.kept) (sym told) in
    subst (λ x. HasMovedBelow before s m at k x now.kept) more (subst (HasMovedBelow before s m at k (was.moved + one_if moved)) same below)

pub counted_kept : (before s : Space) (m : Moment) (at : Name → ℕ) (k : ℕ) (was now : Evacuated) (moved : Bool) → moved ≡ false → now ≡ record { moved = was.moved; kept = was.kept + 1 }
    → HasMovedBelow before s m at k (was.moved + one_if moved) (was.kept + one_if (not moved)) → HasMovedBelow before s m at k now.moved now.kept
counted_kept before s m at k was now moved unmoved told below =
    let none : was.moved + 0 ≡ was.moved = omega arith in
    let same : was.moved + one_if moved ≡ now.moved = ap (λ b. was.moved + one_if b) unmoved ∙ none ∙ ap (λ (e : Evacuated). e.moved) (sym told) in
    let more : was.kept + one_if (not moved) ≡ now.kept = ap (λ b. was.kept + one_if (not b)) unmoved ∙ ap (λ (e : Evacuated). e.kept) (sym told) in
    subst (λ x. HasMovedBelow before s m at k x now.kept) same (subst (HasMovedBelow before s m at k (was.moved + one_if moved)) more below)
