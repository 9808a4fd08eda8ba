-- A heap that was just opened is that of the empty history.
use Rattle.std.proofs.Common.{◌≡◌, ℕ, ◌*◌, ◌≤◌, true, false, refl, sym, ap, subst, ◌∙◌, arith, [], ◌∷◌}
use Rattle.lxr_layout.specs.declared.TheConstants.{GRANULES_IN_BLOCK}
use Rattle.lxr_layout.specs.declared.limits.Limits.{Limits}
use Rattle.lxr_graph.specs.Listing.{NameList}
use Rattle.lxr_graph.specs.Names.{without}
use Rattle.lxr_graph.specs.State.{world, world_name}
use Rattle.lxr_image.specs.declared.space.Space.{Space}
use Rattle.lxr_image.specs.Image.{IsOpeningImage, opening_at}
use Rattle.lxr_image.specs.Opened.{IsOpened, no_tally}
use Rattle.lxr_image.specs.Spaces.{IsSpace}
use Rattle.lxr_image.specs.Tables.{Tables}
use Rattle.lxr_model.specs.Moments.{opening_moment}
use Rattle.lxr_model_counting.proofs.StoreLemmas.{same_shape}
use Rattle.lxr_invariant.specs.AbstractState.{leaving, no_report}
use Rattle.lxr_invariant.specs.Quiescent.{IsAtRest}
use Rattle.lxr_placing.proofs.OpeningLemmas.{opened_is_quiescent}
use Rattle.lxr_large_model.specs.Pauses.{most_logged}
use Rattle.lxr_large_bodies.specs.Bodies.{no_bodies}
use Rattle.lxr_heap.specs.declared.heap.Heap.{Heap}
use Rattle.lxr_heap.specs.declared.opening.Sizes.{Sizes}
use Rattle.lxr_heap.specs.Holding.{IsOpenedHeap, StandAt, abstract_after, limits_of}
use Rattle.lxr_heap.proofs.CallLemmas.{stale_now}
use Rattle.lxr_heap.proofs.EarlyLemmas.{none_are_gone, without_none}
use Rattle.lxr_heap.proofs.MomentLemmas.{at_rest}

-- the heap of an opened space, with no bodies and an empty list for what is gone
abbrev pub opened_with : Space → ℕ → NameList → Heap
opened_with space bodies gone = record { space = space; bodies = no_bodies bodies; gone = gone; made = 0; made_before = 0; left = 0; fresh = false }

pub opened_heap : (space : Space) (sizes : Sizes) (gone : NameList) → gone.items ≡ [] → gone.room ≡ 2 * (GRANULES_IN_BLOCK * sizes.blocks) → 1 ≤ sizes.blocks → most_logged ≤ sizes.log
    → IsOpened space (limits_of sizes.blocks sizes.registers sizes.log) → IsSpace space → IsOpeningImage space → IsOpenedHeap (opened_with space sizes.bodies gone) sizes
opened_heap space sizes gone none room some logs opened is image = record {
  holds = record {
    legal = tt;
    at = opening_at;
    stands = stands;
    gone = none_are_gone (opening_moment 1) gone.items none;
    room = room ∙ sym (opened.room.report.dead ∙ ap (λ (l : Limits). 2 * (GRANULES_IN_BLOCK * l.blocks)) opened.limits);
    follows = rests.safepoint.holds.follows;
    few = let b = ap (λ (l : Limits). l.blocks) opened.limits in omega (arith, b, some);
    untraced = refl;
    limits = opened.limits ∙ ap (λ (l : Limits). limits_of l.blocks l.registers l.log) (sym opened.limits);
    log = subst (λ (l : Limits). most_logged ≤ l.log) (sym opened.limits) logs;
    tally = opened.tally ∙ ap (λ p. record no_tally { pauses = p }) (sym opened.pauses);
    state = refl;
    world = (world, refl, same_shape world);
    next = refl;
    counts = record { unreclaimed = refl; few = omega arith; young = refl };
    names = tt;
    bodies = refl;
    apart = tt;
    fresh = stale_now (λ no. no);
    collected = λ f. absurd f;
    drained = λ f. absurd f;
  };
  made = refl;
  terms = λ i. record { blocks = (opened.limits i).blocks; bodies = sizes.bodies; registers = (opened.limits i).registers };
  log = ap (λ (l : Limits). l.log) opened.limits;
  untold = opened.report.told;
  none_gone = none;
}
  where
    rests : IsAtRest space (abstract_after [] opening_at)
    rests = at_rest space _ (opened_is_quiescent space (limits_of sizes.blocks sizes.registers sizes.log) is opened image)

    stands : StandAt (opened_with space sizes.bodies gone) [] opening_at
    stands = (
      subst (λ us. IsAtRest space (record { moment = leaving (opening_moment 1) us; at = opening_at; reported = no_report })) (sym (ap (without (world_name ∷ [])) none ∙ without_none (world_name ∷ []))) rests,
      record {
        taken = λ line out. absurd (let no : false ≡ true = sym (ap (λ (t : Tables). t.outs line) opened.tables) ∙ out in cc);
        outside = λ line out. absurd (let no : false ≡ true = sym (ap (λ (t : Tables). t.outs line) opened.tables) ∙ out in cc);
      },
    )
