use Rattle.std.proofs.Common.{◌+◌, ◌*◌, ◌≤◌, ◌∙◌, ap, arith, refl, subst}
use Rattle.lxr_layout.specs.declared.TheConstants.{GRANULES_IN_BLOCK}
use Rattle.lxr_pause_trace.specs.Marking.{granules}
use Rattle.lxr_pause_trace.proofs.ScanLemmas.{due_room, ended_behind, ended_later, grays_used, next_due}
use Rattle.lxr_pause_trace.proofs.finish.find_grays.Goals as goal

pub next_wanted-requires : goal.next_wanted-requires
next_wanted-requires c =
    let before = c.requires.0 in
    let stage = c.loop-granule.invariant.marking before c.requires.1 in
    record { space = stage.space; free = grays_used before c.loop-granule.space _ _ _ stage }

pub find-requires-clause-room : goal.find-requires-clause-room
find-requires-clause-room c =
    let before = c.requires.0 in
    let stage = c.loop-granule.invariant.marking before c.requires.1 in
    rw c.place_at.ensures (due_room before c.loop-granule.space _ _ _ stage (c.in-Some.granule + 1) (next_due before c.loop-granule.space c.loop-granule.from _ c.in-Some.granule stage c.in-Some.ensures.next))

pub loop-granule-preserved : goal.loop-granule-preserved
loop-granule-preserved c =
    let next = c.in-Some.ensures.next in
    record {
      marking = λ before is. ended_behind before c.loop-granule.space c.find.new.space c.loop-granule.from _ c.in-Some.granule (c.loop-granule.invariant.marking before is) next refl (rw c.place_at.ensures at c.find.ensures);
      limits = ap (λ s. s.limits) c.find.ensures.rest ∙ c.loop-granule.invariant.limits;
      within = subst (λ l. c.in-Some.granule + 1 ≤ GRANULES_IN_BLOCK * l.blocks) c.loop-granule.invariant.limits (let inside = next.within in omega (arith, inside));
    }

pub returns : goal.returns
returns c = λ before is.
    ended_later before c.loop-granule.space c.loop-granule.from (granules c.loop-granule.space) (c.loop-granule.invariant.marking before is) c.in_default.ensures.none
