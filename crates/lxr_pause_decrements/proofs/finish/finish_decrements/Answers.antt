use Rattle.std.proofs.Common.{subst, sym}
use Rattle.std.specs.Prelude.{[], reverse}
use Rattle.lxr_pause_decrements.specs.Cascade.{later, seeking}
use Rattle.lxr_pause_decrements.specs.Finishing.{Finishes}
use Rattle.lxr_pause_decrements.proofs.BridgeLemmas.{finishes, first_stage, opening}
use Rattle.lxr_pause_decrements.proofs.DropLemmas.{starts_counted}
use Rattle.lxr_pause_decrements.proofs.SpaceLemmas.{leaves_both}
use Rattle.lxr_pause_decrements.proofs.finish.finish_decrements.Goals as goal

pub reclaim_all_handled-requires : goal.reclaim_all_handled-requires
reclaim_all_handled-requires c = (first_stage c.args.space.now c.requires.0 c.requires.1, opening c.args.space.now c.requires.0 c.requires.1 c.requires.2)

pub reclaim_all_dropped-requires : goal.reclaim_all_dropped-requires
reclaim_all_dropped-requires c =
    let st = first_stage c.args.space.now c.requires.0 c.requires.1 in
    let x = c.reclaim_all_handled.ensures.reclaims st (opening c.args.space.now c.requires.0 c.requires.1 c.requires.2) in
    (later st x.0 [] (λ o. 0), reverse x.0, x.1)

pub lower_all-requires : goal.lower_all-requires
lower_all-requires c =
    let st = first_stage c.args.space.now c.requires.0 c.requires.1 in
    let x = c.reclaim_all_handled.ensures.reclaims st (opening c.args.space.now c.requires.0 c.requires.1 c.requires.2) in
    let y = c.reclaim_all_dropped.ensures.drops (later st x.0 [] (λ o. 0)) (reverse x.0) x.1 in
    (_, y.1)

pub trust_counts-requires : goal.trust_counts-requires
trust_counts-requires c =
    let st = first_stage c.args.space.now c.requires.0 c.requires.1 in
    let x = c.reclaim_all_handled.ensures.reclaims st (opening c.args.space.now c.requires.0 c.requires.1 c.requires.2) in
    let y = c.reclaim_all_dropped.ensures.drops (later st x.0 [] (λ o. 0)) (reverse x.0) x.1 in
    let z = c.lower_all.ensures.lowers (seeking (later st y.0 [] (λ o. 0)) [] (λ o. 0)) y.1 in
    starts_counted c.lower_all.new.space _ z.1

pub returns : goal.returns
returns c = λ m at can.
    let st = first_stage c.args.space.now m at in
    let x = c.reclaim_all_handled.ensures.reclaims st (opening c.args.space.now m at can) in
    let y = c.reclaim_all_dropped.ensures.drops (later st x.0 [] (λ o. 0)) (reverse x.0) x.1 in
    let z = c.lower_all.ensures.lowers (seeking (later st y.0 [] (λ o. 0)) [] (λ o. 0)) y.1 in
    let leaves = leaves_both c.args.space.now c.reclaim_all_handled.new.space c.lower_all.new.space c.reclaim_all_handled.ensures.keeps.leaves
    (leaves_both c.reclaim_all_handled.new.space c.reclaim_all_dropped.new.space c.lower_all.new.space c.reclaim_all_dropped.ensures.keeps.leaves c.lower_all.ensures.leaves) in
    (reverse z.0, subst (λ e. Finishes c.args.space.now e m at (reverse z.0)) (sym c.trust_counts.ensures) (finishes c.args.space.now c.lower_all.new.space m at z.0 can z.1 leaves))
