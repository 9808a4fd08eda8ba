use Rattle.lxr_pause_decrements.specs.Cascade.{later}
use Rattle.lxr_pause_decrements.proofs.SpaceLemmas.{keeps_both}
use Rattle.lxr_pause_decrements.proofs.HandlingLemmas.{all_handled}
use Rattle.lxr_pause_decrements.proofs.FoundLemmas.{all_found, drawn_still}
use Rattle.lxr_pause_decrements.proofs.handled.reclaim_all_handled.Goals as goal

pub reclaim_handled_referred-requires : goal.reclaim_handled_referred-requires
reclaim_handled_referred-requires c =
    let x = c.reclaim_handled_drawn.ensures.reclaims.stage c.requires.0 c.requires.1 in
    (later c.requires.0 x.0 c.requires.0.work c.requires.0.extra, x.1)

pub returns : goal.returns
returns c =
    let a = c.args.space.now in
    let b = c.reclaim_handled_drawn.new.space in
    let e = c.reclaim_handled_referred.new.space in
    let first = c.reclaim_handled_drawn.ensures in
    let second = c.reclaim_handled_referred.ensures in
    record {
      reclaims = λ st is.
          let x = first.reclaims.stage st is in
          let y = second.reclaims.stage (later st x.0 st.work st.extra) x.1 in
          let all = later st y.0 st.work st.extra in
          (y.0, all_handled e all y.1 (all_found e all y.1 (drawn_still b e second.keeps second.reclaims first.undone) second.undone));
      keeps = keeps_both a b e first.keeps second.keeps;
    }
