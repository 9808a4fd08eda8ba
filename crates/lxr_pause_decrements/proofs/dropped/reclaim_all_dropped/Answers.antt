use Rattle.std.proofs.Common.{[]}
use Rattle.lxr_pause_decrements.specs.Cascade.{later}
use Rattle.lxr_pause_decrements.proofs.SpaceLemmas.{keeps_both}
use Rattle.lxr_pause_decrements.proofs.dropped.reclaim_all_dropped.Goals as goal

pub reclaim_referred-requires : goal.reclaim_referred-requires
reclaim_referred-requires c =
    let x = c.reclaim_drawn.ensures.drops c.requires.0 c.requires.1 c.requires.2 in
    (later c.requires.0 x.0 [] (λ o. 0), c.requires.1, x.1)

pub returns : goal.returns
returns c = record {
  drops = λ st handled is.
      let x = c.reclaim_drawn.ensures.drops st handled is in
      c.reclaim_referred.ensures.drops (later st x.0 [] (λ o. 0)) handled x.1;
  keeps = keeps_both c.args.space.now c.reclaim_drawn.new.space c.reclaim_referred.new.space c.reclaim_drawn.ensures.keeps c.reclaim_referred.ensures.keeps;
}
