use Rattle.std.proofs.Common.{[], ◌∷◌, ◌++◌, length, arith, sym, ap, ◌∙◌, length-append, append-nil}
use Rattle.lxr_run_replay.proofs.NumberLemmas.{numbers_more, with_first}
use Rattle.lxr_run_replay.proofs.numbers.Unfinished.of.Goals as goal
use Rattle.lxr_run_replay.proofs.numbers.Unfinished.of.Goals.{then-may_be_drawn, else-may_be_drawn}

pub loop-number-preserved : goal.loop-number-preserved
loop-number-preserved c =
    let a = c.index-actors-number.result in
    let few = c.loop-number.invariant.few in
    let more = numbers_more c.args.tracing c.args.actors.now c.loop-number.number a c.loop-number.unfinished c.loop-number-test.true c.index-actors-number.is c.loop-number.invariant.are in
    let same = c.may_be_drawn.ensures in
    elim c.if-may_be_drawn.branch [
      | then-may_be_drawn w ↦
          let pushed = w.unfinished-is ∙ w.push.ensures in
          record {
            are = pushed ∙ (ap (λ b. c.loop-number.unfinished ++ with_first c.loop-number.number [] b) (sym w.if-may_be_drawn.true ∙ same) ∙ more);
            few = let l = length-append c.loop-number.unfinished (c.loop-number.number ∷ []) in let e = ap length pushed in omega arith;
          }
      | else-may_be_drawn w ↦
          record {
            are = w.unfinished-is ∙ (sym (append-nil c.loop-number.unfinished) ∙ (ap (λ b. c.loop-number.unfinished ++ with_first c.loop-number.number [] b) (sym w.if-may_be_drawn.false ∙ same) ∙ more));
            few = let e = ap length w.unfinished-is in omega arith;
          }
    ]
