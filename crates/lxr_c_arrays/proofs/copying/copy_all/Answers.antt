use Rattle.std.proofs.Common.{◌≡◌, arith, subst}
use Rattle.lxr_c_base.specs.declared.codes.Code.TheVariants as code
use Rattle.lxr_c_arrays.specs.Plans.{copy_steps}
use Rattle.lxr_c_arrays.specs.Running.{InTurn, in_turn}
use Rattle.lxr_c_arrays.proofs.RunLemmas.{round_more, round_stop, same_none, same_on, turn_none}
use Rattle.lxr_c_arrays.proofs.copying.copy_all.Goals as goal

pub loop-n-init : goal.loop-n-init
loop-n-init c = record { serving = c.requires.serving; same = same_none c.args.heap.now; runs = turn_none c.args.heap.now }

pub loop-n-preserved : goal.loop-n-preserved
loop-n-preserved c =
    let f = copy_steps c.args.copying in
    record {
      serving = c.copy_round.ensures.serving;
      same = same_on c.args.heap.now c.loop-n.heap c.copy_round.new.heap c.loop-n.invariant.same c.copy_round.ensures.same;
      runs = round_more f c.args.heap.now c.loop-n.heap c.copy_round.new.heap c.loop-n.n c.loop-n.invariant.runs (subst (λ q. InTurn c.loop-n.heap (f c.loop-n.n) c.copy_round.new.heap q) c.in-Done.is c.copy_round.ensures.runs);
    }

pub returns-in_default-clause-runs : goal.returns-in_default-clause-runs
returns-in_default-clause-runs c =
    round_stop (copy_steps c.args.copying) c.args.heap.now c.loop-n.heap c.copy_round.new.heap c.copy_round.result c.loop-n.n (c.args.copying.count) (omega arith) c.loop-n.invariant.runs c.copy_round.ensures.runs c.in_default.not-Done

pub returns-in_default-clause-same : goal.returns-in_default-clause-same
returns-in_default-clause-same c = same_on c.args.heap.now c.loop-n.heap c.copy_round.new.heap c.loop-n.invariant.same c.copy_round.ensures.same

pub returns-clause-runs : goal.returns-clause-runs
returns-clause-runs c = subst (λ n. InTurn c.args.heap.now (in_turn (copy_steps c.args.copying) n) c.loop-n.heap code.Done) (let same : c.loop-n.n ≡ c.args.copying.count = omega arith in same) c.loop-n.invariant.runs
