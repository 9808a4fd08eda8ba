use Rattle.std.proofs.Common.{◌≡◌, arith, subst}
use Rattle.lxr_c_base.specs.declared.codes.Code.TheVariants as code
use Rattle.lxr_c_arrays.specs.Sides.{check_steps, parts_between}
use Rattle.lxr_c_arrays.specs.Running.{InTurn, in_turn}
use Rattle.lxr_c_arrays.proofs.RunLemmas.{round_more, round_stop, same_none, same_on, turn_none}
use Rattle.lxr_c_arrays.proofs.checking.check_parts.Goals as goal

pub loop-n-init : goal.loop-n-init
loop-n-init c = record { serving = c.requires.serving; same = same_none c.args.heap.now; runs = turn_none c.args.heap.now }

pub loop-n-preserved : goal.loop-n-preserved
loop-n-preserved c =
    let f = check_steps c.args.at.root c.args.at.part c.args.first c.args.end in
    record {
      serving = c.check_part.ensures.serving;
      same = same_on c.args.heap.now c.loop-n.heap c.check_part.new.heap c.loop-n.invariant.same c.check_part.ensures.same;
      runs = round_more f c.args.heap.now c.loop-n.heap c.check_part.new.heap c.loop-n.n c.loop-n.invariant.runs (subst (λ q. InTurn c.loop-n.heap (f c.loop-n.n) c.check_part.new.heap q) c.in-Done.is c.check_part.ensures.runs);
    }

pub returns-in_default-clause-runs : goal.returns-in_default-clause-runs
returns-in_default-clause-runs c =
    round_stop (check_steps c.args.at.root c.args.at.part c.args.first c.args.end) c.args.heap.now c.loop-n.heap c.check_part.new.heap c.check_part.result c.loop-n.n (parts_between c.args.first c.args.end) (omega arith) c.loop-n.invariant.runs c.check_part.ensures.runs c.in_default.not-Done

pub returns-in_default-clause-same : goal.returns-in_default-clause-same
returns-in_default-clause-same c = same_on c.args.heap.now c.loop-n.heap c.check_part.new.heap c.loop-n.invariant.same c.check_part.ensures.same

pub returns-clause-runs : goal.returns-clause-runs
returns-clause-runs c = subst (λ n. InTurn c.args.heap.now (in_turn (check_steps c.args.at.root c.args.at.part c.args.first c.args.end) n) c.loop-n.heap code.Done) (let same : c.loop-n.n ≡ parts_between c.args.first c.args.end = omega arith in same) c.loop-n.invariant.runs
