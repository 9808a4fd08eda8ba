-- What is left to raise falls register by register.
use Rattle.std.proofs.Common.{◌≡◌, ap, arith, [], ◌∷◌, None, get_or}
use Rattle.lxr_model.specs.References.{occurrences}
use Rattle.lxr_judge_report.specs.Fields.{newly_of}
use Rattle.lxr_judge_report.proofs.LoopLemmas.{newly_more, newly_all}
use Rattle.lxr_judge_report.proofs.reporting.raise_newly_held.Goals as goal

pub loop-at-preserved : goal.loop-at-preserved
loop-at-preserved c = λ o.
    let least = c.min-at-end.ensures in
    let test = c.loop-at-test.true in
    let step = newly_more c.args.before.now c.args.now.now c.loop-at.at o (omega (arith, least, test)) (omega (arith, least, test)) in
    let once : occurrences (c.newly.result ∷ []) o ≡ occurrences (newly_of (get_or c.args.before.now c.loop-at.at None) (get_or c.args.now.now c.loop-at.at None) ∷ []) o =
    ap (λ h. occurrences (h ∷ []) o) c.newly.ensures in
    let raised = c.in_ok-raise_held.ensures o in
    let before = c.loop-at.invariant o in
    omega (arith, step, once, raised, before)

pub returns : goal.returns
returns c = λ o.
    let none = newly_all c.args.before.now c.args.now.now c.loop-at.at o (omega arith) in
    let before = c.loop-at.invariant o in
    omega (arith, none, before)
