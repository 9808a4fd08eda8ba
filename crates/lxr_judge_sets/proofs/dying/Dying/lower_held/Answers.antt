use Rattle.std.proofs.Common.{◌+◌, ◌<◌, ◌∷◌, arith, drop, length, subst, sym}
use Rattle.std.specs.Prelude.{None}
use Rattle.std.proofs.lemmas.List.{drop_more}
use Rattle.lxr_judge_sets.specs.Dying.{IsDying}
use Rattle.lxr_judge_sets.proofs.DyingLemmas.{dying_nil}
use Rattle.lxr_judge_sets.proofs.dying.Dying.lower_held.Goals as goal
use Rattle.lxr_judge_sets.proofs.dying.Dying.lower_held.Goals.{in-Some+in_ok-lower, in_default}

pub loop-reference-preserved : goal.loop-reference-preserved
loop-reference-preserved c = λ s us stuck k is.
    let at = c.loop-reference.reference-index in
    let held = c.args.references.now in
    let rest = drop (at + 1) held in
    let was = c.loop-reference.self in
    let within : at < length held = omega (arith, c.loop-reference-test.true) in
    let now = subst (λ rs. IsDying s us stuck us k rs was) (drop_more held at None within) (c.loop-reference.invariant s us stuck k is) in
    elim c.match-reference.branch [
      | in-Some+in_ok-lower w ↦
          subst (λ d. IsDying s us stuck us k rest d) (sym w.self-is)
          (w.in_ok-lower.ensures s us stuck k rest (subst (λ r. IsDying s us stuck us k (r ∷ rest) was) w.in-Some.is now))
      | in_default w ↦
          subst (λ d. IsDying s us stuck us k rest d) (sym w.self-is)
          (dying_nil s us stuck us k rest was (subst (λ r. IsDying s us stuck us k (r ∷ rest) was) w.in_default.is now))
    ]
