use Rattle.std.proofs.Common.{[], ◌∷◌, ◌++◌}
use Rattle.std.proofs.lemmas.Result.{IfOk-weaker}
use Rattle.lxr_graph.specs.Names.{without}
use Rattle.lxr_judge_sets.specs.Dying.{LetsGo, Lowers}
use Rattle.lxr_judge_sets.specs.declared.dying.Dying.{Dying}
use Rattle.lxr_judge_sets.proofs.DyingLemmas.{all_seen, dying_lowers, dying_seen}
use Rattle.lxr_judge_sets.proofs.dying.Dying.lower.Goals as goal

pub returns : goal.returns
returns c =
    let name = c.args.name in
    let was = c.args.self.now in
    let after = c.let_go.new.self in
    let lowered : Dying = record { mortal = was.mortal; counts = c.lower.new.self; gone = was.gone } in
    IfOk-weaker c.let_go.result
    (λ _. LetsGo lowered name after)
    (λ _. Lowers was name after)
    (λ _ goes s us stuck k held is.
    dying_seen s us stuck (without us (name ∷ []) ++ name ∷ []) us k held after (all_seen us name)
    (goes s us stuck (without us (name ∷ [])) k held (dying_lowers s us stuck k held was name c.lower.new.self is c.in_ok-lower.ensures)))
    c.let_go.ensures
