use Rattle.std.proofs.Common.{◌∙◌, [], ap, length, subst}
use Rattle.std.specs.Prelude.{not, ◌&&◌}
use Rattle.lxr_graph.specs.Names.{has}
use Rattle.lxr_model.specs.Dead.{Dead}
use Rattle.lxr_model.specs.References.{references}
use Rattle.lxr_judge_sets.specs.Dying.{IsDying}
use Rattle.lxr_judge_sets.specs.declared.dying.Dying.{Dying}
use Rattle.lxr_judge_sets.proofs.LeadingLemmas.{set_found}
use Rattle.lxr_judge_sets.proofs.DyingLemmas.{counts_left, dying_begins, dying_ends}
use Rattle.lxr_judge_sets.proofs.dying.dead.Goals as goal

pub returns : goal.returns
returns c =
    let s = c.args.graph.now in
    let us = c.args.us.now in
    let stuck = c.args.stuck.now in
    let begun : Dying = record { mortal = c.in_ok-mortals.field-0; counts = c.in_ok-references.field-0; gone = c.in_ok-new.field-0 } in
    let first : IsDying s us stuck [] 0 [] begun =
    dying_begins s us stuck begun c.names.ensures.once
    (λ o. c.in_ok-mortals.ensures o ∙ ap (λ ns. has ns o && not (has stuck o)) c.names.ensures.names)
    (λ o. c.in_ok-references.ensures o ∙ ap (λ ns. references s ns o) c.names-2.ensures.names)
    c.in_ok-new.ensures in
    let all = c.let_all_go.new.self in
    let second : IsDying s us stuck us 0 [] all =
    subst (λ ns. IsDying s us stuck ns 0 [] all) c.names-3.ensures.names (c.in_ok-let_all_go.ensures s us stuck first) in
    let last = c.follow.new.self in
    let third : IsDying s us stuck us (length last.gone) [] last = c.in_ok-follow.ensures us stuck second in
    record {
      names = set_found c.in_order.result last.gone (Dead s us stuck) c.in_order.ensures.order c.in_order.ensures.members
          (dying_ends s us stuck last third);
      counts = counts_left s us stuck c.in_order.result last third c.in_order.ensures.members;
    }
