use Rattle.std.proofs.Common.{◌∙◌, ap, arith, cond, get_or, nat_eq, set}
use Rattle.lxr_judge_sets.proofs.ByNameLemmas.{page_filled, set_reads}
use Rattle.lxr_judge_sets.proofs.by_name.Page.set.Goals as goal
use Rattle.lxr_judge_sets.proofs.by_name.Page.set.Goals.{then-len-index+in_ok-resize, else-len-index}

pub returns-clause-ok : goal.returns-clause-ok
returns-clause-ok g c = λ k.
    let cells = c.self.inside.cells in
    let seen = ap (λ xs. cond (nat_eq k c.args.index) c.args.value (get_or xs k c.args.rest)) c.self.view_is in
    let long = cells.ok.0 in
    let count = c.len.ensures in
    elim c.if-len-index.branch [
      | then-len-index+in_ok-resize w ↦
          let past = w.if-len-index.true in
          ap (λ s. get_or (set s.cells.items c.args.index c.args.value) k c.args.rest) w.self-inside-is
          ∙ page_filled cells.items w.resize.new.self.items cells.len c.args.index k c.args.value c.args.rest (omega (arith, long))
          (omega (arith, past, count)) c.requires w.in_ok-resize.ensures.items
          ∙ seen
      | else-len-index w ↦
          let before = w.if-len-index.false in
          ap (λ s. get_or (set s.cells.items c.args.index c.args.value) k c.args.rest) w.self-inside-is
          ∙ set_reads cells.items cells.items c.args.index k c.args.value c.args.rest (omega (arith, before, count, long))
          (λ i. get_or cells.items k c.args.rest)
          ∙ seen
    ]
