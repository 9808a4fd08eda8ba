use Rattle.std.proofs.Common.{sym, ◌∙◌, arith}
use Rattle.std.proofs.lemmas.Bool.{eqb-true}
use Rattle.lxr_text_script.proofs.Items.{passed, taken, end_stays, no_item}
use Rattle.lxr_text_script.proofs.lines.Scanner.next.Goals as goal

pub returns-in-Some-clause-item : goal.returns-in-Some-clause-item
returns-in-Some-clause-item c =
    let item = c.in-Some.ensures in
    sym c.loop-number.invariant.items ∙ rw item.1 (taken c.loop-number.self.number c.loop-number.self.rest.now c.split_line.result.0.now c.split_line.result.1.now c.split_line.ensures.lines item.0)

pub loop-number-preserved : goal.loop-number-preserved
loop-number-preserved c =
    record {
      small = omega arith;
      items = sym (passed c.loop-number.self.number c.loop-number.self.rest.now c.split_line.result.0.now c.split_line.result.1.now c.split_line.ensures.lines c.in_default.ensures) ∙ c.loop-number.invariant.items;
      last = end_stays c.loop-number.self.number c.loop-number.self.rest.now c.split_line.result.0.now c.split_line.result.1.now c.split_line.ensures.lines ∙ c.loop-number.invariant.last;
    }

pub returns-clause-item : goal.returns-clause-item
returns-clause-item c = sym c.loop-number.invariant.items ∙ no_item c.loop-number.self.number c.loop-number.self.rest.now (eqb-true _ 0 (sym c.is_empty.ensures ∙ c.loop-number-test.false))
