use Rattle.std.proofs.Common.{◌≡◌, ℕ, sym, ◌∙◌, ap, arith}
use Rattle.std.proofs.lemmas.Result.{err_from_is_err_and}
use Rattle.lxr_large_text.specs.Reading.{next_operation}
use Rattle.lxr_text_script.specs.Scanner.{end_left, items_left, line_of}
use Rattle.lxr_large_text.proofs.Loops.{one_more, at_fault, at_end, without_end}
use Rattle.lxr_large_text.proofs.reading.read_operations.Goals as goal

pub returns-then-is_end-clause-read : goal.returns-then-is_end-clause-read
returns-then-is_end-clause-read c = rw c.from_vec.ensures (at_end (end_left c.args.lines.now) c.loop-item.operations.items (items_left c.loop-item.lines) (items_left c.next.new.self) (line_of c.in-Some.item) _
    c.in-Some.ensures.item (sym c.is_end.ensures ∙ c.if-is_end.true) c.loop-item.invariant.read)

pub returns-in_err-op-clause-read : goal.returns-in_err-op-clause-read
returns-in_err-op-clause-read c =
    let p = err_from_is_err_and c.from_residual.result c.from_residual.ensures.1 in
    rw (p.1, p.2) (at_fault (end_left c.args.lines.now) c.loop-item.operations.items (items_left c.loop-item.lines) (items_left c.next.new.self) (line_of c.in-Some.item) c.in_err-op.field-0.0 _
    c.in-Some.ensures.item (sym c.is_end.ensures ∙ c.if-is_end.false) (ap (λ (n : ℕ). next_operation n (line_of c.in-Some.item)) (omega (arith, c.len.ensures)) ∙ sym c.next_operation.ensures ∙ c.in_err-op.was) c.loop-item.invariant.read)

pub loop-item-preserved : goal.loop-item-preserved
loop-item-preserved c = record {
  small = c.in-Some.ensures.small;
  last = c.in-Some.ensures.end ∙ c.loop-item.invariant.last;
  read = rw c.in_ok-push.ensures.items (one_more (end_left c.args.lines.now) c.loop-item.operations.items (items_left c.loop-item.lines) (items_left c.next.new.self) (line_of c.in-Some.item) c.in_ok-op.op _
      c.in-Some.ensures.item (sym c.is_end.ensures ∙ c.if-is_end.false) (ap (λ (n : ℕ). next_operation n (line_of c.in-Some.item)) (omega (arith, c.len.ensures)) ∙ sym c.next_operation.ensures ∙ c.in_ok-op.was) c.loop-item.invariant.read);
}

pub returns-clause-read : goal.returns-clause-read
returns-clause-read c =
    let last : c.next.new.self.number ≡ end_left c.args.lines.now = c.in_default.ensures.number ∙ c.loop-item.invariant.last in
    rw last (without_end (end_left c.args.lines.now) c.loop-item.operations.items (items_left c.loop-item.lines) _ c.in_default.ensures.item c.loop-item.invariant.read)
