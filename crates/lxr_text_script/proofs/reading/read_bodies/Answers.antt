use Rattle.std.proofs.Common.{◌≡◌, ℕ, ◌+◌, ◌++◌, ◌∷◌, [], map, sym, ◌∙◌, ap, arith, length-append}
use Rattle.std.proofs.lemmas.Result.{err_from_is_err_and}
use Rattle.std.proofs.lemmas.List.{map_push}
use Rattle.lxr_text_script.specs.Reading.{opening_of, operations_of}
use Rattle.lxr_text_script.specs.Scanner.{end_left, items_left}
use Rattle.lxr_text_script.proofs.Loops.{carried, body_more, no_opening, no_body, all_bodies}
use Rattle.lxr_text_script.proofs.reading.read_bodies.Goals as goal

pub returns-in_err-read_opening-clause-read : goal.returns-in_err-read_opening-clause-read
returns-in_err-read_opening-clause-read c =
    let p = err_from_is_err_and c.from_residual.result c.from_residual.ensures.1 in
    let opens = ap (λ (e : ℕ). opening_of e (c.loop-done.done + 1) (items_left c.loop-done.lines)) (sym c.loop-done.invariant.last) ∙ sym c.in_err-read_opening.ensures.read in
    rw (p.1, p.2) (no_opening c.args.version (end_left c.args.lines.now) c.args.count c.loop-done.done _ (items_left c.loop-done.lines) c.in_err-read_opening.field-0.0 _ c.loop-done-test.true opens c.loop-done.invariant.read)

pub returns-in_err-body-clause-read : goal.returns-in_err-body-clause-read
returns-in_err-body-clause-read c =
    let p = err_from_is_err_and c.from_residual-in_err-body.result c.from_residual-in_err-body.ensures.1 in
    let opens = ap (λ (e : ℕ). opening_of e (c.loop-done.done + 1) (items_left c.loop-done.lines)) (sym c.loop-done.invariant.last) ∙ sym c.in_ok-read_opening.ensures.read in
    let same = ap (λ (e : ℕ). operations_of c.args.version e 0 (items_left c.read_opening.new.lines)) (sym (c.in_ok-read_opening.ensures.end ∙ c.loop-done.invariant.last)) in
    rw (p.1, p.2) (carried c.in_err-body.field-0.0 _ _ c.in_err-body.ensures.read (λ f fault. no_body c.args.version (end_left c.args.lines.now) c.args.count c.loop-done.done _ (items_left c.loop-done.lines) (items_left c.read_opening.new.lines) f _ c.loop-done-test.true opens (same ∙ fault) c.loop-done.invariant.read))

pub loop-done-preserved : goal.loop-done-preserved
loop-done-preserved c =
    let opens = ap (λ (e : ℕ). opening_of e (c.loop-done.done + 1) (items_left c.loop-done.lines)) (sym c.loop-done.invariant.last) ∙ sym c.in_ok-read_opening.ensures.read in
    let reads = ap (λ (e : ℕ). operations_of c.args.version e 0 (items_left c.read_opening.new.lines)) (sym (c.in_ok-read_opening.ensures.end ∙ c.loop-done.invariant.last)) ∙ c.in_ok-body.ensures.read in
    let more : map (λ operations. operations.items) c.push.new.self.items ≡ map (λ operations. operations.items) c.loop-done.bodies.items ++ c.in_ok-body.body.items ∷ [] = rw c.in_ok-push.ensures.items (map_push _ c.loop-done.bodies.items c.in_ok-body.body) in
    record {
      small = c.in_ok-body.ensures.small;
      last = c.in_ok-body.ensures.end ∙ (c.in_ok-read_opening.ensures.end ∙ c.loop-done.invariant.last);
      so_far = rw more (simp length-append (omega arith));
      read = rw more (body_more c.args.version (end_left c.args.lines.now) c.args.count c.loop-done.done _ (items_left c.loop-done.lines) (items_left c.read_opening.new.lines) (items_left c.read_operations.new.lines) c.in_ok-body.body.items _ c.loop-done-test.true opens reads c.loop-done.invariant.read);
    }

pub returns-clause-read : goal.returns-clause-read
returns-clause-read c = rw c.from_vec.ensures (all_bodies c.args.version (end_left c.args.lines.now) c.args.count c.loop-done.done _ (items_left c.loop-done.lines) _ c.loop-done-test.false c.loop-done.invariant.read)
