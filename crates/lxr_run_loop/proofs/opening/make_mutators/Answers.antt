use Rattle.std.proofs.Common.{rules, arith, ◌≡◌, ◌+◌, ap, subst, sym, ◌∙◌, [], ◌∷◌, ◌++◌, length, append_assoc}
use Rattle.std.specs.Vec.Iter.{into_iter_items}
use Rattle.lxr_mutator.specs.Mutators.{first}
use Rattle.lxr_run_loop.specs.Made.{AreMade}
use Rattle.lxr_run_loop.proofs.OpeningLemmas.{all_operations, few_written, made_pushed, none_made, thread_of}
use Rattle.lxr_run_loop.proofs.opening.make_mutators.Goals as goal

pub loop-operations-init : goal.loop-operations-init
loop-operations-init c = record {
  taken = ([], search rules, subst (AreMade c.args.limits c.args.every 0 0 []) (sym c.in_ok-actors.ensures.items) (none_made c.args.limits c.args.every));
  room = search rules;
  count = search rules;
  limits = search rules;
  every = search rules;
}

pub new-requires-clause-operations : goal.new-requires-clause-operations
new-requires-clause-operations c =
    let before = c.loop-operations.invariant.taken in
    let split = before.1 ∙ ap (λ xs. before.0 ++ xs) c.in-Some.ensures.steps.0 in
    all_operations c.args.limits c.in-Some.operations.items c.requires.limits (thread_of c.args.script.items before.0 (into_iter_items c.next.new.self) c.in-Some.operations split c.requires.script)

pub new-requires-clause-few : goal.new-requires-clause-few
new-requires-clause-few c =
    let before = c.loop-operations.invariant.taken in
    let split = before.1 ∙ ap (λ xs. before.0 ++ xs) c.in-Some.ensures.steps.0 in
    few_written _ (length c.in-Some.operations.items) (thread_of c.args.script.items before.0 (into_iter_items c.next.new.self) c.in-Some.operations split c.requires.script).count

pub loop-operations-preserved : goal.loop-operations-preserved
loop-operations-preserved c =
    let before = c.loop-operations.invariant.taken in
    let rest = into_iter_items c.next.new.self in
    let operations = c.in-Some.operations in
    let split = before.1 ∙ ap (λ xs. before.0 ++ xs) c.in-Some.ensures.steps.0 in
    let many : c.len-in-loop-operations.result ≡ length c.loop-operations.actors.items = c.len-in-loop-operations.ensures ∙ c.loop-operations.invariant.count in
    record {
      taken = (
        before.0 ++ operations ∷ [],
        split ∙ sym (append_assoc before.0 (operations ∷ []) rest),
        made_pushed c.args.limits c.args.every c.args.script.items before.0 rest operations c.loop-operations.actors.items c.push_reserved.new.self.items c.in_ok-lodged.lodged split c.requires.script
            c.requires.limits c.requires.threads c.requires.every before.2 (c.in_ok-lodged.ensures ∙ c.in_ok-mutator.ensures ∙ ap (λ n. first (n + 1) operations.items c.args.limits c.args.every) many) c.push_reserved.ensures.items,
      );
      room = omega (arith, c.in-Some.ensures.steps.1);
      count = search rules;
      limits = search rules;
      every = search rules;
    }
