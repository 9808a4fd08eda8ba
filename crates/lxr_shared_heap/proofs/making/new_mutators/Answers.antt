use Rattle.std.proofs.Common.{◌≡◌, ◌∙◌, ◌+◌, ◌++◌, ◌∷◌, [], arith, ap, subst}
use Rattle.lxr_core.specs.declared.actors.AnyActor.TheVariants as any
use Rattle.lxr_shared_heap.specs.Making.{AreNew}
use Rattle.lxr_shared_heap.proofs.MakingLemmas.{new_pushed, none_new}
use Rattle.lxr_shared_heap.proofs.making.new_mutators.Goals as goal

pub loop-number-init : goal.loop-number-init
loop-number-init c = record {
  new = none_new c.args.limits c.args.every c.args.names c.in_ok-actors.actors.items c.in_ok-actors.ensures.items;
  many = c.in_ok-actors.ensures.len;
  room = let room = c.in_ok-actors.ensures.capacity in omega arith;
}

pub loop-number-preserved : goal.loop-number-preserved
loop-number-preserved c = record {
  new = new_pushed c.args.limits c.args.every c.args.names c.loop-number.number c.loop-number.actors.items c.push_reserved.new.self.items c.in_ok-mutator.mutator c.loop-number.invariant.new c.in_ok-mutator.ensures c.operation.ensures.sound
      (subst (λ m. c.push_reserved.new.self.items ≡ c.loop-number.actors.items ++ any.Mutator m ∷ []) c.in_ok-lodged.ensures c.push_reserved.ensures.items);
  many = c.push_reserved.ensures.len ∙ ap (λ n. n + 1) c.loop-number.invariant.many;
  room = let room = c.loop-number.invariant.room in let same = c.push_reserved.ensures.capacity in omega arith;
}

pub returns-clause-new : goal.returns-clause-new
returns-clause-new c =
    let ends = c.loop-number-test.false in
    let most = c.loop-number.auto.number-end in
    let all : c.loop-number.number ≡ c.args.limits.threads = omega arith in
    subst (λ n. AreNew c.args.limits c.args.every c.args.names n c.loop-number.actors.items) all c.loop-number.invariant.new
