use Rattle.std.proofs.Common.{◌≡◌, ◌∙◌, ◌++◌, arith, map, refl, subst, sym}
use Rattle.std.specs.Prelude.{replicate}
use Rattle.std.proofs.lemmas.List.{append-nil}
use Rattle.lxr_decrement.specs.Decrementers.{first}
use Rattle.lxr_core.specs.declared.actors.AnyActor.TheVariants as any
use Rattle.lxr_rounds.proofs.HelperLemmas.{one_behind}
use Rattle.lxr_rounds.proofs.helpers.add_decrementers.Goals as goal

pub loop-init : goal.loop-init
loop-init c = record { added = sym (append-nil c.args.actors.now.items); many = omega arith; room = refl }

pub push_reserved-requires : goal.push_reserved-requires
push_reserved-requires c = let room = c.requires.room in let same = c.loop.invariant.room in let many = c.loop.invariant.many in let more = c.loop-test.true in omega arith

pub loop-preserved : goal.loop-preserved
loop-preserved c = record {
  added = one_behind any.Decrementer c.loop.counter _ (first c.args.limits) c.in_ok-lodged.lodged c.args.actors.now.items c.loop.actors.items c.push_reserved.new.self.items c.loop.invariant.added (c.in_ok-lodged.ensures ∙ c.in_ok-decrementer.ensures) refl c.push_reserved.ensures.items;
  many = let len = c.push_reserved.ensures.len in let many = c.loop.invariant.many in omega arith;
  room = c.push_reserved.ensures.capacity ∙ c.loop.invariant.room;
}

pub returns-clause-added : goal.returns-clause-added
returns-clause-added c =
    let ends = c.loop-test.false in
    let most = c.loop.auto.counter-end in
    let all : c.loop.counter ≡ c.args.count = omega arith in
    subst (λ n. c.loop.actors.items ≡ c.args.actors.now.items ++ map any.Decrementer (replicate n (first c.args.limits))) all c.loop.invariant.added
