use Rattle.std.proofs.Common.{sym, subst}
use Rattle.lxr_large_model.specs.declared.Acted.TheVariants as acted
use Rattle.lxr_heap.specs.Acting.{Acts, MayBeCalled}
use Rattle.lxr_heap.proofs.acting.act.Goals as goal

pub act_small-requires-clause-op : goal.act_small-requires-clause-op
act_small-requires-clause-op c = subst (MayBeCalled c.args.heap.now.space.limits.registers) c.in-Small.is c.requires.op

pub make_large-requires-clause-dest : goal.make_large-requires-clause-dest
make_large-requires-clause-dest c = (subst (MayBeCalled c.args.heap.now.space.limits.registers) c.in-Big.is c.requires.op).0

pub make_large-requires-clause-blocks : goal.make_large-requires-clause-blocks
make_large-requires-clause-blocks c = let is = subst (MayBeCalled c.args.heap.now.space.limits.registers) c.in-Big.is c.requires.op in (is.1, is.2)

pub put_word-requires-clause-base : goal.put_word-requires-clause-base
put_word-requires-clause-base c = subst (MayBeCalled c.args.heap.now.space.limits.registers) c.in-BigPut.is c.requires.op

pub get_word-requires-clause-base : goal.get_word-requires-clause-base
get_word-requires-clause-base c = subst (MayBeCalled c.args.heap.now.space.limits.registers) c.in-BigGet.is c.requires.op

pub returns-in-Small : goal.returns-in-Small
returns-in-Small c = λ h is. subst (λ o. Acts c.args.heap.now c.act_small.new.heap h o c.act_small.result) (sym c.in-Small.is) (c.act_small.ensures h is)

pub returns-in-Big : goal.returns-in-Big
returns-in-Big c = λ h is. subst (λ o. Acts c.args.heap.now c.make_large.new.heap h o c.make_large.result) (sym c.in-Big.is) (c.make_large.ensures h is)

pub returns-in-BigPut : goal.returns-in-BigPut
returns-in-BigPut c = λ h is. subst (λ o. Acts c.args.heap.now c.put_word.new.heap h o (acted.Replied c.put_word.result)) (sym c.in-BigPut.is) (c.put_word.ensures h is)

pub returns-in-BigGet : goal.returns-in-BigGet
returns-in-BigGet c = λ h is. subst (λ o. Acts c.args.heap.now c.get_word.new.heap h o (acted.Replied c.get_word.result)) (sym c.in-BigGet.is) (c.get_word.ensures h is)
