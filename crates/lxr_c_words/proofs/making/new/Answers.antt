use Rattle.std.proofs.Common.{◌∙◌, ap, refl, sym, subst, Some}
use Rattle.std.proofs.lemmas.Option.{same_Some}
use Rattle.lxr_c_base.specs.Requests.{IsMaking}
use Rattle.lxr_c_heap.specs.Keeping.{registers_kept}
use Rattle.lxr_c_heap.specs.Hosting.{IsServing}
use Rattle.lxr_c_heap.proofs.RegisterLemmas.{still_counted}
use Rattle.lxr_c_many.proofs.CallLemmas.{does_done}
use Rattle.lxr_c_words.specs.Making.{MakesWords, words_wanted}
use Rattle.lxr_c_words.proofs.making.new.Goals as goal

pub make-requires-clause-serving : goal.make-requires-clause-serving
make-requires-clause-serving c = c.args.handle.now.serving c.lend.result.now c.lend.ensures.heap

pub make-requires-clause-op : goal.make-requires-clause-op
make-requires-clause-op c = subst (λ n. IsMaking n c.in_ok-op.op) (c.registers.ensures.counted ∙ ap registers_kept c.lend.ensures.heap) c.in_ok-op.ensures.may

pub make-requires-clause-place : goal.make-requires-clause-place
make-requires-clause-place c = c.in_ok-op.ensures.place

pub invariant_of-handle-clause-counted : goal.invariant_of-handle-clause-counted
invariant_of-handle-clause-counted c = still_counted c.args.handle.now.block.value c.lend.result.now c.make.new.heap _ c.args.handle.now.counted c.lend.ensures.heap c.make.ensures.registers

pub invariant_of-handle-clause-serving : goal.invariant_of-handle-clause-serving
invariant_of-handle-clause-serving c = λ x is. subst IsServing (same_Some c.make.new.heap x is) c.make.ensures.serving

pub returns : goal.returns
returns c =
    does_done (MakesWords c.args.length) c.args.handle.now.block.value (Some c.make.new.heap) c.lend.result.now c.make.new.heap (words_wanted (registers_kept c.args.handle.now.block.value) c.args.dest c.args.length) c.in_ok-op.op
    c.make.result c.lend.ensures.heap refl (sym (ap (λ n. words_wanted n c.args.dest c.args.length) c.registers.ensures.counted) ∙ sym c.words_wanted.ensures.wanted ∙ c.in_ok-op.was) c.make.ensures.makes
