use Rattle.std.proofs.Common.{◌∙◌, ap, refl, sym, Some, subst}
use Rattle.std.proofs.lemmas.Option.{same_Some}
use Rattle.lxr_c_heap.specs.Keeping.{registers_kept}
use Rattle.lxr_c_heap.specs.Hosting.{IsServing}
use Rattle.lxr_c_heap.proofs.RegisterLemmas.{still_counted}
use Rattle.lxr_c_many.specs.Making.{IsWanted, MakesWith, wanted_of}
use Rattle.lxr_c_many.proofs.CallLemmas.{does_done}
use Rattle.lxr_c_many.proofs.making.new_with.Goals as goal

pub make-requires-clause-serving : goal.make-requires-clause-serving
make-requires-clause-serving c = c.args.handle.now.serving c.lend.result.now c.lend.ensures.heap

pub make-requires-clause-wanted : goal.make-requires-clause-wanted
make-requires-clause-wanted c =
    subst (λ n. IsWanted n c.args.sources.now c.args.words.now c.in_ok-wanted.wanted) (c.registers.ensures.counted ∙ ap registers_kept c.lend.ensures.heap) c.in_ok-wanted.ensures.fits

pub invariant_of-handle-clause-counted : goal.invariant_of-handle-clause-counted
invariant_of-handle-clause-counted c = still_counted c.args.handle.now.block.value c.lend.result.now c.make.new.heap _ c.args.handle.now.counted c.lend.ensures.heap c.make.ensures.registers

pub invariant_of-handle-clause-serving : goal.invariant_of-handle-clause-serving
invariant_of-handle-clause-serving c = λ x is. subst IsServing (same_Some c.make.new.heap x is) c.make.ensures.serving

pub returns : goal.returns
returns c =
    does_done (MakesWith c.args.sources.now c.args.words.now) c.args.handle.now.block.value (Some c.make.new.heap) c.lend.result.now c.make.new.heap (wanted_of (registers_kept c.args.handle.now.block.value) c.args.dest c.args.sources.now c.args.words.now) c.in_ok-wanted.wanted
    c.make.result c.lend.ensures.heap refl (sym (ap (λ n. wanted_of n c.args.dest c.args.sources.now c.args.words.now) c.registers.ensures.counted) ∙ sym c.wanted_of.ensures.wanted ∙ c.in_ok-wanted.was) c.make.ensures.makes
