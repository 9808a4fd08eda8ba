use Rattle.std.proofs.Common.{◌≡◌, subst}
use Rattle.std.specs.Prelude.{IfNone, IfSome, None, Option, Some}
use Rattle.lxr_image.proofs.UsedLemmas.{heap_inside, heap_read, zero_block}
use Rattle.lxr_image.proofs.space.Space.lend_heap.Goals as goal

pub lend-requires : goal.lend-requires
lend-requires c = heap_inside c.args.self.now.limits c.args.self.now.words c.args.at c.requires.at c.requires.space.size

pub returns-clause-some : goal.returns-clause-some
returns-clause-some c = subst (λ k. IfSome c.lend.result (λ word. word.now ≡ k)) (heap_read c.args.self.now.limits c.args.self.now.words c.args.at c.requires.at) c.lend.ensures.some

pub returns-clause-none : goal.returns-clause-none
returns-clause-none c = later c.lend.result (zero_block c.args.self.now c.args.at c.requires.space) c.lend.ensures.none
  where
    later : {T P Q : Type 0} (r : Option T) → (P → Q) → IfNone r P → IfNone r Q
    later None f p = f p
    later (Some x) f p = tt
