use Rattle.std.proofs.Common.{subst, sym}
use Rattle.lxr_c_base.specs.Requests as asking
use Rattle.lxr_c_heap.specs.Keeping.{registers_kept}
use Rattle.lxr_c_heap.specs.Looking.{Tells, word_in}
use Rattle.lxr_c.proofs.FindingLemmas.{finds_tells}
use Rattle.lxr_c.proofs.lxr_get.Goals as goal

pub returns-in-None : goal.returns-in-None
returns-in-None c =
    subst (λ k. Tells word_in k c.get_aside.new.heap.block.value (asking.get (registers_kept k) c.args.base c.args.index) c.get_aside.result c.args.word.now c.get_aside.new.word) c.try_get.ensures.unchanged c.get_aside.ensures

pub returns-in-Some : goal.returns-in-Some
returns-in-Some c =
    let k = c.args.heap.now.block.value in
    subst (λ n. Tells word_in k c.try_get.new.self.block.value (asking.get (registers_kept k) c.args.base c.args.index) n c.args.word.now c.in-Some.found) (sym c.number.ensures)
    (finds_tells k c.try_get.new.self.block.value (asking.get (registers_kept k) c.args.base c.args.index) c.in-Some.found c.args.word.now c.in-Some.ensures.got c.try_get.ensures.unchanged)
