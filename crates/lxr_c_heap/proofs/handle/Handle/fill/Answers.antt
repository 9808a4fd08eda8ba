use Rattle.std.proofs.Common.{refl, inl, inr}
use Rattle.std.proofs.lemmas.Bool.{iff_false}
use Rattle.std.specs.Prelude.{None}
use Rattle.lxr_c_heap.proofs.CallLemmas.{opens_some, opens_unfit}
use Rattle.lxr_c_heap.proofs.handle.Handle.fill.Goals as goal

pub returns-then-not-fit : goal.returns-then-not-fit
returns-then-not-fit c = opens_unfit None c.args.self.now.block.value c.args.wanted.now refl c.requires.none (iff_false c.fit.ensures c.if-not-fit.true)

pub returns-in-None : goal.returns-in-None
returns-in-None c = opens_some None c.args.self.now.block.value c.args.wanted.now _ refl (c.fit.ensures.0 c.if-not-fit.false) (inr (refl, c.requires.none))

pub returns-in-Some : goal.returns-in-Some
returns-in-Some c =
    opens_some None c.put.new.self.block.value c.args.wanted.now _ refl (c.fit.ensures.0 c.if-not-fit.false) (inl (c.in-Some.heap.value, refl, c.put.ensures, c.in-Some.ensures.opened))
