use Rattle.std.proofs.Common.{arith, subst, sym}
use Rattle.lxr_pause_increments.specs.Steps.{RaisesHeld}
use Rattle.lxr_pause_increments.proofs.HeldLemmas.{held_none, held_small, held_some}
use Rattle.lxr_pause_increments.proofs.order.raise_word.Goals as goal

pub overflow_cast-word : goal.overflow_cast-word
overflow_cast-word c = let small = held_small c.args.space.now c.requires.may.0 c.requires.may.1 c.requires.may.2 c.requires.may.3 c.args.word c.requires.may.4 c.requires.may.5 in omega (arith, small)

pub raise-requires-clause-may : goal.raise-requires-clause-may
raise-requires-clause-may c =
    let x = held_some c.requires.may.0 c.requires.may.1 c.requires.may.2 c.requires.may.3 c.args.word c.requires.may.5 c.if-word-eq0.false in
    (c.requires.may.0, c.requires.may.1, c.requires.may.2, x.0, c.requires.may.4, x.2)

pub returns-then-word-eq0-clause-raises : goal.returns-then-word-eq0-clause-raises
returns-then-word-eq0-clause-raises c = λ m at st held is may. held_none c.args.space.now m at st held c.args.word is may c.if-word-eq0.true

pub returns-else-word-eq0-clause-raises : goal.returns-else-word-eq0-clause-raises
returns-else-word-eq0-clause-raises c = λ m at st held is may.
    let x = held_some m at st held c.args.word may c.if-word-eq0.false in
    subst (λ w. RaisesHeld c.args.space.now c.raise.new.space m at st held w) (sym c.from.ensures)
    (subst (λ h. RaisesHeld c.args.space.now c.raise.new.space m at st h c.raise.result.0) (sym x.1) (c.raise.ensures.raises m at st x.0 is x.2))
