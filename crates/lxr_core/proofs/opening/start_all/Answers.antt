use Rattle.std.proofs.Common.{◌≡◌, arith, subst}
use Rattle.std.specs.Prelude.{length}
use Rattle.lxr_core.specs.Starting.{HaveStarted}
use Rattle.lxr_core.proofs.AgainLemmas.{next_may, next_registers, none_started, one_more}
use Rattle.lxr_core.proofs.opening.start_all.Goals as goal

pub loop-number-init : goal.loop-number-init
loop-number-init c = none_started c.args.registers.now.items c.args.actors.now

pub start_again-requires-clause-rests : goal.start_again-requires-clause-rests
start_again-requires-clause-rests c =
    next_may c.args.registers.now.items c.args.actors.now c.loop-number.actors c.loop-number.number c.index-actors-number.result c.loop-number.invariant c.loop-number-test.true c.requires.rest

pub start_again-requires-clause-registers : goal.start_again-requires-clause-registers
start_again-requires-clause-registers c =
    next_registers c.args.registers.now c.args.actors.now c.loop-number.actors c.loop-number.number c.index-actors-number.result c.loop-number.invariant c.loop-number-test.true c.requires.order c.requires.registers
    c.requires.width c.requires.few

pub loop-number-preserved : goal.loop-number-preserved
loop-number-preserved c =
    one_more c.args.registers.now.items c.args.actors.now c.loop-number.actors c.loop-number.number c.index-actors-number.result c.start_again.new.self c.loop-number.invariant c.loop-number-test.true c.start_again.ensures

pub returns : goal.returns
returns c =
    let all : c.loop-number.number ≡ length c.args.actors.now = omega arith in
    subst (HaveStarted c.args.registers.now.items c.args.actors.now c.loop-number.actors) all c.loop-number.invariant
