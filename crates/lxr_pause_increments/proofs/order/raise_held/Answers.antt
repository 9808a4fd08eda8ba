use Rattle.std.proofs.Common.{◌∙◌, arith, refl, subst, sym}
use Rattle.lxr_pause_increments.specs.Accounted.{HeldMayBeRaised}
use Rattle.lxr_pause_increments.proofs.ChangedLemmas.{changed_leaves, register_holds, register_set, register_unset, registers_as_many, set_changes}
use Rattle.lxr_pause_increments.proofs.FrameLemmas.{leaves_both}
use Rattle.lxr_pause_increments.proofs.HeldLemmas.{raised_small}
use Rattle.lxr_pause_increments.proofs.order.raise_held.Goals as goal

pub overflow_cast-now : goal.overflow_cast-now
overflow_cast-now c =
    let r = c.requires.may in
    let may = subst (λ w. HeldMayBeRaised r.0 r.1 r.2 r.3 w) (sym c.from.ensures) r.4.may in
    let small = raised_small c.args.space.now c.raise_word-now.new.space r.0 r.1 r.2 r.3 c.args.held.0 c.raise_word-now.result r.4.may (c.raise_word-now.ensures.raises r.0 r.1 r.2 r.3 r.4.incrementing may) in
    omega (arith, small)

pub replace-requires-clause-index : goal.replace-requires-clause-index
replace-requires-clause-index c =
    let r = c.requires.may in
    let may = subst (λ w. HeldMayBeRaised r.0 r.1 r.2 r.3 w) (sym c.from.ensures) r.4.may in
    let raises = c.raise_word-now.ensures.raises r.0 r.1 r.2 r.3 r.4.incrementing may in
    registers_as_many c.raise_word-now.new.space r.0 r.1 _ c.args.register r.3 raises.incrementing r.4.held_is

pub replace-requires-clause-holds : goal.replace-requires-clause-holds
replace-requires-clause-holds c =
    let r = c.requires.may in
    let may = subst (λ w. HeldMayBeRaised r.0 r.1 r.2 r.3 w) (sym c.from.ensures) r.4.may in
    let raises = c.raise_word-now.ensures.raises r.0 r.1 r.2 r.3 r.4.incrementing may in
    register_holds c.args.space.now c.raise_word-now.new.space r.0 r.1 r.2 c.args.register c.args.held r.3 c.raise_word-now.result r.4 raises (λ e. c.if-now-from.true (sym e ∙ sym c.from-2.ensures))

pub returns-then-now-from-clause-raises : goal.returns-then-now-from-clause-raises
returns-then-now-from-clause-raises c = λ m at st held is.
    let may = subst (λ w. HeldMayBeRaised m at st held w) (sym c.from.ensures) is.may in
    let raises = c.raise_word-now.ensures.raises m at st held is.incrementing may in (
      c.raise_word-now.result,
      register_set c.args.space.now c.raise_word-now.new.space m at st c.args.register c.args.held held c.raise_word-now.result is raises _ (record { 0 = c.raise_word-now.result }) refl
          (λ i. record c.raise_word-now.new.space { registers = c.replace.ensures i }),
    )

pub returns-then-now-from-clause-leaves : goal.returns-then-now-from-clause-leaves
returns-then-now-from-clause-leaves c =
    leaves_both c.args.space.now c.raise_word-now.new.space _ c.raise_word-now.ensures.leaves
    (changed_leaves c.raise_word-now.new.space _ (set_changes c.raise_word-now.new.space _ c.args.register (record { 0 = c.raise_word-now.result }) (λ i. record c.raise_word-now.new.space { registers = c.replace.ensures i })))

pub returns-else-now-from-clause-raises : goal.returns-else-now-from-clause-raises
returns-else-now-from-clause-raises c = λ m at st held is.
    let may = subst (λ w. HeldMayBeRaised m at st held w) (sym c.from.ensures) is.may in
    let raises = c.raise_word-now.ensures.raises m at st held is.incrementing may in
    let told = sym c.from-2.ensures ∙ sym c.if-now-from.false in
    (c.raise_word-now.result, register_unset c.args.space.now c.raise_word-now.new.space m at st c.args.register c.args.held held c.raise_word-now.result is raises told)
