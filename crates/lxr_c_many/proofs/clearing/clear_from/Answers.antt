use Rattle.std.proofs.Common.{◌-◌, ◌++◌, ◌∙◌, arith, refl, subst}
use Rattle.lxr_c_heap.proofs.RegisterLemmas.{few_registers}
use Rattle.lxr_c_many.specs.Clearing.{nils}
use Rattle.lxr_c_many.specs.Following.{Follows}
use Rattle.lxr_c_many.proofs.ClearingLemmas.{cleared_more, cleared_none}
use Rattle.lxr_c_many.proofs.FollowLemmas.{follows_holds}
use Rattle.lxr_c_many.proofs.clearing.clear_from.Goals as goal

pub loop-register-init : goal.loop-register-init
loop-register-init c = record { serving = c.requires.serving; registers = refl; follows = λ h is. cleared_none c.args.heap.now h c.args.first }

pub overflow_cast-register : goal.overflow_cast-register
overflow_cast-register c =
    let few = few_registers c.args.heap.now c.requires.serving.holds in
    omega (arith, few)

pub nil_at-requires-clause-dest : goal.nil_at-requires-clause-dest
nil_at-requires-clause-dest c =
    let same = c.loop-register.invariant.registers in
    omega (arith, same)

pub loop-register-preserved : goal.loop-register-preserved
loop-register-preserved c =
    let x = c.args.heap.now in
    record {
      serving = c.nil_at.ensures.serving;
      registers = c.nil_at.ensures.registers ∙ c.loop-register.invariant.registers;
      follows = λ h is.
          let before = c.loop-register.invariant.follows h is in
          let new = nils c.args.first (c.loop-register.register - c.args.first) in
          cleared_more x c.loop-register.heap c.nil_at.new.heap h c.args.first c.loop-register.register _ (omega arith) refl before
          (c.nil_at.ensures.cleared (new ++ h) (follows_holds x c.loop-register.heap h new is before));
    }

pub returns-clause-follows : goal.returns-clause-follows
returns-clause-follows c = λ h is.
    subst (λ n. Follows c.args.heap.now h c.loop-register.heap (nils c.args.first (n - c.args.first))) (omega arith) (c.loop-register.invariant.follows h is)
