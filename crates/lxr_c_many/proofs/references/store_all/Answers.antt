use Rattle.std.proofs.Common.{◌∙◌, arith, refl, subst, length, ◌<◌, ◌++◌, take}
use mathlib.Core.Logic.{∥∥₁_elim, ∥∥₁_prop}
use Rattle.std.proofs.lemmas.List.{take_all}
use Rattle.lxr_c_heap.specs.Hosting.{registers_in}
use Rattle.lxr_c_heap.proofs.RegisterLemmas.{few_registers}
use Rattle.lxr_c_many.specs.Fields.{store_of}
use Rattle.lxr_c_many.specs.Following.{Follows, newest_first}
use Rattle.lxr_c_many.proofs.FollowLemmas.{follows_holds}
use Rattle.lxr_c_many.proofs.LoadLemmas.{register_small}
use Rattle.lxr_c_many.proofs.StoringLemmas.{next_wants_none, stored_more, stored_none}
use Rattle.lxr_c_many.proofs.references.store_all.Goals as goal

pub loop-i-init : goal.loop-i-init
loop-i-init c = record { serving = c.requires.serving; registers = refl; known = c.requires.known; stored = λ h is may. stored_none c.args.heap.now h c.args.object.register c.args.first c.args.sources.now may }

pub overflow_cast-source : goal.overflow_cast-source
overflow_cast-source c =
    let source = register_small (registers_in c.args.heap.now) c.args.sources.now c.loop-i.i c.requires.sources (omega arith) in
    let few = few_registers c.args.heap.now c.requires.serving.holds in
    omega (arith, source, few)

pub store_at-requires-clause-registers : goal.store_at-requires-clause-registers
store_at-requires-clause-registers c =
    let same = c.loop-i.invariant.registers in
    let source = register_small (registers_in c.args.heap.now) c.args.sources.now c.loop-i.i c.requires.sources (omega arith) in
    let base = c.requires.base in
    (omega (arith, same, base), omega (arith, same, source))

pub store_at-requires-clause-index : goal.store_at-requires-clause-index
store_at-requires-clause-index c = let there = c.requires.there in omega (arith, there)

pub store_at-requires-clause-ready : goal.store_at-requires-clause-ready
store_at-requires-clause-ready c =
    let within : c.loop-i.i < length c.args.sources.now = omega arith in
    ∥∥₁_elim c.requires.ready ∥∥₁_prop (λ of.
    let (h, is, may) = of in
    ∣ (_, next_wants_none c.args.heap.now c.loop-i.heap h c.args.object.register c.args.first c.args.sources.now c.loop-i.i (c.loop-i.invariant.stored h is may) within _ _ refl is) ∣₁)

pub loop-i-preserved : goal.loop-i-preserved
loop-i-preserved c =
    let x = c.args.heap.now in
    let within : c.loop-i.i < length c.args.sources.now = omega arith in
    record {
      serving = c.store_at.ensures.serving;
      registers = c.store_at.ensures.registers ∙ c.loop-i.invariant.registers;
      known = c.store_at.ensures.known;
      stored = λ h is may.
          let before = c.loop-i.invariant.stored h is may in
          let new = newest_first (store_of c.args.object.register) c.args.first (take c.loop-i.i c.args.sources.now) in
          stored_more x c.loop-i.heap h c.args.object.register c.args.first c.args.sources.now c.loop-i.i before within c.store_at.new.heap _ refl
          (c.store_at.ensures.stored (new ++ h) (follows_holds x c.loop-i.heap h new is before.follows));
    }

pub returns-clause-follows : goal.returns-clause-follows
returns-clause-follows c = λ h is may.
    let stored = c.loop-i.invariant.stored h is may in
    subst (λ ss. Follows c.args.heap.now h c.loop-i.heap (newest_first (store_of c.args.object.register) c.args.first ss)) (take_all c.loop-i.i c.args.sources.now (omega arith)) stored.follows
