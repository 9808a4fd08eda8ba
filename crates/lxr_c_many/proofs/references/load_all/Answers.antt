use Rattle.std.proofs.Common.{◌∙◌, arith, refl, subst, sym, length, ◌<◌, ◌++◌, take}
use Rattle.std.proofs.lemmas.List.{take_all}
use Rattle.lxr_large_model.specs.History.{large_state}
use Rattle.lxr_c_heap.specs.Hosting.{registers_in}
use Rattle.lxr_c_heap.proofs.RegisterLemmas.{few_registers}
use Rattle.lxr_c_many.specs.Fields.{load_of}
use Rattle.lxr_c_many.specs.Following.{Follows, newest_first}
use Rattle.lxr_c_many.proofs.FollowLemmas.{follows_holds}
use Rattle.lxr_c_many.proofs.LoadLemmas.{loaded_more, loaded_none, other_than_base, register_small}
use Rattle.lxr_c_many.proofs.references.load_all.Goals as goal

pub loop-i-init : goal.loop-i-init
loop-i-init c = record { serving = c.requires.serving; registers = refl; known = λ some. c.requires.known; loaded = λ h is. loaded_none c.args.heap.now h c.args.object.register c.args.first c.args.targets.now }

pub overflow_cast-target : goal.overflow_cast-target
overflow_cast-target c =
    let target = register_small (registers_in c.args.heap.now) c.args.targets.now c.loop-i.i c.requires.targets (omega arith) in
    let few = few_registers c.args.heap.now c.requires.serving.holds in
    omega (arith, target, few)

pub load_at-requires-clause-registers : goal.load_at-requires-clause-registers
load_at-requires-clause-registers c =
    let same = c.loop-i.invariant.registers in
    let target = register_small (registers_in c.args.heap.now) c.args.targets.now c.loop-i.i c.requires.targets (omega arith) in
    let base = c.requires.base in
    (omega (arith, same, target), omega (arith, same, base))

pub load_at-requires-clause-known : goal.load_at-requires-clause-known
load_at-requires-clause-known c = c.loop-i.invariant.known (omega arith)

pub load_at-requires-clause-index : goal.load_at-requires-clause-index
load_at-requires-clause-index c = let there = c.requires.there in omega (arith, there)

pub loop-i-preserved : goal.loop-i-preserved
loop-i-preserved c =
    let x = c.args.heap.now in
    let within : c.loop-i.i < length c.args.targets.now = omega arith in
    record {
      serving = c.load_at.ensures.serving;
      registers = c.load_at.ensures.registers ∙ c.loop-i.invariant.registers;
      known = λ further. c.load_at.ensures.known (λ e. other_than_base c.args.object.register c.args.targets.now c.loop-i.i c.requires.apart further (sym e));
      loaded = λ h is.
          let before = c.loop-i.invariant.loaded h is in
          let new = newest_first (load_of (large_state h) c.args.object.register) c.args.first (take c.loop-i.i c.args.targets.now) in
          loaded_more x c.loop-i.heap c.load_at.new.heap h c.args.object.register c.args.first c.args.targets.now c.loop-i.i _ c.requires.apart before within refl
          (c.load_at.ensures.loaded (new ++ h) (follows_holds x c.loop-i.heap h new is before.follows));
    }

pub returns-clause-follows : goal.returns-clause-follows
returns-clause-follows c = λ h is.
    let loaded = c.loop-i.invariant.loaded h is in
    subst (λ ts. Follows c.args.heap.now h c.loop-i.heap (newest_first (load_of (large_state h) c.args.object.register) c.args.first ts)) (take_all c.loop-i.i c.args.targets.now (omega arith)) loaded.follows
