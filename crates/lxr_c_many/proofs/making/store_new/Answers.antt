use Rattle.std.proofs.Common.{◌∙◌, arith, refl, subst, length, ◌<◌, ◌++◌, take}
use Rattle.std.proofs.lemmas.List.{take_all}
use Rattle.lxr_graph.specs.declared.Op.TheVariants as op
use Rattle.lxr_graph.specs.declared.Reply.TheVariants as reply
use Rattle.lxr_large_model.specs.declared.LargeOp.TheVariants as large_op
use Rattle.lxr_large_model.specs.declared.LargeReply.TheVariants as large_reply
use Rattle.lxr_c_heap.specs.Hosting.{registers_in}
use Rattle.lxr_c_heap.proofs.RegisterLemmas.{few_registers}
use Rattle.lxr_c_many.specs.Fields.{store_of}
use Rattle.lxr_c_many.specs.Following.{Follows, newest_first}
use Rattle.lxr_c_many.proofs.FollowLemmas.{follows_holds, follows_more}
use Rattle.lxr_c_many.proofs.LoadLemmas.{register_small}
use Rattle.lxr_c_many.proofs.making.store_new.Goals as goal

pub loop-i-init : goal.loop-i-init
loop-i-init c = record { serving = c.requires.serving; registers = refl; known = c.requires.known; unlogged = λ j. refl; follows = λ h is. refl }

pub overflow_cast-source : goal.overflow_cast-source
overflow_cast-source c =
    let source = register_small (registers_in c.args.heap.now) c.args.sources.now c.loop-i.i c.requires.sources (omega arith) in
    let few = few_registers c.args.heap.now c.requires.serving.holds in
    omega (arith, source, few)

pub store_young_at-requires-clause-registers : goal.store_young_at-requires-clause-registers
store_young_at-requires-clause-registers c =
    let same = c.loop-i.invariant.registers in
    let source = register_small (registers_in c.args.heap.now) c.args.sources.now c.loop-i.i c.requires.sources (omega arith) in
    let base = c.requires.base in
    (omega (arith, same, base), omega (arith, same, source))

pub store_young_at-requires-clause-index : goal.store_young_at-requires-clause-index
store_young_at-requires-clause-index c = let there = c.requires.there in omega (arith, there)

pub store_young_at-requires-clause-clear : goal.store_young_at-requires-clause-clear
store_young_at-requires-clause-clear c = c.loop-i.invariant.unlogged _ ∙ c.requires.clear _ (omega arith)

pub loop-i-preserved : goal.loop-i-preserved
loop-i-preserved c =
    let x = c.args.heap.now in
    let within : c.loop-i.i < length c.args.sources.now = omega arith in
    record {
      serving = c.store_young_at.ensures.serving;
      registers = c.store_young_at.ensures.registers ∙ c.loop-i.invariant.registers;
      known = c.store_young_at.ensures.known;
      unlogged = λ j. c.store_young_at.ensures.unlogged j ∙ c.loop-i.invariant.unlogged j;
      follows = λ h is.
          let before = c.loop-i.invariant.follows h is in
          let new = newest_first (store_of c.args.object.register) 0 (take c.loop-i.i c.args.sources.now) in
          follows_more (λ k v. large_op.Small (op.Store c.args.object.register k v)) (large_reply.Small reply.Stored) x c.loop-i.heap c.store_young_at.new.heap h 0 c.args.sources.now c.loop-i.i c.loop-i.i 0 before within (omega arith)
          (c.store_young_at.ensures.stored (new ++ h) (follows_holds x c.loop-i.heap h new is before));
    }

pub returns-clause-follows : goal.returns-clause-follows
returns-clause-follows c = λ h is.
    subst (λ ss. Follows c.args.heap.now h c.loop-i.heap (newest_first (store_of c.args.object.register) 0 ss)) (take_all c.loop-i.i c.args.sources.now (omega arith)) (c.loop-i.invariant.follows h is)
