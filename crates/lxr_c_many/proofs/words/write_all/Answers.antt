use Rattle.std.proofs.Common.{◌∙◌, arith, refl, subst, length, ◌<◌, ◌++◌, take}
use Rattle.std.proofs.lemmas.List.{take_all}
use Rattle.lxr_graph.specs.declared.Op.TheVariants as op
use Rattle.lxr_graph.specs.declared.Reply.TheVariants as reply
use Rattle.lxr_large_model.specs.declared.LargeOp.TheVariants as large_op
use Rattle.lxr_large_model.specs.declared.LargeReply.TheVariants as large_reply
use Rattle.lxr_c_many.specs.Fields.{put_of}
use Rattle.lxr_c_many.specs.Following.{Follows, newest_first}
use Rattle.lxr_c_many.proofs.FollowLemmas.{follows_holds, follows_more}
use Rattle.lxr_c_many.proofs.words.write_all.Goals as goal

pub loop-i-init : goal.loop-i-init
loop-i-init c = record { serving = c.requires.serving; registers = refl; known = c.requires.known; follows = λ h is. refl }

pub put_at-requires-clause-base : goal.put_at-requires-clause-base
put_at-requires-clause-base c = let same = c.loop-i.invariant.registers in let base = c.requires.base in omega (arith, same, base)

pub put_at-requires-clause-index : goal.put_at-requires-clause-index
put_at-requires-clause-index c = let there = c.requires.there in omega (arith, there)

pub loop-i-preserved : goal.loop-i-preserved
loop-i-preserved c =
    let x = c.args.heap.now in
    let within : c.loop-i.i < length c.args.words.now = omega arith in
    record {
      serving = c.put_at.ensures.serving;
      registers = c.put_at.ensures.registers ∙ c.loop-i.invariant.registers;
      known = c.put_at.ensures.known;
      follows = λ h is.
          let before = c.loop-i.invariant.follows h is in
          let new = newest_first (put_of c.args.object.register) c.args.first (take c.loop-i.i c.args.words.now) in
          follows_more (λ k v. large_op.Small (op.Put c.args.object.register k v)) (large_reply.Small reply.Put) x c.loop-i.heap c.put_at.new.heap h c.args.first c.args.words.now c.loop-i.i _ 0 before within refl
          (c.put_at.ensures.put (new ++ h) (follows_holds x c.loop-i.heap h new is before));
    }

pub returns-clause-follows : goal.returns-clause-follows
returns-clause-follows c = λ h is.
    subst (λ ws. Follows c.args.heap.now h c.loop-i.heap (newest_first (put_of c.args.object.register) c.args.first ws)) (take_all c.loop-i.i c.args.words.now (omega arith)) (c.loop-i.invariant.follows h is)
