use Rattle.std.proofs.Common.{◌+◌, refl, sym, subst, inl, inr, arith}
use Rattle.lxr_layout.specs.declared.Name.{Name}
use Rattle.lxr_placing.specs.Placing.{Serves}
use Rattle.lxr_direct.proofs.MakingLemmas.{make_done, servable}
use Rattle.lxr_large_model.specs.declared.LargeOp.TheVariants as large_op
use Rattle.lxr_large_model.specs.declared.LargeReply.TheVariants as large_reply
use Rattle.lxr_large_model.specs.State.{handle}
use Rattle.lxr_heap.specs.Acting.{Acts, HasRun}
use Rattle.lxr_heap.specs.Holding.{abstract_of}
use Rattle.lxr_heap.proofs.ActingLemmas.{next_has_none, no_place_big, refusal, replied_big}
use Rattle.lxr_heap.proofs.HeapLemmas.{may_operate, one_thread, standing}
use Rattle.lxr_heap.proofs.acting.make_large.Goals as goal

pub serve-requires-clause-stands : goal.serve-requires-clause-stands
serve-requires-clause-stands c =
    let (h, is) = c.requires.holds in
    let x = c.args.heap.now in
    (abstract_of x h is.at, servable x.space (abstract_of x h is.at) 1 (x.made + 1) (may_operate x h is))

pub serve-requires-clause-thread : goal.serve-requires-clause-thread
serve-requires-clause-thread c = let (h, is) = c.requires.holds in let one = one_thread c.args.heap.now h is in (omega arith, omega (arith, one))

pub place-requires-clause-name : goal.place-requires-clause-name
place-requires-clause-name c = let (h, is) = c.requires.holds in next_has_none c.args.heap.now h is

pub returns-in-None : goal.returns-in-None
returns-in-None c = λ h is.
    let x = c.args.heap.now in
    let served = subst (Serves x.space c.serve.new.space (record { thread = 1; serial = x.made + 1 }) c.args.dest handle) c.in-None.is c.serve.ensures.serves in
    subst (λ a. Acts x (record x { space = c.serve.new.space }) h (large_op.Big c.args.dest c.args.blocks) a) (sym c.refused-in-None.ensures)
    (subst (λ s. Acts x (record x { space = s }) h (large_op.Big c.args.dest c.args.blocks) (refusal x.fresh large_reply.Full)) (sym served.1) (no_place_big x h is c.args.dest c.args.blocks c.requires.dest c.requires.blocks (inl served.0)))

pub returns-in-Some-serve : goal.returns-in-Some-serve
returns-in-Some-serve c = λ h is.
    let x = c.args.heap.now in
    let n : Name = record { thread = 1; serial = x.made + 1 } in
    let served = subst (Serves x.space c.serve.new.space n c.args.dest handle) c.in-Some-serve.is c.serve.ensures.serves in
    let run : HasRun x.bodies c.args.blocks = (c.in-Some.first, c.in-Some.ensures.run) in
    replied_big x h is c.serve.new.space c.place.new.self n c.args.dest c.args.blocks c.in-Some.first c.requires.dest c.requires.blocks c.in-Some.ensures.run c.place.ensures
    (λ none. elim none [ inl full ↦ served.room full | inr gone ↦ gone run ]) refl
    (λ at stands. make_done x.space c.serve.new.space (abstract_of x h at) 1 (x.made + 1) c.args.dest handle c.in-Some-serve.field-0 (may_operate x h (standing x h is at stands)) served)

pub returns-in_default : goal.returns-in_default
returns-in_default c = λ h is.
    let x = c.args.heap.now in
    let gone : ¬ HasRun x.bodies c.args.blocks = λ run. c.in_default.ensures.none run.0 run.1 in
    subst (λ a. Acts x x h (large_op.Big c.args.dest c.args.blocks) a) (sym c.refused.ensures) (no_place_big x h is c.args.dest c.args.blocks c.requires.dest c.requires.blocks (inr gone))
