use Rattle.std.proofs.Common.{◌≡◌, ◌∙◌, arith, subst, sym}
use Rattle.lxr_large_model.specs.declared.LargeOp.TheVariants as large_op
use Rattle.lxr_c_heap.specs.Hosting.{Replies, all_registers_in, registers_in}
use Rattle.lxr_c_heap.proofs.OperationLemmas.{making_more}
use Rattle.lxr_c_heap.proofs.RegisterLemmas.{few_registers, known, made_keeps, named_few, replied_keeps}
use Rattle.lxr_c_many.proofs.HostLemmas.{makes_host}
use Rattle.lxr_c_words.proofs.MakeLemmas.{body_register, large_made, small_made}
use Rattle.lxr_c_words.proofs.making.make.Goals as goal

pub make-reply-requires-clause-op : goal.make-reply-requires-clause-op
make-reply-requires-clause-op c =
    let x = c.args.heap.now in
    making_more (registers_in x) (all_registers_in x) c.args.op (named_few x c.requires.serving.holds) c.requires.op

pub reply-requires-clause-op : goal.reply-requires-clause-op
reply-requires-clause-op c =
    let x = c.args.heap.now in
    let small = body_register (registers_in x) c.in-Some.dest c.args.op c.make-reply.result c.requires.op (sym c.body_made.ensures ∙ c.in-Some.is) in
    let same = known x (registers_in c.make-reply.new.self) (registers_in x) c.requires.serving.holds (λ h is. made_keeps x c.make-reply.new.self h c.args.op c.make-reply.result (c.make-reply.ensures.makes h is)) in
    let few = named_few c.make-reply.new.self c.make-reply.ensures.serving.holds in
    omega (arith, small, same, few)

pub returns-in_default-clause-makes : goal.returns-in_default-clause-makes
returns-in_default-clause-makes c = λ h is.
    let x = c.args.heap.now in
    small_made x c.make-reply.new.self h c.args.length (registers_in x) c.args.op c.make-reply.result (few_registers x c.requires.serving.holds) c.requires.op c.requires.place (sym c.body_made.ensures ∙ c.in_default.is) is (c.make-reply.ensures.makes h is)

pub returns-in_default-clause-registers : goal.returns-in_default-clause-registers
returns-in_default-clause-registers c =
    let x = c.args.heap.now in
    known x (registers_in c.make-reply.new.self) (registers_in x) c.requires.serving.holds (λ h is. made_keeps x c.make-reply.new.self h c.args.op c.make-reply.result (c.make-reply.ensures.makes h is))

pub returns-clause-makes : goal.returns-clause-makes
returns-clause-makes c = λ h is.
    let x = c.args.heap.now in
    let small = body_register (registers_in x) c.in-Some.dest c.args.op c.make-reply.result c.requires.op (sym c.body_made.ensures ∙ c.in-Some.is) in
    let few = few_registers x c.requires.serving.holds in
    let count : c.from.result ≡ c.args.length = omega arith in
    large_made x c.make-reply.new.self c.reply.new.self h c.args.length c.in-Some.dest c.args.op c.make-reply.result c.reply.result (omega (arith, small, few)) c.requires.place (sym c.body_made.ensures ∙ c.in-Some.is) is (c.make-reply.ensures.makes h is)
    (λ k made. subst (λ v. Replies c.make-reply.new.self c.reply.new.self k (large_op.BigPut c.in-Some.dest 0 v) c.reply.result) count (c.reply.ensures.replies k made))

pub returns-clause-registers : goal.returns-clause-registers
returns-clause-registers c =
    let x = c.args.heap.now in
    known x (registers_in c.reply.new.self) (registers_in x) c.requires.serving.holds (λ h is.
    let makes = c.make-reply.ensures.makes h is in
    let host = makes_host x c.make-reply.new.self h c.args.op c.make-reply.result is makes in
    replied_keeps c.make-reply.new.self c.reply.new.self _ _ c.reply.result (c.reply.ensures.replies _ host.heap) ∙ made_keeps x c.make-reply.new.self h c.args.op c.make-reply.result makes)
