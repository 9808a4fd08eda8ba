use Rattle.std.proofs.Common.{◌∷◌, ap, refl, sym, subst, List}
use Rattle.lxr_large_model.specs.History.{LargeItem, Called}
use Rattle.lxr_c_base.specs.declared.codes.Code.TheVariants as code
use Rattle.std.specs.Prelude.{Some}
use Rattle.lxr_c_many.specs.Applying.{Performs}
use Rattle.lxr_c_heap.proofs.RegisterLemmas.{known, made_all, made_keeps, replied_all, replied_keeps, stored_all, stored_keeps}
use Rattle.lxr_c_many.proofs.applying.perform.Goals as goal

pub returns-in-Make-clause-performs : goal.returns-in-Make-clause-performs
returns-in-Make-clause-performs c = λ h is.
    let makes = c.make.ensures.makes h is in
    let k : List LargeItem = Called c.in-Make.op c.make.result ∷ makes.acts.history in
    (k, subst (λ a. Performs c.args.heap.now h a c.make.new.self k c.told_by.result) (sym c.in-Make.is) (c.make.result, makes, refl, c.told_by.ensures))

pub returns-in-Store-clause-performs : goal.returns-in-Store-clause-performs
returns-in-Store-clause-performs c = λ h is.
    let stores = c.store.ensures.stores h is in
    let k : List LargeItem = Called c.in-Store.op c.store.result ∷ stores.acts.history in
    (k, subst (λ a. Performs c.args.heap.now h a c.store.new.self k c.told_by-in-Store.result) (sym c.in-Store.is) (c.store.result, stores, refl, c.told_by-in-Store.ensures))

pub returns-in-Reply-clause-performs : goal.returns-in-Reply-clause-performs
returns-in-Reply-clause-performs c = λ h is.
    let k : List LargeItem = Called c.in-Reply.op c.reply.result ∷ h in
    (k, subst (λ a. Performs c.args.heap.now h a c.reply.new.self k c.told_by-in-Reply.result) (sym c.in-Reply.is) (c.reply.result, c.reply.ensures.replies h is.heap, refl, c.told_by-in-Reply.ensures))

pub returns-in-See-clause-performs : goal.returns-in-See-clause-performs
returns-in-See-clause-performs c = λ h is.
    (h, subst (λ a. Performs c.args.heap.now h a c.args.heap.now h c.told_by-in-See.result) (sym c.in-See.is) (c.see.result, c.see.ensures h is.heap, refl, refl, c.told_by-in-See.ensures))

pub returns-in-IsNil-clause-performs : goal.returns-in-IsNil-clause-performs
returns-in-IsNil-clause-performs c = λ h is. (
  h,
  subst (λ a. Performs c.args.heap.now h a c.args.heap.now h (record { code = code.Done; word = Some c.flag.result })) (sym c.in-IsNil.is)
      (c.is_nil.result, c.is_nil.ensures h is.heap, refl, refl, ap (λ n. record { code = code.Done; word = Some n }) c.flag.ensures),
)

pub returns-in-Make-clause-registers : goal.returns-in-Make-clause-registers
returns-in-Make-clause-registers c = known c.args.heap.now _ _ c.requires.serving.holds (λ h is. made_keeps c.args.heap.now c.make.new.self h c.in-Make.op c.make.result (c.make.ensures.makes h is))

pub returns-in-Store-clause-registers : goal.returns-in-Store-clause-registers
returns-in-Store-clause-registers c = known c.args.heap.now _ _ c.requires.serving.holds (λ h is. stored_keeps c.args.heap.now c.store.new.self h c.in-Store.op c.store.result (c.store.ensures.stores h is))

pub returns-in-Reply-clause-registers : goal.returns-in-Reply-clause-registers
returns-in-Reply-clause-registers c = known c.args.heap.now _ _ c.requires.serving.holds (λ h is. replied_keeps c.args.heap.now c.reply.new.self h c.in-Reply.op c.reply.result (c.reply.ensures.replies h is.heap))

pub returns-in-Make-clause-all : goal.returns-in-Make-clause-all
returns-in-Make-clause-all c = known c.args.heap.now _ _ c.requires.serving.holds (λ h is. made_all c.args.heap.now c.make.new.self h c.in-Make.op c.make.result (c.make.ensures.makes h is))

pub returns-in-Store-clause-all : goal.returns-in-Store-clause-all
returns-in-Store-clause-all c = known c.args.heap.now _ _ c.requires.serving.holds (λ h is. stored_all c.args.heap.now c.store.new.self h c.in-Store.op c.store.result (c.store.ensures.stores h is))

pub returns-in-Reply-clause-all : goal.returns-in-Reply-clause-all
returns-in-Reply-clause-all c = known c.args.heap.now _ _ c.requires.serving.holds (λ h is. replied_all c.args.heap.now c.reply.new.self h c.in-Reply.op c.reply.result (c.reply.ensures.replies h is.heap))
