use Rattle.std.proofs.Common.{◌∙◌, ◌++◌, ap, arith, length, subst, sym}
use Rattle.std.specs.Prelude.{option_map}
use Rattle.std.specs.Coded.{le_prop}
use mathlib.Core.Bool.{Bool-set}
use mathlib.Core.Logic.{∥∥₁_elim}
use Rattle.lxr_large_model.specs.History.{large_state}
use Rattle.lxr_c_many.specs.Fields.{put_of, store_of}
use Rattle.lxr_c_many.specs.Following.{Follows, newest_first}
use Rattle.lxr_c_many.proofs.FieldLemmas.{references_shaped, shape_of_references, shape_of_words}
use Rattle.lxr_c_many.proofs.FollowLemmas.{follows_holds, follows_on}
use Rattle.lxr_c_many.proofs.LogLemmas.{young_clear}
use Rattle.lxr_c_many.proofs.making.fill.Goals as goal

pub unreachable-requires : goal.unreachable-requires
unreachable-requires c = ∥∥₁_elim c.requires.young (λ x y. absurd x) (λ of.
    let (h, is, young) = of in
    references_shaped (large_state h) c.args.dest _ young.references (sym (ap (option_map (λ object. object.base.shape)) c.in-None.is) ∙ c.look_up.ensures.shape h is))

pub store_new-requires-clause-base : goal.store_new-requires-clause-base
store_new-requires-clause-base c = let dest = c.requires.dest in let same = c.in-Some.ensures.known.1 in omega (arith, dest, same)

pub store_new-requires-clause-there : goal.store_new-requires-clause-there
store_new-requires-clause-there c = ∥∥₁_elim c.requires.young le_prop (λ of.
    let (h, is, young) = of in
    shape_of_references (large_state h) c.args.dest (length c.args.sources.now) c.in-Some.object.base.shape young.references (sym (ap (option_map (λ object. object.base.shape)) c.in-Some.is) ∙ c.look_up.ensures.shape h is))

pub store_new-requires-clause-clear : goal.store_new-requires-clause-clear
store_new-requires-clause-clear c = λ i few. ∥∥₁_elim c.requires.young (Bool-set _ _) (λ of.
    let (h, is, young) = of in
    young_clear c.args.heap.now.heap h is c.args.dest (length c.args.sources.now) _ young c.in-Some.object c.in-Some.ensures.known.0 c.in-Some.ensures.known.1 i few)

pub write_all-requires-clause-base : goal.write_all-requires-clause-base
write_all-requires-clause-base c =
    let dest = c.requires.dest in
    let same = c.in-Some.ensures.known.1 in
    let stored = c.store_new.ensures.registers in
    omega (arith, dest, same, stored)

pub write_all-requires-clause-there : goal.write_all-requires-clause-there
write_all-requires-clause-there c = ∥∥₁_elim c.requires.young le_prop (λ of.
    let (h, is, young) = of in
    let all = shape_of_words (large_state h) c.args.dest (length c.args.words.now) c.in-Some.object.base.shape young.data_words (sym (ap (option_map (λ object. object.base.shape)) c.in-Some.is) ∙ c.look_up.ensures.shape h is) in
    omega (arith, all))

pub returns-clause-follows : goal.returns-clause-follows
returns-clause-follows c = λ h is.
    let x = c.args.heap.now in
    let m = c.store_new.new.heap in
    let y = c.write_all.new.heap in
    let stores = newest_first (store_of c.in-Some.object.register) 0 c.args.sources.now in
    let stored = c.store_new.ensures.follows h is in
    let put = c.write_all.ensures.follows (stores ++ h) (follows_holds x m h stores is stored) in
    subst (λ base. Follows x h y (newest_first (put_of base) 0 c.args.words.now ++ newest_first (store_of base) 0 c.args.sources.now)) c.in-Some.ensures.known.1
    (follows_on x m y h stores (newest_first (put_of c.in-Some.object.register) 0 c.args.words.now) stored put)

pub returns-clause-registers : goal.returns-clause-registers
returns-clause-registers c = c.write_all.ensures.registers ∙ c.store_new.ensures.registers
