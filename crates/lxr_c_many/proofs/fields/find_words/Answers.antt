use Rattle.std.proofs.Common.{◌∙◌, ap, sym}
use Rattle.std.specs.Prelude.{if◌then◌else◌, option_map}
use Rattle.std.proofs.lemmas.Bool.{leb-true}
use Rattle.lxr_graph.specs.State.{object_at, register_at, values_of}
use Rattle.lxr_heap.specs.declared.bulk.BodyReply.TheVariants as body_reply
use Rattle.lxr_large_model.specs.History.{large_state}
use Rattle.lxr_c_many.proofs.FieldLemmas.{none_told, words_told}
use Rattle.lxr_c_many.proofs.fields.find_words.Goals as goal

pub returns-in_default-clause-found : goal.returns-in_default-clause-found
returns-in_default-clause-found c = λ h is.
    none_told (large_state h) (register_at (large_state h).small 1 c.args.base) (λ n. values_of (object_at (large_state h).small.graph n)) c.args.first c.args.count
    (sym (ap (option_map (λ object. object.base.shape)) c.in_default.is) ∙ c.look_up.ensures.shape h is)

pub returns-in_default-clause-refused : goal.returns-in_default-clause-refused
returns-in_default-clause-refused c = λ same. absurd (cc)

pub returns-then-has_all-clause-found : goal.returns-then-has_all-clause-found
returns-then-has_all-clause-found c = λ h is.
    ap (λ b. if b then body_reply.Done else body_reply.Range) (sym c.if-has_all.true ∙ c.has_all.ensures.all)
    ∙ words_told (large_state h) (register_at (large_state h).small 1 c.args.base) c.in-Some.object.base.shape c.args.first c.args.count
    (sym (ap (option_map (λ object. object.base.shape)) c.in-Some.is) ∙ c.look_up.ensures.shape h is)

pub returns-then-has_all-clause-object : goal.returns-then-has_all-clause-object
returns-then-has_all-clause-object c =
    let known = c.in-Some.ensures.known in
    (known.0, known.1, leb-true _ _ (sym c.has_all.ensures.all ∙ c.if-has_all.true), c.has_all.ensures.few c.if-has_all.true)

pub returns-else-has_all-clause-found : goal.returns-else-has_all-clause-found
returns-else-has_all-clause-found c = λ h is.
    ap (λ b. if b then body_reply.Done else body_reply.Range) (sym c.if-has_all.false ∙ c.has_all.ensures.all)
    ∙ words_told (large_state h) (register_at (large_state h).small 1 c.args.base) c.in-Some.object.base.shape c.args.first c.args.count
    (sym (ap (option_map (λ object. object.base.shape)) c.in-Some.is) ∙ c.look_up.ensures.shape h is)

pub returns-else-has_all-clause-refused : goal.returns-else-has_all-clause-refused
returns-else-has_all-clause-refused c = λ same. absurd (cc)
