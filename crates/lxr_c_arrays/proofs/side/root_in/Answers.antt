use Rattle.std.proofs.Common.{◌≡◌, ◌∙◌, ap, sym}
use Rattle.std.specs.Prelude.{min, option_map}
use Rattle.lxr_large_model.specs.History.{large_state}
use Rattle.lxr_c_arrays.specs.declared.side.TheConstants.{MOST_ELEMENTS}
use Rattle.lxr_c_arrays.proofs.SideLemmas.{nil_rooted, word_rooted, wordless_rooted}
use Rattle.lxr_c_arrays.proofs.side.root_in.Goals as goal

pub returns-in_default-clause-told : goal.returns-in_default-clause-told
returns-in_default-clause-told c = λ h is. nil_rooted (large_state h) c.args.base (sym (ap (option_map (λ object. object.base.shape)) c.in_default.is) ∙ c.look_up.ensures.shape h is)

pub returns-then-object-eq0-clause-told : goal.returns-then-object-eq0-clause-told
returns-then-object-eq0-clause-told c = λ h is.
    wordless_rooted (large_state h) c.args.base c.in-Some.object.base.shape (sym (ap (option_map (λ object. object.base.shape)) c.in-Some.is) ∙ c.look_up.ensures.shape h is) (cc)

pub returns-clause-told : goal.returns-clause-told
returns-clause-told c = λ h is.
    let least : c.min.result ≡ min c.get_in-word.result MOST_ELEMENTS = cc in
    word_rooted (large_state h) c.args.base c.in-Some.object.register c.get_in-word.result c.min.result c.in-Some.ensures.known.1 least (c.get_in-word.ensures h is)
