use Rattle.std.proofs.Common.{◌∙◌, ap, sym}
use Rattle.std.proofs.lemmas.Option.{same_Some}
use Rattle.lxr_large_model.specs.History.{large_state}
use Rattle.lxr_c_many.specs.Applying.{word_of}
use Rattle.lxr_c_many.specs.Fields.{word_at}
use Rattle.lxr_c_many.proofs.StateLemmas.{get_replies}
use Rattle.lxr_c_many.proofs.steps.word_at.Goals as goal

pub returns : goal.returns
returns c = λ h is has.
    let told = sym (c.get_in.ensures h is) ∙ get_replies (large_state h) c.args.object.register c.args.index has in
    same_Some c.get_in.result (word_at (large_state h) c.args.object.register c.args.index) (ap word_of told)
