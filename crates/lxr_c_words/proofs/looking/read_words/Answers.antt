use Rattle.std.proofs.Common.{◌∙◌, ap, sym, Some}
use Rattle.lxr_large_model.specs.History.{large_state}
use Rattle.lxr_c_words.proofs.FormLemmas.{in_data, none_at}
use Rattle.lxr_c_words.proofs.ReadLemmas.{reads_data, reads_nil}
use Rattle.lxr_c_words.proofs.looking.read_words.Goals as goal

pub returns-in_default : goal.returns-in_default
returns-in_default c = λ h is. reads_nil (large_state h) c.args.base c.args.first c.args.into.now (none_at (large_state h) c.args.base (sym c.in_default.is ∙ c.form_of.ensures.form h is))

pub returns-in-Data : goal.returns-in-Data
returns-in-Data c = λ h is.
    reads_data (large_state h) c.args.base c.args.first c.args.into.now c.read.new.words c.read.result (in_data (large_state h) c.args.base _ (ap Some (sym c.in-Data.is) ∙ sym c.in-Some.is ∙ c.form_of.ensures.form h is)) (c.read.ensures h is)
