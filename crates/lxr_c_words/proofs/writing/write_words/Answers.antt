use Rattle.std.proofs.Common.{◌∙◌, ap, sym, Some}
use mathlib.Core.Logic.{∥∥₁_elim, ∥∥₁_prop}
use Rattle.lxr_large_model.specs.History.{large_state}
use Rattle.lxr_c_words.proofs.FormLemmas.{in_data, none_at}
use Rattle.lxr_c_words.proofs.WriteLemmas.{writes_data, writes_nil}
use Rattle.lxr_c_words.proofs.writing.write_words.Goals as goal

pub form_of-requires : goal.form_of-requires
form_of-requires c = record { holds = ∥∥₁_elim c.requires.serving.holds ∥∥₁_prop (λ of. ∣ (of.0, of.1.heap) ∣₁) }

pub returns-in_default-clause-writes : goal.returns-in_default-clause-writes
returns-in_default-clause-writes c = λ h is. writes_nil c.args.heap.now h c.args.base c.args.first c.args.from.now (none_at (large_state h) c.args.base (sym c.in_default.is ∙ c.form_of.ensures.form h is))

pub returns-in-Data-clause-writes : goal.returns-in-Data-clause-writes
returns-in-Data-clause-writes c = λ h is.
    writes_data c.args.heap.now c.write.new.heap h c.args.base c.args.first c.args.from.now c.write.result (in_data (large_state h) c.args.base _ (ap Some (sym c.in-Data.is) ∙ sym c.in-Some.is ∙ c.form_of.ensures.form h is)) (c.write.ensures.writes h is)

pub write_body-requires-clause-there : goal.write_body-requires-clause-there
write_body-requires-clause-there c = λ h is. ap Some (sym c.in-Body.is) ∙ sym c.in-Some.is ∙ c.form_of.ensures.form h is
