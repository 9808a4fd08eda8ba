use Rattle.std.proofs.Common.{◌∙◌, ◌+◌, ap, subst, sym, length, ◌≡◌}
use Rattle.std.specs.Prelude.{unwrap_or}
use Rattle.lxr_large_model.specs.History.{large_state}
use Rattle.lxr_heap.specs.Bulk.{words_from}
use Rattle.lxr_c_many.specs.Fields.{found_reply, words_in}
use Rattle.lxr_c_many.specs.Steps.{HasWords}
use Rattle.lxr_c_many.proofs.FieldLemmas.{words_there}
use Rattle.lxr_c_many.proofs.WordLemmas.{none_read}
use Rattle.lxr_c_many.proofs.words.read.Goals as goal

pub returns-in-Ok : goal.returns-in-Ok
returns-in-Ok c = λ h is.
    let done = sym (ap found_reply c.in-Ok.is) ∙ c.find_words.ensures.found h is in
    let has = words_there (large_state h) c.args.base c.args.first (length c.args.words.now) done in
    let same = c.in-Ok.ensures.object.1 in (
      done,
      subst (λ base. c.read_all.new.words ≡ unwrap_or (words_from (words_in (large_state h) base) c.args.first (length c.args.words.now)) c.args.words.now) same
          (c.read_all.ensures h is (subst (λ base. HasWords (large_state h) base (c.args.first + length c.args.words.now)) (sym same) has)),
    )

pub returns-in-Err : goal.returns-in-Err
returns-in-Err c = λ h is.
    let found = sym (ap found_reply c.in-Err.is) ∙ c.find_words.ensures.found h is in
    (found, none_read (large_state h) c.args.base c.args.first c.args.words.now c.in-Err.refused found c.in-Err.ensures.refused)
