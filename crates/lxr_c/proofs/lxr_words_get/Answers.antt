use Rattle.std.proofs.Common.{◌≡◌, ◌∷◌, ◌∙◌, ap, arith, subst, sym, [], length}
use Rattle.lxr_c_base.specs.Codes.{number_of}
use Rattle.lxr_c_base.specs.Requests.{register_of}
use Rattle.lxr_c_heap.specs.Keeping.{registers_kept}
use Rattle.lxr_c_heap.specs.Looking.{Looks}
use Rattle.lxr_c_words.specs.Looking.{SeesWords}
use Rattle.lxr_c.proofs.WordLemmas.{on_error, one_word, same_word}
use Rattle.lxr_c.proofs.lxr_words_get.Goals as goal

pub returns : goal.returns
returns c =
    let one : length c.read-answer.new.words ≡ 1 = omega arith in (
      c.read-answer.result,
      subst (λ ws. Looks (SeesWords c.args.index (c.args.word.now ∷ []) ws) c.args.heap.now.block.value c.read-answer.new.handle.block.value (register_of (registers_kept c.args.heap.now.block.value) c.args.base) c.read-answer.result)
          (one_word c.read-answer.new.words _ one) c.read-answer.ensures.reads,
      on_error c.read-answer.result _ _ (λ same. same_word _ _ (sym (one_word c.read-answer.new.words _ one) ∙ same)) c.read-answer.ensures.kept,
      c.number.ensures ∙ ap number_of c.bulk_code.ensures,
    )
