use Rattle.std.proofs.Common.{◌∙◌, ap, subst}
use Rattle.lxr_c_base.specs.Requests as asking
use Rattle.lxr_c_base.specs.Codes.{written_over}
use Rattle.lxr_c_heap.specs.Looking.{Looks, SeesReply}
use Rattle.lxr_c.proofs.get_aside.Goals as goal

pub returns : goal.returns
returns c = (
  c.see-answer.result,
  subst (λ q. Looks SeesReply c.args.heap.now.block.value c.see-answer.new.self.block.value q c.see-answer.result) (c.get-request.ensures.asked ∙ ap (λ n. asking.get n c.args.base c.args.index) c.registers.ensures.counted) c.see-answer.ensures,
  c.answered.ensures,
  c.tell.ensures ∙ ap (written_over c.args.word.now) c.word_in.ensures,
)
