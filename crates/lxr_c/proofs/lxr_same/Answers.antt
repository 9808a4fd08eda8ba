use Rattle.std.proofs.Common.{◌∙◌, ap, option_map, subst}
use Rattle.lxr_c_base.specs.Requests as asking
use Rattle.lxr_c_base.specs.Codes.{flag, written_over}
use Rattle.lxr_c_heap.specs.Looking.{Looks, SeesReply}
use Rattle.lxr_c.proofs.lxr_same.Goals as goal

pub returns : goal.returns
returns c = (
  c.see-answer.result,
  subst (λ q. Looks SeesReply c.args.heap.now.block.value c.see-answer.new.self.block.value q c.see-answer.result) (c.same-request.ensures.asked ∙ ap (λ n. asking.same n c.args.left c.args.right) c.registers.ensures.counted) c.see-answer.ensures,
  c.answered.ensures,
  c.tell_flag.ensures ∙ ap (λ told. written_over c.args.same.now (option_map flag told)) c.same_in.ensures,
)
