use Rattle.lxr_large_text.proofs.CauseLemmas.{any_call_may_come}
use Rattle.lxr_large_text.proofs.history.any_call_may_come.Goals as goal

pub returns : goal.returns
returns c = any_call_may_come
