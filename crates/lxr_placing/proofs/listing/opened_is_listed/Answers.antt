use Rattle.lxr_placing.proofs.OpenedExactLemmas.{opened_lists_all}
use Rattle.lxr_placing.proofs.OpenedListLemmas.{opened_is_listed}
use Rattle.lxr_placing.proofs.listing.opened_is_listed.Goals as goal

pub returns : goal.returns
returns c = λ space limits is opened. (opened_is_listed space limits is opened, opened_lists_all space limits is opened)
