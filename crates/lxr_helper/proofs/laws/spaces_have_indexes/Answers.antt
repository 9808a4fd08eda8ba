use Rattle.lxr_helper.proofs.IndexLemmas.{have_indexes}
use Rattle.lxr_helper.proofs.laws.spaces_have_indexes.Goals as goal

pub returns : goal.returns
returns c = have_indexes
