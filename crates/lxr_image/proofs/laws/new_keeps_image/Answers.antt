use Rattle.lxr_image.proofs.NewLemmas.{new_keeps_image}
use Rattle.lxr_image.proofs.laws.new_keeps_image.Goals as goal

pub returns : goal.returns
returns c = new_keeps_image
