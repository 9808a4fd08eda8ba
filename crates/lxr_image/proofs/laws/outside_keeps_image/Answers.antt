use Rattle.lxr_image.proofs.ImageLemmas.{outside_keeps_image}
use Rattle.lxr_image.proofs.laws.outside_keeps_image.Goals as goal

pub returns : goal.returns
returns c = outside_keeps_image
