use Rattle.lxr_image.proofs.ImageLemmas.{store_keeps_image}
use Rattle.lxr_image.proofs.laws.store_keeps_image.Goals as goal

pub returns : goal.returns
returns c = store_keeps_image
