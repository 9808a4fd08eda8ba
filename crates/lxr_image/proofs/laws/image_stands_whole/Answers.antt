use Rattle.lxr_image.proofs.ImageLemmas.{starts_stand_whole}
use Rattle.lxr_image.proofs.laws.image_stands_whole.Goals as goal

pub returns : goal.returns
returns c = starts_stand_whole
