use Rattle.lxr_image.proofs.ReadLemmas.{image_is_read}
use Rattle.lxr_image.proofs.laws.image_is_read.Goals as goal

pub returns : goal.returns
returns c = image_is_read
