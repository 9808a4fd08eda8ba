use Rattle.lxr_image.proofs.ImageLemmas.{put_keeps_image}
use Rattle.lxr_image.proofs.laws.put_keeps_image.Goals as goal

pub returns : goal.returns
returns c = put_keeps_image
