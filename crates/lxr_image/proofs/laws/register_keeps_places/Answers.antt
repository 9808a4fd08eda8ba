use Rattle.lxr_image.proofs.ImageLemmas.{register_keeps_places}
use Rattle.lxr_image.proofs.laws.register_keeps_places.Goals as goal

pub returns : goal.returns
returns c = register_keeps_places
