use Rattle.lxr_image.proofs.TableLaws.{no_start_past}
use Rattle.lxr_image.proofs.laws.none_starts_past.Goals as goal

pub returns : goal.returns
returns c = λ s g is past. no_start_past s.limits s.words g is.size past
