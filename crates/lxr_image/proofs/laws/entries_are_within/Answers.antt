use Rattle.lxr_image.proofs.TableLaws.{count_fits, reuse_fits}
use Rattle.lxr_image.proofs.laws.entries_are_within.Goals as goal

pub returns : goal.returns
returns c = λ s. record { counts = count_fits s.limits s.words; reuse = reuse_fits s.limits s.words }
