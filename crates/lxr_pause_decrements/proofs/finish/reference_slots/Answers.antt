use Rattle.std.proofs.Common.{◌∙◌, ap}
use Rattle.lxr_layout.specs.Objects.{header_of}
use Rattle.lxr_image.specs.Reads.{slots_of}
use Rattle.lxr_image.proofs.ReadLemmas.{header_unpacked}
use Rattle.lxr_pause_decrements.proofs.finish.reference_slots.Goals as goal

pub returns : goal.returns
returns c = λ n shape h. c.reference_slots.ensures ∙ ap slots_of (ap header_of h.header ∙ header_unpacked n shape h.name h.fits)
