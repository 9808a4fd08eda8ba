use Rattle.std.proofs.Common.{ap, ◌∙◌, ◌≡◌, arith}
use Rattle.std.specs.Prelude.{map}
use Rattle.lxr_graph.specs.State.{opening_registers}
use Rattle.lxr_image.specs.Opened.{opening_place}
use Rattle.lxr_image.proofs.RegisterLemmas.{opening_in_use}
use Rattle.lxr_image.proofs.registers.RegisterFile.open.Goals as goal

pub invariant_of-result : goal.invariant_of-result
invariant_of-result c =
    let all : c.loop.counter ≡ c.from-threads.result = omega arith in
    opening_in_use (record { places = c.loop.places; in_use = c.in_ok-vec.field-0; width = c.args.width }) c.from-threads.result c.requires.width.0 c.requires.width.1
    (c.loop.invariant ∙ ap (λ n. map opening_place (opening_registers n)) all) (c.in_ok-vec.ensures.items_if_clones_equal (λ y same. same))
