use Rattle.std.proofs.Common.{sym, ap, ◌∙◌}
use Rattle.lxr_layout.specs.Objects.{header_of}
use Rattle.lxr_direct.proofs.HeldLemmas.{never_moved, told_stands}
use Rattle.lxr_direct.proofs.reading.shape_at.Goals as goal

pub returns : goal.returns
returns c = λ g v is. (
  c.in-Object.field-0,
  told_stands c.args.space.now g c.args.place v c.in-Object.field-0 c.in-Object.shape is c.requires.some (ap header_of (sym c.header_at.ensures) ∙ sym c.unpack.ensures ∙ c.in-Object.is),
)

pub unreachable-requires : goal.unreachable-requires
unreachable-requires c =
    let (g, v, is) = c.requires.stands in
    never_moved c.args.space.now g c.args.place c.in-Moved.field-0 v is c.requires.some (ap header_of (sym c.header_at.ensures) ∙ sym c.unpack.ensures ∙ c.in-Moved.is)
