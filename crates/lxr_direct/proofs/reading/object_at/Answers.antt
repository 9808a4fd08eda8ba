use Rattle.std.proofs.Common.{rules, sym, ap, ◌∙◌}
use Rattle.lxr_layout.specs.Objects.{header_of}
use Rattle.lxr_direct.proofs.HeldLemmas.{none_moved, none_there, told_stands}
use Rattle.lxr_direct.proofs.reading.object_at.Goals as goal

pub returns-then-place-eq0 : goal.returns-then-place-eq0
returns-then-place-eq0 c = λ g v is. none_there c.args.space.now g c.args.place v is (search rules)

pub returns-in-Object : goal.returns-in-Object
returns-in-Object c = λ g v is. told_stands c.args.space.now g c.args.place v c.in-Object.name c.in-Object.shape is (search rules)
    (ap header_of (sym c.header_at.ensures) ∙ sym c.unpack.ensures ∙ c.in-Object.is)

pub returns-in-Moved : goal.returns-in-Moved
returns-in-Moved c = λ g v is. none_moved c.args.space.now g c.args.place c.in-Moved.field-0 v is (search rules)
    (ap header_of (sym c.header_at.ensures) ∙ sym c.unpack.ensures ∙ c.in-Moved.is)
