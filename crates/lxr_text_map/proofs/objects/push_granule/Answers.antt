use Rattle.std.proofs.Common.{sym, ap, ◌∙◌}
use Rattle.lxr_layout.specs.Objects.{header_of}
use Rattle.lxr_image.specs.Spaces.{tables_of}
use Rattle.lxr_text_map.proofs.ObjectLemmas.{none_moved}
use Rattle.lxr_text_map.proofs.objects.push_granule.Goals as goal

pub unreachable-requires : goal.unreachable-requires
unreachable-requires c =
    let s = c.args.space.now in
    none_moved (tables_of s) s.limits.blocks c.args.granule c.in-Moved.field-0 c.requires.space.starts c.requires.begins
    (ap header_of (sym c.heap_word.ensures) ∙ sym c.in-Moved.ensures)
