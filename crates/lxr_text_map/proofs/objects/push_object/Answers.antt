use Rattle.std.proofs.Common.{append_assoc}
use Rattle.lxr_text_map.specs.Map.{object_line}
use Rattle.lxr_text_map.proofs.objects.push_object.Goals as goal

pub returns : goal.returns
unfolding object_line
returns c =
    rw (
      c.push-5.ensures,
      c.number-3.ensures.text,
      c.into-3.ensures,
      c.push-4.ensures,
      c.number-2.ensures.text,
      c.into-2.ensures,
      c.push-3.ensures,
      c.name.ensures.text,
      c.push-2.ensures,
      c.number.ensures.text,
      c.into.ensures,
      c.push.ensures,
    )
    (simp append_assoc)
