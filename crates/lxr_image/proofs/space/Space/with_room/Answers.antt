use Rattle.std.proofs.Common.{◌*◌, ap, refl, ◌∙◌}
use Rattle.lxr_layout.specs.Spaces.{all_regions, region_begin}
use Rattle.lxr_image.specs.Tables.{tables_in}
use Rattle.lxr_image.proofs.OpenLemmas.{tables_cleared}
use Rattle.lxr_image.proofs.space.Space.with_room.Goals as goal

pub returns : goal.returns
returns c = record {
  limits = refl;
  tables = ap (tables_in c.args.limits) c.in_ok-new.ensures ∙ tables_cleared c.args.limits (region_begin c.args.limits all_regions);
  registers = c.in_ok-open.ensures.items;
  deferred = c.in_ok-open-2.ensures.items;
  logged = c.in_ok-with_room.ensures.empty;
  work = c.in_ok-with_room-2.ensures.empty;
  report = c.in_ok-blank_report.ensures.blank;
  tally = refl;
  pauses = refl;
  trace = refl;
  rest = (refl, refl);
  room = record {
    registers = c.in_ok-open.ensures.width;
    deferred = c.in_ok-open-2.ensures.width;
    logged = c.in_ok-with_room.ensures.room ∙ ap (λ n. n * c.args.limits.log) c.from.ensures;
    work = c.in_ok-with_room-2.ensures.room;
    report = c.in_ok-blank_report.ensures.room;
  };
}
