use Rattle.std.proofs.Common.{◌*◌, arith}
use Rattle.lxr_layout.specs.declared.TheConstants.{GRANULES_IN_BLOCK}
use Rattle.lxr_image.specs.Spaces.{tables_of}
use Rattle.lxr_text_print.proofs.PageLemmas.{OnErr-always}
use Rattle.lxr_text_map.specs.Map.{granule_text}
use Rattle.lxr_text_map.proofs.JoinedLemmas.{AppendsFront-joined, Moves-no_piece}
use Rattle.lxr_text_map.proofs.ObjectLemmas.{Moves-object, none_added}
use Rattle.lxr_text_map.proofs.objects.put_objects.Goals as goal

pub loop-granule-init : goal.loop-granule-init
loop-granule-init g c = record {
  within = omega arith;
  moved = Moves-no_piece (g.O.Sink.written c.args.output.now) c.args.page.now (granule_text (tables_of c.args.space.now));
  faults = omega arith;
}

pub returns-in_err-make_room-clause-err : goal.returns-in_err-make_room-clause-err
returns-in_err-make_room-clause-err g c =
    let s = c.args.space.now in
    OnErr-always _ (AppendsFront-joined c.args.page.now (granule_text (tables_of s)) c.loop-granule.from (GRANULES_IN_BLOCK * s.limits.blocks) c.loop-granule.invariant.within
    c.loop-granule.invariant.moved c.in_err-make_room.ensures.err)

pub loop-granule-preserved : goal.loop-granule-preserved
loop-granule-preserved g c =
    let inside = c.in-Some.ensures.next.within in
    record {
      within = omega (arith, inside);
      moved = Moves-object c.args.page.now (tables_of c.args.space.now) c.loop-granule.from _ c.in-Some.granule c.in-Some.ensures.next c.loop-granule.invariant.moved c.in_ok-make_room.ensures.ok c.push_granule.ensures;
      faults = omega (arith, c.in_ok-make_room.ensures.faults);
    }

pub returns-clause-ok : goal.returns-clause-ok
returns-clause-ok g c =
    let s = c.args.space.now in
    rw (none_added (tables_of s) c.loop-granule.from (GRANULES_IN_BLOCK * s.limits.blocks) c.loop-granule.invariant.within c.in_default.ensures.none) c.loop-granule.invariant.moved
