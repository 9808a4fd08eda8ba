use Rattle.std.proofs.Common.{sym, subst, ap, ◌∙◌, inl, inr, refl}
use Rattle.lxr_image.specs.declared.space.Space.{Space}
use Rattle.lxr_image.specs.Reads.{granule_of}
use Rattle.lxr_image.specs.Spaces.{Turns, tables_of}
use Rattle.lxr_blocks.specs.Kept.{IsAmong}
use Rattle.lxr_blocks.specs.Placing.{granule_count}
use Rattle.lxr_pause_promote.specs.Promotion.{Promotes, with_promotion}
use Rattle.lxr_pause_promote.specs.Copying.{StandsAt}
use Rattle.lxr_pause_promote.proofs.CopyLemmas.{evacuated_beside}
use Rattle.lxr_pause_promote.proofs.FewerLemmas.{promotion_fewer, still_short}
use Rattle.lxr_pause_promote.proofs.promoting.promote_within.Goals as goal

pub promote_here-requires : goal.promote_here-requires
promote_here-requires c =
    let k = c.requires.kept.2 in
    (c.requires.kept.0, c.requires.kept.1, (evacuated_beside c.args.space.now c.young_evacuate_within.new.space (IsAmong (granule_of c.args.place.0) (granule_count c.requires.kept.1)) c.args.place c.in-Some.copy c.requires.kept.0 c.requires.kept.1 k k.kept (c.in-Some.ensures.copied c.requires.kept.0 c.requires.kept.1 k)).stands)

pub returns-in-Some-clause-promotes : goal.returns-in-Some-clause-promotes
returns-in-Some-clause-promotes c = λ n shape is.
    let evacuates = c.in-Some.ensures.copied n shape is in
    let stands = (evacuated_beside c.args.space.now c.young_evacuate_within.new.space (IsAmong (granule_of c.args.place.0) (granule_count shape)) c.args.place c.in-Some.copy n shape is is.kept evacuates).stands in
    subst (λ z. Promotes c.args.space.now c.promote_here.new.space c.args.place z n shape) (sym c.promote_here.ensures.stays)
    (inr (record { copied = c.young_evacuate_within.new.space; evacuates = evacuates; turns = c.promote_here.ensures.promotes n shape stands }))

pub returns-in-Some-clause-limits : goal.returns-in-Some-clause-limits
returns-in-Some-clause-limits c =
    let k = c.requires.kept.2 in
    let beside = evacuated_beside c.args.space.now c.young_evacuate_within.new.space (IsAmong (granule_of c.args.place.0) (granule_count c.requires.kept.1)) c.args.place c.in-Some.copy c.requires.kept.0 c.requires.kept.1 k k.kept (c.in-Some.ensures.copied c.requires.kept.0 c.requires.kept.1 k) in
    c.promote_here.ensures.limits ∙ ap (λ (s : Space). s.limits) beside.space

pub returns-in-None-clause-promotes : goal.returns-in-None-clause-promotes
returns-in-None-clause-promotes c = λ n shape is.
    let same = c.in-None.ensures.unchanged in
    let stands = subst (λ (s : Space). StandsAt s c.args.place n shape) (sym same) is.stands in
    subst (λ z. Promotes c.args.space.now c.promote_here-in-None.new.space c.args.place z n shape) (sym c.promote_here-in-None.ensures.stays)
    (inl (record {
      full = (c.in-None.ensures.none n shape is).0 refl;
      place = refl;
      turns = subst (λ (s : Space). Turns s c.promote_here-in-None.new.space (with_promotion (tables_of s) c.args.place.0 shape)) same (c.promote_here-in-None.ensures.promotes n shape stands);
    }))

pub returns-in-Some-clause-short : goal.returns-in-Some-clause-short
returns-in-Some-clause-short c =
    let k = c.requires.kept.2 in
    let beside = evacuated_beside c.args.space.now c.young_evacuate_within.new.space (IsAmong (granule_of c.args.place.0) (granule_count c.requires.kept.1)) c.args.place c.in-Some.copy c.requires.kept.0 c.requires.kept.1 k k.kept (c.in-Some.ensures.copied c.requires.kept.0 c.requires.kept.1 k) in
    let fewer = promotion_fewer c.young_evacuate_within.new.space c.promote_here.new.space c.in-Some.copy.0 c.requires.kept.1 (c.promote_here.ensures.promotes c.requires.kept.0 c.requires.kept.1 beside.stands) in
    still_short c.young_evacuate_within.new.space c.promote_here.new.space c.young_evacuate_within.new.shortage fewer c.in-Some.ensures.short

pub returns-in-None-clause-short : goal.returns-in-None-clause-short
returns-in-None-clause-short c =
    let n = c.requires.kept.0 in
    let shape = c.requires.kept.1 in
    let stands = subst (λ (s : Space). StandsAt s c.args.place n shape) (sym c.in-None.ensures.unchanged) c.requires.kept.2.stands in
    let fewer = promotion_fewer c.young_evacuate_within.new.space c.promote_here-in-None.new.space c.args.place.0 shape (c.promote_here-in-None.ensures.promotes n shape stands) in
    still_short c.young_evacuate_within.new.space c.promote_here-in-None.new.space c.young_evacuate_within.new.shortage fewer c.in-None.ensures.short
