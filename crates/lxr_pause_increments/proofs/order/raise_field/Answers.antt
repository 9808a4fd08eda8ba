use Rattle.std.proofs.Common.{◌∙◌}
use Rattle.lxr_pause_increments.proofs.ChangedLemmas.{changed_leaves, changed_left}
use Rattle.lxr_pause_increments.proofs.EnteredLemmas.{field_changes, field_enters, field_may_enter}
use Rattle.lxr_pause_increments.proofs.FrameLemmas.{leaves_both}
use Rattle.lxr_pause_increments.proofs.ShortLemmas.{changed_short}
use Rattle.lxr_pause_increments.proofs.order.raise_field.Goals as goal

pub fix_field-held-requires-clause-may : goal.fix_field-held-requires-clause-may
fix_field-held-requires-clause-may c = let r = c.requires.may in (r.0, r.1, r.2, r.3, r.4, r.5, r.6)

pub remember_held-requires : goal.remember_held-requires
remember_held-requires c =
    let r = c.requires.may in
    field_may_enter c.args.space.now c.fix_field-held.new.space r.0 r.1 r.2 r.3 c.args.place c.args.index c.fix_field-held.result r.4 r.5 r.6 (c.fix_field-held.ensures.fixes r.0 r.1 r.2 r.3 r.4 r.5 r.6) r.7

pub returns-clause-raises : goal.returns-clause-raises
returns-clause-raises c = λ m at st u is holder raisable. (
  c.fix_field-held.result.0,
  field_enters c.args.space.now c.fix_field-held.new.space m at st u c.args.place c.args.index c.fix_field-held.result is holder raisable (c.fix_field-held.ensures.fixes m at st u is holder raisable) c.remember_held.new.space c.remember_held.ensures,
)

pub returns-clause-left : goal.returns-clause-left
returns-clause-left c =
    let r = c.requires.may in
    let fixes = c.fix_field-held.ensures.fixes r.0 r.1 r.2 r.3 r.4 r.5 r.6 in
    changed_left c.fix_field-held.new.space c.remember_held.new.space
    (field_changes c.args.space.now c.fix_field-held.new.space r.0 r.1 r.2 r.3 c.args.place c.args.index c.fix_field-held.result r.4 r.5 r.6 fixes c.remember_held.new.space c.remember_held.ensures) ∙ c.fix_field-held.ensures.left

pub returns-clause-leaves : goal.returns-clause-leaves
returns-clause-leaves c =
    let r = c.requires.may in
    let fixes = c.fix_field-held.ensures.fixes r.0 r.1 r.2 r.3 r.4 r.5 r.6 in
    leaves_both c.args.space.now c.fix_field-held.new.space c.remember_held.new.space c.fix_field-held.ensures.leaves
    (changed_leaves c.fix_field-held.new.space c.remember_held.new.space
    (field_changes c.args.space.now c.fix_field-held.new.space r.0 r.1 r.2 r.3 c.args.place c.args.index c.fix_field-held.result r.4 r.5 r.6 fixes c.remember_held.new.space c.remember_held.ensures))

pub returns-clause-short : goal.returns-clause-short
returns-clause-short c =
    let r = c.requires.may in
    let fixes = c.fix_field-held.ensures.fixes r.0 r.1 r.2 r.3 r.4 r.5 r.6 in
    changed_short c.fix_field-held.new.space c.remember_held.new.space c.fix_field-held.new.shortage
    (field_changes c.args.space.now c.fix_field-held.new.space r.0 r.1 r.2 r.3 c.args.place c.args.index c.fix_field-held.result r.4 r.5 r.6 fixes c.remember_held.new.space c.remember_held.ensures) c.fix_field-held.ensures.short
