use Rattle.std.proofs.Common.{◌∙◌, sym}
use Rattle.lxr_evac_moving.specs.Steps.{held_names, held_places}
use Rattle.lxr_evac_moving.proofs.RegisterLemmas.{held_either, now_kept, register_member, register_set, register_some}
use Rattle.lxr_evac_moving.proofs.registers.fix_register.Goals as goal

pub present_place-now-requires : goal.present_place-now-requires
present_place-now-requires c = let r = c.requires in (r.0, r.1, _, r.2, register_member c.args.space.now r.0 r.1 c.args.registers c.args.register c.at-held.result r.2 c.at-held.ensures)

pub replace-requires-clause-register : goal.replace-requires-clause-register
replace-requires-clause-register c = c.requires.3

pub replace-requires-clause-holds : goal.replace-requires-clause-holds
replace-requires-clause-holds c =
    let r = c.requires in
    let now = c.present_place-now.ensures r.0 r.1 _ r.2 (register_member c.args.space.now r.0 r.1 c.args.registers c.args.register c.at-held.result r.2 c.at-held.ensures) in
    register_some c.args.space.now r.0 r.1 c.args.registers c.args.register c.present_place-now.result.0 c.at-held.result r.2 c.at-held.ensures now c.if-now-held.true

pub returns-then-now-held-clause-fixes : goal.returns-then-now-held-clause-fixes
returns-then-now-held-clause-fixes c = λ m st is before.
    let now = c.present_place-now.ensures m st _ is (register_member c.args.space.now m st c.args.registers c.args.register c.at-held.result is c.at-held.ensures) in
    register_set c.args.space.now c.replace.new.space m st c.args.registers c.args.register c.at-held.result c.present_place-now.result is c.at-held.ensures now c.replace.ensures before

pub returns-else-now-held-clause-fixes : goal.returns-else-now-held-clause-fixes
returns-else-now-held-clause-fixes c = λ m st is before.
    let now = sym c.if-now-held.false ∙ c.present_place-now.ensures m st _ is (register_member c.args.space.now m st c.args.registers c.args.register c.at-held.result is c.at-held.ensures) in
    (is, now_kept st (held_places c.args.registers c.args.space.now) (held_names c.args.registers m) (held_either c.args.space.now m st c.args.registers is) c.args.register c.at-held.result c.at-held.ensures now before)
