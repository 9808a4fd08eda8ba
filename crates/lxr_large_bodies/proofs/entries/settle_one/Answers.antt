use Rattle.std.proofs.Common.{sym}
use Rattle.std.proofs.lemmas.Option.{slice_get-get_or}
use Rattle.lxr_large_bodies.proofs.Sorted.{nobody, settle_at, settle_none}
use Rattle.lxr_large_bodies.proofs.entries.settle_one.Goals as goal

pub returns-in-Some : goal.returns-in-Some
returns-in-Some c =
    let found = c.in-Some.ensures.found in
    let is = slice_get-get_or c.args.entries.now c.in-Some.at nobody found.within in
    settle_at c.args.entries.now c.args.name c.args.settled c.in-Some.at _ c.index_of.ensures.serial c.requires is (found.same _ is)

pub returns-in_default : goal.returns-in_default
returns-in_default c = sym (settle_none c.args.entries.now c.args.name c.args.settled c.in_default.ensures.none)
