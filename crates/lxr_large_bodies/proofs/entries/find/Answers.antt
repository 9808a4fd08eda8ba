use Rattle.std.proofs.Common.{sym, ◌∙◌}
use Rattle.std.proofs.lemmas.Option.{slice_get-get_or}
use Rattle.lxr_large_bodies.proofs.Sorted.{entry_at, no_entry, nobody}
use Rattle.lxr_large_bodies.proofs.entries.find.Goals as goal

pub returns-in_err-at : goal.returns-in_err-at
returns-in_err-at c = c.from_residual.ensures ∙ sym (no_entry c.args.entries.now c.args.name c.in_err-at.ensures.none)

pub returns : goal.returns
returns c =
    let found = c.in_ok-at.ensures.found in
    let is = slice_get-get_or c.args.entries.now c.in_ok-at.at nobody found.within in
    sym (entry_at c.args.entries.now c.args.name c.in_ok-at.at _ c.index_of.ensures.serial c.requires found.bound is (found.same _ is))
