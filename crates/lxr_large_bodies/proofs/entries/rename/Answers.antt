use Rattle.std.proofs.Common.{◌≡◌, ◌∙◌, ap, sym, subst, arith, IsTrue, get_or, map}
use Rattle.lxr_graph.specs.Names.{has}
use Rattle.lxr_large_model.specs.Renewing.{counted_name}
use Rattle.lxr_large_bodies.specs.declared.entries.Entry.{Entry}
use Rattle.lxr_large_bodies.specs.Entries.{renamed_entry}
use Rattle.lxr_large_bodies.proofs.Renaming.{all_get_or, all_renamed, next_same, renamed_next}
use Rattle.lxr_large_bodies.proofs.Sorted.{nobody}
use Rattle.lxr_large_bodies.proofs.entries.rename.Goals as goal

pub renewed-requires : goal.renewed-requires
renewed-requires c =
    let (ns, are) = c.requires.counts in
    let test = c.loop-at-test.true in
    let same : get_or c.loop-at.entries c.loop-at.at nobody ≡ get_or c.args.entries.now c.loop-at.at nobody =
    ap (λ es. get_or es c.loop-at.at nobody) (c.loop-at.invariant ns are) ∙ next_same c.loop-at.at (renamed_entry ns) c.args.entries.now in (
      ns,
      are,
      subst (λ (e : Entry). IsTrue (has (map counted_name c.args.counts.now) e.name)) (sym same)
          (all_get_or (λ (e : Entry). IsTrue (has (map counted_name c.args.counts.now) e.name)) c.args.entries.now c.loop-at.at (omega (arith, test)) c.requires.among),
    )

pub loop-at-preserved : goal.loop-at-preserved
loop-at-preserved c = λ ns are.
    let test = c.loop-at-test.true in
    renamed_next ns c.loop-at.at c.loop-at.entries c.args.entries.now c.renewed.result (c.loop-at.invariant ns are) (omega (arith, test)) (c.renewed.ensures ns are)

pub returns : goal.returns
returns c = λ ns are.
    let test = c.loop-at-test.false in
    c.loop-at.invariant ns are ∙ all_renamed c.loop-at.at (renamed_entry ns) c.args.entries.now (omega (arith, test))
