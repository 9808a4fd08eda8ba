use Rattle.std.proofs.Common.{◌≡◌, ◌∙◌, ◌+◌, [], ◌∷◌, suc, sym, ap, arith, drop, get_or, List, map}
use Rattle.std.proofs.Math.ListN.{drop_of_length-le}
use Rattle.std.proofs.Math.Seq.{drop-cons}
use Rattle.lxr_layout.specs.declared.Name.{Name}
use Rattle.lxr_large_bodies.specs.Entries.{settled_where}
use Rattle.lxr_large_bodies.proofs.Sorted.{settle_more, settle_nobody, sorted_where}
use Rattle.lxr_large_bodies.proofs.entries.settle.Goals as goal

pub loop-name-preserved : goal.loop-name-preserved
loop-name-preserved c =
    let first : Name = record { thread = 0; serial = 0 } in
    let at = c.loop-name.name-index in
    let name = get_or c.args.names.now at first in
    let later : suc at ≡ at + 1 = omega arith in
    let next : drop at c.args.names.now ≡ name ∷ drop (at + 1) c.args.names.now = rw later at (drop-cons c.args.names.now at first c.loop-name-test.true) in
    record {
      sorted = rw c.settle_one.ensures (sorted_where (name ∷ []) c.args.settled c.loop-name.entries c.loop-name.invariant.sorted);
      settled = rw c.settle_one.ensures (settle_more name (drop (at + 1) c.args.names.now) c.args.settled c.loop-name.entries
          ∙ ap (λ (names : List Name). map (settled_where names c.args.settled) c.loop-name.entries) (sym next) ∙ c.loop-name.invariant.settled);
    }

pub returns : goal.returns
returns c =
    let over = drop_of_length-le c.args.names.now c.loop-name-test.false in
    sym (settle_nobody c.args.settled c.loop-name.entries) ∙ ap (λ (names : List Name). map (settled_where names c.args.settled) c.loop-name.entries) (sym over) ∙ c.loop-name.invariant.settled
