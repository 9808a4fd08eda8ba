use Rattle.std.proofs.Common.{◌∙◌, ◌++◌, arith, ap, length}
use Rattle.std.specs.Vec.Iter.{into_iter_items}
use Rattle.lxr_stations.proofs.HomeLemmas.{none_settled, one_settled}
use Rattle.lxr_stations.proofs.homes.settle.Goals as goal

pub loop-pass-init : goal.loop-pass-init
loop-pass-init c = record {
  settled = none_settled c.args.passes.items (into_iter_items c.into_iter-rest.result) c.args.words.now.items c.args.places.now.items c.requires.words.0 c.requires.places.0 c.into_iter-rest.ensures.rest;
  words = let none = ap length c.requires.words.0 in let ok = c.args.words.now.ok in let room = c.requires.words.1 in omega (arith, c.into_iter-rest.ensures.len);
  places = let none = ap length c.requires.places.0 in let ok = c.args.places.now.ok in let room = c.requires.places.1 in omega (arith, c.into_iter-rest.ensures.len);
}

pub loop-pass-preserved : goal.loop-pass-preserved
loop-pass-preserved c =
    let before = c.loop-pass.invariant.settled in
    let pass = c.in-Some.pass in
    let rest = into_iter_items c.next.new.self in
    record {
      settled = one_settled c.args.passes.items before.0 rest pass c.loop-pass.words.items c.push_reserved.new.self.items c.loop-pass.places.items c.push_reserved-in-Some.new.self.items (before.1 ∙ ap (λ xs. before.0 ++ xs) c.in-Some.ensures.items)
          before.2 before.3 c.push_reserved.ensures.items c.push_reserved-in-Some.ensures.items;
      words = let room = c.loop-pass.invariant.words in let len = c.push_reserved.ensures.len in let capacity = c.push_reserved.ensures.capacity in omega (arith, c.in-Some.ensures.len);
      places = let room = c.loop-pass.invariant.places in let len = c.push_reserved-in-Some.ensures.len in let capacity = c.push_reserved-in-Some.ensures.capacity in omega (arith, c.in-Some.ensures.len);
    }
