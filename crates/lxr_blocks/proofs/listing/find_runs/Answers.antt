use Rattle.std.proofs.Common.{◌+◌, ◌∙◌, arith, subst, sym, take}
use Rattle.std.proofs.lemmas.List.{length-take-le, take_more_set}
use Rattle.std.proofs.Math.ListN.{length-set}
use Rattle.lxr_image.specs.Runs.{bits_of}
use Rattle.lxr_blocks.proofs.ListingLemmas.{IsFoundTo, found_all, found_more, found_none, found_room}
use Rattle.lxr_blocks.proofs.MaskLemmas.{mask_of_bits}
use Rattle.lxr_blocks.proofs.listing.find_runs.Goals as goal

pub loop-run-init : goal.loop-run-init
loop-run-init c = record {
  most = omega arith;
  row = omega arith;
  found = (0, found_none (bits_of c.args.free) c.args.block c.edges_of-edges.result (c.edges_of-edges.ensures (bits_of c.args.free) (mask_of_bits c.args.free)));
}

pub bounds-words-many : goal.bounds-words-many
bounds-words-many c =
    let found = c.loop-run.invariant.found in let most = c.loop-run.invariant.most in let row = c.loop-run.invariant.row in
    let room = found_room (bits_of c.args.free) c.args.block c.loop-run.edges (take c.loop-run.many c.loop-run.words) found.0 c.in-Some.run' found.1 (c.in-Some.ensures.run (bits_of c.args.free) found.0 found.1.1).0 in
    let many = length-take-le c.loop-run.many c.loop-run.words (omega arith) in
    omega (arith, room, many)

pub loop-run-smaller : goal.loop-run-smaller
loop-run-smaller c =
    let found = c.loop-run.invariant.found in let most = c.loop-run.invariant.most in let row = c.loop-run.invariant.row in
    let room = found_room (bits_of c.args.free) c.args.block c.loop-run.edges (take c.loop-run.many c.loop-run.words) found.0 c.in-Some.run' found.1 (c.in-Some.ensures.run (bits_of c.args.free) found.0 found.1.1).0 in
    let many = length-take-le c.loop-run.many c.loop-run.words (omega arith) in
    omega (arith, room, many)

pub loop-run-preserved : goal.loop-run-preserved
loop-run-preserved c =
    let found = c.loop-run.invariant.found in let most = c.loop-run.invariant.most in let row = c.loop-run.invariant.row in
    let next = c.in-Some.ensures.run (bits_of c.args.free) found.0 found.1.1 in
    let room = found_room (bits_of c.args.free) c.args.block c.loop-run.edges (take c.loop-run.many c.loop-run.words) found.0 c.in-Some.run' found.1 next.0 in
    let many = length-take-le c.loop-run.many c.loop-run.words (omega arith) in
    record {
      most = omega (arith, room, many);
      row = length-set c.loop-run.words c.loop-run.many c.run_word.result ∙ row;
      found = (
        c.in-Some.run'.line + c.in-Some.run'.lines,
        subst (λ ws. IsFoundTo (bits_of c.args.free) c.args.block c.in-Some.behind ws (c.in-Some.run'.line + c.in-Some.run'.lines)) (sym (take_more_set c.loop-run.words c.loop-run.many c.run_word.result (omega (arith, room, many))))
            (found_more (bits_of c.args.free) c.args.block c.loop-run.edges c.in-Some.behind c.run_word.result (take c.loop-run.many c.loop-run.words) found.0 c.in-Some.run' found.1 next.0 next.1 c.run_word.ensures),
      );
    }

pub returns-clause-runs : goal.returns-clause-runs
returns-clause-runs c =
    let found = c.loop-run.invariant.found in
    found_all (bits_of c.args.free) c.args.block c.loop-run.edges (take c.loop-run.many c.loop-run.words) found.0 found.1 (c.in_default.ensures.none (bits_of c.args.free) found.0 found.1.0 found.1.1)
