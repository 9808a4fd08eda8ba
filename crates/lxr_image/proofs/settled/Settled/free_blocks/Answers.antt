use Rattle.std.proofs.Common.{◌≡◌, ◌+◌, ◌∙◌, ap, arith}
use Rattle.std.specs.Prelude.{◌==◌, if◌then◌else◌, slice_index}
use Rattle.lxr_image.specs.declared.tables.WordTable.TheVariants.{States}
use Rattle.lxr_image.specs.Tables.{tables_in}
use Rattle.lxr_image.proofs.FreesLemmas.{free_few, known_few, looked_at, one_at_most, passed_counted}
use Rattle.lxr_image.proofs.TableLaws.{word_read}
use Rattle.lxr_image.proofs.settled.Settled.free_blocks.Goals as goal

pub loop-block-init : goal.loop-block-init
loop-block-init c =
    let s = c.args.self.now in
    let block = c.next_unknown-block.result in
    let next = c.next_unknown-block.ensures in
    let passed = passed_counted s c.args.limits c.args.words.now c.requires.knows 0 block (omega arith) (λ b low high. next.passed b low high) in
    let known = c.known_free_blocks-free.ensures in
    let none = free_few (tables_in c.args.limits c.args.words.now) 0 in
    let none_known = known_few s c.args.limits.blocks 0 in
    record {
      within = next.range.1;
      unknown = next.found;
      counted = omega (arith, passed, known, none, none_known);
    }

pub overflow_add-free : goal.overflow_add-free
overflow_add-free c =
    let is = c.loop-block.invariant in
    let within = is.within in
    let counted = is.counted in
    let most = c.requires.limits.blocks.1 in
    let few = free_few (tables_in c.args.limits c.args.words.now) c.loop-block.block in
    let known = known_few c.args.self.now c.args.limits.blocks c.args.limits.blocks in
    let one = c.one_if_free-free.ensures in
    let least = one_at_most (c.get.result == 0) in
    omega (arith, within, counted, most, few, known, one, least)

pub loop-block-preserved : goal.loop-block-preserved
loop-block-preserved c =
    let s = c.args.self.now in
    let l = c.args.limits in
    let ws = c.args.words.now in
    let is = c.loop-block.invariant in
    let b = c.loop-block.block in
    let below = c.loop-block-test.true in
    let next = c.next_unknown-block-in-loop-block.ensures in
    let looked = looked_at s l ws c.requires.knows b below (is.unknown below) c.loop-block.free is.counted in
    let passed = passed_counted s l ws c.requires.knows (b + 1) c.next_unknown-block-in-loop-block.result next.range.0 next.passed in
    let state : c.get.result ≡ (tables_in l ws).states b = c.get.ensures ∙ ap (λ n. slice_index ws (n + b)) c.begin-states.ensures ∙ word_read l ws States b below in
    let one : c.one_if_free-free.result ≡ (if (tables_in l ws).states b == 0 then 1 else 0) = c.one_if_free-free.ensures ∙ ap (λ n. if n == 0 then 1 else 0) state in
    record {
      within = next.range.1;
      unknown = next.found;
      counted = omega (arith, looked, passed, one);
    }
