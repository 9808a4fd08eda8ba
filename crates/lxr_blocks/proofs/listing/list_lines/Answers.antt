use Rattle.std.proofs.Common.{◌+◌, ◌∙◌, ap, arith, length, subst}
use Rattle.lxr_image.specs.Runs.{with_runs}
use Rattle.lxr_image.specs.Spaces.{Turns, tables_of}
use Rattle.lxr_image.proofs.RunLemmas.{few_words}
use Rattle.lxr_blocks.specs.Lines.{free_in}
use Rattle.lxr_blocks.proofs.KnownLemmas.{told_runs}
use Rattle.lxr_blocks.proofs.listing.list_lines.Goals as goal

pub overflow_add-result : goal.overflow_add-result
overflow_add-result c =
    let t = tables_of c.args.space.now in let (words, told, many, turns) = c.in-Some.ensures.some in
    let same = ap length (told_runs t c.args.block words told) in let few = few_words (free_in t c.args.block) c.args.block in
    let first = c.requires.first in let most = c.requires.space.limits.blocks in
    omega (arith, many, same, few, first, most)

pub returns-in-Some-clause-runs : goal.returns-in-Some-clause-runs
returns-in-Some-clause-runs c =
    let t = tables_of c.args.space.now in let (words, told, many, turns) = c.in-Some.ensures.some in
    subst (λ ws. Turns c.args.space.now c.copy_lines.new.space (with_runs t c.args.first ws)) (told_runs t c.args.block words told) turns

pub returns-in-Some-clause-count : goal.returns-in-Some-clause-count
returns-in-Some-clause-count c =
    let (words, told, many, turns) = c.in-Some.ensures.some in
    ap (λ n. c.args.first + n) (many ∙ ap length (told_runs (tables_of c.args.space.now) c.args.block words told))

pub returns-in-Some-clause-room : goal.returns-in-Some-clause-room
returns-in-Some-clause-room c =
    let t = tables_of c.args.space.now in let (words, told, many, turns) = c.in-Some.ensures.some in
    let same = ap length (told_runs t c.args.block words told) in let few = few_words (free_in t c.args.block) c.args.block in
    omega (arith, many, same, few)

pub returns-in-None-clause-room : goal.returns-in-None-clause-room
returns-in-None-clause-room c =
    let few = few_words (free_in (tables_of c.copy_lines.new.space) c.args.block) c.args.block in
    let count = c.list_anew.ensures.count in
    omega (arith, few, count)
