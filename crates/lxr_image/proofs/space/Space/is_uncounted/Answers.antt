use Rattle.std.proofs.Common.{◌≡◌, ℕ, ◌<◌, ◌+◌, ◌*◌, ◌≤◌, ◌∙◌, ap, arith, drop, length, subst, sym}
use Rattle.std.specs.Prelude.{slice_index}
use Rattle.lxr_tables.specs.declared.counts.TheConstants.{COUNTS_IN_WORD}
use Rattle.lxr_layout.specs.declared.TheConstants.{COUNT_BITS, COUNT_WORDS_IN_BLOCK, GRANULES_IN_BLOCK, GRANULES_IN_LINE}
use Rattle.lxr_tables.specs.Entries.{table}
use Rattle.lxr_image.specs.Spaces.{tables_of}
use Rattle.lxr_image.proofs.TableLaws.{count_read, count_within}
use Rattle.lxr_image.proofs.space.Space.is_uncounted.Goals as goal

pub is_uncounted-requires-clause-block : goal.is_uncounted-requires-clause-block
is_uncounted-requires-clause-block c =
    let block = c.requires.block in
    let last = count_within c.args.self.now.limits c.args.self.now.words (GRANULES_IN_BLOCK * c.args.block + 2047) c.requires.space.size (omega arith) in
    subst (λ b. b + COUNT_WORDS_IN_BLOCK * (c.args.block + 1) ≤ length c.args.self.now.words) (sym c.counts_begin.ensures) (omega arith)

pub returns : goal.returns
returns c =
    let block = c.requires.block in
    let line = c.requires.line in
    let told = c.is_uncounted.ensures in
    let read : (k : ℕ) → k < GRANULES_IN_LINE → slice_index (table COUNT_BITS COUNTS_IN_WORD (drop c.counts_begin.result c.args.self.now.words)) (GRANULES_IN_BLOCK * c.args.block + GRANULES_IN_LINE * c.args.line + k) ≡ (tables_of c.args.self.now).counts (GRANULES_IN_BLOCK * c.args.block + GRANULES_IN_LINE * c.args.line + k) = λ k in_line. ap (λ b. slice_index (table COUNT_BITS COUNTS_IN_WORD (drop b c.args.self.now.words)) (GRANULES_IN_BLOCK * c.args.block + GRANULES_IN_LINE * c.args.line + k)) c.counts_begin.ensures
    ∙ count_read c.args.self.now.limits c.args.self.now.words (GRANULES_IN_BLOCK * c.args.block + GRANULES_IN_LINE * c.args.line + k) (omega (arith, in_line)) in
    ((λ set k in_line. sym (read k in_line) ∙ told.0 set k in_line), (λ each. told.1 (λ k in_line. read k in_line ∙ each k in_line)))
