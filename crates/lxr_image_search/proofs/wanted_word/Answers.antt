use Rattle.std.proofs.Common.{◌+◌, ◌*◌, subst, sym}
use Rattle.std.specs.Prelude.{◌↔◌, IsBitSet, IsTrue}
use Rattle.std.specs.Int.{bit_not}
use Rattle.std.specs.Int.Bits.{bit_and}
use Rattle.std.proofs.Common.{w64}
use Rattle.lxr_image.specs.Spaces.{tables_of}
use Rattle.lxr_image.proofs.OutLemmas.{told_by_bit}
use Rattle.lxr_image_search.specs.Search.{is_wanted}
use Rattle.lxr_image_search.proofs.SearchLemmas.{told_by_bits}
use Rattle.lxr_image_search.proofs.wanted_word.Goals as goal

pub returns-in-Unmarked : goal.returns-in-Unmarked
returns-in-Unmarked c i within =
    let t = tables_of c.args.space.now in
    let k = 64 * c.args.at + i in
    let starts = c.start_word-in-Unmarked in
    let marks = c.mark_word in
    subst (λ w. IsBitSet (bit_and starts.result (bit_not w64 marks.result)) i ↔ IsTrue (is_wanted t w k)) (sym c.in-Unmarked.is)
    (told_by_bits (t.starts k) (t.marks k) starts.result marks.result i marks.type_inv within (starts.ensures i within) (marks.ensures i within))

pub returns-in-ToScan : goal.returns-in-ToScan
returns-in-ToScan c i within =
    let t = tables_of c.args.space.now in
    let k = 64 * c.args.at + i in
    let grays = c.gray_word in
    let marks = c.mark_word-in-ToScan in
    subst (λ w. IsBitSet (bit_and grays.result (bit_not w64 marks.result)) i ↔ IsTrue (is_wanted t w k)) (sym c.in-ToScan.is)
    (told_by_bits (t.grays k) (t.marks k) grays.result marks.result i marks.type_inv within (grays.ensures i within) (marks.ensures i within))

pub returns-in-Object : goal.returns-in-Object
returns-in-Object c i within =
    let t = tables_of c.args.space.now in
    subst (λ w. IsBitSet c.start_word.result i ↔ IsTrue (is_wanted t w (64 * c.args.at + i))) (sym c.in-Object.is)
    (told_by_bit (t.starts (64 * c.args.at + i)) c.start_word.result i (c.start_word.ensures i within))
