use Rattle.std.proofs.Common.{◌≡◌, length, codes, arith, rules, refl}
use Rattle.std.proofs.lemmas.Slice.Eq.{text_from_reads, HasBytesAt}
use Rattle.lxr_judge_output.proofs.lines.sort_of_word.Goals as goal

pub returns-in-collect : goal.returns-in-collect
returns-in-collect c =
    let same : length c.args.word.now ≡ length (codes "collect") = omega arith in
    let bytes : HasBytesAt c.args.word.now 0 (codes "collect") = search rules in
    let e : c.args.word.now ≡ codes "collect" = text_from_reads c.args.word.now (codes "collect") same bytes in
    rw e refl
