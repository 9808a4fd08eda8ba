use Rattle.std.proofs.Common.{◌≡◌, length, codes, arith, rules}
use Rattle.std.proofs.lemmas.Slice.Eq.{text_from_reads, HasBytesAt}
use Rattle.lxr_judge_output.specs.Words.{is_reply}
use Rattle.lxr_judge_output.proofs.words.is_reply.Goals as goal

pub returns-in-collect : goal.returns-in-collect
unfolding is_reply
returns-in-collect c =
    let same : length c.args.word.now ≡ length (codes "collect") = omega arith in
    let bytes : HasBytesAt c.args.word.now 0 (codes "collect") = search rules in
    let e : c.args.word.now ≡ codes "collect" = text_from_reads c.args.word.now (codes "collect") same bytes in
    rw e c.is_done-in-collect.ensures
