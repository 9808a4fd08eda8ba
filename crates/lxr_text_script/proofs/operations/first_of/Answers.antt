use Rattle.std.proofs.Common.{◌≡◌, length, codes, arith, rules}
use Rattle.std.proofs.lemmas.Slice.Eq.{text_from_reads, HasBytesAt}
use Rattle.lxr_text_script.specs.Operations.{first_of}
use Rattle.lxr_text_script.proofs.operations.first_of.Goals as goal

pub returns-in-collect : goal.returns-in-collect
unfolding first_of
returns-in-collect c =
    let same : length c.args.word.now ≡ length (codes "collect") = omega arith in
    let bytes : HasBytesAt c.args.word.now 0 (codes "collect") = search rules in
    let e : c.args.word.now ≡ codes "collect" = text_from_reads c.args.word.now (codes "collect") same bytes in
    rw e c.alone-in-collect.ensures
