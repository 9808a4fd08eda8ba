use Rattle.std.proofs.Common.{◌∙◌, sym, subst, arith}
use Rattle.std.proofs.lemmas.List.{get_or_default}
use Rattle.lxr_image.specs.Settled.{IsMaskOfFree}
use Rattle.lxr_image.proofs.SettledLemmas.{free_known}
use Rattle.lxr_image.proofs.settled.Settled.known_free.Goals as goal

pub returns-clause-lines : goal.returns-clause-lines
returns-clause-lines c t known =
    let s = c.args.self.now in
    let (blocks, is, trusted) = c.knows_free.ensures c.if-not-knows_free.false in
    let within = is.0 in let many = known.lines_many in
    let mask = c.index.ensures ∙ get_or_default s.lines.items c.args.block c.index.result.now 0 (omega (arith, many, within)) in
    subst (λ m. IsMaskOfFree m t c.args.block) (sym mask) (free_known s t c.args.block is trusted known)
