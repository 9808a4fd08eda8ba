use Rattle.std.proofs.Common.{arith, subst, sym}
use Rattle.lxr_image.specs.Settled.{StandsByLines, of_blocks}
use Rattle.lxr_image.specs.Tables.{tables_in}
use Rattle.lxr_image.proofs.WriteLemmas.{stands_moved, told_by}
use Rattle.lxr_image.proofs.words.HeapWords.next_noted.Goals as goal

pub returns-clause-passed : goal.returns-clause-passed
returns-clause-passed c b from less =
    let told = c.next_noted.ensures.passed (omega (arith, from, less)) in
    subst (λ ws. StandsByLines (tables_in c.args.limits ws) b) c.self.view_is
    (told_by (λ x. StandsByLines x b) (λ t u. stands_moved t u b) c.args.limits c.self.inside.plain c.self.inside.settled.blocks (sym told.0) (told.1 (tables_in (of_blocks c.self.inside.settled.blocks) c.self.inside.plain) c.self.invariant b from less))
