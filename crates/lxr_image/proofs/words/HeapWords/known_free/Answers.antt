use Rattle.std.proofs.Common.{subst}
use Rattle.std.specs.Prelude.{IfSome}
use Rattle.lxr_image.specs.Settled.{IsMaskOfFree}
use Rattle.lxr_image.specs.Tables.{tables_in}
use Rattle.lxr_image.proofs.WriteLemmas.{free_words}
use Rattle.lxr_image.proofs.words.HeapWords.known_free.Goals as goal

pub returns : goal.returns
returns c = subst (λ ws. IfSome c.known_free.result (λ mask. IsMaskOfFree mask (tables_in c.args.limits ws) c.args.block)) c.self.view_is
    (free_words c.self.inside.settled c.args.limits c.self.inside.plain c.args.block c.known_free.result c.known_free.ensures.blocks c.known_free.ensures.lines c.self.invariant)
