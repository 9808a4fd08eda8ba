use Rattle.std.proofs.Common.{subst, sym}
use Rattle.lxr_image.specs.Settled.{AreCounted}
use Rattle.lxr_image.specs.Tables.{tables_in}
use Rattle.lxr_image.proofs.WriteLemmas.{trust_words}
use Rattle.lxr_image.proofs.words.HeapWords.trust.Goals as goal

pub invariant_of-self : goal.invariant_of-self
invariant_of-self c = trust_words c.self.inside.settled c.trust.new.self c.args.limits c.self.inside.plain c.if-limits-self.true c.trust.ensures.blocks c.trust.ensures.knows
    (subst (λ ws. AreCounted (tables_in c.args.limits ws)) (sym c.self.view_is) c.requires.counted) c.self.invariant
