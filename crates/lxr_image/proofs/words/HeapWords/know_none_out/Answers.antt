use Rattle.std.proofs.Common.{subst, sym}
use Rattle.lxr_image.specs.Settled.{NoneIsOut}
use Rattle.lxr_image.specs.Tables.{tables_in}
use Rattle.lxr_image.proofs.WriteLemmas.{none_out_words}
use Rattle.lxr_image.proofs.words.HeapWords.know_none_out.Goals as goal

pub invariant_of-self : goal.invariant_of-self
invariant_of-self c = none_out_words c.self.inside.settled c.know_none_out.new.self c.args.limits c.self.inside.plain c.args.block c.if-limits-self.true c.know_none_out.ensures.blocks c.know_none_out.ensures.knows
    (subst (λ ws. NoneIsOut (tables_in c.args.limits ws) c.args.block) (sym c.self.view_is) c.requires.none) c.self.invariant
