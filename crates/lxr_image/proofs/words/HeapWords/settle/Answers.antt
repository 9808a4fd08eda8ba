use Rattle.std.proofs.Common.{subst, sym}
use Rattle.lxr_image.specs.Settled.{AreCountedIn, HasLongest, IsFreeByLines, IsMaskOfFree, StandsByLines}
use Rattle.lxr_image.specs.Tables.{tables_in}
use Rattle.lxr_image.proofs.WriteLemmas.{settled_words}
use Rattle.lxr_image.proofs.words.HeapWords.settle.Goals as goal

pub invariant_of-self : goal.invariant_of-self
invariant_of-self c =
    settled_words c.self.inside.settled c.settle.new.self c.args.limits c.self.inside.plain c.args.block c.args.free c.args.longest c.if-limits-self.true c.settle.ensures.blocks c.settle.ensures.knows
    (subst (λ ws. IsMaskOfFree c.args.free (tables_in c.args.limits ws) c.args.block) (sym c.self.view_is) c.requires.free)
    (subst (λ ws. HasLongest (tables_in c.args.limits ws) c.args.block c.args.longest) (sym c.self.view_is) c.requires.longest)
    (subst (λ ws. StandsByLines (tables_in c.args.limits ws) c.args.block) (sym c.self.view_is) c.requires.state)
    (subst (λ ws. IsFreeByLines (tables_in c.args.limits ws) c.args.block) (sym c.self.view_is) c.requires.whole)
    (subst (λ ws. AreCountedIn (tables_in c.args.limits ws) c.args.block) (sym c.self.view_is) c.requires.counted) c.self.invariant
