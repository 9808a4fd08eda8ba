use Rattle.std.proofs.Common.{subst, sym}
use Rattle.lxr_image.specs.Settled.{AreRunsOfFree}
use Rattle.lxr_image.specs.Tables.{tables_in}
use Rattle.lxr_image.proofs.WriteLemmas.{keep_words}
use Rattle.lxr_image.proofs.words.HeapWords.keep_runs.Goals as goal

pub invariant_of-self : goal.invariant_of-self
invariant_of-self c = keep_words c.self.inside.settled c.keep_runs.new.self c.args.limits c.self.inside.plain c.args.words.now c.args.block c.keep_runs.ensures.blocks c.keep_runs.ensures.knows
    (subst (λ ws. AreRunsOfFree c.args.words.now (tables_in c.args.limits ws) c.args.block) (sym c.self.view_is) c.requires) c.self.invariant
