use Rattle.lxr_image.proofs.WriteLemmas.{keeps_words}
use Rattle.lxr_image.proofs.rest.Rest.end_epoch.Goals as goal

pub returns-clause-knows : goal.returns-clause-knows
returns-clause-knows c before after known keeps = keeps_words c.args.self.now.settled c.distrust.new.self c.args.self.now.limits before after c.distrust.ensures.blocks c.distrust.ensures.knows keeps known
