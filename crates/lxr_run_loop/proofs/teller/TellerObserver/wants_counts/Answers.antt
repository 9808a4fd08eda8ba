use Rattle.std.proofs.Common.{◌∙◌, sym}
use Rattle.lxr_run_loop.proofs.TellerLemmas.{printed_drains}
use Rattle.lxr_run_loop.proofs.teller.TellerObserver.wants_counts.Goals as goal

pub returns-clause-drains : goal.returns-clause-drains
returns-clause-drains g c = λ wants. printed_drains c.args.self.now.options.command c.args.self.now.options.counts c.args.kind (sym c.prints_counts.ensures ∙ wants)
