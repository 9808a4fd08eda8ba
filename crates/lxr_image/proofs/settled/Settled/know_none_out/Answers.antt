use Rattle.std.proofs.Common.{subst, sym, false}
use Rattle.lxr_image.specs.Settled.{Knows}
use Rattle.lxr_image.proofs.SettledLemmas.{none_out_known}
use Rattle.lxr_image.proofs.settled.Settled.know_none_out.Goals as goal

pub returns-clause-knows : goal.returns-clause-knows
returns-clause-knows c t k none = subst (λ xs. Knows (record c.args.self.now { handed = xs; forgotten = false }) t) (sym c.put.ensures) (none_out_known c.args.self.now c.args.block t c.requires.block k none)
