use Rattle.std.proofs.Common.{subst, sym, arith}
use Rattle.lxr_image.specs.Settled.{Knows}
use Rattle.lxr_image.proofs.SettledLemmas.{note_known, unnoted_known}
use Rattle.lxr_image.proofs.settled.Settled.note.Goals as goal

pub returns-then-block-self-clause-knows : goal.returns-then-block-self-clause-knows
returns-then-block-self-clause-knows c t u k d =
    subst (λ xs. Knows (record c.args.self.now { longest = xs }) u) (sym c.put.ensures) (note_known c.args.self.now c.args.block t u (omega arith) k d)

pub returns-else-block-self-clause-knows : goal.returns-else-block-self-clause-knows
returns-else-block-self-clause-knows c t u k d = unnoted_known c.args.self.now c.args.block t u (omega arith) k d.agree
