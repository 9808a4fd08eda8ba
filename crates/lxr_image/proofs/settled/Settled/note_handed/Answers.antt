use Rattle.std.proofs.Common.{subst, sym, arith}
use Rattle.std.specs.Prelude.{slice_set}
use Rattle.lxr_image.specs.declared.settled.TheConstants.{NOTED}
use Rattle.lxr_image.specs.Settled.{Knows}
use Rattle.lxr_image.proofs.SettledLemmas.{note_handed_known, unnoted_known}
use Rattle.lxr_image.proofs.settled.Settled.note_handed.Goals as goal

pub returns-then-block-self-clause-knows : goal.returns-then-block-self-clause-knows
returns-then-block-self-clause-knows c t u k agree =
    subst (λ xs. Knows (record c.args.self.now { longest = xs; handed = c.put-then-block-self.new.self }) u) (sym c.put.ensures)
    (subst (λ xs. Knows (record c.args.self.now { longest = slice_set c.args.self.now.longest c.args.block NOTED; handed = xs }) u) (sym c.put-then-block-self.ensures) (note_handed_known c.args.self.now c.args.block t u (omega arith) k agree))

pub returns-else-block-self-clause-knows : goal.returns-else-block-self-clause-knows
returns-else-block-self-clause-knows c t u k agree = unnoted_known c.args.self.now c.args.block t u (omega arith) k agree
