use Rattle.std.proofs.Common.{sym, arith}
use Rattle.lxr_image.proofs.SettledLemmas.{stands_known}
use Rattle.lxr_image.proofs.settled.Settled.next_noted.Goals as goal

pub returns-clause-passed : goal.returns-clause-passed
returns-clause-passed c some = (
  sym c.if-blocks-self.false,
  λ t known b from before.
      let many = known.longest_many in
      let range = c.next.ensures.range in
      let less = c.next.ensures.passed b from before in
      stands_known c.args.self.now t b (omega (arith, many, range, before), less) c.if-not-self.false known,
)
