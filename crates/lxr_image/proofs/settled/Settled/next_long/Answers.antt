use Rattle.std.proofs.Common.{◌-◌, sym, arith}
use Rattle.lxr_image.proofs.SettledLemmas.{longest_known}
use Rattle.lxr_image.proofs.settled.Settled.next_long.Goals as goal

pub returns-clause-passed : goal.returns-clause-passed
returns-clause-passed c some = (
  sym c.if-blocks-self.false,
  λ t known b from before.
      let many = known.longest_many in
      let range = c.next.ensures.range in
      let less = c.next.ensures.passed b from before in
      let lines = c.requires.lines in
      longest_known c.args.self.now t b (c.args.lines - 1) (omega (arith, many, range, before), omega (arith, less, lines)) c.if-not-self.false (omega (arith, less)) known,
)
