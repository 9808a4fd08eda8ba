use Rattle.std.proofs.Common.{◌≡◌, ◌<◌, arith, sym}
use Rattle.std.specs.Prelude.{slice_index}
use Rattle.lxr_image.proofs.SettledLemmas.{none_known}
use Rattle.lxr_image.proofs.settled.Settled.next_handed.Goals as goal

pub returns-clause-passed : goal.returns-clause-passed
returns-clause-passed c more = (
  sym c.if-blocks-self.false,
  λ t k b from less.
      let many = c.requires.many in
      let top = c.next.ensures.range.1 in
      let passed = c.next.ensures.passed b from less in
      let within : b < c.args.self.now.blocks = omega arith in
      let zero_there : slice_index c.args.self.now.handed b ≡ 0 = omega arith in
      none_known c.args.self.now t b within zero_there k,
)
