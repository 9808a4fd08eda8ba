use Rattle.std.proofs.Common.{◌∙◌, sym}
use Rattle.lxr_image.proofs.FreesLemmas.{all_known_free, none_known_free}
use Rattle.lxr_image.proofs.settled.Settled.known_free_blocks.Goals as goal

pub returns-then-blocks-self : goal.returns-then-blocks-self
returns-then-blocks-self c = sym (none_known_free c.args.self.now c.args.blocks (λ same. c.if-blocks-self.true (sym same)) c.args.blocks)

pub returns : goal.returns
returns c = c.count_full.ensures ∙ sym (all_known_free c.args.self.now c.args.blocks (sym c.if-blocks-self.false) c.requires.many)
