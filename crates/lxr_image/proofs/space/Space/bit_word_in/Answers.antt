use Rattle.std.proofs.Common.{◌+◌, ◌<◌, ◌∙◌, ap, subst, sym, length}
use Rattle.std.specs.Prelude.{◌==◌, slice_index}
use Rattle.std.specs.Int.{bit_at}
use Rattle.lxr_image.proofs.TableLaws.{bit_of_word, bit_word_within}
use Rattle.lxr_image.proofs.space.Space.bit_word_in.Goals as goal

pub get-requires : goal.get-requires
get-requires c = subst (λ b. b + c.args.at < length c.args.self.now.words) (sym c.begin.ensures)
    (bit_word_within c.args.self.now.limits c.args.self.now.words c.args.table c.args.at c.requires.space.size c.requires.at)

pub returns : goal.returns
returns c i within =
    bit_of_word c.args.self.now.limits c.args.self.now.words c.args.table c.args.at i c.requires.space.size c.requires.at within
    ∙ ap (λ w. bit_at w i == 1) (sym (c.get.ensures ∙ ap (λ b. slice_index c.args.self.now.words (b + c.args.at)) c.begin.ensures))
