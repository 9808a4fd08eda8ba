use Rattle.std.proofs.Common.{◌+◌, ◌<◌, ◌∙◌, ap, subst, sym, length}
use Rattle.std.specs.Prelude.{slice_index}
use Rattle.lxr_image.proofs.TableLaws.{word_read, word_within}
use Rattle.lxr_image.proofs.space.Space.word_in.Goals as goal

pub get-requires : goal.get-requires
get-requires c = subst (λ b. b + c.args.index < length c.args.self.now.words) (sym c.begin.ensures)
    (word_within c.args.self.now.limits c.args.self.now.words c.args.table c.args.index c.requires.space.size c.requires.index)

pub returns : goal.returns
returns c =
    c.get.ensures ∙ ap (λ b. slice_index c.args.self.now.words (b + c.args.index)) c.begin.ensures
    ∙ word_read c.args.self.now.limits c.args.self.now.words c.args.table c.args.index c.requires.index
