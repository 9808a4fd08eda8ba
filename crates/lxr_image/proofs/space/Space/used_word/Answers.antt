use Rattle.std.proofs.Common.{◌∙◌}
use Rattle.lxr_image.proofs.UsedLemmas.{heap_inside, heap_read, used_page}
use Rattle.lxr_image.proofs.space.Space.used_word.Goals as goal

pub get_used-requires-clause-within : goal.get_used-requires-clause-within
get_used-requires-clause-within c = heap_inside c.args.self.now.limits c.args.self.now.words c.args.at c.requires.at c.requires.space.size

pub get_used-requires-clause-used : goal.get_used-requires-clause-used
get_used-requires-clause-used c = used_page c.args.self.now c.args.at c.requires.space c.requires.used

pub returns : goal.returns
returns c = c.get_used.ensures ∙ heap_read c.args.self.now.limits c.args.self.now.words c.args.at c.requires.at
