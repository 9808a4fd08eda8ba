use Rattle.std.proofs.Common.{subst, sym}
use Rattle.lxr_image.specs.Settled.{KnowsWords}
use Rattle.lxr_image.proofs.words.HeapWordsWords.set.Goals as goal

pub invariant_of-self : goal.invariant_of-self
invariant_of-self c = subst (KnowsWords c.note_place.new.self) (sym c.set.ensures) (c.note_place.ensures.knows c.self.inside.plain c.args.value c.self.invariant)
