-- The two readings are equal, whatever stands before.
use Rattle.lxr_words.proofs.Alike.{same_reading}
use Rattle.lxr_words.proofs.laws.reads_spellings_alike.Goals as goal

pub returns : goal.returns
returns c = λ name value before after free other unlike. same_reading name value after free other unlike before
