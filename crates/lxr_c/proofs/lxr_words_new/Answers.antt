use Rattle.lxr_c.proofs.lxr_words_new.Goals as goal

pub returns : goal.returns
returns c = (c.new.result, c.new.ensures, c.answered.ensures)
