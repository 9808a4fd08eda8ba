use Rattle.std.proofs.Common.{sym, ◌∙◌}
use Rattle.lxr_text_script.proofs.Cutting.{word_in_front, words_behind, all_skipped}
use Rattle.lxr_text_script.proofs.lines.split_word.Goals as goal

pub front_word-requires : goal.front_word-requires
front_word-requires c = word_in_front c.args.line.now c.in-Some.start (sym c.word_start.ensures ∙ c.in-Some.is)

pub returns-in-None : goal.returns-in-None
returns-in-None c = all_skipped c.args.line.now (sym c.word_start.ensures ∙ c.in-None.is)

pub returns-in-Some : goal.returns-in-Some
returns-in-Some c = (words_behind c.args.line.now c.in-Some.start (sym c.word_start.ensures ∙ c.in-Some.is) ∙ c.front_word.ensures.words, c.front_word.ensures.word)
