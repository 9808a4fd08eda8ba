-- Each command line is read, and what is read is a command line.
use Rattle.lxr_words.proofs.CommandLines.{line_is_read, read_is_line}
use Rattle.lxr_words.proofs.laws.accepts_command_lines.Goals as goal

pub returns : goal.returns
returns c = λ words options. (read_is_line words options, line_is_read words options)
