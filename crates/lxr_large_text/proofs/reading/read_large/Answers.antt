use Rattle.lxr_large_text.proofs.Accepted.{answer_fits, within}
use Rattle.lxr_large_text.proofs.reading.read_large.Goals as goal

pub returns-clause-limits : goal.returns-clause-limits
returns-clause-limits c =
    answer_fits c.read_lines.result c.args.bytes.now (rw (within c.args.bytes.now c.if-bytes-gt-MOST_BYTES.false) (rw (c.new.ensures.number, c.new.ensures.rest) at c.read_lines.ensures))
