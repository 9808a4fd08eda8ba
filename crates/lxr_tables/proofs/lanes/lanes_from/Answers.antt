use Rattle.std.proofs.lemmas.Simd.{get_or-chunk}
use Rattle.lxr_tables.proofs.lanes.lanes_from.Goals as goal

pub returns : goal.returns
returns c i within = get_or-chunk c.args.first 16 c.args.words.now i 0 within
