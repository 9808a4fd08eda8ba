use Rattle.std.proofs.Common.{refl}
use Rattle.lxr_pause_queue.proofs.counting.count_unreclaimed.Goals as goal

pub returns : goal.returns
returns c = λ m at can. record { counts = c.counts_now-space.ensures m at can; space = refl }
