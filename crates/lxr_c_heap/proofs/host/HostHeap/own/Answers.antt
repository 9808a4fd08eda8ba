use Rattle.std.proofs.Common.{arith}
use Rattle.lxr_c_heap.proofs.RegisterLemmas.{all_few}
use Rattle.lxr_c_heap.proofs.host.HostHeap.own.Goals as goal

pub overflow_cast-result : goal.overflow_cast-result
overflow_cast-result c =
    let few = all_few c.args.self.now c.requires.serving.holds in
    let all = c.registers.ensures in
    omega (arith, few, all)

pub overflow_cast-result-2 : goal.overflow_cast-result-2
overflow_cast-result-2 c =
    let few = all_few c.args.self.now c.requires.serving.holds in
    let all = c.registers.ensures in
    omega (arith, few, all)
