use Rattle.std.proofs.Common.{arith, subst}
use Rattle.lxr_mutator.specs.Mutators.{IsMutator}
use Rattle.lxr_mutator.proofs.NowLemmas.{few_words}
use Rattle.lxr_mutator.proofs.mutator.Mutator.wipe_word.Goals as goal

pub overflow_add-next : goal.overflow_add-next
overflow_add-next c =
    let few = few_words c.args.self.now (subst IsMutator c.self.view_is c.self.invariant.sound) in
    let within = c.requires.may.1.1 in
    omega arith
