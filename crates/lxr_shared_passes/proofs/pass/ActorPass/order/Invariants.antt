use Rattle.lxr_shared_passes.proofs.pass.ActorPass.order.Given as goal

abbrev pub ghosts-say_ordered : goal.ghosts-say_ordered
ghosts-say_ordered g a = record { op = a.op }
