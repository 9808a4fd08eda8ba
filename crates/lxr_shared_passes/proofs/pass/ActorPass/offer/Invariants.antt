use Rattle.lxr_shared_passes.proofs.pass.ActorPass.offer.Given as goal

abbrev pub ghosts-say_given : goal.ghosts-say_given
ghosts-say_given g a = record { place = a.place }
