use Rattle.lxr_stand.proofs.relay.Given as goal

-- The race is that of these values, and its turns are those of this work.
abbrev pub ghosts-relay_over : goal.ghosts-relay_over
ghosts-relay_over g a = record {
  fits = g.W.Turns.fits a.work.now;
  made = g.W.Turns.made a.work.now;
  left = g.W.Turns.left a.work.now;
  values = a.values.items;
}
