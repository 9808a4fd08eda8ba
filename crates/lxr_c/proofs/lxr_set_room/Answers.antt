use Rattle.lxr_c.proofs.lxr_set_room.Goals as goal

pub returns : goal.returns
returns c = (c.set_room.result, c.set_room.ensures, c.number.ensures)
