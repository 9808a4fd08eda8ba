use Rattle.std.proofs.Common.{subst, sym, refl, inl}
use Rattle.lxr_c_heap.specs.Hosting.{IsServing}
use Rattle.lxr_c_heap.specs.Working.{first_slice}
use Rattle.lxr_c_heap.proofs.RoomLemmas.{bytes_far, set_serves, work_set}
use Rattle.lxr_c_heap.proofs.host.HostHeap.set_work.Goals as goal

pub first_slice-self-requires : goal.first_slice-self-requires
first_slice-self-requires c = bytes_far 1 1 c.args.self.now c.requires.serving

pub returns-clause-set : goal.returns-clause-set
returns-clause-set c =
    inl (c.if-units-gt-MOST_WORK.false, refl, work_set c.args.self.now c.args.units c.first_slice-self.result c.turn_of-self.result c.first_slice-self.ensures c.turn_of-self.ensures)

pub returns-clause-serving : goal.returns-clause-serving
returns-clause-serving c =
    let x = c.args.self.now in
    subst IsServing (sym (work_set x c.args.units c.first_slice-self.result c.turn_of-self.result c.first_slice-self.ensures c.turn_of-self.ensures))
    (set_serves x x.pace x.room x.limit x.brink c.args.units (first_slice c.args.units x.bytes x.limit) c.if-units-gt-MOST_WORK.false c.requires.serving)
