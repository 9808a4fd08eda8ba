-- The parts that are replaced are those that the view reads.
use Rattle.std.proofs.Common.{map}
use Rattle.lxr_judge_report.specs.Fields.{field_of}
use Rattle.lxr_judge_report.proofs.position.Position.begin_anew.Goals as goal

pub returns : goal.returns
returns c = λ i. record {
  state = (c.self.view_is i).state;
  last = c.args.last;
  made = c.args.made;
  written = map field_of (c.new.ensures.empty i);
}
