use Rattle.std.proofs.Common.{◌≡◌}
use Rattle.lxr_hints.specs.Taking.{NoneGiven}
use Rattle.lxr_hints.proofs.hinter.steal.Given as goal

abbrev pub invariant-loop-number : goal.invariant-loop-number
invariant-loop-number g l = record {
  none : NoneGiven g.D.Deques.stolen l.initial.deques l.number l.deques;
  holds : g.D.Deques.holds l.deques;
  pushed : g.D.Deques.pushed l.deques ≡ g.D.Deques.pushed l.initial.deques;
  others : g.D.Deques.others l.deques ≡ g.D.Deques.others l.initial.deques;
}
