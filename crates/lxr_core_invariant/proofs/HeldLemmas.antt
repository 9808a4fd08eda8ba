-- What registers and references of a moment hold is nil or a member.
use Rattle.std.proofs.Common.{◌≡◌, ℕ, refl}
use Rattle.std.specs.Prelude.{Option, Some, None, IsTrue, slice_get}
use Rattle.lxr_layout.specs.declared.Name.{Name}
use Rattle.lxr_graph.specs.Names.{has}
use Rattle.lxr_graph.specs.State.{Object, object_at, register_at}
use Rattle.lxr_model.specs.Moments.{Moment}
use Rattle.lxr_model.proofs.StepLemmas.{register_held}
use Rattle.lxr_model_counting.specs.Following.{FollowsPause}
use Rattle.lxr_invariant.specs.AbstractState.{members}
use Rattle.lxr_invariant.proofs.MemberLemmas.{member_refers}
use Rattle.lxr_invariant.proofs.NameLemmas.{live_member}

-- nil, or a member
abbrev pub IsHeld : Moment → Option Name → Type 0
IsHeld m None = Unit {0}
IsHeld m (Some n) = IsTrue (has (members m) n)

-- what a member's reference holds is nil or a member
pub reference_held : (m : Moment) (u : Name) (o : Object) (i : ℕ) (v : Option Name) → FollowsPause m → IsTrue (has (members m) u) → object_at m.state.graph u ≡ Some o → slice_get o.refs i ≡ Some v
    → IsHeld m v
reference_held m u o i None follows member there read = tt
reference_held m u o i (Some n) follows member there read = member_refers m u n o i follows member there read

-- what a register is known to hold
held_by : (m : Moment) (t r : ℕ) (v : Option Name) → FollowsPause m → register_at m.state t r ≡ v → IsHeld m v
held_by m t r None follows e = tt
held_by m t r (Some n) follows e = live_member m n follows (follows.held n (register_held m.state t r n e))

-- what a register holds is nil or a member
pub in_register : (m : Moment) (t r : ℕ) → FollowsPause m → IsHeld m (register_at m.state t r)
in_register m t r follows = held_by m t r (register_at m.state t r) follows refl
