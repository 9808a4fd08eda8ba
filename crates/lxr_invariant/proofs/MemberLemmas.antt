-- What members refer to, and what holds of them wherever they stand.
use Rattle.std.proofs.Common.{◌≡◌, ℕ, refl, sym, ap, subst, ◌∙◌, inl, inr, true, false, List}
use Rattle.std.specs.Prelude.{Option, Some, None, IsTrue, filter, not, slice_get}
use Rattle.lxr_layout.specs.declared.limits.Limits.{Limits}
use Rattle.lxr_layout.specs.declared.LogEntry.{LogEntry}
use Rattle.lxr_layout.specs.declared.Name.{Name}
use Rattle.lxr_graph.specs.Names.{has}
use Rattle.lxr_graph.specs.State.{Graph, Object, object_at, refs_of}
use Rattle.lxr_image.specs.Tables.{Tables}
use Rattle.lxr_image.specs.Reads.{granule_of}
use Rattle.lxr_model.specs.Moments.{Moment, Trace}
use Rattle.lxr_model.specs.Reachable.{Refers}
use Rattle.lxr_model_counting.specs.Distinct.{has_field}
use Rattle.lxr_model_counting.specs.Following.{FollowsPause}
use Rattle.lxr_invariant.specs.AbstractState.{AbstractState, members}
use Rattle.lxr_invariant.specs.Counting.{undone}
use Rattle.lxr_invariant.specs.Tracing.{IsTracedBy}
use Rattle.lxr_invariant.proofs.NameLemmas.{in_either, in_first, live_member}

-- an object refers to what one of its references holds
refers_by : (g : Graph) (u n : Name) (o : Object) (i : ℕ) → object_at g u ≡ Some o → slice_get o.refs i ≡ Some (Some n) → Refers g u n
refers_by g u n o i there read = (i, ap (λ z. slice_get (refs_of z) i) there ∙ read)

-- what a member refers to is a member
pub member_refers : (m : Moment) (u n : Name) (o : Object) (i : ℕ) → FollowsPause m → IsTrue (has (members m) u) → object_at m.state.graph u ≡ Some o → slice_get o.refs i ≡ Some (Some n)
    → IsTrue (has (members m) n)
member_refers m u n o i follows member there read = elim (in_either m.unreclaimed m.made u member) [
  | inr made ↦ live_member m n follows (follows.referred u n (inr made) (refers_by m.state.graph u n o i there read))
  | inl kept ↦ elim (has_field m.written (u, i)) as (λ b. has_field m.written (u, i) ≡ b → IsTrue (has (members m) n)) [
    | true ↦ λ e.
        let reached = (follows.written u i e).1 in
        live_member m n follows (follows.referred u n (inl reached) (refers_by m.state.graph u n o i there read))
    | false ↦ λ e.
        let same = follows.unwritten u i kept e in
        let now = ap (λ z. slice_get (refs_of z) i) there ∙ read in
        in_first m.unreclaimed m.made n (follows.closed u n kept (i, sym same ∙ now))
  ] refl
]

-- where nothing is done, all names are undone, wherever they stand
pub undone_all : (t : Tables) (at to : Name → ℕ) (us : List Name) → ((k : ℕ) → t.dones k ≡ false) → undone t at us ≡ undone t to us
undone_all t at to us none =
    let path : t.dones ≡ (λ k. false) = λ i k. none k i in
    ap (λ f. filter (λ n. not (f (granule_of (at n)))) us) path ∙ sym (ap (λ f. filter (λ n. not (f (granule_of (to n)))) us) path)

-- where no trace runs nothing is asked of one
pub untraced : (l : Limits) (t : Tables) (entries : List LogEntry) (g : AbstractState) (trace : Option Trace) → trace ≡ None → IsTracedBy l t entries g trace
untraced l t entries g trace none = subst (IsTracedBy l t entries g) (sym none) tt
