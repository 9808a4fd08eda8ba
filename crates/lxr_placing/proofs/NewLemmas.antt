-- A name that is new in a graph: which objects and places stay beside it.
use Rattle.std.proofs.Common.{◌≡◌, ℕ, ◌+◌, ◌/◌, ◌<◌, ◌≤◌, refl, sym, ap, subst, ◌∙◌, inl, inr, ◌⊎◌, cond, true, false, length}
use Rattle.std.specs.Prelude.{Option, Some, None, IsTrue}
use Rattle.std.proofs.lemmas.List.{length-replicate}
use Rattle.lxr_layout.specs.declared.Name.{Name}
use Rattle.lxr_layout.specs.declared.Shape.{Shape}
use Rattle.lxr_layout.specs.Objects.{word_count}
use Rattle.lxr_graph.specs.declared.Op.TheVariants as op
use Rattle.lxr_graph.specs.declared.Reply.TheVariants as reply
use Rattle.lxr_graph.specs.State.{Graph, Object, next_name, object_at, shape_of, with_new}
use Rattle.lxr_graph.specs.Step.{fresh}
use Rattle.lxr_graph.specs.Names.{has, insert_name, same_name}
use Rattle.lxr_graph.proofs.RowLemmas.{next_none, object_at-with_new}
use Rattle.lxr_graph.proofs.NameSets.{insert_cases, insert_new, insert_old, same_itself, same_names}
use Rattle.lxr_image.specs.Reads.{granule_of}
use Rattle.lxr_image.specs.Image.{granules_of}
use Rattle.lxr_image.specs.ImageLaws.{placed}
use Rattle.lxr_image.proofs.ImageLemmas.{Rewrites, rewrites}
use Rattle.lxr_image.proofs.NewLemmas.{placed_here}
use Rattle.lxr_model.specs.Moments.{Moment, after_call}
use Rattle.lxr_invariant.specs.AbstractState.{AbstractState, members}
use Rattle.lxr_invariant.specs.Lines.{Covers}
use Rattle.lxr_invariant.proofs.NameLemmas.{in_either, in_first, in_second}

-- ---- places beside the new one

-- a new object has the shape that was asked for, and so as many granules
shape_of-fresh : (s : Shape) → shape_of (fresh s) ≡ s
shape_of-fresh s = λ j. record { refs = length-replicate {A = Option Name} s.refs None j; values = length-replicate {A = ℕ} s.values 0 j }

pub size_fresh : (s : Shape) → granules_of (fresh s) ≡ word_count s / 2
size_fresh s = ap (λ z. word_count z / 2) (shape_of-fresh s)

-- a name other than the placed one stands where it did
placed_other : (at : Name → ℕ) (n : Name) (p : ℕ) (m : Name) → (m ≡ n → ⊥) → placed at n p m ≡ at m
placed_other at n p m differ = elim (same_name m n) as (λ b. same_name m n ≡ b → cond b p (at m) ≡ at m) [
  | true ↦ λ k. absurd (differ (same_names m n k))
  | false ↦ λ k. refl
] refl

-- a name that has an object isn't the next one of a thread
not_next : (g : Graph) (thread : ℕ) (m : Name) (o : Object) → object_at g m ≡ Some o → m ≡ next_name g thread → ⊥
not_next g thread m o there e = let k : None ≡ Some o = sym (next_none g thread) ∙ ap (object_at g) (sym e) ∙ there in cc

-- ---- a moment and the one after it

-- the name of a thread's next object, the graph with that object, the places then, and the moment then
abbrev pub new_name : AbstractState → ℕ → Name
new_name g thread = next_name g.moment.state.graph thread

abbrev pub graph_then : AbstractState → ℕ → Shape → Graph
graph_then g thread shape = with_new g.moment.state.graph thread (fresh shape)

abbrev pub places_then : AbstractState → ℕ → ℕ → Name → ℕ
places_then g thread p = placed g.at (new_name g thread) p

abbrev pub moment_then : AbstractState → ℕ → ℕ → Shape → Moment
moment_then g thread dest shape = after_call g.moment thread (op.New dest shape) (reply.New (new_name g thread))

-- What is known of both: the members stand where they did with the objects that they had, and the new name is one more.
pub record IsBeside (g : AbstractState) (thread dest p : ℕ) (shape : Shape) : Type 0 where
  pub unmade : IsTrue (has (members g.moment) (new_name g thread)) → ⊥
  pub old_at : (m : Name) → IsTrue (has (members g.moment) m) → places_then g thread p m ≡ g.at m
  pub old_object : (m : Name) → IsTrue (has (members g.moment) m) → object_at (graph_then g thread shape) m ≡ object_at g.moment.state.graph m
  pub own_object : object_at (graph_then g thread shape) (new_name g thread) ≡ Some (fresh shape)
  pub member : (m : Name) → IsTrue (has (members (moment_then g thread dest shape)) m) → (m ≡ new_name g thread) ⊎ IsTrue (has (members g.moment) m)
  pub old_member : (m : Name) → IsTrue (has (members g.moment) m) → IsTrue (has (members (moment_then g thread dest shape)) m)
  pub own_member : IsTrue (has (members (moment_then g thread dest shape)) (new_name g thread))

-- so it is where each member has an object
pub is_beside : (g : AbstractState) (thread dest p : ℕ) (shape : Shape) → thread < length g.moment.state.graph
    → ((m : Name) → IsTrue (has (members g.moment) m) → (o : Object) × (object_at g.moment.state.graph m ≡ Some o)) → IsBeside g thread dest p shape
is_beside g thread dest p shape row objects =
    let m : Moment = g.moment in
    let old : Graph = m.state.graph in
    let n : Name = new_name g thread in
    let which : Rewrites old (graph_then g thread shape) n (fresh shape) =
    rewrites old (graph_then g thread shape) n (fresh shape) (λ q. object_at-with_new old thread (fresh shape) q row) in
    let unlike : (q : Name) → IsTrue (has (members m) q) → q ≡ n → ⊥ = λ q h. let a = objects q h in not_next old thread q a.0 a.1 in
    record {
      unmade = λ h. unlike n h refl;
      old_at = λ q h. placed_other g.at n p q (unlike q h);
      old_object = λ q h. elim (which q) [ inl e ↦ absurd (unlike q h e.0) | inr e ↦ e.1 ];
      own_object = elim (which n) [ inl e ↦ e.1 | inr e ↦ absurd (let k : true ≡ false = sym (same_itself n) ∙ e.0 in cc) ];
      member = λ q h. elim (in_either m.unreclaimed (insert_name n m.made) q h) [
        | inl k ↦ inr (in_first m.unreclaimed m.made q k)
        | inr k ↦ elim (insert_cases n m.made q k) [ inl e ↦ inl e | inr a ↦ inr (in_second m.unreclaimed m.made q a) ]
      ];
      old_member = λ q h. elim (in_either m.unreclaimed m.made q h) [
        | inl k ↦ in_first m.unreclaimed (insert_name n m.made) q k
        | inr k ↦ in_second m.unreclaimed (insert_name n m.made) q (insert_old n m.made q k)
      ];
      own_member = in_second m.unreclaimed (insert_name n m.made) n (insert_new n m.made);
    }

-- ---- granules

-- what covers a granule then is the new object, or covered it before
pub covers_before : (g : AbstractState) (thread dest p : ℕ) (shape : Shape) (m : Name) (o : Object) (k : ℕ) → IsBeside g thread dest p shape → IsTrue (has (members g.moment) m)
    → Covers (graph_then g thread shape) (places_then g thread p) m o k → Covers g.moment.state.graph g.at m o k
covers_before g thread dest p shape m o k beside member covers = record {
  object = sym (beside.old_object m member) ∙ covers.object;
  first = subst (λ z. granule_of z ≤ k) (beside.old_at m member) covers.first;
  behind = subst (λ z. k < granule_of z + granules_of o) (beside.old_at m member) covers.behind;
}

-- what covered a granule before covers it then
pub covers_after : (g : AbstractState) (thread dest p : ℕ) (shape : Shape) (m : Name) (o : Object) (k : ℕ) → IsBeside g thread dest p shape → IsTrue (has (members g.moment) m)
    → Covers g.moment.state.graph g.at m o k → Covers (graph_then g thread shape) (places_then g thread p) m o k
covers_after g thread dest p shape m o k beside member covers = record {
  object = beside.old_object m member ∙ covers.object;
  first = subst (λ z. granule_of z ≤ k) (sym (beside.old_at m member)) covers.first;
  behind = subst (λ z. k < granule_of z + granules_of o) (sym (beside.old_at m member)) covers.behind;
}

-- the granules of the new object
pub own_covers : (g : AbstractState) (thread dest p : ℕ) (shape : Shape) (m : Name) (o : Object) (k : ℕ) → IsBeside g thread dest p shape → m ≡ new_name g thread
    → Covers (graph_then g thread shape) (places_then g thread p) m o k → (granule_of p ≤ k) × (k < granule_of p + word_count shape / 2)
own_covers g thread dest p shape m o k beside e covers =
    let n : Name = new_name g thread in
    let here : placed g.at n p m ≡ p = ap (placed g.at n p) e ∙ placed_here g.at n p in
    let object : Some o ≡ Some (fresh shape) = sym covers.object ∙ ap (object_at (graph_then g thread shape)) e ∙ beside.own_object in
    let o_is : o ≡ fresh shape = cc in
    let size : granules_of o ≡ word_count shape / 2 = ap granules_of o_is ∙ size_fresh shape in
    (subst (λ z. granule_of z ≤ k) here covers.first, subst (λ z. k < granule_of p + z) size (subst (λ z. k < granule_of z + granules_of o) here covers.behind))
