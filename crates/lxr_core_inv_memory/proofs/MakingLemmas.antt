-- An object that a mutator makes becomes a member's: the new name owns what the maker had.
use Rattle.std.proofs.Common.{◌≡◌, ℕ, ◌+◌, ◌/◌, ◌<◌, ◌≤◌, refl, sym, ap, subst, ◌∙◌, inl, inr, ◌⊎◌, arith, cond, true, false, List, ◌++◌, length}
use Rattle.std.specs.Prelude.{Option, Some, None, IsTrue, slice_get, slice_set}
use Rattle.std.proofs.lemmas.List.{length-replicate}
use Rattle.lxr_layout.specs.declared.Name.{Name}
use Rattle.lxr_layout.specs.declared.Shape.{Shape}
use Rattle.lxr_layout.specs.Objects.{word_count}
use Rattle.lxr_graph.specs.declared.Op.TheVariants as op
use Rattle.lxr_graph.specs.declared.Reply.TheVariants as reply
use Rattle.lxr_graph.specs.Names.{has, insert_name, same_name}
use Rattle.lxr_graph.specs.State.{Graph, Object, next_name, object_at, shape_of, with_new}
use Rattle.lxr_graph.specs.Step.{fresh}
use Rattle.lxr_graph.proofs.NameSets.{insert_cases, insert_new, insert_old, same_itself, same_names}
use Rattle.lxr_graph.proofs.RowLemmas.{next_none, object_at-with_new}
use Rattle.lxr_image.specs.Reads.{granule_of}
use Rattle.lxr_image.specs.Image.{granules_of}
use Rattle.lxr_image.specs.ImageLaws.{placed}
use Rattle.lxr_image.proofs.NewLemmas.{placed_here}
use Rattle.lxr_alloc.specs.Spans.{block_span, granule_count}
use Rattle.lxr_model.specs.Moments.{Moment}
use Rattle.lxr_invariant.specs.AbstractState.{members}
use Rattle.lxr_invariant.proofs.NameLemmas.{in_either, in_first, in_second}
use Rattle.lxr_core_invariant.specs.ThreadStates.{ThreadState}
use Rattle.lxr_core_invariant.specs.EpochStates.{Beginning, EpochState, moment_of, opening_tables}
use Rattle.lxr_core_invariant.specs.Events.{done_with}
use Rattle.lxr_core_invariant.specs.Events as event
use Rattle.lxr_core_invariant.specs.Happening.{MayMake, happen}
use Rattle.lxr_core_invariant.specs.Drawn.{Drawers, HasGranule, InMaking, IsDrawnMemory, IsHandOf, IsOfMaking, LieInDrawn, MakesInBlock, OfMember, Owner, Owns}
use Rattle.lxr_core_invariant.specs.Epoch.{IsEpoch}
use Rattle.lxr_core_invariant.proofs.ActingLemmas.{acts}
use Rattle.lxr_core_inv_memory.proofs.CarryLemmas.{covers_moved}
use Rattle.lxr_core_inv_memory.proofs.OwnerLemmas.{GoBack, Turns, drawers_still, drawn_kept, made_more, one_kept, same_drawers, turns_still, used_kept}
use Rattle.lxr_core_inv_memory.proofs.QuietLemmas.{IsIdle, after_idle, idle}
use Rattle.lxr_core_inv_memory.proofs.TakingLemmas.{shown_is}

-- ---- the new object beside the others

-- a new object has the shape that was asked for
shape_of-fresh : (s : Shape) → shape_of (fresh s) ≡ s
shape_of-fresh s = λ j. record { refs = length-replicate {A = Option Name} s.refs None j; values = length-replicate {A = ℕ} s.values 0 j }

-- it takes the granules of that shape
size_fresh : (s : Shape) → granules_of (fresh s) ≡ granule_count s
size_fresh s = ap (λ z. word_count z / 2) (shape_of-fresh s)

-- names that aren't equal are told apart
unlike : (m n : Name) → (m ≡ n → ⊥) → same_name m n ≡ false
unlike m n differ = elim (same_name m n) as (λ b. same_name m n ≡ b → b ≡ false) [ true ↦ λ k. absurd (differ (same_names m n k)) | false ↦ λ k. refl ] refl

-- a graph with a new object, placed, and those that stood before
record IsBeside (g h : Graph) (at to : Name → ℕ) (ms : List Name) (n : Name) (place : ℕ) (shape : Shape) : Type 0 where
  old_object : (q : Name) → IsTrue (has ms q) → object_at h q ≡ object_at g q
  old_at : (q : Name) → IsTrue (has ms q) → to q ≡ at q
  own_object : object_at h n ≡ Some (fresh shape)
  own_at : to n ≡ place

-- the next name of a thread is beside what stands in its graph
beside : (g : Graph) (at : Name → ℕ) (ms : List Name) (t place : ℕ) (shape : Shape) → t < length g → ((q : Name) → IsTrue (has ms q) → (o : Object) × (object_at g q ≡ Some o))
    → IsBeside g (with_new g t (fresh shape)) at (placed at (next_name g t) place) ms (next_name g t) place shape
beside g at ms t place shape row stands =
    let n : Name = next_name g t in
    let looked = λ (q : Name). object_at-with_new g t (fresh shape) q row in
    let differ : (q : Name) → IsTrue (has ms q) → q ≡ n → ⊥ = λ q h e.
    let there = stands q h in
    let k : None ≡ Some there.0 = sym (next_none g t) ∙ ap (object_at g) (sym e) ∙ there.1 in cc in
    record {
      old_object = λ q h. looked q ∙ ap (λ b. cond b (Some (fresh shape)) (object_at g q)) (unlike q n (differ q h));
      old_at = λ q h. ap (λ b. cond b place (at q)) (unlike q n (differ q h));
      own_object = looked n ∙ ap (λ b. cond b (Some (fresh shape)) (object_at g n)) (same_itself n);
      own_at = placed_here at n place;
    }

-- what the new object is, and where
own_is : (g h : Graph) (at to : Name → ℕ) (ms : List Name) (n : Name) (place : ℕ) (shape : Shape) (q : Name) (o : Object) → IsBeside g h at to ms n place shape → q ≡ n → object_at h q ≡ Some o
    → (to q ≡ place) × (granules_of o ≡ granule_count shape)
own_is g h at to ms n place shape q o is e there =
    let both : Some o ≡ Some (fresh shape) = sym there ∙ ap (object_at h) e ∙ is.own_object in
    let same : o ≡ fresh shape = cc in
    (ap to e ∙ is.own_at, ap granules_of same ∙ size_fresh shape)

-- ---- the epoch state once it is made

-- a member afterwards is the new object, or was one
member_split : (m : Moment) (n q : Name) → IsTrue (has (m.unreclaimed ++ insert_name n m.made) q) → (q ≡ n) ⊎ IsTrue (has (members m) q)
member_split m n q h = elim (in_either m.unreclaimed (insert_name n m.made) q h) [
  | inl k ↦ inr (in_first m.unreclaimed m.made q k)
  | inr k ↦ elim (insert_cases n m.made q k) [ inl e ↦ inl e | inr a ↦ inr (in_second m.unreclaimed m.made q a) ]
]

-- granules of an object by another place and size that are equal
within : (at size place count k : ℕ) → (at ≡ place) × (size ≡ count) → granule_of at ≤ k → k < granule_of at + size → (granule_of place ≤ k) × (k < granule_of place + count)
within at size place count k same first behind = let here = same.0 in let many = same.1 in (omega (arith, first, here), omega (arith, behind, here, many))

-- what lies in drawn memory, by a place and size that are equal
lie_moved : (b : Beginning) (d : Drawers) (t at size place count : ℕ) → (at ≡ place) × (size ≡ count) → LieInDrawn b d t (granule_of place) (granule_of place + count) → LieInDrawn b d t (granule_of at) (granule_of at + size)
lie_moved b d t at size place count same lies =
    subst (λ p. LieInDrawn b d t (granule_of p) (granule_of p + size)) (sym same.0) (subst (λ z. LieInDrawn b d t (granule_of place) (granule_of place + z)) (sym same.1) lies)

-- what there is once an object is made
abbrev made_epoch_state : Beginning → EpochState → ℕ → ThreadState → ℕ → ℕ → Shape → EpochState
made_epoch_state b s i v dest place shape = happen b s i v (event.MakesObject (op.New dest shape) dest place shape)

-- what its maker shows
abbrev made_thread_state : Beginning → EpochState → ThreadState → ℕ → ℕ → Shape → ThreadState
made_thread_state b s v dest place shape =
    done_with (record v { registers = slice_set v.registers dest (record { 0 = place }) }) (op.New dest shape) (reply.New (next_name (moment_of b s).state.graph v.thread))

-- the name of the new object
abbrev new_name : Beginning → EpochState → ThreadState → Name
new_name b s v = next_name (moment_of b s).state.graph v.thread

-- the owner of its granules
abbrev IsTheNew : Beginning → EpochState → ThreadState → Owner → Type 0
IsTheNew b s v x = x ≡ OfMember (new_name b s v)

-- an object that is made keeps drawn memory one maker's
pub make_kept : (b : Beginning) (s : EpochState) (i : ℕ) (v : ThreadState) (dest place : ℕ) (shape : Shape) → IsEpoch b s → slice_get s.thread_states i ≡ Some v → MayMake v (op.New dest shape) dest place shape
    → IsDrawnMemory b (made_epoch_state b s i v dest place shape)
make_kept b s i v dest place shape is there may =
    let u : EpochState = made_epoch_state b s i v dest place shape in
    let w : ThreadState = made_thread_state b s v dest place shape in
    let m : Moment = moment_of b s in
    let n : Name = new_name b s v in
    let g : Graph = m.state.graph in
    let h : Graph = with_new g v.thread (fresh shape) in
    let known = acts b s i v is there in
    let new = beside g s.at (members m) v.thread place shape known.row (λ q member. let a = known.image.stands q member in (a.0, a.1)) in
    let turns : Turns s u i v w = turns_still s u i v w there refl refl refl in
    let none : IsIdle b w.stage = idle b w.stage (after_idle v (op.New dest shape)) in
    let makes = is.drawn.makes i v place shape may.wiped there may.stage in
    let d : Drawers = is.drawn.drawers in
    let maker : (q : Name) → q ≡ n → i + 1 ≡ q.thread = λ q e. sym (is.called.threads i v there) ∙ sym (ap (λ (x : Name). x.thread) e) in
    let own = λ (q : Name) (o : Object) (e : q ≡ n) (found : object_at h q ≡ Some o). own_is g h s.at u.at (members m) n place shape q o new e found in
    let back : GoBack b s u i v w (InMaking i) (IsTheNew b s v) = record {
      hand = λ k has. absurd (none.hand k has);
      span = λ from k has. inl has;
      making = λ k has. absurd (none.making k has);
      member = λ q k of. elim (member_split m n q of.member) [
        | inl e ↦ inr (ap OfMember e, (v, there, subst (λ z. IsOfMaking z k) (sym may.stage) (within (u.at q) (granules_of of.object) place (granule_count shape) k (own q of.object e of.covers.object) of.covers.first of.covers.behind)))
        | inr old ↦ inl (record {
          member = old;
          object = of.object;
          covers = covers_moved g h s.at u.at q of.object of.object k (new.old_at q old) refl (sym (new.old_object q old) ∙ of.covers.object) of.covers;
        })
      ];
      apart = λ x y k is_new has_x has_y other. elim other [
        | inl e ↦ is_new ∙ sym e
        | inr e ↦ absurd (none.making k (shown_is (λ z. IsOfMaking z.stage k) s u i v w turns (subst (λ z. Owns b u z k) e has_y)))
      ];
    } in
    drawn_kept b s u i v w is.drawn d turns (one_kept b s u i v w (InMaking i) (IsTheNew b s v) turns back is.drawn.one)
    (record {
      more = same_drawers d;
      numbers = drawers_still b s u d is.drawn.numbers (record { runs = refl; blocks = refl });
      hand = none.drawn d (i + 1);
      spans = λ from. is.drawn.spans i v from there;
      makes = λ p made wiped e. absurd (none.makes p made wiped e);
    })
    (λ q o made found. elim (insert_cases n m.made q made) [
      | inl e ↦ inr (lie_moved b d q.thread (u.at q) (granules_of o) place (granule_count shape) (own q o e found) (subst (λ t. LieInDrawn b d t (granule_of place) (granule_of place + granule_count shape)) (maker q e) makes.drawn))
      | inr old ↦
          let member = in_second m.unreclaimed m.made q old in
          let was : object_at g q ≡ Some o = sym (new.old_object q member) ∙ found in
          made_more b d d s u q o o (same_drawers d) (new.old_at q member) was refl (is.drawn.made q o old was)
    ])
    (λ k drawn listed. used_kept b s u i v w k turns
    (λ hand. absurd (subst (λ z. IsHandOf z k) may.stage hand))
    (λ making. inr (inr (record {
      name = n;
      made = insert_new n m.made;
      granule = subst (λ p. HasGranule (block_span ((opening_tables b).frees k)) (granule_of p)) (sym new.own_at) (subst (λ z. MakesInBlock b z k) may.stage making);
    })))
    (λ made. inr (inr (record {
      name = made.name;
      made = insert_old n m.made made.name made.made;
      granule = subst (λ p. HasGranule (block_span ((opening_tables b).frees k)) (granule_of p)) (sym (new.old_at made.name (in_second m.unreclaimed m.made made.name made.made))) made.granule;
    })))
    (is.drawn.used k drawn listed))
