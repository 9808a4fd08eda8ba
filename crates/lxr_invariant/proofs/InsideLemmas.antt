-- What follows at one moment from marks that stay inside a snapshot: each unreclaimed name is inside or garbage, what is inside refers to
-- what is inside, and garbage follows its trace and isn't dead.
use Rattle.std.proofs.Common.{◌≡◌, ℕ, sym, ap, ◌∙◌, inl, inr, ◌⊎◌, false, List, IsTrue}
use Rattle.std.specs.Prelude.{slice_get}
use Rattle.std.proofs.lemmas.Bool.{false_from_ne_true}
use Rattle.lxr_layout.specs.declared.Name.{Name}
use Rattle.lxr_graph.specs.Names.{IsSetOf, has}
use Rattle.lxr_graph.proofs.NameSets.{not_both}
use Rattle.lxr_image.specs.Tables.{Tables}
use Rattle.lxr_model.specs.Dead.{Dead, dead}
use Rattle.lxr_model.specs.Moments.{Moment, Trace}
use Rattle.lxr_model.specs.Reachable.{Reachable, Refers}
use Rattle.lxr_model_counting.specs.Distinct.{has_field}
use Rattle.lxr_model_counting.specs.Following.{FollowsPause}
use Rattle.lxr_model_counting.specs.Garbage.{FollowsTrace, IsGarbageOf}
use Rattle.lxr_model_counting.proofs.DistinctLemmas.{tested}
use Rattle.lxr_invariant.specs.Tracing.{IsInSnapshot, MarksStayInside}

module _ (t : Tables) (m : Moment) (at : Name → ℕ) (trace : Trace) (is : MarksStayInside t m at trace) where
  -- ---- what is inside

  module _ (snapshot : List Name) (names : IsSetOf snapshot (Reachable trace.state)) where
    -- whether a name was reachable as the trace began, its snapshot tells
    pub inside_or_garbage : (n : Name) → IsTrue (has m.unreclaimed n) → IsInSnapshot m trace n ⊎ IsGarbageOf trace n
    inside_or_garbage n member = elim (is.members n member) [
      | inr younger ↦ inl (inr younger.0)
      | inl old ↦ elim (tested (has snapshot n)) [
        | inl k ↦ inl (inl ((names.members n).0 k))
        | inr none ↦ inr (record { member = old; unreachable = λ r. not_both (has snapshot n) ((names.members n).1 r) none })
      ]
    ]

    pub inside_unless_garbage : (n : Name) → IsTrue (has m.unreclaimed n) → (IsGarbageOf trace n → ⊥) → IsInSnapshot m trace n
    inside_unless_garbage n member never = elim (inside_or_garbage n member) [ inl k ↦ k | inr g ↦ absurd (never g) ]

    -- what it refers to now is inside, and so is what it referred to at the last pause
    pub refers_inside : (u n : Name) → IsTrue (has m.unreclaimed u) → IsInSnapshot m trace u → Refers m.state.graph u n → IsTrue (has m.unreclaimed n) → IsInSnapshot m trace n
    refers_inside u n in_u inside f in_n = inside_unless_garbage n in_n (λ g. (is.referred u n in_u inside g).1 f)

    pub referred_inside : (u n : Name) → IsTrue (has m.unreclaimed u) → IsInSnapshot m trace u → Refers m.last.graph u n → IsTrue (has m.unreclaimed n) → IsInSnapshot m trace n
    referred_inside u n in_u inside f in_n = inside_unless_garbage n in_n (λ g. (is.referred u n in_u inside g).0 f)

    -- garbage follows its trace
    pub follows_trace : FollowsTrace m trace
    follows_trace = record {
      garbage = λ n g.
          let stays = is.garbage n g in
          record { member = stays.member; dropped = stays.dropped; references = stays.references; referred = stays.referred };
      apart = λ u n in_u g f. elim (inside_or_garbage u in_u) [
        | inl inside ↦ absurd ((is.referred u n in_u inside g).1 f)
        | inr k ↦ k
      ];
    }

  -- ---- what is dead

  module _ (follows : FollowsPause m) where
    -- garbage referred at the last pause to what it referred to as the trace began
    refers_before : (u n : Name) → IsGarbageOf trace u → Refers trace.state.graph u n → Refers m.last.graph u n
    refers_before u n g f =
        let stays = is.garbage u g in
        let unwritten : has_field m.written (u, f.0) ≡ false = false_from_ne_true (has_field m.written (u, f.0)) (λ w. stays.dropped (inl (follows.written u f.0 w).1)) in
        (f.0, sym (follows.unwritten u f.0 stays.member unwritten) ∙ ap (λ rs. slice_get rs f.0) stays.references ∙ f.1)

    -- so garbage isn't dead: garbage that isn't dead refers to it, unless it is stuck
    pub garbage_not_dead : (n : Name) → IsGarbageOf trace n → Dead m.last m.unreclaimed m.stuck n → ⊥
    garbage_not_dead n g (dead member unstuck unheld each) =
        let r = (is.garbage n g).referred unstuck in
        garbage_not_dead r.0 r.1 (each r.0 (is.garbage r.0 r.1).member (refers_before r.0 n r.1 r.2))
