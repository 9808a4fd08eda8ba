-- Once a trace is finished, what is marked is what isn't garbage. Each name of the snapshot that still stands is marked, by induction on how
-- it was reached; and what was left to mark is inside, by induction on why it was.
use Rattle.std.proofs.Common.{◌≡◌, ℕ, refl, sym, ap, subst, ◌∙◌, inl, inr, ◌⊎◌, true, false, [], IsTrue}
use Rattle.std.specs.Prelude.{is_some}
use Rattle.std.proofs.lemmas.Bool.{false_from_ne_true}
use Rattle.lxr_layout.specs.declared.Name.{Name}
use Rattle.lxr_graph.specs.Names.{has}
use Rattle.lxr_graph.specs.State.{State, object_at, world_name}
use Rattle.lxr_graph.proofs.NameSets.{not_both}
use Rattle.lxr_image.specs.declared.space.Space.{Space}
use Rattle.lxr_image.specs.Tables.{Tables}
use Rattle.lxr_image.specs.Spaces.{tables_of}
use Rattle.lxr_image.specs.Reads.{granule_of}
use Rattle.lxr_model.specs.Moments.{Moment, Trace}
use Rattle.lxr_model.specs.Reachable.{Reachable, Refers, held, referred, the_world}
use Rattle.lxr_model_counting.specs.Following.{IsLive}
use Rattle.lxr_model_counting.specs.Garbage.{IsGarbageOf}
use Rattle.lxr_model_counting.proofs.DistinctLemmas.{tested}
use Rattle.lxr_model_counting.proofs.FollowingLemmas.{live_reachable}
use Rattle.lxr_invariant.specs.AbstractState.{AbstractState}
use Rattle.lxr_invariant.specs.Settled.{IsSettled}
use Rattle.lxr_invariant.specs.Tracing.{gray as left_gray, referred as left_referred, IsCovered, IsInSnapshot, IsMarked, IsRoot, IsToBeMarked, TraceHolds}
use Rattle.lxr_invariant.proofs.InsideLemmas.{refers_inside}
use Rattle.lxr_invariant.proofs.NameLemmas.{in_first}
use Rattle.lxr_pause_trace.specs.Tracing.{BeginsTrace, FinishesTrace}
use Rattle.lxr_pause_trace_laws.specs.Laws.{CollectFindsGarbage, EndFindsGarbage, FindsGarbage, HadObjects}
use Rattle.lxr_pause_trace_laws.proofs.GranuleLemmas.{one_name}

-- a root is reachable
pub root_reachable : (s : State) (n : Name) → IsRoot s n → Reachable s n
root_reachable s n (inl e) = subst (Reachable s) (sym e) the_world
root_reachable s n (inr h) = held h

-- ---- what is settled

module _ (m : Moment) (settled : IsSettled m) where
  -- nothing was made since the pause, so what is live is reachable now
  pub live_now : (n : Name) → IsLive m n → Reachable m.state n
  live_now n (inl r) = subst (λ s. Reachable s n) settled.same r
  live_now n (inr k) = let e : false ≡ true = sym (ap (λ ns. has ns n) settled.none_made) ∙ k in absurd (cc)

  pub refers_then : (u n : Name) → Refers m.state.graph u n → Refers m.last.graph u n
  refers_then u n f = subst (λ s. Refers s.graph u n) (sym settled.same) f

-- what a finished trace leaves of marks
module _ (before after : Space) (m : Moment) (at : Name → ℕ) (settled : IsSettled m) (finishes : FinishesTrace before after m at) where
  abbrev t : Tables
  t = tables_of before

  abbrev u : Tables
  u = tables_of after

  -- what is reachable stands, and what something refers to
  pub stands_now : (n : Name) → Reachable m.state n → IsTrue (has m.unreclaimed n)
  stands_now n r = finishes.holds.follows.kept n (subst (λ s. Reachable s n) (sym settled.same) r)

  pub stands_referred : (x n : Name) → IsTrue (has m.unreclaimed x) → Refers m.state.graph x n → IsTrue (has m.unreclaimed n)
  stands_referred x n h f = finishes.holds.follows.closed x n h (refers_then m settled x n f)

  pub left_stands : (n : Name) → IsToBeMarked t m at n → IsTrue (has m.unreclaimed n)
  left_stands n (left_gray _ member unmarked is) = member
  left_stands n (left_referred x _ waits f unmarked) = stands_referred x n (left_stands x waits) f

  pub marked_still : (n : Name) → IsTrue (has m.unreclaimed n) → IsMarked t at n → IsMarked u at n
  marked_still n h k = (finishes.marks n h).1 (inl k)

  pub marked_left : (n : Name) → IsToBeMarked t m at n → IsMarked u at n
  marked_left n waits = (finishes.marks n (left_stands n waits)).1 (inr waits)

  -- what was to be marked refers to what is marked
  pub marked_referred : (x n : Name) → IsToBeMarked t m at x → Refers m.state.graph x n → IsMarked u at n
  marked_referred x n waits f = elim (tested (t.marks (granule_of (at n)))) [
    | inl k ↦ marked_still n (stands_referred x n (left_stands x waits) f) k
    | inr none ↦ marked_left n (left_referred x n waits f none)
  ]

  pub marked_gray : (n : Name) → IsTrue (has m.unreclaimed n) → IsTrue (t.grays (granule_of (at n))) → IsMarked u at n
  marked_gray n h is = elim (tested (t.marks (granule_of (at n)))) [
    | inl k ↦ marked_still n h k
    | inr none ↦ marked_left n (left_gray n h none is)
  ]

-- ---- a trace that ran

module _ (before after : Space) (g : AbstractState) (trace : Trace) (settled : IsSettled g.moment) (is : TraceHolds before.limits (tables_of before) [] g trace)
    (finishes : FinishesTrace before after g.moment g.at) where
  -- what was left to mark is inside
  pub left_inside : (n : Name) → IsToBeMarked (tables_of before) g.moment g.at n → IsInSnapshot g.moment trace n
  left_inside n (left_gray _ member unmarked is_gray) = is.inside.grays n member is_gray
  left_inside n (left_referred x _ waits f unmarked) =
      let h = left_stands before after g.moment g.at settled finishes x waits in
      refers_inside (tables_of before) g.moment g.at trace is.inside is.snapshot is.reachable x n h (left_inside x waits) f (stands_referred before after g.moment g.at settled finishes x n h f)

module _ (before after : Space) (g : AbstractState) (trace : Trace) (settled : IsSettled g.moment) (had : HadObjects trace)
    (is : TraceHolds before.limits (tables_of before) [] g trace) (finishes : FinishesTrace before after g.moment g.at) where
  abbrev m : Moment
  m = g.moment

  abbrev at : Name → ℕ
  at = g.at

  marked_covered : (n : Name) → IsTrue (has m.unreclaimed n) → IsCovered (tables_of before) m at [] n → IsMarked (tables_of after) at n
  marked_covered n h (inl none) = not_both (has m.unreclaimed n) h none
  marked_covered n h (inr (inl (k, is_gray))) = marked_gray before after m at settled finishes n h is_gray
  marked_covered n h (inr (inr (inl (k, marked)))) = marked_still before after m at settled finishes n h marked
  marked_covered n h (inr (inr (inr (k, (j, entry, there, old))))) = absurd (cc)

  -- what the snapshot has of what stands is marked
  marked_snapshot : (n : Name) → Reachable trace.state n → IsTrue (has m.unreclaimed n) → IsMarked (tables_of after) at n
  marked_snapshot n the_world h = marked_covered world_name h is.covered.world
  marked_snapshot n (held k) h = marked_covered n h (is.covered.registers n k)
  marked_snapshot n (referred {m = x} r (i, e)) h = elim (is.covered.references x n i r e) [
    | inl c ↦ marked_covered n h c
    | inr scan ↦
        let marked = marked_snapshot x r scan.member in
        elim ((finishes.marks x scan.member).0 marked) [
          | inl was ↦ not_both ((tables_of before).marks (granule_of (at x))) was scan.unmarked
          | inr waits ↦ marked_referred before after m at settled finishes x n waits (i, scan.holds)
        ]
  ]

  -- so is all that stands and isn't garbage
  marked_or_garbage : (n : Name) → IsTrue (has m.unreclaimed n) → IsMarked (tables_of after) at n ⊎ IsGarbageOf trace n
  marked_or_garbage n h = elim (is.inside.members n h) [
    | inr young ↦ inl (marked_still before after m at settled finishes n h young.1)
    | inl old ↦ elim (tested (has is.snapshot n)) [
      | inl k ↦ inl (marked_snapshot n ((is.reachable.members n).0 k) h)
      | inr none ↦ inr (record { member = old; unreachable = λ r. not_both (has is.snapshot n) ((is.reachable.members n).1 r) none })
    ]
  ]

  marked_inside : (n : Name) → IsTrue (has m.unreclaimed n) → IsMarked (tables_of after) at n → IsInSnapshot m trace n
  marked_inside n h marked = elim ((finishes.marks n h).0 marked) [ inl was ↦ is.inside.marks n h was | inr waits ↦ left_inside before after g trace settled is finishes n waits ]

  -- no garbage is inside: it had its object when the trace began
  garbage_outside : (n : Name) → IsGarbageOf trace n → IsInSnapshot m trace n → ⊥
  garbage_outside n q (inl r) = q.unreachable r
  garbage_outside n q (inr young) = let none : is_some (object_at trace.state.graph n) ≡ false = ap is_some young.0 in not_both (is_some (object_at trace.state.graph n)) (had n q.member) none

  marked_live : (n : Name) → Reachable m.state n → IsMarked (tables_of after) at n
  marked_live n r = elim (marked_or_garbage n (stands_now before after m at settled finishes n r)) [
    | inl k ↦ k
    | inr q ↦ absurd ((is.inside.garbage n q).dropped (live_reachable m finishes.holds.follows n r))
  ]

  found : FindsGarbage after m at (IsGarbageOf trace)
  found = record {
    roots = λ n root. elim root [ inl e ↦ subst (IsMarked (tables_of after) at) (sym e) (marked_live world_name the_world) | inr k ↦ marked_live n (held k) ];
    closed = λ x n h marked f. elim (marked_or_garbage n (stands_referred before after m at settled finishes x n h f)) [
      | inl k ↦ k
      | inr q ↦ absurd ((is.inside.referred x n h (marked_inside x h marked) q).1 f)
    ];
    garbage = λ n h. (
      λ none. elim (marked_or_garbage n h) [ inl k ↦ not_both ((tables_of after).marks (granule_of (at n))) k none | inr q ↦ q ],
      λ q. false_from_ne_true ((tables_of after).marks (granule_of (at n))) (λ k. garbage_outside n q (marked_inside n h k)),
    );
  }

pub end_finds : EndFindsGarbage
end_finds before after g trace settled had is finishes =
    (found before after g trace settled had is finishes, λ n q. (is.inside.garbage n q).member)

-- ---- a trace of a collecting pause

module _ (before begun after : Space) (m : Moment) (at : Name → ℕ) (settled : IsSettled m) (begins : BeginsTrace before begun m at)
    (finishes : FinishesTrace begun after m at) where
  stands : (n : Name) → Reachable m.state n → IsTrue (has m.unreclaimed n)
  stands = stands_now begun after m at settled finishes

  marked_root : (n : Name) → IsRoot m.state n → IsMarked (tables_of after) at n
  marked_root n root = marked_gray begun after m at settled finishes n (stands n (root_reachable m.state n root)) ((begins.grays (granule_of (at n))).1 (n, root, refl))

  left_to_mark : (n : Name) → IsTrue (has m.unreclaimed n) → IsMarked (tables_of after) at n → IsToBeMarked (tables_of begun) m at n
  left_to_mark n h k = elim ((finishes.marks n h).0 k) [ inl was ↦ not_both ((tables_of begun).marks (granule_of (at n))) was (begins.none_marked (granule_of (at n))) | inr waits ↦ waits ]

  marked_reached : (n : Name) → Reachable m.state n → IsMarked (tables_of after) at n
  marked_reached n the_world = marked_root world_name (inl refl)
  marked_reached n (held h) = marked_root n (inr h)
  marked_reached n (referred {m = x} r f) = marked_referred begun after m at settled finishes x n (left_to_mark x (stands x r) (marked_reached x r)) f

  -- what is gray when the trace begins is a root
  left_reached : (n : Name) → IsToBeMarked (tables_of begun) m at n → Reachable m.state n
  left_reached n (left_gray _ member unmarked is_gray) =
      let r = (begins.grays (granule_of (at n))).0 is_gray in
      let reached = root_reachable m.state r.0 r.1 in
      let there : (x : Name) → IsTrue (has m.unreclaimed x) → IsTrue (has _ x) = in_first m.unreclaimed m.made in
      let same : n ≡ r.0 = one_name (tables_of begun) begun.limits.blocks at m.state.graph _ begins.holds.image.image n r.0 (there n member) (there r.0 (stands r.0 reached)) r.2 in
      subst (Reachable m.state) (sym same) reached
  left_reached n (left_referred x _ waits f unmarked) = referred (left_reached x waits) f

  collected : FindsGarbage after m at (λ n. ¬ Reachable m.state n)
  collected = record {
    roots = marked_root;
    closed = λ x n h marked f. marked_reached n (referred (left_reached x (left_to_mark x h marked)) f);
    garbage = λ n h. (
      λ none r. not_both ((tables_of after).marks (granule_of (at n))) (marked_reached n r) none,
      λ unreached. false_from_ne_true ((tables_of after).marks (granule_of (at n))) (λ k. unreached (left_reached n (left_to_mark n h k))),
    );
  }

pub collect_finds : CollectFindsGarbage
collect_finds before begun after m at settled begins finishes = collected before begun after m at settled begins finishes
