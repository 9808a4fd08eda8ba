-- Where nothing is dead, all holds of a trace that begins: roots are gray, nothing is marked, and each reference is still to be scanned. Which
-- blocks are Chosen is nothing to it, since nothing is scanned yet.
-- Garbage that isn't stuck has a reference, and only from garbage.
use Rattle.std.proofs.Common.{◌≡◌, ℕ, ◌+◌, ◌*◌, ◌≤◌, refl, sym, ap, subst, ◌∙◌, inl, inr, ◌⊎◌, arith, Bool, true, false, List, [], IsTrue}
use Rattle.std.specs.Prelude.{◌&&◌, filter, is_some}
use Rattle.std.proofs.lemmas.Bool.{and_from, and_parts}
use Rattle.std.proofs.lemmas.List.Kept.{IsStrictlySortedBy-filter}
use Rattle.std.proofs.lemmas.Map.Views.{any-filter_same}
use Rattle.lxr_layout.specs.declared.Name.{Name}
use Rattle.lxr_layout.specs.declared.TheConstants.{REMEMBERED_CURSOR}
use Rattle.lxr_graph.specs.Names.{AreInOrder, IsSetOf, has, name_order, same_name}
use Rattle.lxr_graph.specs.State.{State, object_at, world_name}
use Rattle.lxr_graph.specs.History.{PauseReport}
use Rattle.lxr_graph.proofs.NameSets.{not_both, same_names}
use Rattle.lxr_image.specs.declared.space.Space.{Space}
use Rattle.lxr_image.specs.Tables.{Tables}
use Rattle.lxr_image.specs.Spaces.{tables_of}
use Rattle.lxr_image.specs.Reads.{granule_of}
use Rattle.lxr_model.specs.Dead.{Dead}
use Rattle.lxr_model.specs.Moments.{Moment, Trace, rememberable}
use Rattle.lxr_model.specs.Reachable.{Reachable, Refers, held, referred, the_world}
use Rattle.lxr_model.specs.References.{reference_slots}
use Rattle.lxr_model.proofs.DecideLemmas.{decide_reachable}
use Rattle.lxr_model_counting.specs.Garbage.{IsGarbageOf}
use Rattle.lxr_model_counting.proofs.DistinctLemmas.{in_order_distinct}
use Rattle.lxr_model_counting.proofs.LeavingLemmas.{garbage_referred}
use Rattle.lxr_invariant.specs.Counting.{IsUndecremented}
use Rattle.lxr_invariant.specs.Settled.{IsSettled}
use Rattle.lxr_invariant.specs.Tracing.{IsCovered, IsInSnapshot, IsRememberedSoFar, IsRoot, MarksStayInside, SnapshotIsCovered, StaysGarbage, TraceHolds, is_unscanned, most_remembered}
use Rattle.lxr_invariant.proofs.NameLemmas.{in_first}
use Rattle.lxr_invariant.proofs.ScanLemmas.{slots_within}
use Rattle.lxr_invariant.proofs.MostLemmas.{parts_later}
use Rattle.lxr_pause_trace.specs.Tracing.{BeginsTrace}
use Rattle.lxr_pause_trace_laws.specs.Laws.{BeginningTraces, fresh_trace}
use Rattle.lxr_pause_trace_laws.proofs.EndLemmas.{live_now, root_reachable}
use Rattle.lxr_pause_trace_laws.proofs.GranuleLemmas.{one_name}
use Rattle.lxr_pause_trace_laws.proofs.PackingLemmas.{references_fit}

-- ---- what can be decided has a list

-- whether the first of two holds
abbrev is_left : {A B : Type 0} → A ⊎ B → Bool
is_left (inl a) = true
is_left (inr b) = false

left_holds : {A B : Type 0} (c : A ⊎ B) → is_left c ≡ true → A
left_holds (inl a) e = a
left_holds (inr b) e = absurd (let k : false ≡ true = e in cc)

holds_left : {A : Type 0} (c : A ⊎ (A → ⊥)) → A → is_left c ≡ true
holds_left (inl a) b = refl
holds_left (inr never) b = absurd (never b)

-- the names of a list in order for which something can be decided that holds of none outside it
pub record HasList (P : Name → Type 0) : Type 0 where
  pub names : List Name
  pub are : IsSetOf names P

decided_list : (P : Name → Type 0) (us : List Name) → AreInOrder us → ((n : Name) → P n ⊎ (P n → ⊥)) → ((n : Name) → P n → IsTrue (has us n)) → HasList P
decided_list P us in_order decide within =
    let test : Name → Bool = λ n. is_left (decide n) in
    let same : (n : Name) → has (filter test us) n ≡ (test n && has us n) = λ n. any-filter_same (same_name n) test (test n) (λ k e. ap test (sym (same_names n k e))) us in
    record {
      names = filter test us;
      are = record {
        in_order = IsStrictlySortedBy-filter name_order test us in_order;
        members = λ n. (
          λ h. left_holds (decide n) (and_parts (test n) (has us n) (sym (same n) ∙ h)).0,
          λ p. same n ∙ and_from (test n) (has us n) (holds_left (decide n) p) (within n p),
        );
      };
    }

-- ---- a trace that begins

module _ (before after : Space) (states entries cursors : ℕ → ℕ) (m : Moment) (at : Name → ℕ) (reported : PauseReport) (k : ℕ) (settled : IsSettled m)
    (undecremented : IsUndecremented (tables_of before) m at) (undead : (n : Name) → ¬ Dead m.state m.unreclaimed m.stuck n)
    (begins : BeginsTrace before after m at) (forgotten : cursors REMEMBERED_CURSOR ≡ 0) where
  abbrev u : Tables
  u = record (tables_of after) { states = states; remembered = entries; cursors = cursors }

  abbrev trace : Trace
  trace = fresh_trace m k

  -- ---- the snapshot

  stands : (n : Name) → Reachable m.state n → IsTrue (has m.unreclaimed n)
  stands n r = begins.holds.follows.kept n (subst (λ s. Reachable s n) (sym settled.same) r)

  listed : HasList (Reachable m.state)
  listed = decided_list (Reachable m.state) m.unreclaimed begins.holds.follows.unreclaimed (decide_reachable m.state m.unreclaimed stands) stands

  root_gray : (n : Name) → IsRoot m.state n → Reachable m.state n → IsCovered u m at [] n
  root_gray n root r = inr (inl (stands n r, (begins.grays (granule_of (at n))).1 (n, root, refl)))

  none_done : (j : ℕ) → u.dones j ≡ false
  none_done j = ap (λ z. z.dones j) begins.tables ∙ undecremented.none_done j

  snapshot_covered : SnapshotIsCovered u m at [] trace
  snapshot_covered = record {
    world = root_gray world_name (inl refl) the_world;
    registers = λ n h. root_gray n (inr h) (held h);
    references = λ x v i r e. inr (record { member = stands x r; unmarked = begins.none_marked (granule_of (at x)); undone = none_done (granule_of (at x)); holds = e });
  }

  -- ---- what stays inside

  -- what is gray is a root
  gray_reachable : (n : Name) → IsTrue (has m.unreclaimed n) → IsTrue (u.grays (granule_of (at n))) → Reachable m.state n
  gray_reachable n h is_gray =
      let r = (begins.grays (granule_of (at n))).0 is_gray in
      let reached = root_reachable m.state r.0 r.1 in
      let there : (x : Name) → IsTrue (has m.unreclaimed x) → IsTrue (has _ x) = in_first m.unreclaimed m.made in
      let same : n ≡ r.0 = one_name (tables_of after) after.limits.blocks at m.state.graph _ begins.holds.image.image n r.0 (there n h) (there r.0 (stands r.0 reached)) r.2 in
      subst (Reachable m.state) (sym same) reached

  inside_reachable : (n : Name) → IsInSnapshot m trace n → Reachable m.state n
  inside_reachable n (inl r) = r
  inside_reachable n (inr young) = let none : is_some (object_at m.state.graph n) ≡ false = ap is_some young.0 in not_both (is_some (object_at m.state.graph n)) young.1 none

  unreferred : (x n : Name) → IsInSnapshot m trace x → IsGarbageOf trace n → ¬ Refers m.state.graph x n
  unreferred x n inside q f = q.unreachable (referred (inside_reachable x inside) f)

  garbage_stays : (n : Name) → IsGarbageOf trace n → StaysGarbage u m at trace n
  garbage_stays n q = record {
    member = q.member;
    dropped = λ live. q.unreachable (live_now m settled n live);
    undone = none_done (granule_of (at n));
    references = refl;
    referred = λ unstuck.
        let r = garbage_referred m.state m.unreclaimed m.stuck undead n q.member unstuck (λ h. q.unreachable (held h)) in
        (r.0, record { member = r.1; unreachable = r.3 q.unreachable }, r.2);
  }

  stay_inside : MarksStayInside u m at trace
  stay_inside = record {
    marks = λ n h marked. not_both (u.marks (granule_of (at n))) marked (begins.none_marked (granule_of (at n)));
    grays = λ n h is_gray. inl (gray_reachable n h is_gray);
    dones = λ n h done. not_both (u.dones (granule_of (at n))) done (none_done (granule_of (at n)));
    members = λ n h. inl h;
    referred = λ x n h inside q. (λ f. unreferred x n inside q (subst (λ s. Refers s.graph x n) settled.same f), unreferred x n inside q);
    garbage = garbage_stays;
  }

  -- ---- what is remembered

  remembered : IsRememberedSoFar after.limits u m at trace listed.names
  remembered = record {
    fields = λ n v i h scanned e bit chosen. elim scanned [
      | inl marked ↦ not_both (u.marks (granule_of (at n))) marked (begins.none_marked (granule_of (at n)))
      | inr young ↦ not_both (has m.unreclaimed n) h young
    ];
    entries = λ j drawn within. absurd (omega (arith, drawn, forgotten));
    bound =
        let within = slots_within m.last.graph (is_unscanned u m at) listed.names in
        let same = ap (λ (s : State). reference_slots s.graph listed.names) settled.same in
        omega (arith, forgotten, within, same);
  }

  -- the references of the snapshot's objects are at most the heap's words
  few : rememberable trace listed.names ≤ most_remembered after.limits * (m.number + 1)
  few =
      let within : (x : Name) → IsTrue (has listed.names x) → IsTrue (has _ x) = λ x h. in_first m.unreclaimed m.made x (stands x ((listed.are.members x).0 h)) in
      let fit = references_fit (tables_of after) after.limits.blocks at m.state.graph _ begins.holds.image.image listed.names (in_order_distinct listed.names listed.are.in_order) within in
      let first : rememberable trace listed.names ≤ most_remembered after.limits * (0 + 1) = omega (arith, fit) in
      parts_later (most_remembered after.limits) (rememberable trace listed.names) 0 m.number first (omega arith)

  begun : TraceHolds after.limits u [] (record { moment = m; at = at; reported = reported }) trace
  begun = record {
    snapshot = listed.names;
    reachable = listed.are;
    covered = snapshot_covered;
    inside = stay_inside;
    handled = λ x n h done f. not_both (u.dones (granule_of (at x))) done (none_done (granule_of (at x)));
    remembered = remembered;
    few = few;
  }

pub beginning : BeginningTraces
beginning before after chosen m at reported k settled undecremented undead begins same forgotten =
    subst (λ t. TraceHolds after.limits t [] (record { moment = m; at = at; reported = reported }) (fresh_trace m k)) (sym same)
    (begun before after chosen.states chosen.remembered chosen.cursors m at reported k settled undecremented undead begins forgotten)
