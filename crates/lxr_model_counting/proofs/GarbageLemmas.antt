-- What was garbage when a trace began stays so: the pause that began it drained, so garbage that isn't stuck has a
-- reference from garbage, which never changes; and what refers to it anew would have had to reach it.
use Rattle.std.proofs.Common.{◌≡◌, ℕ, ◌<◌, ◌≤◌, refl, sym, ap, ◌∙◌, inl, inr, Bool, true, false, List, IsTrue, length}
use Rattle.std.specs.Prelude.{Option, Some, None, is_some, slice_get}
use Rattle.std.proofs.lemmas.Bool.{false_from_ne_true}
use Rattle.lxr_layout.specs.declared.Name.{Name}
use Rattle.lxr_graph.specs.declared.Op.{Op}
use Rattle.lxr_graph.specs.declared.Op.TheVariants as op
use Rattle.lxr_graph.specs.declared.Reply.{Reply}
use Rattle.lxr_graph.specs.declared.Reply.TheVariants as reply
use Rattle.lxr_graph.specs.declared.report.Kind.{Kind}
use Rattle.lxr_graph.specs.declared.report.Kind.TheVariants as kind
use Rattle.lxr_graph.specs.Names.{has, without, union}
use Rattle.lxr_graph.specs.State.{State, object_at, refs_of}
use Rattle.lxr_graph.specs.Step.{step}
use Rattle.lxr_graph.specs.History.{PauseReport}
use Rattle.lxr_graph.proofs.NameSets.{not_both, union_cases, union_right, without_parts, in_without}
use Rattle.lxr_model.specs.Reachable.{held, referred, Refers}
use Rattle.lxr_model.specs.Dead.{Dead, dead}
use Rattle.lxr_model.specs.Moments.{Trace, Moment, after_pause, going_on, trace_after, trace_from, unreclaimed_after, stuck_after}
use Rattle.lxr_model.specs.Reports.{PauseParts, IsReportWith, IsSwept, IsSweptAtEnd, AreDrained, is_draining, kept_names, remaining_names}
use Rattle.lxr_model.proofs.ReachableLemmas.{promoted_made}
use Rattle.lxr_model.proofs.StepLemmas.{step_refers}
use Rattle.lxr_model.proofs.ObjectLemmas.{step_facts}
use Rattle.lxr_model_counting.specs.Distinct.{has_field}
use Rattle.lxr_model_counting.specs.Following.{FollowsPause}
use Rattle.lxr_model_counting.specs.Draining.{MayBeSwept}
use Rattle.lxr_model_counting.specs.Garbage.{IsGarbageOf, IsStillGarbage, FollowsTrace, FollowsRunning}
use Rattle.lxr_model_counting.specs.GarbageLaws.{CallKeepsGarbage, PauseKeepsGarbage, GarbageIsNotDead, SweepsAreSound}
use Rattle.lxr_model_counting.proofs.FollowingLemmas.{stepped, live_before, live_reachable, unreclaimed_object}
use Rattle.lxr_model_counting.proofs.LeavingLemmas.{garbage_referred}
use Rattle.lxr_model_counting.proofs.PauseLemmas.{counts_afresh, own_sweeps, stuck_stay, unreclaimed_are_kept}

-- ---- a trace and a moment

module _ (m : Moment) (trace : Trace) (follows : FollowsPause m) (traced : FollowsTrace m trace) where
  -- garbage refers to what it referred to, now and at the last pause
  refers_now : (u n : Name) → IsGarbageOf trace u → Refers trace.state.graph u n → Refers m.state.graph u n
  refers_now u n g (i, f) = (i, ap (λ rs. slice_get rs i) (traced.garbage u g).references ∙ f)

  refers_before : (u n : Name) → IsGarbageOf trace u → Refers trace.state.graph u n → Refers m.last.graph u n
  refers_before u n g f =
      let still = traced.garbage u g in
      let now = refers_now u n g f in
      let unwritten : has_field m.written (u, now.0) ≡ false = false_from_ne_true (has_field m.written (u, now.0)) (λ w. still.dropped (inl (follows.written u now.0 w).1)) in
      (now.0, sym (follows.unwritten u now.0 still.member unwritten) ∙ now.1)

  -- so it isn't dead among names that have all garbage, and of which no more are stuck now
  undead : (s : State) (us stuck : List Name) → ((n : Name) → IsGarbageOf trace n → IsTrue (has us n)) → ((u n : Name) → IsGarbageOf trace u → Refers trace.state.graph u n → Refers s.graph u n)
      → ((n : Name) → IsTrue (has m.stuck n) → IsTrue (has stuck n)) → (o : Name) → IsGarbageOf trace o → Dead s us stuck o → ⊥
  undead s us stuck members refers more o g (dead member unstuck unheld each) =
      let r = (traced.garbage o g).referred (false_from_ne_true (has m.stuck o) (λ k. not_both (has stuck o) (more o k) unstuck)) in
      undead s us stuck members refers more r.0 r.1 (each r.0 (members r.0 r.1) (refers r.0 o r.1 r.2))

  -- ---- a call

  step_keeps_garbage : (t : ℕ) (o : Op) (r : Reply) → (step m.state t o).1 ≡ r → t < length m.state.graph → 1 ≤ t → FollowsTrace (stepped m t o r) trace
  step_keeps_garbage t o r e h one = record {
    garbage = λ n g.
        let still = traced.garbage n g in
        let object = unreclaimed_object m follows n still.member in
        record {
          member = still.member;
          dropped = λ live. elim (live_before m t o r follows e h one n live) [
            | inl l ↦ still.dropped l
            | inr none ↦ let k : is_some (object_at m.state.graph n) ≡ false = ap is_some none in not_both (is_some (object_at m.state.graph n)) object k
          ];
          references = ap refs_of ((step_facts m.state t o h).same n object (λ k. still.dropped (live_reachable m follows n k))) ∙ still.references;
          referred = still.referred;
        };
    apart = λ u n k g f. elim (step_refers m.state t o h u n f) [
      | inl q ↦ traced.apart u n k g q
      | inr q ↦ absurd ((traced.garbage n g).dropped (live_reachable m follows n q))
    ];
  }

pub call_keeps_garbage : CallKeepsGarbage
call_keeps_garbage m t (op.New dest shape) reply.Full trace follows traced is = traced
call_keeps_garbage m t (op.New dest shape) r trace follows traced is = step_keeps_garbage m trace follows traced t (op.New dest shape) r is.0 is.1 is.2
call_keeps_garbage m t o r trace follows traced is = step_keeps_garbage m trace follows traced t o r is.0 is.1 is.2

-- ---- a pause

module _ (m : Moment) (parts : PauseParts) (report : PauseReport) (follows : FollowsPause m) (is : IsReportWith m parts report) where
  module _ (trace : Trace) (traced : FollowsTrace m trace) where
    kept_garbage : (n : Name) → IsGarbageOf trace n → IsTrue (has (kept_names m parts report) n)
    kept_garbage n g = union_right report.promoted (without m.unreclaimed parts.first_dead) n
        (in_without m.unreclaimed parts.first_dead n (traced.garbage n g).member
        (λ d. undead m trace follows traced m.last m.unreclaimed m.stuck (λ o q. (traced.garbage o q).member) (refers_before m trace follows traced) (λ o k. k) n g ((is.first_dead.members n).0 d)))

    second_spares : (b : Bool) → AreDrained m parts report b → (n : Name) → IsGarbageOf trace n → IsTrue (has parts.second_dead n) → ⊥
    second_spares false drained n g d = let k = rw drained.0 at d in cc
    second_spares true drained n g d =
        undead m trace follows traced m.state (kept_names m parts report) (union report.stuck m.stuck) kept_garbage (refers_now m trace follows traced) (union_right report.stuck m.stuck) n g ((drained.0.members n).0 d)

    pub garbage_left : (n : Name) → IsGarbageOf trace n → IsTrue (has (without (kept_names m parts report) parts.second_dead) n)
    garbage_left n g = in_without (kept_names m parts report) parts.second_dead n (kept_garbage n g) (second_spares _ is.drained n g)

    -- what a pause keeps refers to garbage only where it is garbage: what is promoted is live
    kept_apart : (u n : Name) → IsTrue (has (kept_names m parts report) u) → IsGarbageOf trace n → Refers m.state.graph u n → IsGarbageOf trace u
    kept_apart u n k g f = elim (union_cases report.promoted (without m.unreclaimed parts.first_dead) u k) [
      | inl p ↦ absurd ((traced.garbage n g).dropped (follows.referred u n (inr (promoted_made ((is.promoted.members u).0 p))) f))
      | inr x ↦ traced.apart u n (without_parts m.unreclaimed parts.first_dead u x).0 g f
    ]

    -- what is swept at its end is exactly its garbage
    end_sweeps : IsSweptAtEnd report.swept (Some trace) → MayBeSwept m.state (remaining_names m parts report) report.swept
    end_sweeps swept =
        let garbage : (n : Name) → IsTrue (has report.swept n) → IsGarbageOf trace n = λ n d. let both = (swept.members n).0 d in record { member = both.0; unreachable = both.1 } in
        record {
          unreachable = λ n d r. (traced.garbage n (garbage n d)).dropped (live_reachable m follows n r);
          unreferred = λ u n k f. false_from_ne_true (has report.swept n) (λ d.
              let a = without_parts (without (kept_names m parts report) parts.second_dead) report.swept u k in
              let g = kept_apart u n (without_parts (kept_names m parts report) parts.second_dead u a.0).0 (garbage n d) f in
              not_both (has report.swept u) ((swept.members u).1 (g.member, g.unreachable)) a.1);
        }

  end_may : (trace : Option Trace) → FollowsRunning m trace → IsSweptAtEnd report.swept trace → MayBeSwept m.state (remaining_names m parts report) report.swept
  end_may None running swept = absurd swept
  end_may (Some trace) running swept = end_sweeps trace running swept

  -- ---- the trace after it

  -- a plain pause leaves the trace and its garbage
  module _ (plain : report.kind ≡ kind.Plain) where
    plain_garbage : (trace : Trace) → FollowsTrace m trace → (n : Name) → IsGarbageOf trace n → IsStillGarbage (after_pause m report) trace n
    plain_garbage trace traced n g =
        let still = traced.garbage n g in
        record {
          member = ap (λ ns. has ns n) (unreclaimed_are_kept m report parts follows is plain) ∙ kept_garbage trace traced n g;
          dropped = λ live. elim live [ inl r ↦ still.dropped (live_reachable m follows n r) | inr k ↦ cc ];
          references = still.references;
          referred = λ unstuck. still.referred (false_from_ne_true (has m.stuck n) (λ k.
              not_both (has (stuck_after m report) n) (ap (λ ns. has ns n) (stuck_stay m report parts follows is plain) ∙ union_right report.stuck m.stuck n k) unstuck));
        }

    plain_keeps : (trace : Option Trace) → FollowsRunning m trace → FollowsRunning (after_pause m report) (going_on m report trace)
    plain_keeps None running = tt
    plain_keeps (Some trace) running = record {
      garbage = λ n g.
          let still = plain_garbage trace running n (record { member = g.member; unreachable = g.unreachable }) in
          record {
            member = still.member;
            dropped = still.dropped;
            references = still.references;
            referred = λ unstuck. let r = still.referred unstuck in (r.0, record { member = r.1.member; unreachable = r.1.unreachable }, r.2);
          };
      apart = λ u n k g f.
          let g' = kept_apart trace running u n (sym (ap (λ ns. has ns u) (unreclaimed_are_kept m report parts follows is plain)) ∙ k) (record { member = g.member; unreachable = g.unreachable }) f in
          record { member = g'.member; unreachable = g'.unreachable };
    }

  -- a pause that begins a trace drained: each unstuck name that it leaves has a reference
  begun : IsTrue (is_draining report.kind) → FollowsTrace (after_pause m report) (trace_from m report)
  begun drains = record {
    garbage = λ n g. record {
      member = g.member;
      dropped = λ live. elim live [ inl r ↦ g.unreachable r | inr k ↦ cc ];
      references = refl;
      referred = λ unstuck.
          let none = (counts_afresh m report follows (parts, is) drains).none_dead in
          let r = garbage_referred m.state (unreclaimed_after m report) (stuck_after m report) none n g.member unstuck (λ h. g.unreachable (held h)) in
          (r.0, record { member = r.1; unreachable = r.3 g.unreachable }, r.2);
    };
    apart = λ u n k g f. record { member = k; unreachable = λ r. g.unreachable (referred r f) };
  }

  trace_then : FollowsRunning m m.trace → (k : Kind) → report.kind ≡ k → FollowsRunning (after_pause m report) (trace_after m report k)
  trace_then running kind.Plain e = plain_keeps e m.trace running
  trace_then running kind.Begin e = begun (ap is_draining e)
  trace_then running (kind.End j) e = tt
  trace_then running kind.Collect e = tt

-- ---- the laws

pub pause_keeps_garbage : PauseKeepsGarbage
pause_keeps_garbage m report follows running reports = trace_then m reports.0 report follows reports.1 running report.kind refl

pub garbage_not_dead : GarbageIsNotDead
garbage_not_dead m parts report trace follows traced is = garbage_left m parts report follows is trace traced

pub sweeps_are_sound : SweepsAreSound
sweeps_are_sound m parts report follows running is = by_kind report.kind is.swept
  where
    by_kind : (k : Kind) → IsSwept m (without (kept_names m parts report) parts.second_dead) report.swept k → MayBeSwept m.state (remaining_names m parts report) report.swept
    by_kind (kind.End j) swept = end_may m parts report follows is m.trace running swept
    by_kind kind.Plain swept = own_sweeps m report parts follows is kind.Plain (λ j e. cc) swept
    by_kind kind.Begin swept = own_sweeps m report parts follows is kind.Begin (λ j e. cc) swept
    by_kind kind.Collect swept = own_sweeps m report parts follows is kind.Collect (λ j e. cc) swept
