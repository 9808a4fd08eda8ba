-- The state follows a pause of any kind: the promoted join the unreclaimed names, which then have all that is reachable,
-- and keep it as the second dead, the swept and the third dead are dropped.
use Rattle.std.proofs.Common.{◌≡◌, ◌≢◌, ℕ, refl, sym, ap, subst, ◌∙◌, inl, inr, Bool, true, false, List, [], IsTrue, ◌↔◌}
use Rattle.std.proofs.lemmas.Bool.{false_from_ne_true}
use Rattle.lxr_layout.specs.declared.Name.{Name}
use Rattle.lxr_graph.specs.declared.report.Kind.{Kind}
use Rattle.lxr_graph.specs.declared.report.Kind.TheVariants as kind
use Rattle.lxr_graph.specs.Names.{has, without, union, AreInOrder}
use Rattle.lxr_graph.specs.State.{HasObject, world_name}
use Rattle.lxr_graph.specs.History.{PauseReport}
use Rattle.lxr_graph.proofs.NameSets.{one_list, not_both, in_order-union, in_order-without, union_cases, union_right, without_parts, in_without}
use Rattle.lxr_model.specs.Reachable.{Reachable, the_world, referred, IsClosed}
use Rattle.lxr_model.specs.Moments.{Moment, trace_after, after_pause, unreclaimed_after, stuck_after}
use Rattle.lxr_model.specs.Reports.{PauseParts, IsReportWith, IsSwept, AreDrained, kept_names, remaining_names}
use Rattle.lxr_model.proofs.ReachableLemmas.{dead_parts, promoted_made, reachable_within}
use Rattle.lxr_model.proofs.DrainLemmas.{exact_at, kept_all, left_parts, left_remain, not_first, nothing_dead, referred_to, remain_left, still_stuck, was_stuck}
use Rattle.lxr_model.proofs.CollectLemmas.{collected_reachable}
use Rattle.lxr_model.proofs.DecideLemmas.{decide_reachable}
use Rattle.lxr_model_counting.specs.Following.{FollowsPause}
use Rattle.lxr_model_counting.specs.Laws.{PlainPauseRestartsFollowing}
use Rattle.lxr_model_counting.specs.Draining.{MayBeSwept, PauseLeavesTheRemaining, PauseRestartsFollowing, SweepsWithoutTraceAreSound, CollectIsComplete, CountsAreReferences}
use Rattle.lxr_model_counting.proofs.DistinctLemmas.{without_apart}
use Rattle.lxr_model_counting.proofs.DeathLemmas.{left_follows}
use Rattle.lxr_model_counting.proofs.FollowingLemmas.{joined_closed, joined_object, follows_anew}
use Rattle.lxr_model_counting.proofs.LeavingLemmas.{death_leaves_reachable, sweep_leaves}

module _ (m : Moment) (report : PauseReport) (parts : PauseParts) (follows : FollowsPause m) (is : IsReportWith m parts report) where
  -- ---- kept names

  -- no promoted name was unreclaimed
  fresh : (n : Name) → IsTrue (has report.promoted n) → has m.unreclaimed n ≡ false
  fresh n p = follows.apart n (promoted_made ((is.promoted.members n).0 p))

  -- the state follows the last pause without the first dead
  follows_first : FollowsPause (record m { unreclaimed = without m.unreclaimed parts.first_dead })
  follows_first = left_follows m parts.first_dead follows is.first_dead.members

  kept_closed : IsClosed m.state (has (kept_names m parts report))
  kept_closed = joined_closed (record m { unreclaimed = without m.unreclaimed parts.first_dead }) report.promoted follows_first is.promoted.members

  pub kept_reachable : (n : Name) → Reachable m.state n → IsTrue (has (kept_names m parts report) n)
  kept_reachable = reachable_within m.state (has (kept_names m parts report)) kept_closed

  world_stuck : IsTrue (has (union report.stuck m.stuck) world_name)
  world_stuck = union_right report.stuck m.stuck world_name follows.world

  -- ---- what remains

  second_left : (b : Bool) → AreDrained m parts report b → IsClosed m.state (has (without (kept_names m parts report) parts.second_dead))
  second_left false drained = subst (λ ns. IsClosed m.state (has ns)) (sym (without_apart (kept_names m parts report) parts.second_dead (λ n h. ap (λ ns. has ns n) drained.0))) kept_closed
  second_left true drained = death_leaves_reachable m.state (kept_names m parts report) (union report.stuck m.stuck) parts.second_dead kept_closed world_stuck drained.0.members

  third_left : (b : Bool) → AreDrained m parts report b → IsClosed m.state (has (remaining_names m parts report))
      → IsClosed m.state (has (without (remaining_names m parts report) parts.third_dead))
  third_left false drained closed = subst (λ ns. IsClosed m.state (has ns)) (sym (without_apart (remaining_names m parts report) parts.third_dead (λ n h. ap (λ ns. has ns n) drained.1))) closed
  third_left true drained closed = death_leaves_reachable m.state (remaining_names m parts report) (union report.stuck m.stuck) parts.third_dead closed world_stuck drained.1.members

  kept_in_order : AreInOrder (kept_names m parts report)
  kept_in_order = in_order-union report.promoted (without m.unreclaimed parts.first_dead) (in_order-without m.unreclaimed parts.first_dead follows.unreclaimed)

  third_in_order : AreInOrder (without (remaining_names m parts report) parts.third_dead)
  third_in_order =
      in_order-without (remaining_names m parts report) parts.third_dead
      (in_order-without (without (kept_names m parts report) parts.second_dead) report.swept (in_order-without (kept_names m parts report) parts.second_dead kept_in_order))

  after_in_order : AreInOrder (unreclaimed_after m report)
  after_in_order =
      in_order-without (without (union report.promoted m.unreclaimed) report.dead) report.swept
      (in_order-without (union report.promoted m.unreclaimed) report.dead (in_order-union report.promoted m.unreclaimed follows.unreclaimed))

  pub unreclaimed_remain : unreclaimed_after m report ≡ without (remaining_names m parts report) parts.third_dead
  unreclaimed_remain = one_list (unreclaimed_after m report) (without (remaining_names m parts report) parts.third_dead) after_in_order third_in_order (λ n. (
    λ k. in_without (remaining_names m parts report) parts.third_dead n (left_remain m report parts is n k)
        (λ d. not_both (has report.dead n) ((is.dead.members n).1 (inr (inr d))) (left_parts m report n k).1),
    λ k. let a = without_parts (remaining_names m parts report) parts.third_dead n k in
        remain_left m report parts is fresh n a.0 (λ d. not_both (has parts.third_dead n) d a.1),
  ))

  -- what is stuck isn't dead, so it stays stuck unless it is swept
  second_unstuck : (b : Bool) → AreDrained m parts report b → (n : Name) → IsTrue (has (union report.stuck m.stuck) n) → IsTrue (has parts.second_dead n) → ⊥
  second_unstuck false drained n s d = let k = rw drained.0 at d in cc
  second_unstuck true drained n s d = not_both (has (union report.stuck m.stuck) n) s (dead_parts ((drained.0.members n).0 d)).unstuck

  third_unstuck : (b : Bool) → AreDrained m parts report b → (n : Name) → IsTrue (has (union report.stuck m.stuck) n) → IsTrue (has parts.third_dead n) → ⊥
  third_unstuck false drained n s d = let k = rw drained.1 at d in cc
  third_unstuck true drained n s d = not_both (has (union report.stuck m.stuck) n) s (dead_parts ((drained.1.members n).0 d)).unstuck

  first_unstuck : (n : Name) → IsTrue (has (union report.stuck m.stuck) n) → IsTrue (has parts.first_dead n) → ⊥
  first_unstuck n s d = elim (union_cases report.stuck m.stuck n s) [
    | inl k ↦ not_first m report parts is fresh n ((is.stuck.members n).0 k).0 d
    | inr k ↦ not_both (has m.stuck n) k (dead_parts ((is.first_dead.members n).0 d)).unstuck
  ]

  stuck_alive : (n : Name) → IsTrue (has (union report.stuck m.stuck) n) → has report.dead n ≡ false
  stuck_alive n s = false_from_ne_true (has report.dead n) (λ d. elim ((is.dead.members n).0 d) [
    | inl q ↦ first_unstuck n s q
    | inr q ↦ elim q [ inl p ↦ second_unstuck _ is.drained n s p | inr p ↦ third_unstuck _ is.drained n s p ]
  ])

  pub stuck_remain : (n : Name) → IsTrue (has (stuck_after m report) n) ↔ (IsTrue (has (union report.stuck m.stuck) n) × (has report.swept n ≡ false))
  stuck_remain n = (
    λ k. (was_stuck m report n k, (without_parts (without (union report.stuck m.stuck) report.dead) report.swept n k).1),
    λ h. still_stuck m report n (stuck_alive n h.0) h.1 h.0,
  )

  -- ---- the moment after it

  after_object : (n : Name) → IsTrue (has (unreclaimed_after m report) n) → HasObject m.state.graph n
  after_object n k = joined_object (record m { unreclaimed = without m.unreclaimed parts.first_dead }) report.promoted follows_first is.promoted.members n
      (without_parts (kept_names m parts report) parts.second_dead n (without_parts (without (kept_names m parts report) parts.second_dead) report.swept n (left_remain m report parts is n k)).0).0

  stuck_within : (n : Name) → IsTrue (has (stuck_after m report) n) → IsTrue (has (unreclaimed_after m report) n)
  stuck_within n k =
      let at = (stuck_remain n).0 k in
      in_without (without (union report.promoted m.unreclaimed) report.dead) report.swept n
      (in_without (union report.promoted m.unreclaimed) report.dead n
      (elim (union_cases report.stuck m.stuck n at.0) [
        | inl q ↦ kept_all m report parts is n ((is.stuck.members n).0 q).0
        | inr q ↦ union_right report.promoted m.unreclaimed n (follows.stuck n q)
      ])
      (λ d. not_both (has report.dead n) d (stuck_alive n at.0)))
      (λ d. not_both (has report.swept n) d at.1)

  module _ (may : MayBeSwept m.state (remaining_names m parts report) report.swept) where
    -- what the pause leaves has all that is reachable
    after_closed : IsClosed m.state (has (unreclaimed_after m report))
    after_closed =
        subst (λ ns. IsClosed m.state (has ns)) (sym unreclaimed_remain)
        (third_left _ is.drained (sweep_leaves m.state (without (kept_names m parts report) parts.second_dead) report.swept (second_left _ is.drained) may))

    world_unswept : has report.swept world_name ≡ false
    world_unswept = false_from_ne_true (has report.swept world_name) (λ d. may.unreachable world_name d the_world)

    pub pause_follows : FollowsPause (after_pause m report)
    pause_follows =
        follows_anew m (unreclaimed_after m report) (stuck_after m report) report.number (trace_after m report report.kind) follows
        after_in_order after_closed after_object ((stuck_remain world_name).1 (world_stuck, world_unswept)) stuck_within

  -- ---- what may be swept

  -- where a pause collects, what isn't swept is reachable
  unswept_reachable : IsSwept m (without (kept_names m parts report) parts.second_dead) report.swept kind.Collect
      → (n : Name) → IsTrue (has (remaining_names m parts report) n) → Reachable m.state n
  unswept_reachable swept n k =
      let a = without_parts (without (kept_names m parts report) parts.second_dead) report.swept n k in
      elim (decide_reachable m.state (kept_names m parts report) kept_reachable n) [ inl r ↦ r | inr away ↦ not_both (has report.swept n) ((swept.members n).1 (a.0, away)) a.1 ]

  none_swept : report.swept ≡ [] → MayBeSwept m.state (remaining_names m parts report) report.swept
  none_swept swept = record { unreachable = λ n d r. let k = rw swept at d in cc; unreferred = λ u n k f. ap (λ ns. has ns n) swept }

  pub own_sweeps : (k : Kind) → ((j : ℕ) → k ≢ kind.End j) → IsSwept m (without (kept_names m parts report) parts.second_dead) report.swept k
      → MayBeSwept m.state (remaining_names m parts report) report.swept
  own_sweeps kind.Plain own swept = none_swept swept
  own_sweeps kind.Begin own swept = none_swept swept
  own_sweeps (kind.End j) own swept = absurd (own j refl)
  own_sweeps kind.Collect own swept = record {
    unreachable = λ n d. ((swept.members n).0 d).1;
    unreferred = λ u n k f. false_from_ne_true (has report.swept n) (λ d. ((swept.members n).0 d).1 (referred (unswept_reachable swept u k) f));
  }

-- ---- the laws

pub remaining : PauseLeavesTheRemaining
remaining m parts report follows is = record { unreclaimed = unreclaimed_remain m report parts follows is; stuck = stuck_remain m report parts follows is }

pub restarts : PauseRestartsFollowing
restarts m parts report follows is may = pause_follows m report parts follows is may

pub sweeps_without_trace_are_sound : SweepsWithoutTraceAreSound
sweeps_without_trace_are_sound m parts report follows is own = own_sweeps m report parts follows is report.kind own is.swept

pub collects : CollectIsComplete
collects m report follows reports is_collect n =
    let parts = reports.0 in
    let is = reports.1 in
    let own : (j : ℕ) → report.kind ≢ kind.End j = λ j e. let k : kind.Collect ≡ kind.End j = sym is_collect ∙ e in cc in (
      collected_reachable m report parts is (kept_reachable m report parts follows is) is_collect n,
      (pause_follows m report parts follows is (sweeps_without_trace_are_sound m parts report follows is own)).kept n,
    )

pub counts_afresh : CountsAreReferences
counts_afresh m report follows reports drains =
    let parts = reports.0 in
    let is = reports.1 in
    let unpromoted = fresh m report parts follows is in
    let counts = exact_at m report parts is drains in
    record {
      names = counts.0;
      exact = counts.1;
      none_dead = nothing_dead m report parts is unpromoted drains;
      none_zero = referred_to m report parts is unpromoted drains;
    }

-- ---- a plain pause

-- it has no second and third dead, and sweeps nothing
module _ (m : Moment) (report : PauseReport) (parts : PauseParts) (follows : FollowsPause m) (is : IsReportWith m parts report) (plain : report.kind ≡ kind.Plain) where
  nothing_swept : report.swept ≡ []
  nothing_swept = let k = rw plain at is.swept in k

  pub unreclaimed_are_kept : unreclaimed_after m report ≡ kept_names m parts report
  unreclaimed_are_kept =
      let drained : AreDrained m parts report false = rw plain at is.drained in
      let nothing : (ns : List Name) → ns ≡ [] → (n : Name) → has ns n ≡ false = λ ns e n. ap (λ z. has z n) e in
      unreclaimed_remain m report parts follows is
      ∙ without_apart (remaining_names m parts report) parts.third_dead (λ n h. nothing parts.third_dead drained.1 n)
      ∙ without_apart (without (kept_names m parts report) parts.second_dead) report.swept (λ n h. nothing report.swept nothing_swept n)
      ∙ without_apart (kept_names m parts report) parts.second_dead (λ n h. nothing parts.second_dead drained.0 n)

  pub stuck_stay : stuck_after m report ≡ union report.stuck m.stuck
  stuck_stay =
      without_apart (without (union report.stuck m.stuck) report.dead) report.swept (λ n h. ap (λ ns. has ns n) nothing_swept)
      ∙ without_apart (union report.stuck m.stuck) report.dead (stuck_alive m report parts follows is)

pub plain_pause_follows : PlainPauseRestartsFollowing
plain_pause_follows m report follows reports plain =
    pause_follows m report reports.0 follows reports.1 (none_swept m report reports.0 follows reports.1 (nothing_swept m report reports.0 follows reports.1 plain))
