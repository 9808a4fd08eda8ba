-- A pause that ends a trace, or collects, has swept what isn't marked, with what died by it; all that it leaves is marked. One that collects
-- has released blocks before, and no trace runs behind it.
use Rattle.std.proofs.Common.{◌≡◌, ◌≢◌, ℕ, refl, sym, ap, subst, ◌∙◌, inl, inr, true, List, [], ◌++◌, IsTrue, append_assoc}
use Rattle.std.specs.Prelude.{◌↔◌, Option, Some, None}
use Rattle.lxr_layout.specs.declared.Name.{Name}
use Rattle.lxr_layout.specs.declared.TheConstants.{DECREMENT_COUNT, DECREMENT_CURSOR, REMEMBERED_CURSOR, TRACING_WORD}
use Rattle.lxr_graph.specs.declared.report.Kind.{Kind}
use Rattle.lxr_graph.specs.declared.report.Kind.TheVariants as kind
use Rattle.lxr_graph.specs.declared.report.Report.{Report}
use Rattle.lxr_graph.specs.Names.{has, without}
use Rattle.lxr_graph.specs.History.{report_of}
use Rattle.lxr_graph.proofs.NameSets.{not_both, without_parts}
use Rattle.lxr_image.specs.declared.space.Space.{Space}
use Rattle.lxr_image.specs.Tables.{Tables, changed}
use Rattle.lxr_image.specs.Spaces.{tables_of}
use Rattle.lxr_image.specs.Reads.{granule_of}
use Rattle.lxr_model.specs.Moments.{Moment, Trace, going_on}
use Rattle.lxr_model.specs.Reachable.{Reachable}
use Rattle.lxr_model.specs.Reports.{PauseParts, is_draining}
use Rattle.lxr_model.proofs.ReachableLemmas.{dead_parts}
use Rattle.lxr_model_counting.specs.Garbage.{IsGarbageOf}
use Rattle.lxr_model_counting.proofs.DistinctLemmas.{tested}
use Rattle.lxr_invariant.specs.AbstractState.{AbstractState, members}
use Rattle.lxr_invariant.specs.Lines.{HasBlocks, NoneChosen, FreeAreUnused}
use Rattle.lxr_invariant.specs.Quiescent.{HoldsMoment}
use Rattle.lxr_invariant.specs.Tracing.{IsMarked}
use Rattle.lxr_invariant.proofs.EntryLemmas.{changed_other}
use Rattle.lxr_invariant.proofs.FrameLemmas.{chosen_still}
use Rattle.lxr_invariant.proofs.NameLemmas.{in_either, in_first}
use Rattle.lxr_pause_decrements.specs.Finishing.{Finishes}
use Rattle.lxr_pause_trace_laws.specs.Laws.{FindsGarbage}
use Rattle.lxr_pause_trace_laws.proofs.GranuleLemmas.{one_name}
use Rattle.lxr_sweep_unmarked.specs.Sweeping.{SweepsUnmarked, swept_moment}
use Rattle.lxr_one_pause.specs.Settling.{DiesBy, IsSweptBy, IsSweptOf, Settles, SettlesCounts}
use Rattle.lxr_one_pause.specs.Tracing.{Collects, drained}
use Rattle.lxr_one_pause.specs.Pausing.{CanPause, EndsTracing, SameRemembered}
use Rattle.lxr_one_pause.proofs.BlocksLemmas.{blocks_set, none_released}
use Rattle.lxr_one_pause.proofs.BuildingLemmas.{AreParts, KeepsThroughTracing, can_drain, leads, now, report, settles_there, with_kind}
use Rattle.lxr_one_pause.proofs.FrameLemmas.{IsReworded, holds_then, undecremented_then}
use Rattle.lxr_one_pause.proofs.KindLemmas.{keeps_counters, keeps_on, keeps_set, keeps_traced}
use Rattle.lxr_one_pause.proofs.RememberedLemmas.{same_both, same_kept, same_told}
use Rattle.lxr_one_pause.proofs.TracingLemmas.{KeepsButMarks, collect_traced, keeps_collected}

-- ---- what isn't marked is swept

module _ (s k : Space) (g : AbstractState) (can : CanPause s g) (at' : Name → ℕ) (gone : List Name) (counts : SettlesCounts s k g at' gone) (is : Kind) (found traced cleared : Space) (second swept third : List Name)
    (finishes : Finishes (with_kind s k g can at' gone counts is) found (now s k g can at' gone counts is).moment at' second) (keeps : KeepsButMarks found traced)
    (holds : HoldsMoment traced (drained (now s k g can at' gone counts is) second) at') (sweeps : SweepsUnmarked traced cleared (drained (now s k g can at' gone counts is) second) at' swept third) where
  abbrev m : Moment
  m = g.moment

  abbrev left : Moment
  left = drained (now s k g can at' gone counts is) second

  -- the moment once what isn't marked is swept
  abbrev pub last : Moment
  last = swept_moment left swept third

  abbrev pub end_report : Report
  end_report = report s k g can at' gone counts is second third swept

  abbrev end_parts : PauseParts
  end_parts = record { first_dead = gone; second_dead = second; third_dead = third }

  sweep_dead : (k.report.dead.items ++ second) ++ third ≡ gone ++ (second ++ third)
  sweep_dead = ap (λ ns. (ns ++ second) ++ third) counts.tells.dead ∙ append_assoc gone second third

  pub cleared_is : cleared ≡ record k { words = cleared.words; report = end_report }
  cleared_is =
      sweeps.space
      ∙ ap (λ (y : Space). record y { words = cleared.words; report = record y.report { swept = record y.report.swept { items = y.report.swept.items ++ swept }; dead = record y.report.dead { items = y.report.dead.items ++ third } } }) keeps.space
      ∙ ap (λ (y : Space). record y { words = cleared.words; report = record y.report { swept = record y.report.swept { items = y.report.swept.items ++ swept }; dead = record y.report.dead { items = y.report.dead.items ++ third } } }) finishes.space
      ∙ (λ i. record k {
        words = cleared.words;
        report = record k.report {
          kind = is;
          dead = record k.report.dead { items = sweep_dead i };
          swept = record k.report.swept { items = counts.tells.swept i ++ swept };
        };
      })

  pub cleared_keeps : KeepsThroughTracing (tables_of k) (tables_of cleared)
  cleared_keeps =
      keeps_on (tables_of k) (tables_of found) (tables_of cleared) (keeps_counters (tables_of k) (tables_of found) finishes.keeps finishes.outs)
      (keeps_on (tables_of found) (tables_of traced) (tables_of cleared) (keeps_traced found traced keeps) (keeps_counters (tables_of traced) (tables_of cleared) sweeps.keeps sweeps.outs))

  -- ---- all that is left is marked

  pub member_left : (n : Name) → IsTrue (has last.unreclaimed n) → IsTrue (has left.unreclaimed n)
  member_left n h = (without_parts left.unreclaimed swept n (without_parts (without left.unreclaimed swept) third n h).0).0

  pub gone_then : (n : Name) → IsTrue (has (swept ++ third) n) → IsTrue (has left.unreclaimed n) × (IsTrue (has last.unreclaimed n) → ⊥)
  gone_then n d = elim (in_either swept third n d) [
    | inl a ↦ (((sweeps.swept_are n).0 a).0, (λ h. not_both (has swept n) a (without_parts left.unreclaimed swept n (without_parts (without left.unreclaimed swept) third n h).0).1))
    | inr b ↦ ((without_parts left.unreclaimed swept n (dead_parts ((sweeps.dead n).0 b)).member).0, (λ h. not_both (has third n) b (without_parts (without left.unreclaimed swept) third n h).1))
  ]

  stands_apart : (n : Name) → IsTrue (has last.unreclaimed n) → (o : Name) → IsTrue (has (swept ++ third) o) → granule_of (at' o) ≢ granule_of (at' n)
  stands_apart n h o d e =
      let there : (q : Name) → IsTrue (has left.unreclaimed q) → IsTrue (has (members left) q) = in_first left.unreclaimed left.made in
      let same = one_name (tables_of traced) traced.limits.blocks at' m.state.graph (members left) holds.image.image o n (there o (gone_then o d).0) (there n (member_left n h)) e in
      (gone_then o d).1 (subst (λ q. IsTrue (has last.unreclaimed q)) (sym same) h)

  was_marked : (n : Name) → IsTrue (has last.unreclaimed n) → IsMarked (tables_of traced) at' n
  was_marked n h = elim (tested ((tables_of traced).marks (granule_of (at' n)))) [
    | inl marked ↦ marked
    | inr unmarked ↦ absurd ((gone_then n (in_first swept third n ((sweeps.swept_are n).1 (member_left n h, unmarked)))).1 h)
  ]

  pub marked_cleared : (n : Name) → IsTrue (has last.unreclaimed n) → IsMarked (tables_of cleared) at' n
  marked_cleared n h = sweeps.marks.others (granule_of (at' n)) (stands_apart n h) ∙ was_marked n h

  -- ---- its parts, where the kind is one that sweeps

  pub sweep_parts : IsSweptBy m end_parts end_report is → is_draining is ≡ true → AreParts s k g can at' gone counts is second third swept
  sweep_parts are drains = record {
    second_once = finishes.once;
    third_once = sweeps.dead_once;
    swept_once = sweeps.swept_once;
    second_kept = λ n h. (dead_parts ((finishes.dead n).0 h)).member;
    third_left = λ n h. (dead_parts ((sweeps.dead n).0 h)).member;
    dies = subst (DiesBy m end_parts end_report) (sym drains) (finishes.dead, sweeps.dead);
    sweeps = are;
  }

-- a trace is over where all that is left is marked
pub ends_tracing : (x : Space) (m : Moment) (at : Name → ℕ) → HoldsMoment x m at → ((n : Name) → IsTrue (has m.unreclaimed n) → IsMarked (tables_of x) at n) → EndsTracing x at m.unreclaimed
ends_tracing x m at holds marked = record {
  marked = marked;
  none_left = λ j gray.
      let r = holds.bits.starts.only j (holds.bits.grays j gray) in
      sym (ap (tables_of x).marks r.2) ∙ marked r.0 r.1;
}

-- what was garbage of a trace that goes on is so of that trace
pub swept_of : (then : Moment) (r : Report) (trace : Option Trace) (running : Trace) (ns : List Name) → going_on then (report_of r) trace ≡ Some running → ((n : Name) → IsTrue (has ns n) ↔ IsGarbageOf running n) → IsSweptOf ns trace
swept_of then r None running ns e are = absurd (cc)
swept_of then r (Some trace) running ns e are = λ n.
    let unreclaimed : running.unreclaimed ≡ trace.unreclaimed = ap (λ (z : Trace). z.unreclaimed) (some_same running _ (sym e)) in
    let state : running.state ≡ trace.state = ap (λ (z : Trace). z.state) (some_same running _ (sym e)) in (
      λ h. let q = (are n).0 h in record {
        member = subst (λ us. IsTrue (has us n)) unreclaimed q.member;
        unreachable = subst (λ z. Reachable z n → ⊥) state q.unreachable;
      },
      λ q. (are n).1 (record { member = subst (λ us. IsTrue (has us n)) (sym unreclaimed) q.member; unreachable = subst (λ z. Reachable z n → ⊥) (sym state) q.unreachable }),
    )
  where
    some_same : (a b : Trace) → Some a ≡ Some b → a ≡ b
    some_same a b e = cc

-- ---- a collecting pause

module _ (s k : Space) (g : AbstractState) (can : CanPause s g) (at' : Name → ℕ) (gone : List Name) (counts : SettlesCounts s k g at' gone) (x : Space)
    (collects : Collects (with_kind s k g can at' gone counts kind.Collect) x (now s k g can at' gone counts kind.Collect)) where
  abbrev collect_left : Moment
  collect_left = drained (now s k g can at' gone counts kind.Collect) collects.gone

  abbrev collect_last : Moment
  collect_last = swept_moment collect_left collects.swept collects.third

  abbrev collect_lead : Moment
  collect_lead = leads s k g can at' gone counts kind.Collect collects.gone collects.third collects.swept

  abbrev cleared_there : Space
  cleared_there = collects.cleared

  collect_keeps : KeepsButMarks collects.found collects.traced
  collect_keeps = keeps_collected (with_kind s k g can at' gone counts kind.Collect) (now s k g can at' gone counts kind.Collect) (can_drain s k g can at' gone counts kind.Collect)
      collects.found collects.released collects.begun collects.traced collects.gone collects.finishes collects.releases collects.begins collects.traces

  collected_found : FindsGarbage collects.traced collect_left at' (λ n. ¬ Reachable g.moment.state n)
  collected_found = collect_traced (with_kind s k g can at' gone counts kind.Collect) (now s k g can at' gone counts kind.Collect) (can_drain s k g can at' gone counts kind.Collect)
      collects.found collects.released collects.begun collects.traced collects.gone collects.finishes collects.releases collects.begins collects.traces

  swept_unreachable : (n : Name) → IsTrue (has collects.swept n) ↔ (IsTrue (has collect_left.unreclaimed n) × ¬ Reachable g.moment.state n)
  swept_unreachable n = (
    λ h. let a = (collects.sweeps.swept_are n).0 h in (a.0, (collected_found.garbage n a.0).0 a.1),
    λ q. (collects.sweeps.swept_are n).1 (q.0, (collected_found.garbage n q.0).1 q.1),
  )

  -- ---- the space and its tables

  collected_is : x ≡ record k { words = x.words; report = report s k g can at' gone counts kind.Collect collects.gone collects.third collects.swept; trace = None }
  collected_is =
      collects.sets.space
      ∙ ap (λ (y : Space). record y { words = x.words; trace = None })
      (cleared_is s k g can at' gone counts kind.Collect collects.found collects.traced cleared_there collects.gone collects.swept collects.third collects.finishes collect_keeps collects.traces.holds collects.sweeps)

  pub collect_is : x ≡ record k { words = x.words; report = report s k g can at' gone counts kind.Collect collects.gone collects.third collects.swept; trace = x.trace }
  collect_is = collected_is ∙ (λ i. record k {
    words = x.words;
    report = report s k g can at' gone counts kind.Collect collects.gone collects.third collects.swept;
    trace = sym (ap (λ (y : Space). y.trace) collected_is) i;
  })

  states_since : (tables_of cleared_there).states ≡ (tables_of collects.released).states
  states_since = collects.sweeps.states ∙ ap (λ (t : Tables). t.states) collects.traces.tables ∙ ap (λ (t : Tables). t.states) collects.begins.tables

  cleared_blocks : cleared_there.limits.blocks ≡ collects.found.limits.blocks
  cleared_blocks = ap (λ (y : Space). y.limits.blocks) collects.sweeps.space ∙ ap (λ (y : Space). y.limits.blocks) collect_keeps.space

  unchosen_released : (n : ℕ) → n ≡ collects.found.limits.blocks → NoneChosen (tables_of collects.released) n
  unchosen_released n same = subst (λ b. NoneChosen (tables_of collects.released) b) (sym same)
      (subst (λ t. NoneChosen t collects.found.limits.blocks) (sym collects.releases.tables) (none_released (tables_of collects.found) collects.found.limits.blocks))

  unchosen_then : NoneChosen (tables_of cleared_there) cleared_there.limits.blocks
  unchosen_then = chosen_still (tables_of collects.released) (tables_of cleared_there) cleared_there.limits.blocks states_since ∙ unchosen_released cleared_there.limits.blocks cleared_blocks

  collect_reworded : IsReworded cleared_there x None
  collect_reworded = record {
    same = collects.sets.space;
    agree = record {
      states = (tables_of cleared_there).states;
      cursors = changed (tables_of cleared_there).cursors TRACING_WORD 0;
      tables = collects.sets.tables;
      drawn = changed_other (tables_of cleared_there).cursors TRACING_WORD 0 DECREMENT_CURSOR (λ e. cc);
      waiting = changed_other (tables_of cleared_there).cursors TRACING_WORD 0 DECREMENT_COUNT (λ e. cc);
    };
  }

  collect_rest : x.rest_next ≡ x.rest_end
  collect_rest = ap (λ (y : Space). y.rest_next) collect_is ∙ counts.no_rest ∙ sym (ap (λ (y : Space). y.rest_end) collect_is)

  collect_holds : HoldsMoment x collect_lead at'
  collect_holds = holds_then cleared_there x None collect_reworded collect_last None at' refl (inl collect_rest)
      (subst (λ t. HasBlocks t cleared_there.limits None) (sym collects.sets.tables) (blocks_set (tables_of cleared_there) cleared_there.limits 0 collect_last.trace None refl unchosen_then collects.sweeps.holds.blocks))
      (subst (λ t. FreeAreUnused t at' collect_last.unreclaimed) (sym collects.sets.tables) (record { objects = collects.sweeps.holds.unused.objects; outs = collects.sweeps.holds.unused.outs }))
      collects.sweeps.holds

  -- once blocks are released nothing is remembered any more
  collect_still : SameRemembered (tables_of k) (tables_of x)
  collect_still =
      let begun_blocks : collects.begun.limits.blocks ≡ collects.found.limits.blocks = ap (λ (y : Space). y.limits.blocks) collects.begins.space ∙ ap (λ (y : Space). y.limits.blocks) collects.releases.rest in
      let idle : NoneChosen (tables_of collects.begun) collects.begun.limits.blocks =
      chosen_still (tables_of collects.released) (tables_of collects.begun) collects.begun.limits.blocks (ap (λ (t : Tables). t.states) collects.begins.tables) ∙ unchosen_released collects.begun.limits.blocks begun_blocks in
      same_both (tables_of k) (tables_of collects.found) (tables_of x) (same_kept (tables_of k) (tables_of collects.found) collects.finishes.keeps)
      (same_both (tables_of collects.found) (tables_of collects.begun) (tables_of x) (record {
        entries = ap (λ (t : Tables). t.remembered) collects.begins.tables ∙ ap (λ (t : Tables). t.remembered) collects.releases.tables;
        cursor = ap (λ (t : Tables). t.cursors REMEMBERED_CURSOR) collects.begins.tables ∙ ap (λ (t : Tables). t.cursors REMEMBERED_CURSOR) collects.releases.tables;
      })
      (same_both (tables_of collects.begun) (tables_of collects.traced) (tables_of x) (same_told (tables_of collects.begun) (tables_of collects.traced) (collects.traces.remembers.idle idle))
      (same_both (tables_of collects.traced) (tables_of cleared_there) (tables_of x) (same_kept (tables_of collects.traced) (tables_of cleared_there) collects.sweeps.keeps) (record {
        entries = ap (λ (t : Tables). t.remembered) collects.sets.tables;
        cursor = ap (λ (t : Tables). t.cursors REMEMBERED_CURSOR) collects.sets.tables ∙ changed_other (tables_of cleared_there).cursors TRACING_WORD 0 REMEMBERED_CURSOR (λ e. cc);
      }))))

  -- where no block was Chosen, nothing was remembered
  collect_remembered : NoneChosen (tables_of s) s.limits.blocks → SameRemembered (tables_of s) (tables_of x)
  collect_remembered none = same_both (tables_of s) (tables_of k) (tables_of x) (counts.remembered none) collect_still

  pub collect_settles : Settles s x g at' (record { first_dead = gone; second_dead = collects.gone; third_dead = collects.third }) [] []
  collect_settles = settles_there s k g can at' gone counts kind.Collect collects.gone collects.third collects.swept
      (sweep_parts s k g can at' gone counts kind.Collect collects.found collects.traced cleared_there collects.gone collects.swept collects.third collects.finishes collect_keeps collects.traces.holds collects.sweeps swept_unreachable refl)
      x (record {
        space = collect_is;
        never_ends = λ j e. cc;
        holds = collect_holds;
        undecremented = undecremented_then cleared_there x None collect_reworded collect_last None at' collects.sweeps.undecremented;
        traced = tt;
        trace = ap (λ (y : Space). y.trace) collected_is;
        queues = tt;
        drained = ap (λ (t : Tables). t.cursors DECREMENT_COUNT) collects.sets.tables ∙ changed_other (tables_of cleared_there).cursors TRACING_WORD 0 DECREMENT_COUNT (λ e. cc) ∙ collects.sweeps.empty;
        keeps = keeps_on (tables_of k) (tables_of cleared_there) (tables_of x)
            (cleared_keeps s k g can at' gone counts kind.Collect collects.found collects.traced cleared_there collects.gone collects.swept collects.third collects.finishes collect_keeps collects.traces.holds collects.sweeps)
            (keeps_set cleared_there x None collects.sets);
        remembered = collect_remembered;
        draws = record { entered = counts.draws.entered; are = counts.draws.are; drawn = collect_still.cursor ∙ counts.draws.drawn };
        chosen = subst (λ t. NoneChosen t s.limits.blocks) (sym collects.sets.tables)
            (subst (λ n. NoneChosen (tables_of cleared_there) n) (cleared_blocks ∙ ap (λ (y : Space). y.limits.blocks) collects.finishes.space ∙ ap (λ (y : Space). y.limits.blocks) counts.space) unchosen_then);
        traces = ends_tracing x collect_lead at' collect_holds (λ n h. ap (λ (t : Tables). t.marks (granule_of (at' n))) collects.sets.tables
            ∙ marked_cleared s k g can at' gone counts kind.Collect collects.found collects.traced cleared_there collects.gone collects.swept collects.third collects.finishes collect_keeps collects.traces.holds collects.sweeps n h);
      })
