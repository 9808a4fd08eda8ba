-- What a pause of each kind has done once counting and tracing are: a plain one nothing more, one that begins a trace has it begun, and one
-- that ends a trace or collects has swept what isn't marked.
use Rattle.std.proofs.Common.{◌≡◌, ℕ, ◌+◌, refl, sym, ap, subst, ◌∙◌, inl, inr, arith, List, [], ◌++◌, IsTrue}
use Rattle.std.specs.Prelude.{◌↔◌, Option, Some, None}
use Rattle.std.specs.Option.{option_map}
use Rattle.std.proofs.lemmas.List.{append-nil}
use Rattle.lxr_layout.specs.declared.Name.{Name}
use Rattle.lxr_layout.specs.declared.TheConstants.{DECREMENT_COUNT, DECREMENT_CURSOR, REMEMBERED_CURSOR, TRACING_WORD}
use Rattle.lxr_graph.specs.declared.report.Kind.TheVariants as kind
use Rattle.lxr_graph.specs.declared.report.Report.{Report}
use Rattle.lxr_graph.specs.Names.{has, union, without}
use Rattle.lxr_graph.specs.State.{State}
use Rattle.lxr_graph.specs.History.{PauseReport, report_of}
use Rattle.lxr_graph.proofs.NameSets.{in_without, not_both, without_parts}
use Rattle.lxr_image.specs.declared.space.Space.{Space}
use Rattle.lxr_image.specs.Tables.{Tables, changed}
use Rattle.lxr_image.specs.Spaces.{tables_of}
use Rattle.lxr_model.specs.Dead.{Dead, dead}
use Rattle.lxr_model.specs.Moments.{Moment, Trace, going_on}
use Rattle.lxr_model.proofs.ReachableLemmas.{dead_parts}
use Rattle.lxr_model_counting.proofs.DistinctLemmas.{tested, without_apart}
use Rattle.lxr_invariant.specs.AbstractState.{AbstractState}
use Rattle.lxr_invariant.specs.Copied.{standing}
use Rattle.lxr_invariant.specs.Counting.{IsUndecremented}
use Rattle.lxr_invariant.specs.Keeping.{KeepsListsAndCounters}
use Rattle.lxr_invariant.specs.Lines.{HasBlocks, FreeAreUnused}
use Rattle.lxr_invariant.specs.Quiescent.{HoldsMoment}
use Rattle.lxr_invariant.specs.Tracing.{IsTracedBy, TraceHolds}
use Rattle.lxr_invariant.proofs.EntryLemmas.{changed_other}
use Rattle.lxr_invariant.proofs.FrameLemmas.{undecremented_still}
use Rattle.lxr_invariant.proofs.NameLemmas.{no_member}
use Rattle.lxr_evac_blocks.specs.Choosing.{with_choice}
use Rattle.lxr_pause_trace_laws.specs.Laws.{at_moment, fresh_trace}
use Rattle.lxr_pause_trace_laws.proofs.BeginningLemmas.{beginning}
use Rattle.lxr_blocks.specs.Swept.{with_states_by_lines}
use Rattle.lxr_one_pause.specs.Settling.{Settles, SettlesCounts, counted}
use Rattle.lxr_one_pause.specs.Tracing.{Begins, CanBegin, SetsTrace, drained, word_of_trace}
use Rattle.lxr_one_pause.specs.Pausing.{BeginsTracing, CanPause, KeepsThroughPause, Traces}
use Rattle.lxr_one_pause.specs.Relocating.{ChoosesBlocks}
use Rattle.lxr_one_pause.proofs.BlocksLemmas.{begun_anew, begun_blocks, begun_chosen, begun_cursor, chosen_before, chosen_then, none_remembered, begun_free}
use Rattle.lxr_one_pause.proofs.BuildingLemmas.{AreParts, KeepsThroughTracing, leads, now, report, settles_there, with_kind}
use Rattle.lxr_one_pause.proofs.FrameLemmas.{IsReworded, holds_of_kind, holds_then, undecremented_then}
use Rattle.lxr_one_pause.proofs.RememberedLemmas.{same_both}
use Rattle.lxr_one_pause.proofs.TracedLemmas.{trace_still, traces_still}
use Rattle.lxr_one_pause.proofs.TracingLemmas.{KeepsButMarks, kept_cursor, keeps_begun, settled_left}
use Rattle.lxr_invariant.proofs.UnusedLemmas.{unused_by_lines}

-- ---- small facts

without_none : (ns : List Name) → without ns [] ≡ ns
without_none ns = without_apart ns [] (λ n h. refl)

pub going_same : (m : Moment) (p q : PauseReport) → p.promoted ≡ q.promoted → (trace : Option Trace) → going_on m p trace ≡ going_on m q trace
going_same m p q same None = refl
going_same m p q same (Some trace) = ap (λ ns. going_on m (record p { promoted = ns }) (Some trace)) same

began_on : (m : Moment) (r : PauseReport) (trace : Option Trace) → option_map (λ (trace : Trace). trace.began) (going_on m r trace) ≡ option_map (λ (trace : Trace). trace.began) trace
began_on m r None = refl
began_on m r (Some trace) = refl

-- nothing is dead once the dead are gone
dead_before : (s : State) (us stuck gone : List Name) → ((n : Name) → IsTrue (has gone n) ↔ Dead s us stuck n) → (n : Name) → Dead s (without us gone) stuck n → Dead s us stuck n
dead_before s us stuck gone are n (dead member unstuck unheld each) =
    dead (without_parts us gone n member).0 unstuck unheld (λ u h f. elim (tested (has gone u)) [
      | inl d ↦ (are u).0 d
      | inr stays ↦ dead_before s us stuck gone are u (each u (in_without us gone u h (λ d. not_both (has gone u) d stays)) f)
    ])

nothing_dead : (s : State) (us stuck gone : List Name) → ((n : Name) → IsTrue (has gone n) ↔ Dead s us stuck n) → (n : Name) → Dead s (without us gone) stuck n → ⊥
nothing_dead s us stuck gone are n d = not_both (has gone n) ((are n).1 (dead_before s us stuck gone are n d)) (without_parts us gone n (dead_parts d).member).1

-- ---- what is kept of tables

pub lists_on : (t u v : Tables) → KeepsThroughPause t u → KeepsThroughPause u v → KeepsThroughPause t v
lists_on t u v first second = record {
  runs = second.runs ∙ first.runs;
  frees = second.frees ∙ first.frees;
  cursors = λ j a b c d. second.cursors j a b c d ∙ first.cursors j a b c d;
}

pub keeps_on : (t u v : Tables) → KeepsThroughTracing t u → KeepsThroughTracing u v → KeepsThroughTracing t v
keeps_on t u v first second = record {
  heap = second.heap ∙ first.heap;
  reuse = second.reuse ∙ first.reuse;
  outs = second.outs ∙ first.outs;
  lists = lists_on t u v first.lists second.lists;
}

-- where all but the set and the cursors of one step are those of another's
pub keeps_counters : (t u : Tables) → KeepsListsAndCounters t u → u.outs ≡ t.outs → KeepsThroughTracing t u
keeps_counters t u keeps outs = record {
  heap = keeps.heap;
  reuse = keeps.reuse;
  outs = outs;
  lists = record { runs = keeps.runs; frees = keeps.frees; cursors = λ j a b c d. keeps.cursors j a b };
}

pub keeps_traced : (a b : Space) → KeepsButMarks a b → KeepsThroughTracing (tables_of a) (tables_of b)
keeps_traced a b keeps = record {
  heap = ap (λ (z : Tables). z.heap) keeps.tables;
  reuse = ap (λ (z : Tables). z.reuse) keeps.tables;
  outs = ap (λ (z : Tables). z.outs) keeps.tables;
  lists = record {
    runs = ap (λ (z : Tables). z.runs) keeps.tables;
    frees = ap (λ (z : Tables). z.frees) keeps.tables;
    cursors = λ j a' b' c d. kept_cursor a b j keeps c;
  };
}

pub keeps_set : (c x : Space) (began : Option ℕ) → SetsTrace c x began → KeepsThroughTracing (tables_of c) (tables_of x)
keeps_set c x began sets = record {
  heap = ap (λ (z : Tables). z.heap) sets.tables;
  reuse = ap (λ (z : Tables). z.reuse) sets.tables;
  outs = ap (λ (z : Tables). z.outs) sets.tables;
  lists = record {
    runs = ap (λ (z : Tables). z.runs) sets.tables;
    frees = ap (λ (z : Tables). z.frees) sets.tables;
    cursors = λ j a b c' d. ap (λ (z : Tables). z.cursors j) sets.tables ∙ changed_other (tables_of c).cursors TRACING_WORD (word_of_trace began) j d;
  };
}

module _ (s k : Space) (g : AbstractState) (can : CanPause s g) (at' : Name → ℕ) (gone : List Name) (counts : SettlesCounts s k g at' gone) where
  abbrev m : Moment
  m = g.moment

  abbrev kept : List Name
  kept = (counted m gone k.report).unreclaimed

  -- ---- a plain pause

  abbrev plain_end : Space
  plain_end = with_kind s k g can at' gone counts kind.Plain

  abbrev plain_report : Report
  plain_report = report s k g can at' gone counts kind.Plain [] [] []

  plain_dead : k.report.dead.items ≡ gone ++ []
  plain_dead = counts.tells.dead ∙ sym (append-nil gone)

  plain_is : plain_end ≡ record k { report = plain_report }
  plain_is i = record k {
    report = record k.report {
      kind = kind.Plain;
      dead = record k.report.dead { items = plain_dead i };
      swept = record k.report.swept { items = counts.tells.swept i };
    };
  }

  plain_lead : counted m gone k.report ≡ leads s k g can at' gone counts kind.Plain [] [] []
  plain_lead i = record {
    state = m.state;
    last = m.state;
    number = m.number + 1;
    unreclaimed = sym (ap (λ ns. without (without ns []) []) (without_none kept) ∙ ap (λ ns. without ns []) (without_none kept) ∙ without_none kept) i;
    stuck = sym (without_none (union k.report.stuck.items m.stuck)) i;
    trace = going_same m (report_of k.report) (report_of plain_report) refl m.trace i;
    made = [];
    written = [];
  }

  plain_parts : AreParts s k g can at' gone counts kind.Plain [] [] []
  plain_parts = record {
    second_once = tt;
    third_once = tt;
    swept_once = tt;
    second_kept = λ n h. no_member n h;
    third_left = λ n h. no_member n h;
    dies = (refl, refl);
    sweeps = refl;
  }

  pub plain_settles : Settles s plain_end g at' (record { first_dead = gone; second_dead = []; third_dead = [] }) [] []
  plain_settles = settles_there s k g can at' gone counts kind.Plain [] [] [] plain_parts plain_end (record {
    space = plain_is;
    never_ends = λ j e. cc;
    holds = subst (λ z. HoldsMoment plain_end z at') plain_lead (holds_of_kind k (counted m gone k.report) at' kind.Plain counts.holds);
    undecremented = subst (λ z. IsUndecremented (tables_of k) z at') plain_lead counts.undecremented;
    traced = subst (λ z. IsTracedBy k.limits (tables_of k) [] (at_moment (standing g at') z) z.trace) plain_lead counts.traced;
    trace = ap (λ (x : Space). x.trace) counts.space ∙ can.safepoint.numbers.trace ∙ sym (began_on m (report_of plain_report) m.trace);
    queues = counts.queues;
    drained = tt;
    keeps = record { heap = refl; reuse = refl; outs = refl; lists = record { runs = refl; frees = refl; cursors = λ j a b c d. refl } };
    remembered = λ none. same_both (tables_of s) (tables_of k) (tables_of plain_end) (counts.remembered none) (record { entries = refl; cursor = refl });
    draws = counts.draws;
    chosen = λ b. (chosen_before (tables_of s) (tables_of k) b (counts.states b), chosen_then (tables_of s) (tables_of k) b (counts.states b));
    traces = subst (λ ns. Traces kind.Plain m.trace s plain_end g at' (report_of plain_report) ns) (ap (λ (z : Moment). z.unreclaimed) plain_lead)
        (traces_still s k plain_end g at' (report_of k.report) (report_of plain_report) kept refl refl (λ n. refl) (λ n. ap (λ ns. has ns n) (sym plain_dead)) kind.Plain m.trace counts.traces);
  })

  -- ---- a pause that begins a trace

  module _ (x : Space) (may : CanBegin (with_kind s k g can at' gone counts kind.Begin) (now s k g can at' gone counts kind.Begin))
      (begins : Begins (with_kind s k g can at' gone counts kind.Begin) x (now s k g can at' gone counts kind.Begin)) where
    abbrev second : List Name
    second = begins.gone

    abbrev left : Moment
    left = drained (now s k g can at' gone counts kind.Begin) second

    abbrev fresh : Trace
    fresh = fresh_trace left k.report.number

    abbrev began : Option ℕ
    began = Some k.report.number

    abbrev begun : Space
    begun = begins.begun

    abbrev begin_report : Report
    begin_report = report s k g can at' gone counts kind.Begin second [] []

    abbrev begin_lead : Moment
    begin_lead = leads s k g can at' gone counts kind.Begin second [] []

    -- ---- the space and its tables

    begin_dead : k.report.dead.items ++ second ≡ gone ++ (second ++ [])
    begin_dead = ap (λ ns. ns ++ second) counts.tells.dead ∙ ap (λ ns. gone ++ ns) (sym (append-nil second))

    begun_then : x ≡ record begun { words = x.words; trace = began }
    begun_then =
        begins.sets.space
        ∙ ap (λ (y : Space). record y { words = x.words; trace = began }) begins.chooses.rest
        ∙ ap (λ (y : Space). record y { words = x.words; trace = began }) begins.sweeps.rest

    begun_is : x ≡ record k { words = x.words; report = begin_report; trace = began }
    begun_is =
        begun_then
        ∙ ap (λ (y : Space). record y { words = x.words; trace = began }) begins.begins.space
        ∙ ap (λ (y : Space). record y { words = x.words; trace = began }) begins.finishes.space
        ∙ (λ i. record k {
          words = x.words;
          trace = began;
          report = record k.report {
            kind = kind.Begin;
            dead = record k.report.dead { items = begin_dead i };
            swept = record k.report.swept { items = counts.tells.swept i };
          };
        })

    pub begin_is : x ≡ record k { words = x.words; report = begin_report; trace = x.trace }
    begin_is = begun_is ∙ (λ i. record k { words = x.words; report = begin_report; trace = sym (ap (λ (y : Space). y.trace) begun_is) i })

    swept_limits_are : begins.swept.limits ≡ begun.limits
    swept_limits_are = ap (λ (y : Space). y.limits) begins.sweeps.rest

    tables_are : tables_of x ≡ begun_anew (tables_of begun) begun.limits
    tables_are =
        begins.sets.tables
        ∙ ap (λ (t : Tables). record t { cursors = changed t.cursors TRACING_WORD 1 })
        (begins.chooses.tables ∙ ap (with_choice begins.swept.limits) begins.sweeps.tables ∙ ap (λ l. with_choice l (with_states_by_lines (tables_of begun) begun.limits.blocks)) swept_limits_are)

    is_reworded : IsReworded begun x began
    is_reworded = record {
      same = begun_then;
      agree = record {
        states = (begun_anew (tables_of begun) begun.limits).states;
        cursors = (begun_anew (tables_of begun) begun.limits).cursors;
        tables = tables_are;
        drawn = begun_cursor (tables_of begun) begun.limits DECREMENT_CURSOR (λ e. cc) (λ e. cc);
        waiting = begun_cursor (tables_of begun) begun.limits DECREMENT_COUNT (λ e. cc) (λ e. cc);
      };
    }

    begin_limits : begun.limits ≡ s.limits
    begin_limits = ap (λ (y : Space). y.limits) begins.begins.space ∙ ap (λ (y : Space). y.limits) begins.finishes.space ∙ ap (λ (y : Space). y.limits) counts.space

    blocks_begun : HasBlocks (tables_of begun) begun.limits None
    blocks_begun = subst (HasBlocks (tables_of begun) begun.limits) may.none_runs begins.begins.holds.blocks

    begin_keeps : KeepsThroughTracing (tables_of k) (tables_of x)
    begin_keeps =
        keeps_on (tables_of k) (tables_of begins.found) (tables_of x) (keeps_counters (tables_of k) (tables_of begins.found) begins.finishes.keeps begins.finishes.outs)
        (keeps_on (tables_of begins.found) (tables_of begun) (tables_of x) (keeps_traced begins.found begun (keeps_begun begins.found begun left at' begins.begins))
        (record {
          heap = ap (λ (z : Tables). z.heap) tables_are;
          reuse = ap (λ (z : Tables). z.reuse) tables_are;
          outs = ap (λ (z : Tables). z.outs) tables_are;
          lists = record {
            runs = ap (λ (z : Tables). z.runs) tables_are;
            frees = ap (λ (z : Tables). z.frees) tables_are;
            cursors = λ j a b c d. ap (λ (z : Tables). z.cursors j) tables_are ∙ begun_cursor (tables_of begun) begun.limits j c d;
          };
        }))

    -- ---- the moment

    begin_left : left.unreclaimed ≡ begin_lead.unreclaimed
    begin_left = sym (ap (λ ns. without ns []) (without_none (without kept second)) ∙ without_none (without kept second))

    lead_is : record left { trace = Some fresh } ≡ begin_lead
    lead_is i = record {
      state = m.state;
      last = m.state;
      number = m.number + 1;
      unreclaimed = begin_left i;
      stuck = sym (without_none (union k.report.stuck.items m.stuck)) i;
      trace = Some (record { began = k.report.number; state = m.state; unreclaimed = begin_left i; promoted_slots = 0; written_slots = 0 });
      made = [];
      written = [];
    }

    none_left_dead : (n : Name) → Dead m.state left.unreclaimed left.stuck n → ⊥
    none_left_dead = nothing_dead m.state kept left.stuck second begins.finishes.dead

    begin_parts : AreParts s k g can at' gone counts kind.Begin second [] []
    begin_parts = record {
      second_once = begins.finishes.once;
      third_once = tt;
      swept_once = tt;
      second_kept = λ n h. (dead_parts ((begins.finishes.dead n).0 h)).member;
      third_left = λ n h. no_member n h;
      dies = (begins.finishes.dead, λ n. ((λ h. no_member n h), (λ d. absurd (none_left_dead n (subst (λ ns. Dead m.state ns left.stuck n) (without_none (without kept second)) d)))));
      sweeps = refl;
    }

    begun_undecremented : IsUndecremented (tables_of begun) left at'
    begun_undecremented = undecremented_still (tables_of begins.found) (tables_of begun) left at' (ap (λ (t : Tables). t.dones) begins.begins.tables) (ap (λ (t : Tables). t.counts) begins.begins.tables)
        (ap (λ (t : Tables). t.cursors DECREMENT_CURSOR) begins.begins.tables) begins.finishes.undecremented

    begin_rest : x.rest_next ≡ x.rest_end
    begin_rest = ap (λ (y : Space). y.rest_next) begun_is ∙ counts.no_rest ∙ sym (ap (λ (y : Space). y.rest_end) begun_is)

    begin_holds : HoldsMoment x (record left { trace = Some fresh }) at'
    begin_holds = holds_then begun x began is_reworded left (Some fresh) at' refl (inl begin_rest)
        (subst (λ t. HasBlocks t begun.limits (Some fresh)) (sym tables_are) (begun_blocks (tables_of begun) begun.limits blocks_begun fresh))
        (subst (λ t. FreeAreUnused t at' left.unreclaimed) (sym tables_are)
        (unused_by_lines (tables_of begun) (begun_anew (tables_of begun) begun.limits) at' left.unreclaimed refl (begun_free (tables_of begun) begun.limits blocks_begun) begun_undecremented.positive begins.begins.holds.unused))
        begins.begins.holds

    begin_traced : TraceHolds x.limits (tables_of x) [] (at_moment (standing g at') (record left { trace = Some fresh })) fresh
    begin_traced =
        let after : Tables = begun_anew (tables_of begun) begun.limits in
        let holds = beginning begins.found begun after left at' g.reported k.report.number
        (settled_left (with_kind s k g can at' gone counts kind.Begin) (now s k g can at' gone counts kind.Begin) may.drains begins.found second begins.finishes)
        begins.finishes.undecremented none_left_dead begins.begins refl (none_remembered (tables_of begun) begun.limits) in
        subst (λ t. TraceHolds x.limits t [] (at_moment (standing g at') (record left { trace = Some fresh })) fresh) (sym tables_are)
        (subst (λ l. TraceHolds l after [] (at_moment (standing g at') (record left { trace = Some fresh })) fresh) (sym (ap (λ (y : Space). y.limits) begun_then))
        (trace_still begun.limits after after.states after.cursors [] (record { moment = left; at = at'; reported = g.reported })
        left.number left.stuck (Some fresh) g.reported (λ n. refl) (omega arith) refl (λ b c. c) fresh holds))

    begin_traces : BeginsTracing x g at'
    begin_traces = record {
      none_marked = λ j. ap (λ (t : Tables). t.marks j) tables_are ∙ begins.begins.none_marked j;
      grays = λ j. (
        λ h. (begins.begins.grays j).0 (sym (ap (λ (t : Tables). t.grays j) tables_are) ∙ h),
        λ r. ap (λ (t : Tables). t.grays j) tables_are ∙ (begins.begins.grays j).1 r,
      );
    }

    pub begin_settles : Settles s x g at' (record { first_dead = gone; second_dead = second; third_dead = [] }) [] []
    begin_settles = settles_there s k g can at' gone counts kind.Begin second [] [] begin_parts x (record {
      space = begin_is;
      never_ends = λ j e. cc;
      holds = subst (λ z. HoldsMoment x z at') lead_is begin_holds;
      undecremented = subst (λ z. IsUndecremented (tables_of x) z at') lead_is (undecremented_then begun x began is_reworded left (Some fresh) at' begun_undecremented);
      traced = subst (λ z. IsTracedBy x.limits (tables_of x) [] (at_moment (standing g at') z) z.trace) lead_is begin_traced;
      trace = ap (λ (y : Space). y.trace) begun_is;
      queues = tt;
      drained = ap (λ (t : Tables). t.cursors DECREMENT_COUNT) tables_are
          ∙ begun_cursor (tables_of begun) begun.limits DECREMENT_COUNT (λ e. cc) (λ e. cc)
          ∙ ap (λ (t : Tables). t.cursors DECREMENT_COUNT) begins.begins.tables
          ∙ begins.finishes.empty;
      keeps = begin_keeps;
      remembered = ap (λ (t : Tables). t.cursors REMEMBERED_CURSOR) tables_are ∙ none_remembered (tables_of begun) begun.limits;
      draws = ap (λ (t : Tables). t.cursors REMEMBERED_CURSOR) tables_are ∙ none_remembered (tables_of begun) begun.limits;
      chosen = subst (λ t. ChoosesBlocks kind.Begin (tables_of s) t s.limits) (sym tables_are)
          (subst (ChoosesBlocks kind.Begin (tables_of s) (begun_anew (tables_of begun) begun.limits)) begin_limits (begun_chosen (tables_of begun) begun.limits blocks_begun (tables_of s)));
      traces = begin_traces;
    })
