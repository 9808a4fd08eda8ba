-- What a pause of any kind has done once counting and tracing are: its parts put together, whatever its kind.
use Rattle.std.proofs.Common.{◌≡◌, ◌≢◌, ℕ, ◌+◌, refl, sym, ap, subst, ◌∙◌, inl, inr, ◌⊎◌, arith, false, List, [], ◌++◌, IsTrue, length}
use Rattle.std.specs.Prelude.{◌↔◌, Option, Some, None}
use Rattle.std.specs.Option.{option_map}
use Rattle.std.proofs.lemmas.Bool.{false_from_ne_true}
use Rattle.lxr_layout.specs.declared.TheConstants.{REMEMBERED_CURSOR}
use Rattle.lxr_layout.specs.declared.Name.{Name}
use Rattle.lxr_graph.specs.declared.report.Kind.{Kind}
use Rattle.lxr_graph.specs.declared.report.Kind.TheVariants as kind
use Rattle.lxr_graph.specs.declared.report.Report.{Report}
use Rattle.lxr_graph.specs.Distinct.{IsDistinct}
use Rattle.lxr_graph.specs.Names.{has, without}
use Rattle.lxr_graph.specs.State.{HasObject, Object, State, object_at}
use Rattle.lxr_graph.specs.History.{PauseReport, report_of}
use Rattle.lxr_graph.proofs.NameSets.{in_without, not_both, union_cases, without_parts}
use Rattle.lxr_image.specs.declared.space.Space.{Space}
use Rattle.lxr_image.specs.Tables.{Tables}
use Rattle.lxr_image.specs.Spaces.{tables_of}
use Rattle.lxr_model.specs.Dead.{Dead}
use Rattle.lxr_model.specs.Moments.{Moment, Trace, going_on}
use Rattle.lxr_model.specs.Reports.{PauseParts, is_draining}
use Rattle.lxr_model.proofs.ReachableLemmas.{dead_parts, promoted_made}
use Rattle.lxr_blocks.specs.Lines.{is_free}
use Rattle.lxr_model_counting.specs.Following.{FollowsPause}
use Rattle.lxr_model_counting.proofs.DistinctLemmas.{tested}
use Rattle.lxr_invariant.specs.AbstractState.{AbstractState}
use Rattle.lxr_invariant.specs.Copied.{CopiesLieApart, CopiesPromoted, HasCopy, StayForWantOfLines, standing}
use Rattle.lxr_invariant.specs.Counting.{IsUndecremented, count_at}
use Rattle.lxr_invariant.specs.Lines.{HasMarks}
use Rattle.lxr_invariant.specs.Quiescent.{HoldsMoment}
use Rattle.lxr_invariant.specs.Tracing.{IsTracedBy}
use Rattle.lxr_invariant.proofs.CopiedLemmas.{IsGoneFrom, copies_still, free_was, stay_still}
use Rattle.lxr_invariant.proofs.NameLemmas.{in_first, in_second, no_member}
use Rattle.lxr_pause_trace_laws.specs.Laws.{at_moment}
use Rattle.lxr_one_pause.specs.Settling.{DiesBy, IsSweptBy, Settles, SettlesCounts, Tells, counted, kept_by, remaining_by, settled_by}
use Rattle.lxr_one_pause.specs.Tracing.{CanDrain}
use Rattle.lxr_one_pause.specs.Pausing.{CanPause, DrawsByKind, IsDrained, IsLetGo, KeepsObjects, KeepsThroughPause, LeavesRemembered, QueuesOldValues, Traces}
use Rattle.lxr_one_pause.specs.Relocating.{ChoosesBlocks, Evacuates, Relocates}
use Rattle.lxr_one_pause.proofs.DistinctnessLemmas.{distinct_three}
use Rattle.lxr_one_pause.proofs.FrameLemmas.{holds_of_kind}
use Rattle.lxr_one_pause.proofs.RelocatingLemmas.{none_counted, none_evacuated, none_relocated}
use Rattle.lxr_one_pause.proofs.RememberedLemmas.{can_remember, other_cursors}

-- what a pause keeps of the tables once counting is done, where it moves nothing
pub record KeepsThroughTracing (t u : Tables) : Type 0 where
  pub heap : u.heap ≡ t.heap
  pub reuse : u.reuse ≡ t.reuse
  pub outs : u.outs ≡ t.outs
  pub lists : KeepsThroughPause t u

-- ---- the graph has grown alone

objects_on : (m : Moment) (r : PauseReport) (last : Moment) → FollowsPause m → last.last ≡ m.state → (trace : Option Trace) → KeepsObjects m trace → KeepsObjects last (going_on m r trace)
objects_on m r last follows same None is = tt
objects_on m r last follows same (Some trace) is = ((λ n h. subst (λ (z : State). HasObject z.graph n) (sym same) (follows.grows n (is.0 n h))), is.1)

-- ---- what counting leaves may be drained

module _ (s k : Space) (g : AbstractState) (can : CanPause s g) (at' : Name → ℕ) (gone : List Name) (counts : SettlesCounts s k g at' gone) (is : Kind) where
  abbrev m : Moment
  m = g.moment

  -- the space with its kind decided, and what it stands for
  abbrev pub with_kind : Space
  with_kind = record k { report = record k.report { kind = is } }

  abbrev pub now : AbstractState
  now = at_moment (standing g at') (counted m gone k.report)

  same_blocks : k.limits.blocks ≡ s.limits.blocks
  same_blocks = ap (λ (x : Space). x.limits.blocks) counts.space

  pub can_drain : CanDrain with_kind now
  can_drain = record {
    holds = holds_of_kind k now.moment at' is counts.holds;
    settled = record { same = refl; none_made = refl; none_written = refl };
    undecremented = counts.undecremented;
    traced = counts.traced;
    remembers = can_remember k.limits (tables_of k) [] now now.moment.trace counts.holds.space.limits
        (let few = can.counted.0 in let same = can.safepoint.numbers.pauses in omega (arith, few, same)) counts.traced;
    objects = objects_on m (report_of k.report) now.moment can.safepoint.holds.follows refl m.trace can.objects;
    no_logs = counts.no_logs;
    few_dead = counts.few_dead;
    none_swept = counts.tells.swept;
  }

  -- ---- the parts of a pause put together

  module _ (second third swept : List Name) where
    abbrev pub parts : PauseParts
    parts = record { first_dead = gone; second_dead = second; third_dead = third }

    -- the report once these have died and were swept
    abbrev pub report : Report
    report = record k.report {
      kind = is;
      dead = record k.report.dead { items = gone ++ (second ++ third) };
      swept = record k.report.swept { items = swept };
    }

    abbrev pub leads : Moment
    leads = settled_by m parts report

    abbrev kept : List Name
    kept = kept_by m parts report

    -- what is kept once counting is done is left, or died by then or was swept
    left_or_reclaimed : (n : Name) → IsTrue (has kept n) → IsTrue (has leads.unreclaimed n) ⊎ IsTrue (has (report.dead.items ++ report.swept.items) n)
    left_or_reclaimed n member = elim (tested (has second n)) [
      | inl d ↦ inr (in_first report.dead.items swept n (in_second gone (second ++ third) n (in_first second third n d)))
      | inr undead ↦ elim (tested (has swept n)) [
        | inl w ↦ inr (in_second report.dead.items swept n w)
        | inr unswept ↦ elim (tested (has third n)) [
          | inl d ↦ inr (in_first report.dead.items swept n (in_second gone (second ++ third) n (in_second second third n d)))
          | inr stays ↦ inl
              (in_without (remaining_by m parts report) third n
              (in_without (without kept second) swept n (in_without kept second n member (λ d. not_both (has second n) d undead)) (λ w. not_both (has swept n) w unswept))
              (λ d. not_both (has third n) d stays))
        ]
      ]
    ]

    -- the objects that are kept once counting is done
    objects : (n : Name) → IsTrue (has kept n) → (o : Object) × (object_at m.state.graph n ≡ Some o)
    objects n member = let there = counts.holds.image.image.stands n (in_first kept [] n member) in (there.0, there.1)

    -- names of these parts, each once
    pub record AreParts : Type 0 where
      pub second_once : IsDistinct second
      pub third_once : IsDistinct third
      pub swept_once : IsDistinct swept
      pub second_kept : (n : Name) → IsTrue (has second n) → IsTrue (has (kept_by m parts report) n)
      pub third_left : (n : Name) → IsTrue (has third n) → IsTrue (has (remaining_by m parts report) n)
      pub dies : DiesBy m parts report (is_draining is)
      pub sweeps : IsSweptBy m parts report is

    module _ (names : AreParts) where
      -- what is kept once counting is done isn't among the first dead
      pub kept_alive : (n : Name) → IsTrue (has (kept_by m parts report) n) → has gone n ≡ false
      kept_alive n h = elim (union_cases k.report.promoted.items (without m.unreclaimed gone) n h) [
        | inl p ↦ false_from_ne_true (has gone n) (λ d.
            let made : IsTrue (has m.made n) = promoted_made ((counts.tells.raised.promoted_are n).0 p) in
            not_both (has m.unreclaimed n) (dead_parts ((counts.tells.are_dead n).0 d)).member (can.safepoint.holds.follows.apart n made))
        | inr h ↦ (without_parts m.unreclaimed gone n h).1
      ]

      -- a name was reclaimed, and wasn't dead when the pause began
      abbrev IsGone : Name → Type 0
      IsGone n = IsTrue (has (report.dead.items ++ report.swept.items) n) × ¬ Dead m.last m.unreclaimed m.stuck n

      left_or_gone : (n : Name) → IsTrue (has kept n) → IsTrue (has leads.unreclaimed n) ⊎ IsGone n
      left_or_gone n member = elim (left_or_reclaimed n member) [
        | inl stays ↦ inl stays
        | inr reclaimed ↦ inr (reclaimed, λ d. not_both (has gone n) ((counts.tells.are_dead n).1 d) (kept_alive n member))
      ]

      let_go : (line : ℕ) → IsGoneFrom m.state.graph at' IsGone line → IsLetGo g at' (report_of report) line
      let_go line (n, o, k, gone_is, covers, is) = (n, o, k, gone_is.0, gone_is.1, covers, is)

      left_parts : (n : Name) → IsTrue (has third n) → IsTrue (has (kept_by m parts report) n) × (has second n ≡ false)
      left_parts n h = without_parts (kept_by m parts report) second n (without_parts (without (kept_by m parts report) second) swept n (names.third_left n h)).0

      told : Tells report parts m
      told = record {
        number = counts.tells.number;
        dead = refl;
        first = counts.tells.are_dead;
        raised = counts.tells.raised;
        drained = names.dies;
        swept = names.sweeps;
        distinct = record {
          promoted = counts.tells.raised.promoted_once;
          dead = distinct_three gone second third counts.tells.once names.second_once names.third_once (λ n h. kept_alive n (names.second_kept n h)) (λ n h. (kept_alive n (left_parts n h).0, (left_parts n h).1));
          stuck = counts.tells.raised.stuck_once;
          swept = names.swept_once;
        };
        counts = counts.tells.counts;
        told = counts.tells.told;
      }

      -- a line that is free in other tables was free once counting was done, unless it is let go
      pub line_was_free : (u : Tables) → HasMarks u m.state.graph at' leads.unreclaimed → ((n : Name) → IsTrue (has leads.unreclaimed n) → count_at u at' n ≢ 0)
          → (line : ℕ) → ¬ IsLetGo g at' (report_of report) line → IsTrue (is_free (record u { outs = (tables_of s).outs }) line) → IsTrue (is_free (record (tables_of k) { outs = (tables_of s).outs }) line)
      line_was_free u marks positive line kept_line =
          free_was (tables_of k) u m.state.graph at' kept leads.unreclaimed IsGone objects counts.holds.marks marks positive left_or_gone
          (tables_of s).outs line (λ from. kept_line (let_go line from))

      -- what stayed for want of lines did so for want of lines that are free in other tables
      pub stay_then : (u : Tables) → HasMarks u m.state.graph at' leads.unreclaimed → ((n : Name) → IsTrue (has leads.unreclaimed n) → count_at u at' n ≢ 0)
          → StayForWantOfLines (tables_of s) u s.limits.blocks m g.at at' report.promoted.items (IsLetGo g at' (report_of report))
      stay_then u marks positive = stay_still (tables_of s) (tables_of k) (tables_of s) u s.limits.blocks m g.at at' report.promoted.items report.promoted.items (λ line. ⊥) (IsLetGo g at' (report_of report)) (λ n. refl)
          refl (line_was_free u marks positive) (λ line never. absurd never) counts.stay

      -- ---- the end, once some were moved and others kept

      module _ (x : Space) (to : Name → ℕ) (moved unmoved : List Name) where
        -- what is asked of the space then
        pub record HasEnded : Type 0 where
          pub space : x ≡ record k {
            words = x.words;
            registers = record k.registers { items = x.registers.items };
            deferred = record k.deferred { items = x.deferred.items };
            report = report;
            rest_next = x.rest_next;
            rest_end = x.rest_end;
            tally = x.tally;
            trace = x.trace;
          }
          pub holds : HoldsMoment x leads to
          pub undecremented : IsUndecremented (tables_of x) leads to
          pub evacuates : Evacuates s x g to leads.unreclaimed moved unmoved
          pub relocates : Relocates s x g to leads.unreclaimed report.promoted.items moved
          pub apart : CopiesLieApart s g to report.promoted.items
          pub stay : StayForWantOfLines (tables_of s) (tables_of x) s.limits.blocks m g.at to report.promoted.items (IsLetGo g to (report_of report))
          pub traced : IsTracedBy x.limits (tables_of x) [] (at_moment (standing g to) leads) leads.trace
          pub trace : x.trace ≡ option_map (λ (trace : Trace). trace.began) leads.trace
          pub queues : QueuesOldValues is s x
          pub drained : IsDrained x (is_draining is)
          pub outs : (line : ℕ) → IsTrue ((tables_of x).outs line) ↔ HasCopy m.state.graph g.at to moved line
          pub no_rest : moved ≡ [] → x.rest_next ≡ x.rest_end
          pub lists : KeepsThroughPause (tables_of k) (tables_of x)
          pub remembered : LeavesRemembered is (tables_of s) (tables_of x) s.limits.blocks
          pub draws : DrawsByKind is s g parts (report_of report) ((tables_of s).cursors REMEMBERED_CURSOR) ((tables_of x).cursors REMEMBERED_CURSOR)
          pub chosen : ChoosesBlocks is (tables_of s) (tables_of x) s.limits
          pub traces : Traces is m.trace s x g to (report_of report) leads.unreclaimed
          pub tally : x.tally ≡ record s.tally { moved = s.tally.moved + length moved; kept = s.tally.kept + length unmoved }

        module _ (ends : HasEnded) where
          same_report : x.report ≡ report
          same_report = ap (λ (y : Space). y.report) ends.space

          pub settles : Settles s x g to parts moved unmoved
          settles = record {
            tells = subst (λ r. Tells r parts m) (sym same_report) told;
            holds = subst (λ r. HoldsMoment x (settled_by m parts r) to) (sym same_report) ends.holds;
            undecremented = subst (λ r. IsUndecremented (tables_of x) (settled_by m parts r) to) (sym same_report) ends.undecremented;
            evacuates = subst (λ r. Evacuates s x g to (settled_by m parts r).unreclaimed moved unmoved) (sym same_report) ends.evacuates;
            relocates = subst (λ r. Relocates s x g to (settled_by m parts r).unreclaimed r.promoted.items moved) (sym same_report) ends.relocates;
            apart = subst (λ r. CopiesLieApart s g to r.promoted.items) (sym same_report) ends.apart;
            stay = subst (λ r. StayForWantOfLines (tables_of s) (tables_of x) s.limits.blocks m g.at to r.promoted.items (IsLetGo g to (report_of r))) (sym same_report) ends.stay;
            traced = subst (λ r. IsTracedBy x.limits (tables_of x) [] (at_moment (standing g to) (settled_by m parts r)) (settled_by m parts r).trace) (sym same_report) ends.traced;
            trace = subst (λ r. x.trace ≡ option_map (λ (trace : Trace). trace.began) (settled_by m parts r).trace) (sym same_report) ends.trace;
            queues = subst (λ r. QueuesOldValues r.kind s x) (sym same_report) ends.queues;
            drained = subst (λ r. IsDrained x (is_draining r.kind)) (sym same_report) ends.drained;
            no_logs = ap (λ (y : Space). y.logged.items) ends.space ∙ counts.no_logs;
            outs = ends.outs;
            no_rest = ends.no_rest;
            keeps = record {
              runs = ends.lists.runs ∙ counts.keeps.runs;
              frees = ends.lists.frees ∙ counts.keeps.frees;
              cursors = λ j a b c d. ends.lists.cursors j a b c d ∙ other_cursors (tables_of s) (tables_of k) j counts.keeps a b c;
            };
            draws = subst (λ r. DrawsByKind r.kind s g parts (report_of r) ((tables_of s).cursors REMEMBERED_CURSOR) ((tables_of x).cursors REMEMBERED_CURSOR)) (sym same_report) ends.draws;
            remembered = subst (λ r. LeavesRemembered r.kind (tables_of s) (tables_of x) s.limits.blocks) (sym same_report) ends.remembered;
            chosen = subst (λ r. ChoosesBlocks r.kind (tables_of s) (tables_of x) s.limits) (sym same_report) ends.chosen;
            traces = subst (λ r. Traces r.kind m.trace s x g to (report_of r) (settled_by m parts r).unreclaimed) (sym same_report) ends.traces;
            tally = ends.tally;
            space =
                ends.space
                ∙ ap (λ (y : Space). record y {
                  words = x.words;
                  registers = record y.registers { items = x.registers.items };
                  deferred = record y.deferred { items = x.deferred.items };
                  report = report;
                  rest_next = x.rest_next;
                  rest_end = x.rest_end;
                  tally = x.tally;
                  trace = x.trace;
                }) counts.space
                ∙ (λ i. record s {
                  words = x.words;
                  registers = record s.registers { items = x.registers.items };
                  deferred = sym (ap (λ (y : Space). y.deferred) ends.space) i;
                  logged = sym (ap (λ (y : Space). y.logged) ends.space) i;
                  report = sym same_report i;
                  rest_next = x.rest_next;
                  rest_end = x.rest_end;
                  tally = x.tally;
                  trace = x.trace;
                });
          }

      -- ---- the end, where none was moved

      module _ (x : Space) where
        -- what is asked of the space then
        pub record HasEndedThere : Type 0 where
          pub space : x ≡ record k { words = x.words; report = report; trace = x.trace }
          pub never_ends : (j : ℕ) → is ≡ kind.End j → ⊥
          pub holds : HoldsMoment x leads at'
          pub undecremented : IsUndecremented (tables_of x) leads at'
          pub traced : IsTracedBy x.limits (tables_of x) [] (at_moment (standing g at') leads) leads.trace
          pub trace : x.trace ≡ option_map (λ (trace : Trace). trace.began) leads.trace
          pub queues : QueuesOldValues is s x
          pub drained : IsDrained x (is_draining is)
          pub keeps : KeepsThroughTracing (tables_of k) (tables_of x)
          pub remembered : LeavesRemembered is (tables_of s) (tables_of x) s.limits.blocks
          pub draws : DrawsByKind is s g parts (report_of report) ((tables_of s).cursors REMEMBERED_CURSOR) ((tables_of x).cursors REMEMBERED_CURSOR)
          pub chosen : ChoosesBlocks is (tables_of s) (tables_of x) s.limits
          pub traces : Traces is m.trace s x g at' (report_of report) leads.unreclaimed

        module _ (ends : HasEndedThere) where
          copied : CopiesPromoted (tables_of s) (tables_of x) m g.at at' report.promoted.items
          copied = copies_still (tables_of s) (tables_of k) (tables_of s) (tables_of x) m m.unreclaimed g.at at' report.promoted.items report.promoted.items refl refl refl ends.keeps.heap ends.keeps.reuse (λ n. refl) counts.copies

          ended : HasEnded x at' [] []
          ended = record {
            space = ends.space ∙ (λ i. record k {
              words = x.words;
              registers = record k.registers { items = sym (ap (λ (y : Space). y.registers.items) ends.space) i };
              deferred = record k.deferred { items = sym (ap (λ (y : Space). y.deferred.items) ends.space) i };
              report = report;
              rest_next = sym (ap (λ (y : Space). y.rest_next) ends.space) i;
              rest_end = sym (ap (λ (y : Space). y.rest_end) ends.space) i;
              tally = sym (ap (λ (y : Space). y.tally) ends.space) i;
              trace = x.trace;
            });
            holds = ends.holds;
            undecremented = ends.undecremented;
            evacuates = none_evacuated s x g at' leads.unreclaimed (λ j e. ends.never_ends j (sym (ap (λ (y : Space). y.report.kind) ends.space) ∙ e));
            relocates = none_relocated s x g at' leads.unreclaimed report.promoted.items copied;
            apart = counts.apart;
            stay = stay_then (tables_of x) ends.holds.marks ends.undecremented.positive;
            traced = ends.traced;
            trace = ends.trace;
            queues = ends.queues;
            drained = ends.drained;
            outs = λ line. ((λ out. not_both ((tables_of x).outs line) out (ap (λ f. f line) ends.keeps.outs ∙ counts.none_out line)), (λ copy. no_member copy.name copy.promoted_is));
            no_rest = λ none. ap (λ (y : Space). y.rest_next) ends.space ∙ counts.no_rest ∙ sym (ap (λ (y : Space). y.rest_end) ends.space);
            lists = ends.keeps.lists;
            remembered = ends.remembered;
            draws = ends.draws;
            chosen = ends.chosen;
            traces = ends.traces;
            tally = ap (λ (y : Space). y.tally) ends.space ∙ ap (λ (y : Space). y.tally) counts.space ∙ none_counted s.tally;
          }

          pub settles_there : Settles s x g at' parts [] []
          settles_there = settles x at' [] [] ended
