-- A pause behind which counts are told is the pause that it was, and so is the run that made it. What is told is what the pause counted.
use Rattle.std.proofs.Common.{◌≡◌, ℕ, refl, sym, ap, subst, ◌∙◌, Bool, true, false, IsTrue, List, []}
use Rattle.std.specs.Prelude.{Option}
use Rattle.lxr_layout.specs.declared.Name.{Name}
use Rattle.lxr_graph.specs.declared.report.Count.{Count}
use Rattle.lxr_graph.specs.declared.report.Kind.{Kind}
use Rattle.lxr_graph.specs.declared.report.Report.{Report}
use Rattle.lxr_graph.specs.History.{HasToldCounts, HasToldNames, Item, report_of}
use Rattle.lxr_graph.specs.Telling.{HasListsInOrder}
use Rattle.lxr_image.specs.declared.space.Space.{Space}
use Rattle.lxr_model.specs.Moments.{Moment}
use Rattle.lxr_model.specs.Reports.{is_draining}
use Rattle.lxr_invariant.specs.AbstractState.{AbstractState, paused}
use Rattle.lxr_invariant.specs.Quiescent.{HoldsMoment}
use Rattle.lxr_pause_queue.specs.Counting.{ListsCounts}
use Rattle.lxr_pause_queue.specs.Entries.{with_told}
use Rattle.lxr_one_pause.specs.declared.Ask.{Ask}
use Rattle.lxr_one_pause.specs.declared.Pace.{Pace}
use Rattle.lxr_one_pause.specs.Pausing.{CanPause, Pauses}
use Rattle.lxr_one_pause.specs.Telling.{TellsWanted, with_names_where, with_retold}
use Rattle.lxr_model_laws.proofs.ReportLemmas.{reports_in_order}
use Rattle.lxr_one_pause.proofs.TellingLemmas.{pauses_retold, quiescent_retold, safepoint_retold, told_behind}
use Rattle.lxr_sights.specs.Sights.{Sight}
use Rattle.lxr_rounds_invariant.specs.LoopInvariant.{HasCome, IsPaused, Task}
use Rattle.lxr_rounds.specs.Pausing.{MakesPause, with_logs_counted}

-- ---- a run whose space tells of what is left

pub come_retold : (task : Task) (space : Space) (seen : Option (List Sight)) (h : List Item) (g : AbstractState) (by : Report) → HasCome task space seen h g
    → HasCome task (with_retold space by) seen h g
come_retold task space seen h g by come = record {
  history = come.history;
  stands = come.stands;
  safepoint = safepoint_retold space g by come.safepoint;
  limits = come.limits;
  tally = come.tally;
  evacuated = come.evacuated;
  places = come.places;
  sights = come.sights;
  kept = come.kept;
}

module _ (before amid after : Space) (alone : after ≡ with_retold amid after.report) where
  -- it was told after a pause that was made
  pub makes_told : (asked : Ask) (pace : Pace) → MakesPause asked pace before amid → MakesPause asked pace before after
  makes_told asked pace makes = λ g can.
      let (at', pauses) = makes g can in
      (at', subst (λ s. Pauses (with_logs_counted before) s g at' asked pace) (sym alone) (pauses_retold (with_logs_counted before) amid g at' asked pace pauses after.report))

  -- its run has paused so
  pub paused_told : (task : Task) (seen : Option (List Sight)) (h : List Item) (asked : Ask) → IsPaused task amid seen h asked → IsPaused task after seen h asked
  paused_told task seen h asked (report, g, is) =
      subst (λ s. IsPaused task s seen h asked) (sym alone) (
        report,
        g,
        record {
          come = come_retold task amid seen _ g after.report is.come;
          between = quiescent_retold amid g after.report is.between;
          collects = is.collects;
        },
      )

-- ---- what is told

-- the counts of a pause are told where they are wanted, and these are of pauses that drain
pub counts_told : (before amid after : Space) (g : AbstractState) (asked : Ask) (pace : Pace) (wants : Kind → Bool) → CanPause (with_logs_counted before) g → MakesPause asked pace before amid
    → after ≡ with_told amid after.report.told.items → (IsTrue (wants amid.report.kind) → (m : Moment) (at : Name → ℕ) → HoldsMoment amid m at → ListsCounts amid after m at)
    → (IsTrue (wants amid.report.kind) → IsTrue (is_draining amid.report.kind)) → IsTrue (wants after.report.kind) → HasToldCounts after.report
counts_told before amid after g asked pace wants can makes alone tells drains wanted =
    let (at', pauses) = makes g can in
    let same : after.report.kind ≡ amid.report.kind = ap (λ (s : Space). s.report.kind) alone in
    let was = subst (λ k. IsTrue (wants k)) same wanted in
    let left : Moment = (paused g at' (report_of amid.report)).moment in
    told_behind (with_logs_counted before) amid g at' asked pace pauses (drains was) after (tells was left at' pauses.between.safepoint.holds)

-- and else none are
pub tells_wanted : (amid after : Space) (wants : Kind → Bool) → after ≡ with_told amid after.report.told.items → amid.report.told.items ≡ [] → (wants amid.report.kind ≡ false → after ≡ amid)
    → (IsTrue (wants after.report.kind) → HasToldCounts after.report) → TellsWanted (wants after.report.kind) after.report
tells_wanted amid after wants alone untold quiet told = by (wants after.report.kind) refl
  where
    by : (b : Bool) → wants after.report.kind ≡ b → TellsWanted b after.report
    by true e = told e
    by false e =
        let same : after.report.kind ≡ amid.report.kind = ap (λ (s : Space). s.report.kind) alone in
        ap (λ (s : Space). s.report.told.items) (quiet (ap wants (sym same) ∙ e)) ∙ untold

-- ---- names are told, too

-- the names of a pause stand in order, also where its counts are told
pub names_ordered : (asked : Ask) (pace : Pace) (before amid after : Space) (g : AbstractState) → CanPause (with_logs_counted before) g → MakesPause asked pace before amid
    → after ≡ with_told amid after.report.told.items → HasListsInOrder (report_of after.report)
names_ordered asked pace before amid after g can makes alone =
    let (at', pauses) = makes g can in
    subst (λ (s : Space). HasListsInOrder (report_of s.report)) (sym alone) (reports_in_order g.moment (report_of amid.report) pauses.reports)

module _ (amid told after : Space) (reads : Bool) (alone : told ≡ with_told amid told.report.told.items) (names : after ≡ with_names_where reads told) where
  -- both tell of the pause what they tell, and nothing else has changed
  pub both_retold : after ≡ with_retold amid after.report
  both_retold = by reads names
    where
      by : (b : Bool) → after ≡ with_names_where b told → after ≡ with_retold amid after.report
      by true is = is ∙ ap (λ (s : Space). with_names_where true (with_retold s told.report)) alone ∙ ap (λ (s : Space). with_retold amid s.report) (sym is)
      by false is = is ∙ ap (λ (s : Space). with_retold s told.report) alone ∙ ap (λ (s : Space). with_retold amid s.report) (sym is)

  -- the counts stay as they were told
  pub counts_stay : (P : Kind → List Count → List Count → Type 0) → P told.report.kind told.report.counts.items told.report.told.items → P after.report.kind after.report.counts.items after.report.told.items
  counts_stay P is = by reads names
    where
      by : (b : Bool) → after ≡ with_names_where b told → P after.report.kind after.report.counts.items after.report.told.items
      by true e = subst (λ (s : Space). P s.report.kind s.report.counts.items s.report.told.items) (sym e) is
      by false e = subst (λ (s : Space). P s.report.kind s.report.counts.items s.report.told.items) (sym e) is

-- names can be read where they are wanted
pub names_read : (told after : Space) (reads : Bool) → after ≡ with_names_where reads told → IsTrue reads → HasToldNames after.report
names_read told after true is wanted = subst (λ (s : Space). HasToldNames s.report) (sym is) (record { promoted = refl; dead = refl; stuck = refl; swept = refl })
names_read told after false is wanted = absurd (cc)
