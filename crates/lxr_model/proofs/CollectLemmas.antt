-- After a collecting pause what is unreclaimed is reachable: a kept name that isn't would have been swept. The last pause
-- of a history that belongs to a script collects, since all threads have ended. And a whole history is one so far.
use Rattle.std.proofs.Common.{◌≡◌, refl, subst, ◌∙◌, inl, inr, List, [], ◌∷◌, IsTrue}
use Rattle.std.specs.Prelude.{ℕ}
use Rattle.std.proofs.lemmas.List.{append-nil}
use Rattle.lxr_layout.specs.declared.Name.{Name}
use Rattle.lxr_graph.specs.declared.Op.TheVariants as op
use Rattle.lxr_graph.specs.declared.Reply.TheVariants as reply
use Rattle.lxr_graph.specs.declared.report.Kind.{Kind}
use Rattle.lxr_graph.specs.declared.report.Kind.TheVariants as kind
use Rattle.lxr_graph.specs.Names.{has, without}
use Rattle.lxr_graph.specs.History.{PauseReport, Item, Call, Pause, Renew, calls_of}
use Rattle.lxr_graph.proofs.NameSets.{not_both, without_parts}
use Rattle.lxr_model.specs.Reachable.{Reachable}
use Rattle.lxr_model.specs.Terms.{Terms}
use Rattle.lxr_model.specs.Moments.{Moment, moment, unreclaimed_after}
use Rattle.lxr_model.specs.Reports.{PauseParts, IsReportWith, IsSwept, kept_names}
use Rattle.lxr_model.specs.Kinds.{MustCollect, MayStand}
use Rattle.lxr_model.specs.Belongs.{EarlierPausesWereEarly, EndsWithPause}
use Rattle.lxr_model.specs.HistoryLaws.{CollectingKeepsTheReachable, LastUnreclaimedAreReachable, RefusalsKeepReachable, WholeHistoriesAreSoFar}
use Rattle.lxr_model.proofs.HistoryLemmas.{good_history, reachable_kept, reachable_are_kept}
use Rattle.lxr_model.proofs.DrainLemmas.{left_remain}
use Rattle.lxr_model.proofs.DecideLemmas.{decide_reachable}

pub collected_reachable : (m : Moment) (report : PauseReport) (parts : PauseParts) → IsReportWith m parts report
    → ((n : Name) → Reachable m.state n → IsTrue (has (kept_names m parts report) n)) → report.kind ≡ kind.Collect
    → (n : Name) → IsTrue (has (unreclaimed_after m report) n) → Reachable m.state n
collected_reachable m report parts is kept collects n k =
    let swept : IsSwept m (without (kept_names m parts report) parts.second_dead) report.swept kind.Collect =
    subst (IsSwept m (without (kept_names m parts report) parts.second_dead) report.swept) collects is.swept in
    let a = without_parts (without (kept_names m parts report) parts.second_dead) report.swept n (left_remain m report parts is n k) in
    elim (decide_reachable m.state (kept_names m parts report) kept n) [
      | inl r ↦ r
      | inr u ↦ not_both (has report.swept n) ((swept.members n).1 (a.0, u)) a.1
    ]

pub collecting_keeps : CollectingKeepsTheReachable
collecting_keeps terms h report legal collects n =
    let m = moment terms.threads h in
    let parts = legal.2.reports.0 in
    let is = legal.2.reports.1 in (
      collected_reachable m report parts is (reachable_kept terms.threads m report parts is (good_history terms h legal.0)) collects n,
      reachable_are_kept terms h report legal n,
    )

pub refused_keep : RefusalsKeepReachable
refused_keep terms [] legal after n = absurd after
refused_keep terms (Pause report ∷ h) legal after n = collecting_keeps terms h report legal after n
refused_keep terms (Call t (op.New dest shape) reply.Full ∷ h) legal after n = refused_keep terms h legal.0 after n
refused_keep terms (Call t o r ∷ h) legal after n = absurd after
refused_keep terms (Renew ns ∷ h) legal after n = absurd after

-- where a pause must collect, it does
must_collect : (terms : Terms) (h : List Item) (m : Moment) (k : ℕ) (kd : Kind) → MustCollect terms h → MayStand terms h m k kd → kd ≡ kind.Collect
must_collect terms h m k kind.Collect must stands = refl
must_collect terms h m k (kind.End j) must stands = absurd (stands.0 must)
must_collect terms h m k kind.Begin must stands = absurd (stands.0 must)
must_collect terms h m k kind.Plain must stands = absurd (stands.0 must)

pub last_reachable : LastUnreclaimedAreReachable
last_reachable terms script [] legal belongs n = absurd belongs.last
last_reachable terms script (Call t o r ∷ h) legal belongs n = absurd belongs.last
last_reachable terms script (Renew ns ∷ h) legal belongs n = absurd belongs.last
last_reachable terms script (Pause report ∷ h) legal belongs n =
    collecting_keeps terms h report legal.0 (must_collect terms h (moment terms.threads h) report.number report.kind (inr belongs.last.0) legal.0.2.stands) n

-- a history that ends with its last pause has no earlier one like it
early_before : (terms : Terms) (h : List Item) → EndsWithPause terms h → EarlierPausesWereEarly terms h
early_before terms [] ends = absurd ends
early_before terms (Call t o r ∷ h) ends = absurd ends
early_before terms (Renew ns ∷ h) ends = absurd ends
early_before terms (Pause report ∷ h) ends = ends.1

pub whole_so_far : WholeHistoriesAreSoFar
whole_so_far terms script h legal belongs = (
  legal.0,
  record {
    calls = λ t low high. ([], append-nil (calls_of t h) ∙ belongs.calls t low high);
    asked = belongs.asked;
    turns = belongs.turns;
    causes = belongs.causes;
    early = early_before terms h belongs.last;
  },
)
