-- A reclaimed name leaves the unreclaimed ones for good: a pause reclaims only what was unreclaimed or promoted, and it
-- promotes only what was made since the pause before, whose objects are younger.
use Rattle.std.proofs.Common.{◌≡◌, ℕ, sym, ◌∙◌, inl, inr, ◌⊎◌, Bool, true, false, List, [], ◌∷◌, ◌++◌, IsTrue}
use Rattle.std.specs.Prelude.{Option, Some, None}
use Rattle.std.proofs.lemmas.Bool.{false_from_ne_true, or_cases}
use Rattle.std.proofs.lemmas.List.Folds.{list_any-append}
use Rattle.lxr_layout.specs.declared.Name.{Name}
use Rattle.lxr_graph.specs.declared.report.Kind.{Kind}
use Rattle.lxr_graph.specs.declared.report.Kind.TheVariants as kind
use Rattle.lxr_graph.specs.Names.{same_name, has, without, union}
use Rattle.lxr_graph.specs.State.{HasObject}
use Rattle.lxr_graph.specs.History.{PauseReport, Item, Call, Pause, Renew}
use Rattle.lxr_graph.proofs.NameSets.{not_both, union_cases, union_left, union_right, without_parts}
use Rattle.lxr_model.specs.Terms.{Terms}
use Rattle.lxr_model.specs.Moments.{Trace, Moment, moment, after_pause}
use Rattle.lxr_model.specs.Reports.{PauseParts, IsReportWith, IsSwept, IsSweptAtEnd, AreDrained, kept_names}
use Rattle.lxr_model.specs.Legal.{IsLegalSoFar}
use Rattle.lxr_model_laws.specs.OnceLaws.{reclaimed_by, names_reclaimed, names_promoted, ReclaimedOnce, DeadAreNotSwept, PromotedOnce}
use Rattle.lxr_model.proofs.ReachableLemmas.{dead_parts, promoted_made}
use Rattle.lxr_model.proofs.HistoryLemmas.{GoodAt, good_history}
use Rattle.lxr_model.proofs.DrainLemmas.{not_first, kept_all, left_parts, promoted_fresh}
use Rattle.lxr_model_laws.proofs.TraceLemmas.{RunningGarbage, running_garbage, garbage_not_first, garbage_not_second}

has-append : (ns ms : List Name) (q : Name) → IsTrue (has (ns ++ ms) q) → IsTrue (has ns q) ⊎ IsTrue (has ms q)
has-append ns ms q h = or_cases (has ns q) (has ms q) (sym (list_any-append (same_name q) ns ms) ∙ h)

-- ---- what a pause reclaims was unreclaimed or promoted, and its dead and its swept are apart

module _ (threads : ℕ) (m : Moment) (report : PauseReport) (parts : PauseParts) (is : IsReportWith m parts report) (good : GoodAt threads m)
    (stays : RunningGarbage m.trace m) where
  remaining_kept : (n : Name) → IsTrue (has (without (without (kept_names m parts report) parts.second_dead) report.swept) n)
      → IsTrue (has (kept_names m parts report) n) × (has report.swept n ≡ false)
  remaining_kept n k =
      let a = without_parts (without (kept_names m parts report) parts.second_dead) report.swept n k in
      ((without_parts (kept_names m parts report) parts.second_dead n a.0).0, a.1)

  second_kept : (b : Bool) → AreDrained m parts report b → (n : Name) → IsTrue (has parts.second_dead n) → IsTrue (has (kept_names m parts report) n)
  second_kept false drained n d = let k = rw drained.0 at d in cc
  second_kept true drained n d = (dead_parts ((drained.0.members n).0 d)).member

  third_kept : (b : Bool) → AreDrained m parts report b → (n : Name) → IsTrue (has parts.third_dead n) → IsTrue (has (kept_names m parts report) n) × (has report.swept n ≡ false)
  third_kept false drained n d = let k = rw drained.1 at d in cc
  third_kept true drained n d = remaining_kept n (dead_parts ((drained.1.members n).0 d)).member

  dead_within : (n : Name) → IsTrue (has report.dead n) → IsTrue (has (union report.promoted m.unreclaimed) n)
  dead_within n d = elim ((is.dead.members n).0 d) [
    | inl q ↦ union_right report.promoted m.unreclaimed n (dead_parts ((is.first_dead.members n).0 q)).member
    | inr q ↦ kept_all m report parts is n (elim q [ inl p ↦ second_kept _ is.drained n p | inr p ↦ (third_kept _ is.drained n p).0 ])
  ]

  end_within : (trace : Option Trace) → RunningGarbage trace m → IsSweptAtEnd report.swept trace → (n : Name) → IsTrue (has report.swept n) → IsTrue (has m.unreclaimed n)
  end_within None stays swept n d = absurd swept
  end_within (Some trace) stays swept n d = stays.kept n ((swept.members n).0 d)

  swept_within : (k : Kind) → IsSwept m (without (kept_names m parts report) parts.second_dead) report.swept k → (n : Name) → IsTrue (has report.swept n)
      → IsTrue (has (union report.promoted m.unreclaimed) n)
  swept_within kind.Plain swept n d = let k = rw swept at d in cc
  swept_within kind.Begin swept n d = let k = rw swept at d in cc
  swept_within (kind.End j) swept n d = union_right report.promoted m.unreclaimed n (end_within m.trace stays swept n d)
  swept_within kind.Collect swept n d =
      kept_all m report parts is n (without_parts (kept_names m parts report) parts.second_dead n ((swept.members n).0 d).0).0

  pub reclaimed_within : (n : Name) → IsTrue (has (reclaimed_by report) n) → IsTrue (has (union report.promoted m.unreclaimed) n)
  reclaimed_within n h = elim (has-append report.dead report.swept n h) [ inl d ↦ dead_within n d | inr d ↦ swept_within report.kind is.swept n d ]

  -- the first and the second dead aren't swept
  end_apart : (trace : Option Trace) → RunningGarbage trace m → IsSweptAtEnd report.swept trace → (n : Name) → IsTrue (has report.swept n)
      → IsTrue (has parts.first_dead n) ⊎ IsTrue (has parts.second_dead n) → ⊥
  end_apart None stays swept n d early = absurd swept
  end_apart (Some trace) stays swept n d early = elim early [
    | inl q ↦ garbage_not_first threads m report parts is good trace stays n ((swept.members n).0 d) q
    | inr q ↦ garbage_not_second threads m report parts is good trace stays _ is.drained n ((swept.members n).0 d) q
  ]

  early_apart : (k : Kind) → IsSwept m (without (kept_names m parts report) parts.second_dead) report.swept k → (n : Name) → IsTrue (has report.swept n)
      → IsTrue (has parts.first_dead n) ⊎ IsTrue (has parts.second_dead n) → ⊥
  early_apart kind.Plain swept n d early = let k = rw swept at d in cc
  early_apart kind.Begin swept n d early = let k = rw swept at d in cc
  early_apart (kind.End j) swept n d early = end_apart m.trace stays swept n d early
  early_apart kind.Collect swept n d early =
      let at = without_parts (kept_names m parts report) parts.second_dead n ((swept.members n).0 d).0 in
      elim early [ inl q ↦ not_first m report parts is (promoted_fresh threads m report parts is good) n at.0 q | inr q ↦ not_both (has parts.second_dead n) q at.1 ]

  pub apart : (n : Name) → IsTrue (has report.dead n) → has report.swept n ≡ false
  apart n d = elim ((is.dead.members n).0 d) [
    | inl q ↦ false_from_ne_true (has report.swept n) (λ w. early_apart report.kind is.swept n w (inl q))
    | inr q ↦ elim q [
      | inl p ↦ false_from_ne_true (has report.swept n) (λ w. early_apart report.kind is.swept n w (inr p))
      | inr p ↦ (third_kept _ is.drained n p).1
    ]
  ]

-- ---- whole histories

-- what was reclaimed is not unreclaimed; it and what was promoted had their objects at the last pause
record Past (h : List Item) (m : Moment) : Type 0 where
  gone : (n : Name) → IsTrue (has (names_reclaimed h) n) → (IsTrue (has m.unreclaimed n) → ⊥) × HasObject m.last.graph n
  grown : (n : Name) → IsTrue (has (names_promoted h) n) → HasObject m.last.graph n

module _ (threads : ℕ) (h : List Item) (m : Moment) (report : PauseReport) (parts : PauseParts) (is : IsReportWith m parts report) (good : GoodAt threads m)
    (stays : RunningGarbage m.trace m) (past : Past h m) where
  -- what had its object at the last pause isn't promoted
  not_promoted : (n : Name) → HasObject m.last.graph n → IsTrue (has report.promoted n) → ⊥
  not_promoted n o p = (good.young n (promoted_made ((is.promoted.members n).0 p))).0 o

  gone_before : (n : Name) → IsTrue (has (names_reclaimed h) n) → IsTrue (has (union report.promoted m.unreclaimed) n) → ⊥
  gone_before n r k = elim (union_cases report.promoted m.unreclaimed n k) [ inl p ↦ not_promoted n (past.gone n r).1 p | inr u ↦ (past.gone n r).0 u ]

  has_object : (n : Name) → IsTrue (has (union report.promoted m.unreclaimed) n) → HasObject m.state.graph n
  has_object n k = elim (union_cases report.promoted m.unreclaimed n k) [
    | inl p ↦ (good.young n (promoted_made ((is.promoted.members n).0 p))).1
    | inr u ↦ good.grows n (good.kept n u)
  ]

  past_pause : Past (Pause report ∷ h) (after_pause m report)
  past_pause = record {
    gone = λ n r. elim (has-append (reclaimed_by report) (names_reclaimed h) n r) [
      | inl k ↦ (
        λ u. let at = left_parts m report n u in elim (has-append report.dead report.swept n k) [
          | inl d ↦ not_both (has report.dead n) d at.1
          | inr d ↦ not_both (has report.swept n) d at.2
        ],
        has_object n (reclaimed_within threads m report parts is good stays n k),
      )
      | inr k ↦ (λ u. gone_before n k (left_parts m report n u).0, good.grows n (past.gone n k).1)
    ];
    grown = λ n p. elim (has-append report.promoted (names_promoted h) n p) [
      | inl k ↦ has_object n (union_left report.promoted m.unreclaimed n k)
      | inr k ↦ good.grows n (past.grown n k)
    ];
  }

past_history : (terms : Terms) (h : List Item) → IsLegalSoFar terms h → Past h (moment terms.threads h)
past_history terms [] legal = record { gone = λ n r. absurd (cc); grown = λ n p. absurd (cc) }
past_history terms (Call t o r ∷ h) legal = let past = past_history terms h legal.0 in record { gone = past.gone; grown = past.grown }
past_history terms (Renew ns ∷ h) legal = record { gone = λ n r. absurd (cc); grown = λ n p. absurd (cc) }
past_history terms (Pause report ∷ h) legal =
    past_pause terms.threads h (moment terms.threads h) report legal.2.reports.0 legal.2.reports.1 (good_history terms h legal.0) (running_garbage terms h legal.0) (past_history terms h legal.0)

pub reclaimed_once : ReclaimedOnce
reclaimed_once terms h report legal o k =
    let m = moment terms.threads h in
    let good = good_history terms h legal.0 in
    let stays = running_garbage terms h legal.0 in
    false_from_ne_true (has (names_reclaimed h) o) (λ r.
    gone_before terms.threads h m report legal.2.reports.0 legal.2.reports.1 good stays (past_history terms h legal.0) o r
    (reclaimed_within terms.threads m report legal.2.reports.0 legal.2.reports.1 good stays o k))

pub dead_not_swept : DeadAreNotSwept
dead_not_swept terms h report legal o d =
    apart terms.threads (moment terms.threads h) report legal.2.reports.0 legal.2.reports.1 (good_history terms h legal.0) (running_garbage terms h legal.0) o d

pub promoted_once : PromotedOnce
promoted_once terms h report legal o p =
    let past = past_history terms h legal.0 in
    let fresh : HasObject (moment terms.threads h).last.graph o → ⊥ = λ x.
    not_promoted terms.threads h (moment terms.threads h) report legal.2.reports.0 legal.2.reports.1 (good_history terms h legal.0) (running_garbage terms h legal.0) past o x p in
    (false_from_ne_true (has (names_promoted h) o) (λ k. fresh (past.grown o k)), false_from_ne_true (has (names_reclaimed h) o) (λ k. fresh (past.gone o k).1))
