-- What a pause leaves: the names that remain after the sweep, without the third dead. After a draining pause nothing in
-- them is dead, so each that isn't stuck has a reference.
use Rattle.std.proofs.Common.{◌≡◌, ℕ, zero, suc, refl, sym, ap, subst, ◌∙◌, inl, inr, Bool, true, false, cond, List, [], ◌∷◌, IsTrue}
use Rattle.std.specs.Prelude.{◌≢◌, Option, Some, None, map, slice_get}
use Rattle.std.proofs.lemmas.Bool.{false_from_ne_true, or_left, or_right}
use Rattle.lxr_layout.specs.declared.Name.{Name}
use Rattle.lxr_graph.specs.declared.report.Count.{Count}
use Rattle.lxr_graph.specs.Names.{same_name, has, without, union}
use Rattle.lxr_graph.specs.History.{PauseReport}
use Rattle.lxr_graph.proofs.NameSets.{same_itself, not_both, union_cases, union_left, union_right, without_parts, in_without}
use Rattle.lxr_graph.proofs.RowLemmas.{slice_get-mapped}
use Rattle.lxr_model.specs.Dead.{Dead, dead}
use Rattle.lxr_model.specs.References.{references}
use Rattle.lxr_model.specs.Moments.{Moment, moment, unreclaimed_after, stuck_after}
use Rattle.lxr_model.specs.Reports.{PauseParts, IsReportWith, AreDrained, AreCounts, is_draining, kept_names, remaining_names, count_entry}
use Rattle.lxr_model.specs.HistoryLaws.{DrainingLeavesNoZero, IsExactCount, CountsAreExact}
use Rattle.lxr_model.proofs.ReachableLemmas.{dead_parts, promoted_made}
use Rattle.lxr_model.proofs.CountLemmas.{references_zero}
use Rattle.lxr_model.proofs.HistoryLemmas.{GoodAt, good_history}

pub drained_parts : (m : Moment) (parts : PauseParts) (report : PauseReport) (b : Bool) → IsTrue b → AreDrained m parts report b → AreDrained m parts report true
drained_parts m parts report true t d = d
drained_parts m parts report false t d = absurd (cc)

-- what a pause leaves is neither dead nor swept
pub left_parts : (m : Moment) (report : PauseReport) (n : Name) → IsTrue (has (unreclaimed_after m report) n)
    → IsTrue (has (union report.promoted m.unreclaimed) n) × (has report.dead n ≡ false) × (has report.swept n ≡ false)
left_parts m report n k =
    let a = without_parts (without (union report.promoted m.unreclaimed) report.dead) report.swept n k in
    let b = without_parts (union report.promoted m.unreclaimed) report.dead n a.0 in
    (b.0, b.1, a.1)

-- so it is stuck after the pause exactly where it was or became so
pub still_stuck : (m : Moment) (report : PauseReport) (n : Name) → has report.dead n ≡ false → has report.swept n ≡ false
    → IsTrue (has (union report.stuck m.stuck) n) → IsTrue (has (stuck_after m report) n)
still_stuck m report n alive unswept s =
    in_without (without (union report.stuck m.stuck) report.dead) report.swept n
    (in_without (union report.stuck m.stuck) report.dead n s (λ d. not_both (has report.dead n) d alive))
    (λ d. not_both (has report.swept n) d unswept)

pub was_stuck : (m : Moment) (report : PauseReport) (n : Name) → IsTrue (has (stuck_after m report) n) → IsTrue (has (union report.stuck m.stuck) n)
was_stuck m report n s =
    (without_parts (union report.stuck m.stuck) report.dead n (without_parts (without (union report.stuck m.stuck) report.dead) report.swept n s).0).0

module _ (m : Moment) (report : PauseReport) (parts : PauseParts) (is : IsReportWith m parts report) where
  pub kept_all : (n : Name) → IsTrue (has (kept_names m parts report) n) → IsTrue (has (union report.promoted m.unreclaimed) n)
  kept_all n k = elim (union_cases report.promoted (without m.unreclaimed parts.first_dead) n k) [
    | inl q ↦ union_left report.promoted m.unreclaimed n q
    | inr q ↦ union_right report.promoted m.unreclaimed n (without_parts m.unreclaimed parts.first_dead n q).0
  ]

  pub left_remain : (n : Name) → IsTrue (has (unreclaimed_after m report) n) → IsTrue (has (remaining_names m parts report) n)
  left_remain n k =
      let at = left_parts m report n k in
      let alive : IsTrue (has report.dead n) → ⊥ = λ d. not_both (has report.dead n) d at.1 in
      in_without (without (kept_names m parts report) parts.second_dead) report.swept n
      (in_without (kept_names m parts report) parts.second_dead n
      (elim (union_cases report.promoted m.unreclaimed n at.0) [
        | inl q ↦ union_left report.promoted (without m.unreclaimed parts.first_dead) n q
        | inr q ↦ union_right report.promoted (without m.unreclaimed parts.first_dead) n (in_without m.unreclaimed parts.first_dead n q (λ d. alive ((is.dead.members n).1 (inl d))))
      ])
      (λ d. alive ((is.dead.members n).1 (inr (inl d)))))
      (λ d. not_both (has report.swept n) d at.2)

  -- where no promoted name was unreclaimed before
  module _ (fresh : (n : Name) → IsTrue (has report.promoted n) → has m.unreclaimed n ≡ false) where
    -- the kept names are without the first dead
    pub not_first : (n : Name) → IsTrue (has (kept_names m parts report) n) → IsTrue (has parts.first_dead n) → ⊥
    not_first n k d = elim (union_cases report.promoted (without m.unreclaimed parts.first_dead) n k) [
      | inl q ↦ not_both (has m.unreclaimed n) (dead_parts ((is.first_dead.members n).0 d)).member (fresh n q)
      | inr q ↦ not_both (has parts.first_dead n) d (without_parts m.unreclaimed parts.first_dead n q).1
    ]

    pub remain_left : (n : Name) → IsTrue (has (remaining_names m parts report) n) → (IsTrue (has parts.third_dead n) → ⊥) → IsTrue (has (unreclaimed_after m report) n)
    remain_left n k last =
        let a = without_parts (without (kept_names m parts report) parts.second_dead) report.swept n k in
        let b = without_parts (kept_names m parts report) parts.second_dead n a.0 in
        in_without (without (union report.promoted m.unreclaimed) report.dead) report.swept n
        (in_without (union report.promoted m.unreclaimed) report.dead n (kept_all n b.0)
        (λ d. elim ((is.dead.members n).0 d) [
          | inl q ↦ not_first n b.0 q
          | inr q ↦ elim q [ inl p ↦ not_both (has parts.second_dead n) p b.1 | inr p ↦ last p ]
        ]))
        (λ d. not_both (has report.swept n) d a.1)

    -- what is dead among those left is dead among those that remained
    dead_remain : AreDrained m parts report true → {o : Name} → Dead m.state (unreclaimed_after m report) (stuck_after m report) o
        → Dead m.state (remaining_names m parts report) (union report.stuck m.stuck) o
    dead_remain drained {o} (dead member unstuck unheld each) =
        let at = left_parts m report o member in
        dead (left_remain o member)
        (false_from_ne_true (has (union report.stuck m.stuck) o) (λ s. not_both (has (stuck_after m report) o) (still_stuck m report o at.1 at.2 s) unstuck))
        unheld
        (λ u k f. elim (has parts.third_dead u) as (λ b. has parts.third_dead u ≡ b → Dead m.state (remaining_names m parts report) (union report.stuck m.stuck) u) [
          | true ↦ λ e. (drained.1.members u).0 e
          | false ↦ λ e. dead_remain drained (each u (remain_left u k (λ d. not_both (has parts.third_dead u) d e)) f)
        ] refl)

    -- so nothing is
    pub nothing_dead : IsTrue (is_draining report.kind) → (o : Name) → Dead m.state (unreclaimed_after m report) (stuck_after m report) o → ⊥
    nothing_dead drains o d =
        let drained = drained_parts m parts report (is_draining report.kind) drains is.drained in
        let third = (drained.1.members o).1 (dead_remain drained d) in
        not_both (has report.dead o) ((is.dead.members o).1 (inr (inr third))) (left_parts m report o (dead_parts d).member).1

    -- and each that isn't stuck has a reference
    pub referred_to : IsTrue (is_draining report.kind) → (o : Name) → IsTrue (has (unreclaimed_after m report) o) → has (stuck_after m report) o ≡ false
        → references m.state (unreclaimed_after m report) o ≢ 0
    referred_to drains o k unstuck e =
        let none = references_zero m.state (unreclaimed_after m report) o e in
        nothing_dead drains o (dead k unstuck none.0 (λ u h f. absurd (none.1 u h f)))

-- so it is in a legal history
pub promoted_fresh : (threads : ℕ) (m : Moment) (report : PauseReport) (parts : PauseParts) → IsReportWith m parts report → GoodAt threads m
    → (n : Name) → IsTrue (has report.promoted n) → has m.unreclaimed n ≡ false
promoted_fresh threads m report parts is good n p =
    false_from_ne_true (has m.unreclaimed n) (λ h. (good.young n (promoted_made ((is.promoted.members n).0 p))).0 (good.kept n h))

pub no_zero : DrainingLeavesNoZero
no_zero terms h report legal =
    let m = moment terms.threads h in
    let parts = legal.2.reports.0 in
    let is = legal.2.reports.1 in
    referred_to m report parts is (promoted_fresh terms.threads m report parts is (good_history terms h legal.0))

-- ---- counts

pub at_index : (ns : List Name) (i : ℕ) (n : Name) → slice_get ns i ≡ Some n → IsTrue (has ns n)
at_index [] i n e = absurd (cc)
at_index (m ∷ ns) zero n e = let k : n ≡ m = cc in or_left (same_name n m) (has ns n) (ap (same_name n) (sym k) ∙ same_itself n)
at_index (m ∷ ns) (suc i) n e = or_right (same_name n m) (has ns n) (at_index ns i n e)

names_of_entries : (f : Name → Option ℕ) (ns : List Name) → map (λ (c : Count). c.name) (map (λ n. record { name = n; count = f n }) ns) ≡ ns
names_of_entries f [] = refl
names_of_entries f (n ∷ ns) = ap (λ ms. n ∷ ms) (names_of_entries f ns)

exact_entry : (m : Moment) (report : PauseReport) (us : List Name) (n : Name) → IsTrue (has (unreclaimed_after m report) n)
    → IsExactCount m.state us (stuck_after m report) (count_entry m.state us (union report.stuck m.stuck) n)
exact_entry m report us n k =
    let at = left_parts m report n k in
    elim (has (union report.stuck m.stuck) n) as (λ b. has (union report.stuck m.stuck) n ≡ b
    → IsExactCount m.state us (stuck_after m report) (record { name = n; count = cond b None (Some (references m.state us n)) })) [
      | true ↦ λ e. record { none = (λ x. still_stuck m report n at.1 at.2 e, λ s. refl); some = λ u. not_both (has (stuck_after m report) n) (still_stuck m report n at.1 at.2 e) u }
      | false ↦ λ e. record { none = (λ x. absurd (cc), λ s. not_both (has (union report.stuck m.stuck) n) (was_stuck m report n s) e); some = λ u. refl }
    ] refl

are_counts : (m : Moment) (report : PauseReport) (b : Bool) → IsTrue b → AreCounts m report b → AreCounts m report true
are_counts m report true t d = d
are_counts m report false t d = absurd (cc)

-- the counts of a draining pause are those of the unreclaimed names after it, in their order, and each is exact
pub exact_at : (m : Moment) (report : PauseReport) (parts : PauseParts) → IsReportWith m parts report → IsTrue (is_draining report.kind)
    → (map (λ (c : Count). c.name) report.counts ≡ unreclaimed_after m report)
    × ((i : ℕ) (c : Count) → slice_get report.counts i ≡ Some c → IsExactCount m.state (unreclaimed_after m report) (stuck_after m report) c)
exact_at m report parts is drains =
    let us = unreclaimed_after m report in
    let are : AreCounts m report true = are_counts m report (is_draining report.kind) drains is.counts in (
      ap (map (λ (c : Count). c.name)) are ∙ names_of_entries (λ n. cond (has (union report.stuck m.stuck) n) None (Some (references m.state us n))) us,
      λ i c e.
          let at = slice_get-mapped (count_entry m.state us (union report.stuck m.stuck)) us i c (ap (λ cs. slice_get cs i) (sym are) ∙ e) in
          subst (IsExactCount m.state us (stuck_after m report)) (sym at.2) (exact_entry m report us at.0 (at_index us i at.0 at.1)),
    )

pub exact_counts : CountsAreExact
exact_counts terms h report legal = exact_at (moment terms.threads h) report legal.2.reports.0 legal.2.reports.1
