-- One name's count is raised, and the counts are those of the next stage.
use Rattle.std.proofs.Common.{◌≡◌, ◌≢◌, ℕ, ◌+◌, ◌<◌, ◌≤◌, sym, ap, subst, ◌∙◌, inl, inr, arith, true, false, cond, List, [], ◌∷◌, ◌++◌}
use Rattle.std.specs.Prelude.{◌||◌, ◌↔◌, IsTrue, min}
use Rattle.lxr_layout.specs.declared.Name.{Name}
use Rattle.lxr_layout.specs.declared.TheConstants.{STUCK}
use Rattle.lxr_graph.specs.Names.{has, same_name}
use Rattle.lxr_graph.proofs.NameSets.{same_names}
use Rattle.lxr_tables.specs.Counts.{raised_count}
use Rattle.lxr_image.specs.declared.space.Space.{Space}
use Rattle.lxr_image.specs.Spaces.{tables_of}
use Rattle.lxr_model.specs.Moments.{Moment}
use Rattle.lxr_model_counting.specs.Distinct.{IsDistinct}
use Rattle.lxr_model_counting.proofs.DistinctLemmas.{tested}
use Rattle.lxr_invariant.specs.Counting.{count_at}
use Rattle.lxr_invariant.specs.Raised.{with_promoted}
use Rattle.lxr_invariant.proofs.NameLemmas.{distinct_more, has_last, has_more, or_nothing}
use Rattle.lxr_pause_increments.specs.Increments.{HasCountsSoFar, IsFull, IncrementStage, count_so_far}
use Rattle.lxr_pause_increments.specs.Promotion.{fills, stuck_with}
use Rattle.lxr_pause_increments.proofs.RangeLemmas.{fill_cases, raised_some}

-- ---- lists

pub reported_more : (ns : List Name) (count : ℕ) (o : Name) → fills count ≡ true → stuck_with ns count o ≡ ns ++ o ∷ []
reported_more ns count o e = ap (λ b. cond b (ns ++ o ∷ []) ns) e

pub reported_same : (ns : List Name) (count : ℕ) (o : Name) → fills count ≡ false → stuck_with ns count o ≡ ns
reported_same ns count o e = ap (λ b. cond b (ns ++ o ∷ []) ns) e

reported_other : (ns : List Name) (count : ℕ) (o n : Name) → same_name n o ≡ false → has (stuck_with ns count o) n ≡ has ns n
reported_other ns count o n ne = elim (fill_cases count) [
  | inl q ↦ ap (λ z. has z n) (reported_more ns count o q.0) ∙ has_more ns o n ∙ ap (λ b. has ns n || b) ne ∙ or_nothing (has ns n)
  | inr q ↦ ap (λ z. has z n) (reported_same ns count o q.0)
]

-- ---- counts

-- The count of one name, which it had where it stands then, is raised, all other known ones stay, and the stage says so.
pub record RaisesOnce (s c : Space) (m : Moment) (st after : IncrementStage) (o : Name) (count : ℕ) : Type 0 where
  pub member : IsTrue (has (with_promoted m after.promoted) o)
  pub joined : (n : Name) → same_name n o ≡ false → has (with_promoted m after.promoted) n ≡ has (with_promoted m st.promoted) n
  pub known : count ≡ STUCK → IsTrue (has (with_promoted m st.promoted) o)
  pub count_was : IsTrue (has (with_promoted m st.promoted) o) → count_at (tables_of s) st.now o ≡ count
  pub raised : count_at (tables_of c) after.now o ≡ raised_count count
  pub others : (n : Name) → IsTrue (has (with_promoted m st.promoted) n) → same_name n o ≡ false → count_at (tables_of c) after.now n ≡ count_at (tables_of s) st.now n
  pub count_here : has m.stuck o ≡ false → raised_count count ≡ min (count_so_far m after o) STUCK
  pub count_elsewhere : (n : Name) → same_name n o ≡ false → count_so_far m after n ≡ count_so_far m st n
  pub unraised : (n : Name) → IsTrue (has m.made n) → has after.promoted n ≡ false → after.added n ≡ 0
  pub names : c.report.stuck.items ≡ stuck_with s.report.stuck.items count o

reaches : (n r : ℕ) → STUCK ≤ n + 1 → raised_count n ≡ min r STUCK → STUCK ≤ r
reaches n r h e = omega arith

falls_short : (n r : ℕ) → n + 1 < STUCK → raised_count n ≡ min r STUCK → STUCK ≤ r → ⊥
falls_short n r h e k = omega arith

-- what is full has count STUCK
full_count : (s : Space) (m : Moment) (st : IncrementStage) (o : Name) → HasCountsSoFar s m st → IsFull m st o → count_at (tables_of s) st.now o ≡ STUCK
full_count s m st o is full = let e = is.exact o full.member full.unstuck in let h = full.reaches in least (count_so_far m st o) h e
  where
    least : {n : ℕ} (r : ℕ) → STUCK ≤ r → n ≡ min r STUCK → n ≡ STUCK
    least r h e = omega arith

-- and what has that count and isn't stuck is full
count_full : (s : Space) (m : Moment) (st : IncrementStage) (o : Name) → HasCountsSoFar s m st → IsTrue (has (with_promoted m st.promoted) o) → has m.stuck o ≡ false
    → count_at (tables_of s) st.now o ≡ STUCK → IsFull m st o
count_full s m st o is member unstuck count = record { member = member; unstuck = unstuck; reaches = least (count_so_far m st o) count (is.exact o member unstuck) }
  where
    least : {n : ℕ} (r : ℕ) → n ≡ STUCK → n ≡ min r STUCK → STUCK ≤ r
    least r h e = omega arith

-- ---- the next stage

module _ (s c : Space) (m : Moment) (st after : IncrementStage) (o : Name) (count : ℕ) (is : HasCountsSoFar s m st) (once : RaisesOnce s c m st after o count) where
  -- a stuck name has count STUCK
  stuck_count : ((n : Name) → IsTrue (has m.stuck n) → IsTrue (has (with_promoted m st.promoted) n)) → IsTrue (has m.stuck o) → count ≡ STUCK
  stuck_count within h = sym (once.count_was (within o h)) ∙ is.stuck o h

  -- the raised name is reported where it is full
  reported_here : ((n : Name) → IsTrue (has m.stuck n) → IsTrue (has (with_promoted m st.promoted) n)) → IsTrue (has (stuck_with s.report.stuck.items count o) o) ↔ IsFull m after o
  reported_here within = elim (fill_cases count) [
    | inl q ↦ (
      λ h. record {
        member = once.member;
        unstuck = elim (tested (has m.stuck o)) [ inl k ↦ absurd (q.1 (stuck_count within k)) | inr k ↦ k ];
        reaches = elim (tested (has m.stuck o)) [ inl k ↦ absurd (q.1 (stuck_count within k)) | inr k ↦ reaches count (count_so_far m after o) q.2 (once.count_here k) ];
      },
      λ h. ap (λ z. has z o) (reported_more s.report.stuck.items count o q.0) ∙ has_last s.report.stuck.items o,
    )
    | inr q ↦
        let same : has (stuck_with s.report.stuck.items count o) o ≡ has s.report.stuck.items o = ap (λ z. has z o) (reported_same s.report.stuck.items count o q.0) in
        elim q.1 [
          | inl e ↦ (
            λ h.
                let full = (is.reported o).0 (sym same ∙ h) in
                record { member = once.member; unstuck = full.unstuck; reaches = reaches count (count_so_far m after o) (omega (arith, e)) (once.count_here full.unstuck) },
            λ full. same ∙ (is.reported o).1 (count_full s m st o is (once.known e) full.unstuck (once.count_was (once.known e) ∙ e)),
          )
          | inr e ↦ (
            λ h.
                let full = (is.reported o).0 (sym same ∙ h) in
                let there = sym (once.count_was full.member) ∙ full_count s m st o is full in
                absurd (omega (arith, e, there)),
            λ full. absurd (falls_short count (count_so_far m after o) e (once.count_here full.unstuck) full.reaches),
          )
        ]
  ]

  -- the counts are those of the next stage
  pub counts_then : ((n : Name) → IsTrue (has m.stuck n) → IsTrue (has (with_promoted m st.promoted) n)) → HasCountsSoFar c m after
  counts_then within = record {
    stuck = λ n h. elim (tested (same_name n o)) [
      | inl k ↦ subst (λ z. IsTrue (has m.stuck z) → count_at (tables_of c) after.now z ≡ STUCK) (sym (same_names n o k)) (λ w. once.raised ∙ ap raised_count (stuck_count within w)) h
      | inr k ↦ once.others n (within n h) k ∙ is.stuck n h
    ];
    exact = λ n member unstuck. elim (tested (same_name n o)) [
      | inl k ↦ subst (λ z. has m.stuck z ≡ false → count_at (tables_of c) after.now z ≡ min (count_so_far m after z) STUCK) (sym (same_names n o k)) (λ w. once.raised ∙ once.count_here w) unstuck
      | inr k ↦
          let there : IsTrue (has (with_promoted m st.promoted) n) = sym (once.joined n k) ∙ member in
          once.others n there k ∙ is.exact n there unstuck ∙ ap (λ z. min z STUCK) (sym (once.count_elsewhere n k))
    ];
    positive = λ n member. elim (tested (same_name n o)) [
      | inl k ↦ subst (λ z. count_at (tables_of c) after.now z ≢ 0) (sym (same_names n o k)) (λ e. raised_some count (sym once.raised ∙ e))
      | inr k ↦
          let there : IsTrue (has (with_promoted m st.promoted) n) = sym (once.joined n k) ∙ member in
          λ e. is.positive n there (sym (once.others n there k) ∙ e)
    ];
    unraised = once.unraised;
    reported = λ n. subst (λ z. IsTrue (has z n) ↔ IsFull m after n) (sym once.names) (elim (tested (same_name n o)) [
      | inl k ↦ subst (λ z. IsTrue (has (stuck_with s.report.stuck.items count o) z) ↔ IsFull m after z) (sym (same_names n o k)) (reported_here within)
      | inr k ↦ (
        λ h.
            let full = (is.reported n).0 (sym (reported_other s.report.stuck.items count o n k) ∙ h) in
            record { member = once.joined n k ∙ full.member; unstuck = full.unstuck; reaches = subst (λ z. STUCK ≤ z) (sym (once.count_elsewhere n k)) full.reaches },
        λ full.
            reported_other s.report.stuck.items count o n k
            ∙ (is.reported n).1 (record { member = sym (once.joined n k) ∙ full.member; unstuck = full.unstuck; reaches = subst (λ z. STUCK ≤ z) (once.count_elsewhere n k) full.reaches }),
      )
    ]);
    reported_once = subst IsDistinct (sym once.names) (elim (fill_cases count) [
      | inl q ↦ subst IsDistinct (sym (reported_more s.report.stuck.items count o q.0)) (distinct_more s.report.stuck.items o is.reported_once (elim (tested (has s.report.stuck.items o)) [
        | inl k ↦ absurd (let full = (is.reported o).0 k in q.1 (sym (once.count_was full.member) ∙ full_count s m st o is full))
        | inr k ↦ k
      ]))
      | inr q ↦ subst IsDistinct (sym (reported_same s.report.stuck.items count o q.0)) is.reported_once
    ]);
  }
