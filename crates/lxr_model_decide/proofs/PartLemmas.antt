-- The computed report is a report: each part is the set that it should be, the parts before it being computed too.
use Rattle.std.proofs.Common.{◌≡◌, ◌+◌, ◌≤◌, refl, ap, ◌∙◌, inl, inr, ◌⊎◌, arith, Bool, true, false, cond, List, [], ◌∷◌, IsTrue}
use Rattle.std.specs.Prelude.{◌↔◌, ◌≢◌, ℕ, Option, Some, None, nat_le, not, ◌&&◌, filter}
use Rattle.std.proofs.lemmas.Bool.{or_cases, or_left, or_right, and_parts, and_from, not-true, not_from_false}
use Rattle.lxr_layout.specs.declared.Name.{Name}
use Rattle.lxr_layout.specs.declared.TheConstants.{STUCK}
use Rattle.lxr_graph.specs.declared.report.Kind.{Kind}
use Rattle.lxr_graph.specs.declared.report.Kind.TheVariants as kind
use Rattle.lxr_graph.specs.Names.{same_name, has, without, union, IsSetOf, AreInOrder}
use Rattle.lxr_graph.specs.State.{State}
use Rattle.lxr_graph.proofs.NameSets.{same_names, not_both, in_order-none, in_order-union, union_cases, union_left, union_right, without_parts, in_without}
use Rattle.lxr_model.specs.Reachable.{Reachable}
use Rattle.lxr_model.specs.Moments.{Trace, Moment}
use Rattle.lxr_model.specs.Reports.{PauseParts, kept_names, remaining_names, raised, count_before, is_draining, IsSwept, IsSweptAtEnd, AreDrained, AreCounts}
use Rattle.lxr_model_decide.specs.Sets.{reachable_names, dead_names, promoted_names}
use Rattle.lxr_model_decide.specs.Reports.{in_order, stuck_names, drained_names, swept_at_end, swept_names, report_at, CanBe}
use Rattle.lxr_model_decide.specs.Laws.{ReportsAreRight}
use Rattle.lxr_model_decide.proofs.SetLemmas.{reachable_right, dead_right, promoted_right}

-- ---- lists as sets

filter_parts : (p : Name → Bool) (ns : List Name) (q : Name) → IsTrue (has (filter p ns) q) → IsTrue (has ns q) × IsTrue (p q)
filter_parts p [] q h = absurd (cc)
filter_parts p (n ∷ ns) q h = elim (p n) as (λ b. p n ≡ b → IsTrue (has (cond b (n ∷ filter p ns) (filter p ns)) q) → IsTrue (has (n ∷ ns) q) × IsTrue (p q)) [
  | true ↦ λ e h. elim (or_cases (same_name q n) (has (filter p ns) q) h) [
    | inl k ↦ (or_left (same_name q n) (has ns q) k, ap p (same_names q n k) ∙ e)
    | inr k ↦ let r = filter_parts p ns q k in (or_right (same_name q n) (has ns q) r.0, r.1)
  ]
  | false ↦ λ e h. let r = filter_parts p ns q h in (or_right (same_name q n) (has ns q) r.0, r.1)
] refl h

in_filter : (p : Name → Bool) (ns : List Name) (q : Name) → IsTrue (has ns q) → IsTrue (p q) → IsTrue (has (filter p ns) q)
in_filter p [] q h k = h
in_filter p (n ∷ ns) q h k = elim (p n) as (λ b. p n ≡ b → IsTrue (has (cond b (n ∷ filter p ns) (filter p ns)) q)) [
  | true ↦ λ e. elim (or_cases (same_name q n) (has ns q) h) [
    | inl g ↦ or_left (same_name q n) (has (filter p ns) q) g
    | inr g ↦ or_right (same_name q n) (has (filter p ns) q) (in_filter p ns q g k)
  ]
  | false ↦ λ e. elim (or_cases (same_name q n) (has ns q) h) [
    | inl g ↦ not_both (p q) k (ap p (same_names q n g) ∙ e)
    | inr g ↦ in_filter p ns q g k
  ]
] refl

in_order_has : (ns : List Name) (q : Name) → IsTrue (has (in_order ns) q) ↔ IsTrue (has ns q)
in_order_has ns q = (λ h. elim (union_cases ns [] q h) [ inl k ↦ k | inr k ↦ absurd (cc) ], λ h. union_left ns [] q h)

-- the names of a list that aren't reachable
unreachable_set : (s : State) (us : List Name) → IsSetOf (in_order (without us (reachable_names s))) (λ o. IsTrue (has us o) × (Reachable s o → ⊥))
unreachable_set s us = record {
  in_order = in_order-union (without us (reachable_names s)) [] in_order-none;
  members = λ o. (
    λ h. let w = without_parts us (reachable_names s) o ((in_order_has (without us (reachable_names s)) o).0 h) in
        (w.0, λ r. not_both (has (reachable_names s) o) (((reachable_right s).members o).1 r) w.1),
    λ h. (in_order_has (without us (reachable_names s)) o).1 (in_without us (reachable_names s) o h.0 (λ k. h.1 (((reachable_right s).members o).0 k))),
  );
}

-- ---- the parts

pub le_from_test : (a b : ℕ) → IsTrue (nat_le a b) → a ≤ b
le_from_test a b h = grind arith

pub test_from_le : (a b : ℕ) → a ≤ b → IsTrue (nat_le a b)
test_from_le a b h = grind arith

stuck_right : (m : Moment) (first promoted kept : List Name) → IsSetOf (stuck_names m first promoted kept) (λ o. IsTrue (has kept o) × (has m.stuck o ≡ false)
    × (STUCK ≤ count_before m first promoted o + raised m promoted o))
stuck_right m first promoted kept =
    let many : Name → Bool = λ o. nat_le STUCK (count_before m first promoted o + raised m promoted o) in
    let p : Name → Bool = λ o. not (has m.stuck o) && many o in
    record {
      in_order = in_order-union (filter p kept) [] in_order-none;
      members = λ o. (
        λ h. let w = filter_parts p kept o ((in_order_has (filter p kept) o).0 h) in
            let a = and_parts (not (has m.stuck o)) (many o) w.1 in
            (w.0, not-true (has m.stuck o) a.0, le_from_test STUCK (count_before m first promoted o + raised m promoted o) a.1),
        λ h. (in_order_has (filter p kept) o).1 (in_filter p kept o h.0
            (and_from (not (has m.stuck o)) (many o) (not_from_false (has m.stuck o) h.1) (test_from_le STUCK (count_before m first promoted o + raised m promoted o) h.2))),
      );
    }

swept_right : (m : Moment) (left : List Name) (k : Kind) → CanBe m k → IsSwept m left (swept_names m left k) k
swept_right m left kind.Plain can = refl
swept_right m left kind.Begin can = refl
swept_right m left (kind.End j) can = at_end m.trace can
  where
    at_end : (trace : Option Trace) → trace ≢ None → IsSweptAtEnd (swept_at_end trace) trace
    at_end None can = can refl
    at_end (Some trace) can = unreachable_set trace.state trace.unreclaimed
swept_right m left kind.Collect can = unreachable_set m.state left

drained_in_order : (m : Moment) (us stuck : List Name) (drains : Bool) → AreInOrder (drained_names m us stuck drains)
drained_in_order m us stuck false = in_order-none
drained_in_order m us stuck true = (dead_right m.state us stuck).in_order

-- three sets in one
all_dead : (a b c : List Name) → AreInOrder c → IsSetOf (union a (union b c)) (λ o. IsTrue (has a o) ⊎ IsTrue (has b o) ⊎ IsTrue (has c o))
all_dead a b c o = record {
  in_order = in_order-union a (union b c) (in_order-union b c o);
  members = λ q. (
    λ h. elim (union_cases a (union b c) q h) [
      | inl k ↦ inl k
      | inr k ↦ elim (union_cases b c q k) [ inl g ↦ inr (inl g) | inr g ↦ inr (inr g) ]
    ],
    λ h. elim h [
      | inl k ↦ union_left a (union b c) q k
      | inr (inl k) ↦ union_right a (union b c) q (union_left b c q k)
      | inr (inr k) ↦ union_right a (union b c) q (union_right b c q k)
    ],
  );
}

-- ---- the report

-- the dead of the computed report, part by part
abbrev parts_at : Moment → Kind → PauseParts
parts_at m k =
    let first = dead_names m.last m.unreclaimed m.stuck in
    let promoted = promoted_names m.state (without m.unreclaimed first) m.made in
    let kept = union promoted (without m.unreclaimed first) in
    let stuck = union (stuck_names m first promoted kept) m.stuck in
    let second = drained_names m kept stuck (is_draining k) in
    let swept = swept_names m (without kept second) k in
    record { first_dead = first; second_dead = second; third_dead = drained_names m (without (without kept second) swept) stuck (is_draining k) }

drained_right : (m : Moment) (k : Kind) → AreDrained m (parts_at m k) (report_at m k) (is_draining k)
drained_right m kind.Plain = (refl, refl)
drained_right m kind.Begin = (dead_right m.state (kept_names m (parts_at m kind.Begin) (report_at m kind.Begin)) (union (report_at m kind.Begin).stuck m.stuck), dead_right m.state (remaining_names m (parts_at m kind.Begin) (report_at m kind.Begin)) (union (report_at m kind.Begin).stuck m.stuck))
drained_right m (kind.End j) = (dead_right m.state (kept_names m (parts_at m (kind.End j)) (report_at m (kind.End j))) (union (report_at m (kind.End j)).stuck m.stuck), dead_right m.state (remaining_names m (parts_at m (kind.End j)) (report_at m (kind.End j))) (union (report_at m (kind.End j)).stuck m.stuck))
drained_right m kind.Collect = (dead_right m.state (kept_names m (parts_at m kind.Collect) (report_at m kind.Collect)) (union (report_at m kind.Collect).stuck m.stuck), dead_right m.state (remaining_names m (parts_at m kind.Collect) (report_at m kind.Collect)) (union (report_at m kind.Collect).stuck m.stuck))

counts_right : (m : Moment) (k : Kind) → AreCounts m (report_at m k) (is_draining k)
counts_right m kind.Plain = refl
counts_right m kind.Begin = refl
counts_right m (kind.End j) = refl
counts_right m kind.Collect = refl

pub reports_right : ReportsAreRight
reports_right m k can = (
  parts_at m k,
  record {
    number = refl;
    first_dead = dead_right m.last m.unreclaimed m.stuck;
    promoted = promoted_right m.state (without m.unreclaimed (parts_at m k).first_dead) m.made;
    stuck = stuck_right m (parts_at m k).first_dead (report_at m k).promoted (kept_names m (parts_at m k) (report_at m k));
    drained = drained_right m k;
    swept = swept_right m (without (kept_names m (parts_at m k) (report_at m k)) (parts_at m k).second_dead) k can;
    dead = all_dead (parts_at m k).first_dead (parts_at m k).second_dead (parts_at m k).third_dead
        (drained_in_order m (remaining_names m (parts_at m k) (report_at m k)) (union (report_at m k).stuck m.stuck) (is_draining k));
    counts = counts_right m k;
  },
)
