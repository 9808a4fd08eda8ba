-- What is told of a position is what the model's report has at each moment at which the position is.
use Rattle.std.proofs.Common.{◌≡◌, ℕ, ◌+◌, ◌<◌, ◌≤◌, refl, sym, ap, subst, ◌∙◌, inl, inr, arith, Bool, true, false, cond, List, [], IsTrue}
use Rattle.std.specs.Prelude.{Option, Some, None, not, ◌&&◌, nat_le, filter, map, min, reverse, count_by, if◌then◌else◌}
use Rattle.std.specs.Option.{option_map}
use Rattle.std.proofs.lemmas.Bool.{and_parts, and_from, not_from_false, false_from_ne_true, leb-false}
use Rattle.std.proofs.lemmas.List.Sorted.{IsPermutation-reverse, sum_by-IsPermutation}
use Rattle.lxr_layout.specs.declared.Name.{Name}
use Rattle.lxr_layout.specs.declared.TheConstants.{STUCK}
use Rattle.lxr_graph.specs.declared.report.Count.{Count}
use Rattle.lxr_graph.specs.declared.report.Kind.{Kind}
use Rattle.lxr_graph.specs.declared.report.Kind.TheVariants as kind
use Rattle.lxr_graph.specs.Names.{has, without, union, AreInOrder, IsSetOf}
use Rattle.lxr_graph.specs.State.{State}
use Rattle.lxr_graph.proofs.NameSets.{not_both, one_list, one_set, in_order-none, in_order-union, in_order-without, union_cases, union_left, union_right, without_parts, in_without}
use Rattle.lxr_model.specs.References.{references_from, references}
use Rattle.lxr_model.specs.Dead.{Promoted, by_register, by_kept, by_promoted}
use Rattle.lxr_model.specs.Moments.{Trace, Moment, unreclaimed_after}
use Rattle.lxr_model.specs.Reports.{field_holds, newly_held, raised, count_before, is_draining, count_entry}
use Rattle.lxr_model.proofs.ReachableLemmas.{promoted_made}
use Rattle.lxr_model_counting.specs.Following.{FollowsPause}
use Rattle.lxr_model_counting.specs.Balance.{lowered}
use Rattle.lxr_model_counting.proofs.BalanceLemmas.{balance, made_unreferenced}
use Rattle.lxr_model_counting.proofs.DeathLemmas.{left_follows}
use Rattle.lxr_model_decide.specs.Sets.{reachable_names, dead_names}
use Rattle.lxr_model_decide.specs.Reports.{drained_names, swept_at_end, swept_names, counts_of, report_at}
use Rattle.lxr_model_decide.proofs.SetLemmas.{dead_right, promoted_right}
use Rattle.lxr_judge_sets.specs.ByName.{value_at}
use Rattle.lxr_judge_report.specs.LastPauses.{running_of}
use Rattle.lxr_judge_report.specs.Positions.{Present, IsAt}
use Rattle.lxr_judge_report.specs.Stages.{first_at, old_at, promoted_at, kept_at, newly_stuck_at, stuck_at, second_at, left_at, swept_at, third_at, dead_at, AreGains, AreKept, AreLosses, raised_now, count_before_now, becomes_stuck, drained_of, swept_of, swept_now, counted}
use Rattle.lxr_judge_report.proofs.SetLemmas.{alone, in_order-filter, filter_same, filter_has, map_same, references_filter}

-- ---- sets

-- promotion hangs on which names were made, and not on their order
promoted_by_names : (s : State) (kept a b : List Name) → ((n : Name) → has b n ≡ has a n) → {n : Name} → Promoted s kept a n → Promoted s kept b n
promoted_by_names s kept a b same (by_register h held) = by_register (same _ ∙ h) held
promoted_by_names s kept a b same (by_kept u h k f) = by_kept u (same _ ∙ h) k f
promoted_by_names s kept a b same (by_promoted h p f) = by_promoted (same _ ∙ h) (promoted_by_names s kept a b same p) f

module _ (p : Present) (m : Moment) (at : IsAt p m) where
  first_is : p.last.dead ≡ first_at m
  first_is = at.last.state.dead ∙ ap (λ us. dead_names m.last us p.last.stuck) at.last.unreclaimed ∙ ap (λ ns. dead_names m.last m.unreclaimed ns) at.last.stuck

  old_is : without p.last.unreclaimed p.last.dead ≡ old_at m
  old_is = ap (λ us. without us p.last.dead) at.last.unreclaimed ∙ ap (λ ns. without m.unreclaimed ns) first_is

  old_in_order : AreInOrder (old_at m)
  old_in_order = in_order-without m.unreclaimed (first_at m) at.lives.unreclaimed

  promoted_is : (promoted : List Name) → IsSetOf promoted (Promoted p.state (without p.last.unreclaimed p.last.dead) p.made) → promoted ≡ promoted_at m
  promoted_is promoted is = one_set
      (record {
        in_order = is.in_order;
        members = λ n. (
          λ h. promoted_by_names m.state (old_at m) p.made m.made (λ q. sym (at.made q)) (here n ((is.members n).0 h)),
          λ h. (is.members n).1 (there n (promoted_by_names m.state (old_at m) m.made p.made at.made h)),
        );
      })
      (promoted_right m.state (old_at m) m.made)
    where
      here : (n : Name) → Promoted p.state (without p.last.unreclaimed p.last.dead) p.made n → Promoted m.state (old_at m) p.made n
      here n h = subst (λ ns. Promoted m.state ns p.made n) old_is (subst (λ s. Promoted s (without p.last.unreclaimed p.last.dead) p.made n) at.state h)

      there : (n : Name) → Promoted m.state (old_at m) p.made n → Promoted p.state (without p.last.unreclaimed p.last.dead) p.made n
      there n h = subst (λ s. Promoted s (without p.last.unreclaimed p.last.dead) p.made n) (sym at.state) (subst (λ ns. Promoted m.state ns p.made n) (sym old_is) h)

  -- ---- stuck names

  raised_is : (promoted : List Name) (o : Name) → raised_now p promoted o ≡ raised m promoted o
  raised_is promoted o =
      let fields : count_by (field_holds p.state.graph o) p.written ≡ count_by (field_holds m.state.graph o) m.written =
      ap (λ (s : State). count_by (field_holds s.graph o) p.written) at.state
      ∙ ap (λ ws. count_by (field_holds m.state.graph o) ws) at.written
      ∙ sum_by-IsPermutation (λ w. cond (field_holds m.state.graph o w) 1 0) m.written (reverse m.written) (IsPermutation-reverse m.written) in
      let objects : references_from p.state.graph promoted o ≡ references_from m.state.graph promoted o = ap (λ (s : State). references_from s.graph promoted o) at.state in
      let registers : newly_held p.last.registers p.state.registers o ≡ newly_held m.last.registers m.state.registers o =
      ap (λ rs. newly_held rs p.state.registers o) at.last.state.registers ∙ ap (λ (s : State). newly_held m.last.registers s.registers o) at.state in
      λ i. fields i + objects i + registers i

  count_is : (o : Name) → IsTrue (has (kept_at m) o) → has m.stuck o ≡ false → count_before_now p (promoted_at m) o ≡ count_before m (first_at m) (promoted_at m) o
  count_is o k unstuck = elim (has (promoted_at m) o) as (λ b. has (promoted_at m) o ≡ b → cond b 0 (value_at p.last.counts o) ≡ cond b 0 (references m.last (without m.unreclaimed (first_at m)) o)) [
    | true ↦ λ e. refl
    | false ↦ λ e. elim (union_cases (promoted_at m) (old_at m) o k) [
      | inl h ↦ not_both (has (promoted_at m) o) h e
      | inr h ↦
          let member : IsTrue (has m.unreclaimed o) = (without_parts m.unreclaimed (first_at m) o h).0 in
          at.last.state.count o (ap (λ ns. has ns o) at.last.unreclaimed ∙ member) (ap (λ ns. has ns o) at.last.stuck ∙ unstuck)
          ∙ ap (λ ns. references m.last ns o) old_is
    ]
  ] refl

  becomes_is : (o : Name) → IsTrue (has (kept_at m) o) → becomes_stuck p (promoted_at m) o
      ≡ (not (has m.stuck o) && nat_le STUCK (count_before m (first_at m) (promoted_at m) o + raised m (promoted_at m) o))
  becomes_is o k =
      let many : ℕ → ℕ → Bool = λ a b. nat_le STUCK (a + b) in
      ap (λ ns. not (has ns o) && many (count_before_now p (promoted_at m) o) (raised_now p (promoted_at m) o)) at.last.stuck
      ∙ elim (has m.stuck o) as (λ b. has m.stuck o ≡ b → (not b && many (count_before_now p (promoted_at m) o) (raised_now p (promoted_at m) o)) ≡ (not b && many (count_before m (first_at m) (promoted_at m) o) (raised m (promoted_at m) o))) [
        | true ↦ λ e. refl
        | false ↦ λ e. λ i. many (count_is o k e i) (raised_is (promoted_at m) o i)
      ] refl

  kept_in_order : AreInOrder (kept_at m)
  kept_in_order = in_order-union (promoted_at m) (old_at m) old_in_order

  pub newly_stuck_is : filter (becomes_stuck p (promoted_at m)) (kept_at m) ≡ newly_stuck_at m
  newly_stuck_is =
      let test : Name → Bool = λ o. not (has m.stuck o) && nat_le STUCK (count_before m (first_at m) (promoted_at m) o + raised m (promoted_at m) o) in
      filter_same (becomes_stuck p (promoted_at m)) test (kept_at m) becomes_is ∙ sym (alone (filter test (kept_at m)) (in_order-filter test (kept_at m) kept_in_order))

  -- ---- gains

  pub kept_are : (old promoted kept : List Name) → old ≡ without p.last.unreclaimed p.last.dead → IsSetOf promoted (Promoted p.state old p.made)
      → (AreInOrder old → kept ≡ union promoted old) → AreKept promoted kept m
  kept_are old promoted kept old_was promoted_was kept_was =
      let old_at_m : old ≡ old_at m = old_was ∙ old_is in
      let promoted_at_m : promoted ≡ promoted_at m = promoted_is promoted (subst (λ ns. IsSetOf promoted (Promoted p.state ns p.made)) old_was promoted_was) in
      record {
        promoted_are = promoted_at_m;
        kept_are = kept_was (subst AreInOrder (sym old_at_m) old_in_order) ∙ (λ i. union (promoted_at_m i) (old_at_m i));
      }

  pub gains_are : (promoted kept newly_stuck stuck : List Name) → AreKept promoted kept m → newly_stuck ≡ filter (becomes_stuck p promoted) kept
      → (AreInOrder p.last.stuck → stuck ≡ union newly_stuck p.last.stuck) → AreGains promoted kept newly_stuck stuck m
  gains_are promoted kept newly_stuck stuck parts newly_was stuck_was =
      let newly_at_m : newly_stuck ≡ newly_stuck_at m = newly_was ∙ (λ i. filter (becomes_stuck p (parts.promoted_are i)) (parts.kept_are i)) ∙ newly_stuck_is in
      record {
        promoted_are = parts.promoted_are;
        kept_are = parts.kept_are;
        newly_stuck_are = newly_at_m;
        stuck_are = stuck_was (subst AreInOrder (sym at.last.stuck) at.stuck) ∙ (λ i. union (newly_at_m i) (at.last.stuck i));
      }

  -- ---- losses

  drained_is : (b : Bool) (us stuck : List Name) → drained_of p.state b us stuck ≡ drained_names m us stuck b
  drained_is false us stuck = refl
  drained_is true us stuck = ap (λ s. dead_names s us stuck) at.state

  drained_in_order : (b : Bool) (us stuck : List Name) → AreInOrder (drained_names m us stuck b)
  drained_in_order false us stuck = in_order-none
  drained_in_order true us stuck = (dead_right m.state us stuck).in_order

  swept_of_is : swept_of p.last.trace ≡ swept_at_end m.trace
  swept_of_is = ap swept_of at.last.trace ∙ of m.trace
    where
      of : (trace : Option Trace) → swept_of (option_map running_of trace) ≡ swept_at_end trace
      of None = refl
      of (Some trace) = refl

  swept_is : (k : Kind) (left : List Name) → AreInOrder left → swept_now p left k ≡ swept_names m left k
  swept_is kind.Plain left order = refl
  swept_is kind.Begin left order = refl
  swept_is (kind.End j) left order = swept_of_is
  swept_is kind.Collect left order =
      ap (λ s. without left (reachable_names s)) at.state
      ∙ sym (alone (without left (reachable_names m.state)) (in_order-without left (reachable_names m.state) order))

  pub losses_are : (k : Kind) (kept stuck second swept third dead : List Name) → kept ≡ kept_at m → stuck ≡ stuck_at m
      → second ≡ drained_of p.state (is_draining k) kept stuck → swept ≡ swept_now p (without kept second) k
      → third ≡ drained_of p.state (is_draining k) (without (without kept second) swept) stuck
      → (AreInOrder third → dead ≡ union p.last.dead (union second third)) → AreLosses dead swept m k
  losses_are k kept stuck second swept third dead kept_was stuck_was second_was swept_was third_was dead_was =
      let left = without kept second in
      let second_at_m : second ≡ second_at m k = second_was ∙ drained_is (is_draining k) kept stuck ∙ (λ i. drained_names m (kept_was i) (stuck_was i) (is_draining k)) in
      let left_at_m : left ≡ left_at m k = λ i. without (kept_was i) (second_at_m i) in
      let left_order : AreInOrder left = subst AreInOrder (sym left_at_m) (in_order-without (kept_at m) (second_at m k) kept_in_order) in
      let swept_at_m : swept ≡ swept_at m k = swept_was ∙ swept_is k left left_order ∙ (λ i. swept_names m (left_at_m i) k) in
      let third_at_m : third ≡ third_at m k =
      third_was ∙ drained_is (is_draining k) (without left swept) stuck ∙ (λ i. drained_names m (without (left_at_m i) (swept_at_m i)) (stuck_was i) (is_draining k)) in
      let third_order : AreInOrder third = subst AreInOrder (sym third_at_m) (drained_in_order (is_draining k) (without (left_at m k) (swept_at m k)) (stuck_at m)) in
      record {
        dead_are = dead_was third_order ∙ (λ i. union (first_is i) (union (second_at_m i) (third_at_m i)));
        swept_are = swept_at_m;
      }

  -- ---- counts

  -- what a pause leaves unreclaimed it keeps
  remain_kept : (k : Kind) (o : Name) → IsTrue (has (unreclaimed_after m (report_at m k)) o) → IsTrue (has (kept_at m) o)
  remain_kept k o h =
      let unswept = without_parts (without (union (promoted_at m) m.unreclaimed) (dead_at m k)) (swept_at m k) o h in
      let undead = without_parts (union (promoted_at m) m.unreclaimed) (dead_at m k) o unswept.0 in
      elim (union_cases (promoted_at m) m.unreclaimed o undead.0) [
        | inl q ↦ union_left (promoted_at m) (old_at m) o q
        | inr q ↦ union_right (promoted_at m) (old_at m) o (in_without m.unreclaimed (first_at m) o q
            (λ d. not_both (has (dead_at m k) o) (union_left (first_at m) (union (second_at m k) (third_at m k)) o d) undead.1))
      ]

  remain_in_order : (k : Kind) → AreInOrder (unreclaimed_after m (report_at m k))
  remain_in_order k = in_order-without (without (union (promoted_at m) m.unreclaimed) (dead_at m k)) (swept_at m k)
      (in_order-without (union (promoted_at m) m.unreclaimed) (dead_at m k) (in_order-union (promoted_at m) m.unreclaimed at.lives.unreclaimed))

  -- so an object that it leaves has no more references than from what it keeps
  fewer : (k : Kind) (o : Name) → references m.state (unreclaimed_after m (report_at m k)) o ≤ references m.state (kept_at m) o
  fewer k o =
      let us = unreclaimed_after m (report_at m k) in
      let same : us ≡ filter (has us) (kept_at m) = one_list us (filter (has us) (kept_at m)) (remain_in_order k) (in_order-filter (has us) (kept_at m) kept_in_order) (λ q. (
        λ h. filter_has (has us) (kept_at m) q ∙ and_from (has (kept_at m) q) (has us q) (remain_kept k q h) h,
        λ h. (and_parts (has (kept_at m) q) (has us q) (sym (filter_has (has us) (kept_at m) q) ∙ h)).1,
      )) in
      let less = references_filter m.state.graph (has us) (kept_at m) o in
      let from : references_from m.state.graph us o ≡ references_from m.state.graph (filter (has us) (kept_at m)) o = ap (λ ns. references_from m.state.graph ns o) same in
      omega (arith, less, from)

  -- the references from what a pause keeps are no more than the count that it raises to
  kept_references : (o : Name) → references m.state (kept_at m) o ≤ count_before m (first_at m) (promoted_at m) o + raised m (promoted_at m) o
  kept_references o =
      let first : Moment = record m { unreclaimed = old_at m } in
      let follows : FollowsPause first = left_follows m (first_at m) at.lives (dead_right m.last m.unreclaimed m.stuck).members in
      let promoted = promoted_right m.state (old_at m) m.made in
      let sum : references m.last (old_at m) o + raised m (promoted_at m) o ≡ references m.state (kept_at m) o + lowered m o = balance first (promoted_at m) o follows promoted in
      let before : count_before m (first_at m) (promoted_at m) o ≡ references m.last (old_at m) o =
      elim (has (promoted_at m) o) as (λ b. has (promoted_at m) o ≡ b → cond b 0 (references m.last (old_at m) o) ≡ references m.last (old_at m) o) [
        | true ↦ λ e. sym (made_unreferenced first o follows (promoted_made ((promoted.members o).0 e)))
        | false ↦ λ e. refl
      ] refl in
      omega (arith, sum, before)

  -- an object that a pause leaves and that isn't stuck has few references
  few : (k : Kind) (o : Name) → IsTrue (has (unreclaimed_after m (report_at m k)) o) → has (stuck_at m) o ≡ false
      → references m.state (unreclaimed_after m (report_at m k)) o < STUCK
  few k o left unstuck =
      let total = count_before m (first_at m) (promoted_at m) o + raised m (promoted_at m) o in
      let test : Name → Bool = λ o. not (has m.stuck o) && nat_le STUCK (count_before m (first_at m) (promoted_at m) o + raised m (promoted_at m) o) in
      let less = fewer k o in
      let kept = kept_references o in
      let old : has m.stuck o ≡ false = false_from_ne_true (has m.stuck o) (λ h. not_both (has (stuck_at m) o) (union_right (newly_stuck_at m) m.stuck o h) unstuck) in
      let low : nat_le STUCK total ≡ false = false_from_ne_true (nat_le STUCK total) (λ h.
      let passes : IsTrue (test o) = and_from (not (has m.stuck o)) (nat_le STUCK total) (not_from_false (has m.stuck o) old) h in
      let there : IsTrue (has (filter test (kept_at m)) o) = filter_has test (kept_at m) o ∙ and_from (has (kept_at m) o) (test o) (remain_kept k o left) passes in
      not_both (has (stuck_at m) o) (union_left (newly_stuck_at m) m.stuck o (union_left (filter test (kept_at m)) [] o there)) unstuck) in
      let below : total < STUCK = leb-false STUCK total low in
      omega (arith, less, kept, below)

  counted_is : (k : Kind) (count : Name → ℕ) (o : Name) → ((q : Name) → count q ≡ references m.state (unreclaimed_after m (report_at m k)) q)
      → IsTrue (has (unreclaimed_after m (report_at m k)) o)
      → counted (stuck_at m) count o ≡ count_entry m.state (unreclaimed_after m (report_at m k)) (stuck_at m) o
  counted_is k count o counts left =
      let us = unreclaimed_after m (report_at m k) in
      let entry : Option ℕ → Count = λ c. record { name = o; count = c } in
      elim (has (stuck_at m) o) as (λ b. has (stuck_at m) o ≡ b → entry (cond b None (Some (min (count o) 255))) ≡ entry (cond b None (Some (references m.state us o)))) [
        | true ↦ λ e. refl
        | false ↦ λ e.
            let is = counts o in
            let small = few k o left e in
            let same : min (count o) 255 ≡ references m.state us o = omega (arith, is, small) in
            ap (λ c. entry (Some c)) same
      ] refl

  counts_by : (k : Kind) (b : Bool) (stuck us : List Name) (count : Name → ℕ) → is_draining k ≡ b → stuck ≡ stuck_at m → us ≡ unreclaimed_after m (report_at m k)
      → ((q : Name) → count q ≡ references p.state us q)
      → (if b then map (counted stuck count) us else []) ≡ counts_of m (unreclaimed_after m (report_at m k)) (stuck_at m) b
  counts_by k false stuck us count drains stuck_was us_was counts = refl
  counts_by k true stuck us count drains stuck_was us_was counts =
      let left = unreclaimed_after m (report_at m k) in
      let all : (q : Name) → count q ≡ references m.state left q = λ q. counts q ∙ (λ i. references (at.state i) (us_was i) q) in
      (λ i. map (counted (stuck_was i) count) (us_was i))
      ∙ map_same (counted (stuck_at m) count) (count_entry m.state left (stuck_at m)) left (λ o h. counted_is k count o all h)

  pub counts_are : (k : Kind) (promoted stuck dead swept us : List Name) (count : Name → ℕ) → promoted ≡ promoted_at m → stuck ≡ stuck_at m → AreLosses dead swept m k
      → (AreInOrder p.last.unreclaimed → us ≡ without (without (union promoted p.last.unreclaimed) dead) swept)
      → ((q : Name) → count q ≡ references p.state us q)
      → (if is_draining k then map (counted stuck count) us else []) ≡ (report_at m k).counts
  counts_are k promoted stuck dead swept us count promoted_was stuck_was losses us_was counts =
      let us_at_m : us ≡ unreclaimed_after m (report_at m k) =
      us_was (subst AreInOrder (sym at.last.unreclaimed) at.lives.unreclaimed)
      ∙ (λ i. without (without (union (promoted_was i) (at.last.unreclaimed i)) (losses.dead_are i)) (losses.swept_are i)) in
      counts_by k (is_draining k) stuck us count refl stuck_was us_at_m counts
