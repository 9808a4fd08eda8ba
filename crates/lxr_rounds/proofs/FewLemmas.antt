-- A report names few objects: each stood in the heap when its pause began, at a granule of its own.
use Rattle.std.proofs.Common.{ap, ◌∙◌, ◌≡◌, ℕ, ◌+◌, ◌*◌, ◌<◌, ◌≤◌, sym, subst, inl, inr, arith, true, false, List, [], ◌∷◌, IsTrue, length, nat_eq}
use Rattle.std.specs.Prelude.{Option, map}
use Rattle.std.specs.List.{AllByRecursion, IsDistinct as AreApart, list_any}
use Rattle.std.proofs.lemmas.Bool.{false_from_ne_true, or_cases}
use Rattle.std.proofs.lemmas.Bool.Decides.{nat_tests}
use Rattle.std.proofs.lemmas.List.{length-map}
use Rattle.std.proofs.lemmas.Map.Steps.{length-le_from_distinct_below}
use Rattle.lxr_layout.specs.declared.TheConstants.{GRANULES_IN_BLOCK, MOST_BLOCKS, MOST_GRANULES}
use Rattle.lxr_layout.specs.declared.Name.{Name}
use Rattle.lxr_graph.specs.Distinct.{IsDistinct}
use Rattle.lxr_graph.specs.Names.{AreInOrder, has, union}
use Rattle.lxr_graph.specs.State.{Graph}
use Rattle.lxr_graph.specs.History.{Item, PauseReport, report_of}
use Rattle.lxr_graph.proofs.NameSets.{union_cases, union_left}
use Rattle.lxr_image.specs.declared.space.Space.{Space}
use Rattle.lxr_image.specs.Spaces.{tables_of}
use Rattle.lxr_image.specs.Tables.{Tables}
use Rattle.lxr_image.specs.Reads.{granule_of}
use Rattle.lxr_image.specs.Image.{IsImage}
use Rattle.lxr_model.specs.Legal.{IsLegalSoFar}
use Rattle.lxr_model.specs.Moments.{Moment, moment}
use Rattle.lxr_model.specs.Reports.{IsReport}
use Rattle.lxr_model.specs.Terms.{Terms}
use Rattle.lxr_model.proofs.DrainLemmas.{kept_all}
use Rattle.lxr_model.proofs.HistoryLemmas.{GoodAt, good_history}
use Rattle.lxr_model.proofs.ReachableLemmas.{promoted_made}
use Rattle.lxr_model_laws.proofs.OnceLemmas.{reclaimed_within}
use Rattle.lxr_model_laws.proofs.ReportLemmas.{reports_in_order}
use Rattle.lxr_model_laws.proofs.TraceLemmas.{RunningGarbage, running_garbage}
use Rattle.lxr_model_counting.proofs.DistinctLemmas.{first_has, in_order_distinct, later_has, or_false}
use Rattle.lxr_invariant.specs.AbstractState.{members}
use Rattle.lxr_invariant.proofs.NameLemmas.{in_first, in_second}
use Rattle.lxr_invariant.proofs.PlaceLemmas.{granules_differ}
use Rattle.lxr_pause_promote.proofs.EitherLemmas.{some_granules}
use Rattle.lxr_one_pause.specs.declared.Ask.{Ask}
use Rattle.lxr_one_pause.specs.declared.Pace.{Pace}
use Rattle.lxr_sights.specs.Sights.{Sight}
use Rattle.lxr_rounds_invariant.specs.LoopInvariant.{FitsCounts, terms_of}
use Rattle.lxr_rounds_invariant.proofs.PauseLemmas.{can_pause}
use Rattle.lxr_rounds.specs.Observing.{IsNextReport}
use Rattle.lxr_rounds.specs.Pausing.{MakesPause, SomePauseIsDue}

-- ---- names that stand in a heap

module _ (t : Tables) (blocks : ℕ) (at : Name → ℕ) (g : Graph) (ms : List Name) (image : IsImage t blocks at g ms) where
  abbrev granules_at : List Name → List ℕ
  granules_at ns = map (λ n. granule_of (at n)) ns

  abbrev AreMembers : List Name → Type 0
  AreMembers ns = (x : Name) → IsTrue (has ns x) → IsTrue (has ms x)

  -- no other member begins at the granule of one
  own_granule : (n : Name) (ns : List Name) → IsTrue (has ms n) → AreMembers ns → has ns n ≡ false → AllByRecursion (λ k. nat_eq (granule_of (at n)) k ≡ false) (granules_at ns)
  own_granule n [] in_n within others = tt
  own_granule n (x ∷ ns) in_n within others =
      let other = or_false _ (has ns n) others in
      let differ : granule_of (at n) ≡ granule_of (at x) → ⊥ = granules_differ t blocks at g ms image n x in_n (within x (first_has x ns)) other.0 in
      (false_from_ne_true _ (λ e. differ (grind (arith, nat_tests))), own_granule n ns in_n (λ y h. within y (later_has x ns y h)) other.1)

  own_granules : (ns : List Name) → AreMembers ns → IsDistinct ns → AreApart nat_eq (granules_at ns)
  unfolding AreApart
  own_granules [] within once = tt
  own_granules (n ∷ ns) within once = (own_granule n ns (within n (first_has n ns)) (λ x h. within x (later_has n ns x h)) once.0, own_granules ns (λ x h. within x (later_has n ns x h)) once.1)

  -- each lies in the heap
  in_heap : (ns : List Name) → AreMembers ns → (k : ℕ) → list_any (nat_eq k) (granules_at ns) ≡ true → k < GRANULES_IN_BLOCK * blocks
  in_heap [] within k one = absurd (cc)
  in_heap (n ∷ ns) within k one = elim (or_cases (nat_eq k (granule_of (at n))) (list_any (nat_eq k) (granules_at ns)) one) [
    | inl here ↦ let e : k ≡ granule_of (at n) = grind (arith, nat_tests) in
        let there = image.stands n (within n (first_has n ns)) in
        let some = some_granules there.0 in
        let fits = there.2.whole.in_heap in
        omega (arith, e, some, fits)
    | inr rest ↦ in_heap ns (λ x h. within x (later_has n ns x h)) k rest
  ]

  -- so there are no more of them than granules
  pub members_few : (ns : List Name) → AreInOrder ns → AreMembers ns → length ns ≤ GRANULES_IN_BLOCK * blocks
  members_few ns ordered within =
      let few = length-le_from_distinct_below (granules_at ns) (GRANULES_IN_BLOCK * blocks) (own_granules ns within (in_order_distinct ns ordered)) (in_heap ns within) in
      let same = length-map ns (λ n. granule_of (at n)) in
      omega (arith, few, same)

-- ---- reports

-- no list of names of a report has more than so many
pub record NamesFew (report : PauseReport) (n : ℕ) : Type 0 where
  pub promoted : length report.promoted ≤ n
  pub dead : length report.dead ≤ n
  pub swept : length report.swept ≤ n
  pub stuck : length report.stuck ≤ n

-- so it is of the report of a pause, and the granules of its heap
pub names_few : (terms : Terms) (h : List Item) (m : Moment) (report : PauseReport) (t : Tables) (blocks : ℕ) (at : Name → ℕ) → IsLegalSoFar terms h → m ≡ moment terms.threads h → IsReport m report
    → IsImage t blocks at m.state.graph (members m) → NamesFew report (GRANULES_IN_BLOCK * blocks)
names_few terms h m report t blocks at legal is (parts, reports) image =
    let ordered = reports_in_order m report (parts, reports) in
    let reclaimed = reclaimed_within terms.threads m report parts reports (subst (GoodAt terms.threads) (sym is) (good_history terms h legal))
    (subst (λ (x : Moment). RunningGarbage x.trace x) (sym is) (running_garbage terms h legal)) in
    record {
      promoted = few report.promoted ordered.promoted (λ n named. stood n (union_left report.promoted m.unreclaimed n named));
      dead = few report.dead ordered.dead (λ n named. stood n (reclaimed n (in_first report.dead report.swept n named)));
      swept = few report.swept ordered.swept (λ n named. stood n (reclaimed n (in_second report.dead report.swept n named)));
      stuck = few report.stuck ordered.stuck (λ n named. stood n (kept_all m report parts reports n ((reports.stuck.members n).0 named).0));
    }
  where
    few : (ns : List Name) → AreInOrder ns → ((n : Name) → IsTrue (has ns n) → IsTrue (has (members m) n)) → length ns ≤ GRANULES_IN_BLOCK * blocks
    few = members_few t blocks at m.state.graph (members m) image

    stood : (n : Name) → IsTrue (has (union report.promoted m.unreclaimed) n) → IsTrue (has (members m) n)
    stood n named = elim (union_cases report.promoted m.unreclaimed n named) [
      | inl new ↦ in_second m.unreclaimed m.made n (promoted_made ((reports.promoted.members n).0 new))
      | inr old ↦ in_first m.unreclaimed m.made n old
    ]

-- so is the report of a pause that was due the next one that is told
pub next_report : (asked : Ask) (pace : Pace) (before after : Space) (seen : Option (List Sight)) → SomePauseIsDue asked pace before seen → FitsCounts before → MakesPause asked pace before after
    → IsNextReport before.pauses (report_of after.report)
next_report asked pace before after seen (task, h, g, to) fits makes =
    let pauses = (makes g (can_pause task before seen h g to.come fits)).1 in
    let names = names_few (terms_of task) h g.moment (report_of after.report) (tables_of before) before.limits.blocks g.at to.come.history.0 to.come.stands.moment pauses.reports to.come.safepoint.holds.image.image in
    let blocks = to.come.safepoint.holds.space.limits.blocks.1 in
    record {
      number = pauses.reports.1.number ∙ ap (λ n. n + 1) (sym to.come.safepoint.numbers.pauses);
      fits = fits.pauses.0;
      promoted = most (length (report_of after.report).promoted) before.limits.blocks names.promoted blocks;
      dead = most (length (report_of after.report).dead) before.limits.blocks names.dead blocks;
      swept = most (length (report_of after.report).swept) before.limits.blocks names.swept blocks;
      stuck = most (length (report_of after.report).stuck) before.limits.blocks names.stuck blocks;
    }
  where
    most : (n blocks : ℕ) → n ≤ GRANULES_IN_BLOCK * blocks → blocks ≤ MOST_BLOCKS → n ≤ MOST_GRANULES
    most n blocks few fits = omega arith
