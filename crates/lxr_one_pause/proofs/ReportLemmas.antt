-- The report of a pause, its names put in order, is one that a pause may give, and leads to the moment that its steps lead to.
use Rattle.std.proofs.Common.{◌≡◌, ◌+◌, ◌≤◌, refl, sym, ap, subst, ◌∙◌, inl, inr, ◌⊎◌, arith, Bool, true, false, cond, List, [], ◌∷◌, ◌++◌, IsTrue, length}
use Rattle.std.specs.Prelude.{◌||◌, ◌↔◌, Option, Some, None, map, not, ◌&&◌}
use Rattle.lxr_layout.specs.declared.Name.{Name}
use Rattle.lxr_layout.specs.declared.TheConstants.{STUCK}
use Rattle.lxr_graph.specs.declared.report.Count.{Count}
use Rattle.lxr_graph.specs.declared.report.Kind.{Kind}
use Rattle.lxr_graph.specs.declared.report.Kind.TheVariants as kind
use Rattle.lxr_graph.specs.declared.report.Report.{Report}
use Rattle.lxr_graph.specs.Names.{IsSetOf, has, union, without}
use Rattle.lxr_graph.specs.History.{PauseReport, report_of}
use Rattle.lxr_graph.proofs.NameSets.{has-union, has-without, in_order-without}
use Rattle.lxr_model.specs.Dead.{Dead, Promoted}
use Rattle.lxr_model.specs.Reachable.{Reachable}
use Rattle.lxr_model.specs.References.{references}
use Rattle.lxr_model.specs.Moments.{Moment, Trace, after_pause, going_on, stuck_after, trace_after, unreclaimed_after}
use Rattle.lxr_model.specs.Reports.{AreCounts, AreDrained, IsReport, IsReportWith, IsSwept, IsSweptAtEnd, PauseParts, count_before, is_draining, kept_names, raised, remaining_names}
use Rattle.lxr_model_counting.specs.Draining.{LeavesTheRemaining}
use Rattle.lxr_model_counting.specs.Following.{FollowsPause}
use Rattle.lxr_model_counting.proofs.DeathLemmas.{dead_by_names}
use Rattle.lxr_model_counting.proofs.DistinctLemmas.{first_has, later_has, union_same, without_same}
use Rattle.lxr_model_counting.proofs.PauseLemmas.{remaining}
use Rattle.lxr_invariant.specs.Raised.{count_raised}
use Rattle.lxr_invariant.proofs.NameLemmas.{in_either, in_first, in_second}
use Rattle.lxr_one_pause.specs.Steps.{with_names_in_order}
use Rattle.lxr_one_pause.specs.Settling.{DiesBy, IsSweptBy, IsSweptOf, Tells, drained_by, kept_by, remaining_by, settled_by, survived, trace_by}
use Rattle.lxr_one_pause.proofs.OrderLemmas.{has_in_order, none_in_order, references_in_order, set_in_order, slots_in_order}

-- what a report says once its names are in order and these counts are told
abbrev pub told : Report → List Count → PauseReport
told r counts = record (report_of (with_names_in_order r)) { counts = counts }

-- the parts of a pause, their names in order
abbrev pub parts_in_order : PauseParts → PauseParts
parts_in_order p = record { first_dead = union p.first_dead []; second_dead = union p.second_dead []; third_dead = union p.third_dead [] }

same_truth : (a b : Bool) → (IsTrue a ↔ IsTrue b) → a ≡ b
same_truth true b h = sym (h.0 refl)
same_truth false true h = h.1 refl
same_truth false false h = refl

both : (a b : Bool) → IsTrue a → b ≡ false → IsTrue (a && not b)
both a b h k = λ i. h i && not (k i)

parted : (a b : Bool) → IsTrue (a && not b) → IsTrue a × (b ≡ false)
parted true false h = (refl, refl)
parted true true h = absurd (cc)
parted false b h = absurd (cc)

-- entries of the same names with the same counts
pub entries_same : (f g : Name → Count) (ns : List Name) → ((n : Name) → IsTrue (has ns n) → f n ≡ g n) → map f ns ≡ map g ns
entries_same f g [] same = refl
entries_same f g (n ∷ ns) same = λ i. same n (first_has n ns) i ∷ entries_same f g ns (λ q h. same q (later_has n ns q h)) i

module _ (m : Moment) (r : Report) (parts : PauseParts) (counts : List Count) (follows : FollowsPause m) (tells : Tells r parts m) where
  abbrev said : PauseReport
  said = told r counts

  abbrev ordered : PauseParts
  ordered = parts_in_order parts

  -- ---- lists of names, whatever their order

  pub survivors : without m.unreclaimed ordered.first_dead ≡ without m.unreclaimed parts.first_dead
  survivors = without_same m.unreclaimed ordered.first_dead parts.first_dead (has_in_order parts.first_dead)

  kept : kept_names m ordered said ≡ kept_by m parts r
  kept =
      ap (union said.promoted) survivors
      ∙ union_same said.promoted r.promoted.items (without m.unreclaimed parts.first_dead) (in_order-without m.unreclaimed parts.first_dead follows.unreclaimed) (has_in_order r.promoted.items)

  drained : without (kept_names m ordered said) ordered.second_dead ≡ drained_by m parts r
  drained = ap (λ ns. without ns ordered.second_dead) kept ∙ without_same (kept_by m parts r) ordered.second_dead parts.second_dead (has_in_order parts.second_dead)

  remains : remaining_names m ordered said ≡ remaining_by m parts r
  remains = ap (λ ns. without ns said.swept) drained ∙ without_same (drained_by m parts r) said.swept r.swept.items (has_in_order r.swept.items)

  pub stuck_told : (n : Name) → has (union said.stuck m.stuck) n ≡ has (union r.stuck.items m.stuck) n
  stuck_told n = has-union said.stuck m.stuck n ∙ ap (λ b. b || has m.stuck n) (has_in_order r.stuck.items n) ∙ sym (has-union r.stuck.items m.stuck n)

  -- ---- what is raised

  counted : (o : Name) → count_before m ordered.first_dead said.promoted o + raised m said.promoted o ≡ count_raised (survived m parts.first_dead) r.promoted.items o
  counted o =
      let found : count_before m ordered.first_dead said.promoted o ≡ cond (has r.promoted.items o) 0 (references m.last (without m.unreclaimed parts.first_dead) o) =
      ap (λ us. cond (has said.promoted o) 0 (references m.last us o)) survivors
      ∙ ap (λ b. cond b 0 (references m.last (without m.unreclaimed parts.first_dead) o)) (has_in_order r.promoted.items o) in
      let added : raised m said.promoted o ≡ raised m r.promoted.items o = let e = references_in_order m.state.graph r.promoted.items o tells.raised.promoted_once in omega (arith, e) in
      ap (λ k. k + raised m said.promoted o) found ∙ ap (λ k. cond (has r.promoted.items o) 0 (references m.last (without m.unreclaimed parts.first_dead) o) + k) added

  has_kept : (o : Name) → has (kept_names m ordered said) o ≡ has (kept_by m parts r) o
  has_kept o = ap (λ ns. has ns o) kept

  -- ---- what dies and what is swept

  dead_told : (us vs : List Name) → us ≡ vs → (o : Name) → Dead m.state vs (union r.stuck.items m.stuck) o → Dead m.state us (union said.stuck m.stuck) o
  dead_told us vs same o d = dead_by_names m.state us (union r.stuck.items m.stuck) (union said.stuck m.stuck) stuck_told (subst (λ ns. Dead m.state ns (union r.stuck.items m.stuck) o) (sym same) d)

  dead_back : (us vs : List Name) → us ≡ vs → (o : Name) → Dead m.state us (union said.stuck m.stuck) o → Dead m.state vs (union r.stuck.items m.stuck) o
  dead_back us vs same o d = subst (λ ns. Dead m.state ns (union r.stuck.items m.stuck) o) same (dead_by_names m.state us (union said.stuck m.stuck) (union r.stuck.items m.stuck) (λ n. sym (stuck_told n)) d)

  are_drained : (b : Bool) → DiesBy m parts r b → AreDrained m ordered said b
  are_drained false none = (none_in_order parts.second_dead none.0, none_in_order parts.third_dead none.1)
  are_drained true dies = (
    set_in_order parts.second_dead (Dead m.state (kept_names m ordered said) (union said.stuck m.stuck))
        (λ n. (λ h. dead_told (kept_names m ordered said) (kept_by m parts r) kept n ((dies.0 n).0 h), λ d. (dies.0 n).1 (dead_back (kept_names m ordered said) (kept_by m parts r) kept n d))),
    set_in_order parts.third_dead (Dead m.state (remaining_names m ordered said) (union said.stuck m.stuck))
        (λ n. (λ h. dead_told (remaining_names m ordered said) (remaining_by m parts r) remains n ((dies.1 n).0 h), λ d. (dies.1 n).1 (dead_back (remaining_names m ordered said) (remaining_by m parts r) remains n d))),
  )

  swept_of : (trace : Option Trace) → IsSweptOf r.swept.items trace → IsSweptAtEnd said.swept trace
  swept_of None are = are
  swept_of (Some trace) are = set_in_order r.swept.items (λ o. IsTrue (has trace.unreclaimed o) × ¬ Reachable trace.state o)
      (λ n. (λ h. let g = (are n).0 h in (g.member, g.unreachable), λ g. (are n).1 (record { member = g.0; unreachable = g.1 })))

  are_swept : (k : Kind) → IsSweptBy m parts r k → IsSwept m (without (kept_names m ordered said) ordered.second_dead) said.swept k
  are_swept kind.Plain none = none_in_order r.swept.items none
  are_swept kind.Begin none = none_in_order r.swept.items none
  are_swept (kind.End j) are = swept_of m.trace are
  are_swept kind.Collect are = set_in_order r.swept.items (λ o. IsTrue (has (without (kept_names m ordered said) ordered.second_dead) o) × ¬ Reachable m.state o)
      (λ n. (λ h. let g = (are n).0 h in (ap (λ ns. has ns n) drained ∙ g.0, g.1), λ g. (are n).1 (sym (ap (λ ns. has ns n) drained) ∙ g.0, g.1)))

  dead_parts_told : (o : Name) → IsTrue (has r.dead.items o) ↔ (IsTrue (has ordered.first_dead o) ⊎ IsTrue (has ordered.second_dead o) ⊎ IsTrue (has ordered.third_dead o))
  dead_parts_told o = (
    λ h. elim (in_either parts.first_dead (parts.second_dead ++ parts.third_dead) o (subst (λ ns. IsTrue (has ns o)) tells.dead h)) [
      | inl a ↦ inl (has_in_order parts.first_dead o ∙ a)
      | inr q ↦ elim (in_either parts.second_dead parts.third_dead o q) [
        | inl b ↦ inr (inl (has_in_order parts.second_dead o ∙ b))
        | inr c ↦ inr (inr (has_in_order parts.third_dead o ∙ c))
      ]
    ],
    λ h. subst (λ ns. IsTrue (has ns o)) (sym tells.dead) (elim h [
      | inl a ↦ in_first parts.first_dead (parts.second_dead ++ parts.third_dead) o (sym (has_in_order parts.first_dead o) ∙ a)
      | inr q ↦ in_second parts.first_dead (parts.second_dead ++ parts.third_dead) o (elim q [
        | inl b ↦ in_first parts.second_dead parts.third_dead o (sym (has_in_order parts.second_dead o) ∙ b)
        | inr c ↦ in_second parts.second_dead parts.third_dead o (sym (has_in_order parts.third_dead o) ∙ c)
      ])
    ]),
  )

  -- a trace goes on alike in whatever order promoted names stand
  pub goes_on : (trace : Option Trace) → going_on m said trace ≡ going_on m (report_of r) trace
  goes_on None = refl
  goes_on (Some trace) = ap (λ k. Some (record trace { promoted_slots = trace.promoted_slots + k; written_slots = trace.written_slots + length m.written })) (slots_in_order m.state.graph r.promoted.items tells.raised.promoted_once)

  -- ---- the report

  module _ (counted_afresh : AreCounts m said (is_draining r.kind)) where
    pub reports_with : IsReportWith m ordered said
    reports_with = record {
      number = tells.number;
      first_dead = set_in_order parts.first_dead (Dead m.last m.unreclaimed m.stuck) tells.first;
      promoted = subst (λ us. IsSetOf said.promoted (Promoted m.state us m.made)) (sym survivors)
          (set_in_order r.promoted.items (Promoted m.state (without m.unreclaimed parts.first_dead) m.made) tells.raised.promoted_are);
      stuck = set_in_order r.stuck.items (λ o. IsTrue (has (kept_names m ordered said) o) × (has m.stuck o ≡ false)
          × (STUCK ≤ count_before m ordered.first_dead said.promoted o + raised m said.promoted o))
          (λ o. (
            (λ h. let b = (tells.raised.stuck_are o).0 h in (has_kept o ∙ b.member, b.unstuck, subst (λ k. STUCK ≤ k) (sym (counted o)) b.reaches)),
            (λ b. (tells.raised.stuck_are o).1 (record { member = sym (has_kept o) ∙ b.0; unstuck = b.1; reaches = subst (λ k. STUCK ≤ k) (counted o) b.2 })),
          ));
      drained = are_drained (is_draining r.kind) tells.drained;
      swept = are_swept r.kind tells.swept;
      dead = set_in_order r.dead.items (λ o. IsTrue (has ordered.first_dead o) ⊎ IsTrue (has ordered.second_dead o) ⊎ IsTrue (has ordered.third_dead o)) dead_parts_told;
      counts = counted_afresh;
    }

    pub reports : IsReport m said
    reports = (ordered, reports_with)

    -- ---- the moment that the report leads to

    leaves : LeavesTheRemaining m ordered said
    leaves = remaining m ordered said follows reports_with

    pub unreclaimed_then : unreclaimed_after m said ≡ (settled_by m parts r).unreclaimed
    unreclaimed_then =
        leaves.unreclaimed
        ∙ ap (λ ns. without ns ordered.third_dead) remains
        ∙ without_same (remaining_by m parts r) ordered.third_dead parts.third_dead (has_in_order parts.third_dead)

    pub stuck_then : (n : Name) → has (stuck_after m said) n ≡ has (settled_by m parts r).stuck n
    stuck_then n = same_truth (has (stuck_after m said) n) (has (settled_by m parts r).stuck n) (
      λ h. let a = (leaves.stuck n).0 h in has-without (union r.stuck.items m.stuck) r.swept.items n ∙ both (has (union r.stuck.items m.stuck) n) (has r.swept.items n) (sym (stuck_told n) ∙ a.0) (sym (has_in_order r.swept.items n) ∙ a.1),
      λ h. let a = parted (has (union r.stuck.items m.stuck) n) (has r.swept.items n) (sym (has-without (union r.stuck.items m.stuck) r.swept.items n) ∙ h) in (leaves.stuck n).1 (stuck_told n ∙ a.0, has_in_order r.swept.items n ∙ a.1),
    )

    pub trace_then : (k : Kind) → trace_after m said k ≡ trace_by m parts r k
    trace_then kind.Plain = goes_on m.trace
    trace_then kind.Begin = ap (λ ns. Some (record { began = r.number; state = m.state; unreclaimed = ns; promoted_slots = 0; written_slots = 0 })) unreclaimed_then
    trace_then (kind.End j) = refl
    trace_then kind.Collect = refl

    -- whatever the order of stuck names
    pub moment_then : after_pause m said ≡ record (settled_by m parts r) { stuck = stuck_after m said }
    moment_then i = record {
      state = m.state;
      last = m.state;
      number = tells.number i;
      unreclaimed = unreclaimed_then i;
      stuck = stuck_after m said;
      trace = trace_then r.kind i;
      made = [];
      written = [];
    }
