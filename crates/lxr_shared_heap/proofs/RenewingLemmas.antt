-- Names may be renewed where nothing stands behind a draining pause, and then the run is between two epochs again.
use Rattle.std.proofs.Common.{◌≡◌, ◌≢◌, ℕ, zero, suc, ◌+◌, ◌<◌, ◌≤◌, refl, sym, ap, subst, ◌∙◌, inl, inr, arith, Bool, true, false, List, [], ◌∷◌, ◌++◌, IsTrue, length, length-set, map, nat_eq, length-drop}
use Rattle.std.specs.Prelude.{◌&&◌, ◌||◌, Option, Some, None, if◌then◌else◌, is_some, nat_lt, not, option_map, slice_get, slice_set}
use Rattle.std.specs.List.{list_any}
use Rattle.std.proofs.lemmas.Bool.Decides.{eqb_tells}
use Rattle.std.proofs.lemmas.Bool.{and_parts, not-true}
use Rattle.std.proofs.lemmas.List.{length-map}
use Rattle.std.proofs.lemmas.Option.{slice_get-map, slice_get_within}
use Rattle.lxr_layout.specs.declared.Name.{Name}
use Rattle.lxr_layout.specs.declared.TheConstants.{MOST_GRANULES}
use Rattle.lxr_layout.specs.declared.limits.Limits.{Limits}
use Rattle.lxr_graph.specs.declared.report.Count.{Count}
use Rattle.lxr_graph.specs.History.{Call, HasToldCounts, Item, Pause, PauseReport, Renew, report_of}
use Rattle.lxr_graph.specs.Names.{AreInOrder as InOrder}
use Rattle.lxr_graph.specs.State.{world_name}
use Rattle.lxr_image.specs.declared.space.Space.{Space}
use Rattle.lxr_model.specs.Belongs.{Script}
use Rattle.lxr_model.specs.Legal.{IsLegalSoFar}
use Rattle.lxr_model.specs.Moments.{Moment, Trace, moment, renewed_moment}
use Rattle.lxr_model.specs.Renewing.{IsBehindDraining}
use Rattle.lxr_model.specs.Reports.{AreCounts, count_entry, is_draining}
use Rattle.lxr_model.specs.Terms.{Terms}
use Rattle.lxr_model.proofs.HistoryLemmas.{good_history}
use Rattle.lxr_invariant.specs.AbstractState.{AbstractState}
use Rattle.lxr_invariant.specs.Settled.{IsSettled}
use Rattle.lxr_pause_queue.specs.Counting.{ListsCounts}
use Rattle.lxr_pause_queue.specs.Entries.{with_told}
use Rattle.lxr_large_model.specs.Renewing.{AreCounted, counted_name}
use Rattle.lxr_renew.specs.Renewing.{MayRenew, Renews}
use Rattle.lxr_renew.proofs.FewLemmas.{unreclaimed_few}
use Rattle.lxr_renew.proofs.NameLemmas.{begins_with_world}
use Rattle.lxr_one_pause.specs.Pausing.{IsDrained as HasDrained}
use Rattle.lxr_one_pause.proofs.TellingLemmas.{counts_reported}
use Rattle.lxr_core_invariant.specs.Through.{JustPaused}
use Rattle.lxr_core_invariant.proofs.ShowingLemmas.{set_elsewhere, set_here}
use Rattle.lxr_mutator.specs.declared.phases.MutEnd.TheVariants as ends
use Rattle.lxr_mutator.specs.Mutating.{Mutating}
use Rattle.lxr_mutator.specs.Mutators.{renewed}
use Rattle.lxr_decrement.specs.Decrementing.{DecrementerState}
use Rattle.lxr_trace.specs.Tracing.{TracerState}
use Rattle.lxr_core.specs.declared.actors.AnyActor.{AnyActor}
use Rattle.lxr_core.specs.declared.actors.AnyActor.TheVariants as any
use Rattle.lxr_core.specs.Actors.{AreInOrder, decrementers_in, in_order, mutators_in, tracers_in}
use Rattle.lxr_core.proofs.OrderLemmas.{decrementers_of_order, mutator_at, mutators_of_order, tracers_of_order}
use Rattle.lxr_rounds_history.specs.Left.{last_report}
use Rattle.lxr_rounds_invariant.specs.Renewing.{AreRenewed}
use Rattle.lxr_rounds_invariant.proofs.RenewingLemmas.{run_renewed}
use Rattle.lxr_rounds_invariant.specs.LoopInvariant.{HasCome, IsBetweenEpochs, Task, terms_of, threads_of}
use Rattle.lxr_shared_heap.specs.declared.settings.Settings.{Settings}
use Rattle.lxr_stations.specs.Living.{AreLive, IsLive}
use Rattle.lxr_shared_heap.specs.Renewing.{CanActorRenew, HasRenewed, LeavesLists, StandsIdle, actor_renewed, has_drained, is_at_end, is_renewal_due, is_worn}
use Rattle.lxr_shared_heap.specs.Settings.{run_of}
use Rattle.lxr_stations.specs.Wanting.{is_ended}
use Rattle.lxr_shared_heap.proofs.ToldLemmas.{between_told}

-- what a history that ends with a draining pause tells
record IsDrained (threads : ℕ) (h : List Item) : Type 0 where
  behind : IsBehindDraining h
  settled : IsSettled (moment threads h)

drained_by : (terms : Terms) (h : List Item) → IsLegalSoFar terms h → JustPaused h → 1 ≤ (moment terms.threads h).number → IsTrue (is_draining (last_report h).kind) → IsDrained terms.threads h
drained_by terms [] legal paused some drains = absurd (omega (arith, some))
drained_by terms (Call t o r ∷ h) legal paused some drains = absurd paused
drained_by terms (Renew ns ∷ h) legal paused some drains = absurd (omega (arith, some))
drained_by terms (Pause report ∷ h) legal paused some drains = record {
  behind = drains;
  settled = record { same = refl; none_made = refl; none_written = refl };
}

-- the counts of what is unreclaimed at a moment
abbrev counts_at : Moment → List Count
counts_at m = map (count_entry m.state m.unreclaimed m.stuck) m.unreclaimed

-- a draining pause with which a history ends has counted that
counted_by : (terms : Terms) (h : List Item) → IsLegalSoFar terms h → JustPaused h → 1 ≤ (moment terms.threads h).number → IsTrue (is_draining (last_report h).kind) → (last_report h).counts ≡ counts_at (moment terms.threads h)
counted_by terms [] legal paused some drains = absurd (omega (arith, some))
counted_by terms (Call t o r ∷ h) legal paused some drains = absurd paused
counted_by terms (Renew ns ∷ h) legal paused some drains = absurd (omega (arith, some))
counted_by terms (Pause report ∷ h) legal paused some drains =
    counts_reported (moment terms.threads h) report (subst (AreCounts (moment terms.threads h) report) drains legal.2.reports.1.counts)

-- ---- actors

pub or_right_false : (a b : Bool) → (a || b) ≡ false → b ≡ false
or_right_false true b none = absurd (cc)
or_right_false false b none = none

-- none of them is at its end
pub none_at_end : (actors : List AnyActor) → list_any is_at_end actors ≡ false → (i : ℕ) (m : Mutating) → slice_get (mutators_in actors) i ≡ Some m → m.end ≢ Some ends.Ended
none_at_end [] none i m at ended = cc
none_at_end (any.Mutator x ∷ actors) none zero m at ended =
    let same : x ≡ m = cc in
    let here : is_ended x.end ≡ true = ap (λ (z : Mutating). is_ended z.end) same ∙ ap is_ended ended in
    let both : true ≡ false = sym (ap (λ b. b || list_any is_at_end actors) here) ∙ none in
    cc
none_at_end (any.Mutator x ∷ actors) none (suc i) m at ended = none_at_end actors (or_right_false (is_ended x.end) (list_any is_at_end actors) none) i m at ended
none_at_end (any.Decrementer d ∷ actors) none i m at ended = none_at_end actors none i m at ended
none_at_end (any.Tracer d ∷ actors) none i m at ended = none_at_end actors none i m at ended

-- what each mutator becomes
abbrev anew : ℕ → Mutating → Mutating
anew left m = renewed m (if nat_eq m.thread 1 then left else 0)

helpers_stay : (left : ℕ) (ds : List DecrementerState) (ts : List TracerState) → map (actor_renewed left) (map any.Decrementer ds ++ map any.Tracer ts) ≡ map any.Decrementer ds ++ map any.Tracer ts
helpers_stay left [] [] = refl
helpers_stay left [] (t ∷ ts) = ap (λ z. any.Tracer t ∷ z) (helpers_stay left [] ts)
helpers_stay left (d ∷ ds) ts = ap (λ z. any.Decrementer d ∷ z) (helpers_stay left ds ts)

order_renewed : (left : ℕ) (ms : List Mutating) (ds : List DecrementerState) (ts : List TracerState) → map (actor_renewed left) (in_order ms ds ts) ≡ in_order (map (anew left) ms) ds ts
order_renewed left [] ds ts = helpers_stay left ds ts
order_renewed left (m ∷ ms) ds ts = ap (λ z. any.Mutator (anew left m) ∷ z) (order_renewed left ms ds ts)

module _ (left : ℕ) (actors : List AnyActor) (order : AreInOrder actors) where
  whole : map (actor_renewed left) actors ≡ in_order (map (anew left) (mutators_in actors)) (decrementers_in actors) (tracers_in actors)
  whole = ap (map (actor_renewed left)) order ∙ order_renewed left (mutators_in actors) (decrementers_in actors) (tracers_in actors)

  mutators_anew : mutators_in (map (actor_renewed left) actors) ≡ map (anew left) (mutators_in actors)
  mutators_anew = ap mutators_in whole ∙ mutators_of_order (map (anew left) (mutators_in actors)) (decrementers_in actors) (tracers_in actors)

  decrementers_still : decrementers_in (map (actor_renewed left) actors) ≡ decrementers_in actors
  decrementers_still = ap decrementers_in whole ∙ decrementers_of_order (map (anew left) (mutators_in actors)) (decrementers_in actors) (tracers_in actors)

  tracers_still : tracers_in (map (actor_renewed left) actors) ≡ tracers_in actors
  tracers_still = ap tracers_in whole ∙ tracers_of_order (map (anew left) (mutators_in actors)) (decrementers_in actors) (tracers_in actors)

  order_still : AreInOrder (map (actor_renewed left) actors)
  order_still = whole ∙ (λ i. in_order (sym mutators_anew i) (sym decrementers_still i) (sym tracers_still i))

-- ---- one by one

-- so many of these are renewed
pub record RenewedTo (left : ℕ) (before now : List AnyActor) (n : ℕ) : Type 0 where
  pub same : length now ≡ length before
  pub done : (i : ℕ) (a : AnyActor) → i < n → slice_get before i ≡ Some a → slice_get now i ≡ Some (actor_renewed left a)
  pub rest : (i : ℕ) → n ≤ i → slice_get now i ≡ slice_get before i

pub none_renewed : (left : ℕ) (before : List AnyActor) → RenewedTo left before before 0
none_renewed left before = record { same = refl; done = λ i a less at. absurd (omega (arith, less)); rest = λ i le. refl }

pub one_renewed : (left : ℕ) (before now : List AnyActor) (n : ℕ) (a : AnyActor) → RenewedTo left before now n → slice_get now n ≡ Some a → RenewedTo left before (slice_set now n (actor_renewed left a)) (n + 1)
one_renewed left before now n a is at = record {
  same = length-set now n (actor_renewed left a) ∙ is.same;
  done = λ i b less there. elim (eqb_tells i n) [
    | inl q ↦
        let was : slice_get before n ≡ Some a = sym (is.rest n (omega arith)) ∙ at in
        let both : Some b ≡ Some a = sym there ∙ ap (slice_get before) q.1 ∙ was in
        let one : b ≡ a = cc in
        ap (slice_get (slice_set now n (actor_renewed left a))) q.1 ∙ set_here now n (actor_renewed left a) a at ∙ ap (λ z. Some (actor_renewed left z)) (sym one)
    | inr q ↦ let ne = q.1 in set_elsewhere now n i (actor_renewed left a) q.1 ∙ is.done i b (omega (arith, less, ne)) there
  ];
  rest = λ i le. set_elsewhere now n i (actor_renewed left a) (λ e. omega (arith, le, e)) ∙ is.rest i (omega (arith, le));
}

equal_by : (f : AnyActor → AnyActor) (now before : List AnyActor) → length now ≡ length before → ((i : ℕ) (a : AnyActor) → slice_get before i ≡ Some a → slice_get now i ≡ Some (f a)) → now ≡ map f before
equal_by f [] [] same each = refl
equal_by f [] (b ∷ before) same each = absurd (omega (arith, same))
equal_by f (a ∷ now) [] same each = absurd (omega (arith, same))
equal_by f (a ∷ now) (b ∷ before) same each =
    let first : Some a ≡ Some (f b) = each 0 b refl in
    let head : a ≡ f b = cc in
    let tail = equal_by f now before (omega (arith, same)) (λ i x at. each (suc i) x at) in
    λ i. head i ∷ tail i

pub all_renewed : (left : ℕ) (before now : List AnyActor) (n : ℕ) → RenewedTo left before now n → length before ≤ n → now ≡ map (actor_renewed left) before
all_renewed left before now n is all = equal_by (actor_renewed left) now before is.same (λ i a at. is.done i a (let inside = slice_get_within before i a at in omega (arith, inside, all)) at)

-- ---- a heap

-- the trace that a space tells of
pub none_traced : (trace : Option Trace) (began : Option ℕ) → began ≡ option_map (λ (t : Trace). t.began) trace → IsTrue (not (is_some began)) → trace ≡ None
none_traced None began is none = refl
none_traced (Some t) began is none = absurd (let some : IsTrue (not (is_some (Some t.began))) = subst (λ z. IsTrue (not (is_some z))) is none in cc)

some_pauses : (n : ℕ) → IsTrue (nat_lt 0 n) → 1 ≤ n
some_pauses n h = grind arith

module _ (settings : Settings) (script : Script) (space : Space) (actors : List AnyActor) (h : List Item) (g : AbstractState) (stands : StandsIdle settings script space actors h g true)
    (due : IsTrue (is_renewal_due space actors)) where
  abbrev task : Task
  task = run_of settings script

  abbrev amid : IsBetweenEpochs task space None actors h g
  amid = stands.between

  abbrev come : HasCome task space None h g
  come = amid.come

  abbrev asked : IsTrue (has_drained space) × IsTrue (list_any is_worn actors && not (list_any is_at_end actors))
  asked = and_parts (has_drained space) (list_any is_worn actors && not (list_any is_at_end actors)) due

  abbrev told : IsTrue (nat_lt 0 space.pauses && is_draining space.report.kind) × IsTrue (not (is_some space.trace))
  told = and_parts (nat_lt 0 space.pauses && is_draining space.report.kind) (not (is_some space.trace)) asked.0

  abbrev paused : IsTrue (nat_lt 0 space.pauses) × IsTrue (is_draining space.report.kind)
  paused = and_parts (nat_lt 0 space.pauses) (is_draining space.report.kind) told.0

  reported : report_of space.report ≡ last_report h
  reported = come.safepoint.numbers.report ∙ come.stands.reported

  drained : IsDrained (threads_of task) h
  drained =
      let number = come.safepoint.numbers.pauses ∙ ap (λ (m : Moment). m.number) come.stands.moment in
      let some = some_pauses space.pauses paused.0 in
      drained_by (terms_of task) h come.history.0 (stands.paused refl) (omega (arith, number, some)) (subst (λ (r : PauseReport). IsTrue (is_draining r.kind)) reported paused.1)

  pub left_names : (ns : List Name) × (g.moment.unreclaimed ≡ world_name ∷ ns)
  left_names = let follows = come.safepoint.holds.follows in begins_with_world g.moment.unreclaimed follows.unreclaimed (follows.stuck world_name follows.world)

  abbrev pub ns : List Name
  ns = left_names.0

  few : length ns ≤ MOST_GRANULES
  few =
      let most = unreclaimed_few space g.moment g.at come.safepoint.holds in
      let blocks = come.safepoint.holds.space.limits.blocks.1 in
      let long = ap length left_names.1 in
      omega (arith, most, blocks, long)

  untraced : g.moment.trace ≡ None
  untraced = none_traced g.moment.trace space.trace come.safepoint.numbers.trace told.1

  rows : length g.moment.state.graph ≡ space.limits.threads + 1
  rows =
      let old = (good_history (terms_of task) h come.history.0).rows in
      let same = ap (λ (m : Moment). length m.state.graph) come.stands.moment in
      let threads = ap (λ (l : Limits). l.threads) come.limits in
      omega (arith, old, same, threads)

  -- what is left was listed
  module _ (listing : Space) (tells : ListsCounts space listing g.moment g.at) where
    abbrev entries : List Count
    entries = listing.report.told.items

    counted : AreCounted entries ns
    counted = record {
      names = tells.names ∙ left_names.1;
      order = subst InOrder left_names.1 come.safepoint.holds.follows.unreclaimed;
      few = (let k = few in omega (arith, k));
    }

    pub still_amid : IsBetweenEpochs task (with_told space entries) None actors h g
    still_amid = between_told task space None actors h g entries amid

    pub may_renew : MayRenew listing g ns
    may_renew = subst (λ s. MayRenew s g ns) (sym tells.space) (record {
      rests = record {
        safepoint = still_amid.between.safepoint;
        undecremented = still_amid.between.undecremented;
        lines = still_amid.between.lines;
        outs = still_amid.between.outs;
        states = still_amid.between.states;
      };
      rows = rows;
      settled = subst IsSettled (sym come.stands.moment) drained.settled;
      untraced = untraced;
      names = left_names.1;
      told = counted;
    })

    -- so the counts of the last pause are listed
    pub told_counts : HasToldCounts listing.report
    told_counts =
        let number = come.safepoint.numbers.pauses ∙ ap (λ (m : Moment). m.number) come.stands.moment in
        let some = some_pauses space.pauses paused.0 in
        tells.counts (record {
          holds = come.safepoint.holds;
          settled = subst IsSettled (sym come.stands.moment) drained.settled;
          undecremented = amid.between.undecremented;
          empty = subst (HasDrained space) paused.1 (stands.drained refl);
        })
        ∙ ap counts_at come.stands.moment
        ∙ sym (counted_by (terms_of task) h come.history.0 (stands.paused refl) (omega (arith, number, some)) (subst (λ (r : PauseReport). IsTrue (is_draining r.kind)) reported paused.1))
        ∙ sym (ap (λ (r : PauseReport). r.counts) reported)
        ∙ sym (ap (λ (s : Space). s.report.counts.items) tells.space)

    -- one entry more than names but the world's
    pub counted_many : length entries ≡ length ns + 1
    counted_many = let all = ap length counted.names in let long = length-map entries counted_name in omega (arith, all, long)

    pub counted_few : length entries ≤ MOST_GRANULES + 1
    counted_few = let k = few in let all = counted_many in omega (arith, k, all)

  go_on : (i : ℕ) (m : Mutating) → slice_get (mutators_in actors) i ≡ Some m → m.end ≢ Some ends.Ended
  go_on = none_at_end actors (not-true (list_any is_at_end actors) (and_parts (list_any is_worn actors) (not (list_any is_at_end actors)) asked.1).1)

  pub each_can : (left : ℕ) → left ≡ length ns → (i : ℕ) (a : AnyActor) → slice_get actors i ≡ Some a → CanActorRenew left a
  each_can left all i (any.Decrementer d) at = tt
  each_can left all i (any.Tracer d) at = tt
  each_can left all i (any.Mutator m) at =
      let there = mutator_at actors i m amid.actors_rest.helpers.order at in
      let rests = amid.actors_rest.mutators.rest.each i m there in
      let room = (stands.live i m there).1 in
      let fit = few in
      record {
        rests = rests.rests;
        idle = amid.served.unwaiting i m there;
        goes_on = λ through. go_on i m there through.1;
        live = λ full. omega (arith, full, room);
        few = omega (arith, all, fit);
      }

  module _ (left : ℕ) (all : left ≡ length ns) where
    abbrev actors' : List AnyActor
    actors' = map (actor_renewed left) actors

    are : AreRenewed ns actors actors'
    are =
        let order = amid.actors_rest.helpers.order in
        let anew_are = mutators_anew left actors order in
        record {
          as_many = ap length anew_are ∙ length-map (mutators_in actors) (anew left);
          each = λ i m at.
              let thread = (amid.actors_rest.mutators.rest.each i m at).thread in
              ap (λ ms. slice_get ms i) anew_are ∙ slice_get-map (anew left) (mutators_in actors) i ∙ ap (option_map (anew left)) at
              ∙ (λ j. Some (renewed m (if nat_eq (thread j) 1 then all j else 0)));
          decrementers = decrementers_still left actors order;
          tracers = tracers_still left actors order;
          order = order_still left actors order;
        }

    still_live : AreLive (mutators_in actors')
    still_live i m' at =
        let anew_are = mutators_anew left actors amid.actors_rest.helpers.order in
        let shown = sym (slice_get-map (anew left) (mutators_in actors) i) ∙ sym (ap (λ ms. slice_get ms i) anew_are) ∙ at in
        by_old (slice_get (mutators_in actors) i) refl shown
      where
        by_old : (o : Option Mutating) → slice_get (mutators_in actors) i ≡ o → option_map (anew left) (slice_get (mutators_in actors) i) ≡ Some m' → IsLive m'
        by_old None e shown = absurd (let no : None ≡ Some m' = sym (ap (option_map (anew left)) e) ∙ shown in cc)
        by_old (Some m) e shown =
            let both : Some (anew left m) ≡ Some m' = sym (ap (option_map (anew left)) e) ∙ shown in
            let same : anew left m ≡ m' = cc in
            let live = stands.live i m e in
            let spare = live.1 in
            let fewer = length-drop (length m.replies.items) m.operations in
            subst IsLive same (live.0, omega (arith, spare, fewer))

    pub has_renewed : (listing after : Space) → ListsCounts space listing g.moment g.at → Renews listing after g ns → HasRenewed settings actors after actors' h
    has_renewed listing after tells renews =
        let r = subst (λ s. Renews s after g ns) tells.space renews in
        record {
          names = ns;
          begin_anew = ap (λ k. map (actor_renewed k) actors) all;
          abstract_state = record { moment = renewed_moment space.limits.threads ns g.moment; at = r.at; reported = g.reported };
          between = run_renewed task (with_told space (entries listing tells)) after None actors actors' h g ns (still_amid listing tells)
              (record { renews = refl; behind = drained.behind; untraced = untraced; left = left_names.1; go_on = go_on }) r are;
          live = still_live;
          told = subst (λ (s : Space). HasToldCounts s.report) (sym renews.space) (told_counts listing tells);
        }

-- where names were renewed, runs and blocks are listed as before
pub lists_left : (space listing after : Space) (g : AbstractState) (names : List Name) → ListsCounts space listing g.moment g.at → Renews listing after g names → LeavesLists space after
lists_left space listing after g names tells renews =
    let r = subst (λ s. Renews s after g names) tells.space renews in record { limits = ap (λ (s : Space). s.limits) r.space; tables = r.tables }
