-- After a renewal a run stands as at its opening: nothing is called, replied or seen since, and each mutator is asked for what is still
-- to be done.
use Rattle.std.proofs.Common.{◌≡◌, ℕ, zero, suc, ◌+◌, ◌-◌, ◌*◌, ◌<◌, ◌≤◌, refl, sym, ap, subst, ◌∙◌, arith, true, false, List, [], ◌∷◌, append-nil, length, nat_eq}
use Rattle.std.specs.Prelude.{Option, Some, None, if◌then◌else◌, slice_get}
use Rattle.std.proofs.lemmas.List.{length-map}
use Rattle.std.proofs.lemmas.Option.{slice_get_within}
use Rattle.lxr_layout.specs.declared.Name.{Name}
use Rattle.lxr_layout.specs.declared.TheConstants.{GRANULES_IN_BLOCK, MOST_GRANULES}
use Rattle.lxr_layout.specs.declared.limits.Limits.{Limits}
use Rattle.lxr_graph.specs.History.{Item, Renew}
use Rattle.lxr_graph.specs.State.{world_name}
use Rattle.lxr_image.specs.declared.space.Space.{Space}
use Rattle.lxr_image.specs.declared.space.Tally.{Tally}
use Rattle.lxr_image.specs.Opened.{no_tally}
use Rattle.lxr_model.specs.Belongs.{operations_of}
use Rattle.lxr_model.specs.Legal.{IsLegal, IsLegalSoFar}
use Rattle.lxr_model.specs.Moments.{Moment, moment, renewed_moment}
use Rattle.lxr_invariant.specs.AbstractState.{AbstractState}
use Rattle.lxr_invariant.specs.Listed.{IsListedWhole}
use Rattle.lxr_invariant.specs.Quiescent.{IsQuiescent}
use Rattle.lxr_mutator.specs.Mutating.{IsWaiting, Mutating}
use Rattle.lxr_mutator.specs.Mutators.{renewed}
use Rattle.lxr_core.specs.declared.actors.AnyActor.{AnyActor}
use Rattle.lxr_core.specs.Actors.{mutators_in}
use Rattle.lxr_core.specs.Resting.{AreServed, HelpersRest, RestAfter, RestsAfter}
use Rattle.lxr_core.proofs.RenewedLemmas.{renewed_rests}
use Rattle.lxr_renew.specs.Renewing.{Renews}
use Rattle.lxr_renew.proofs.FewLemmas.{unreclaimed_few}
use Rattle.lxr_renew.proofs.ListedLemmas.{renews_listed}
use Rattle.lxr_renew.proofs.SoundLemmas.{legal_renewed}
use Rattle.lxr_sights.specs.Sights.{Sight}
use Rattle.lxr_rounds_history.specs.Left.{plan_limits}
use Rattle.lxr_rounds_history.specs.Histories.{plan_terms}
use Rattle.lxr_rounds_history.specs.Sights.{HasSeen}
use Rattle.lxr_rounds_history.specs.Tally.{evacuated_in}
use Rattle.lxr_rounds_invariant.specs.LoopInvariant.{HasCome, HasMore, HaveActors, IsBetweenEpochs, Task, task_limits, terms_of, threads_of}
use Rattle.lxr_rounds_invariant.specs.Renewing.{AreRenewed, MayBeRenewed, RunsAreRenewed, left_for, task_renewed}

-- nothing was seen
none_seen : (seen : Option (List Sight)) → HasSeen seen seen []
none_seen None = tt
none_seen (Some sights) = sym (append-nil sights)

-- what stands at an index of the mutators behind it is one of those before
one_renewed : (ns : List Name) (before after : List AnyActor) → AreRenewed ns before after → (i : ℕ) (m' : Mutating) → slice_get (mutators_in after) i ≡ Some m'
    → (m : Mutating) × (slice_get (mutators_in before) i ≡ Some m) × (m' ≡ renewed m (left_for ns (i + 1)))
one_renewed ns before after is i m' at =
    let inside = slice_get_within (mutators_in after) i m' at in
    let many = is.as_many in
    let (m, there) = get_there (mutators_in before) i (omega (arith, inside, many)) in
    let both : Some m' ≡ Some (renewed m (left_for ns (i + 1))) = sym at ∙ is.each i m there in
    (m, there, cc)
  where
    get_there : (ms : List Mutating) (i : ℕ) → i < length ms → (m : Mutating) × (slice_get ms i ≡ Some m)
    get_there [] i lt = absurd (omega (arith, lt))
    get_there (m ∷ ms) zero lt = (m, refl)
    get_there (m ∷ ms) (suc i) lt = get_there ms i (omega (arith, lt))

module _ (task : Task) (space after : Space) (seen : Option (List Sight)) (actors actors' : List AnyActor) (h : List Item) (g : AbstractState) (ns : List Name)
    (amid : IsBetweenEpochs task space seen actors h g) (may : MayBeRenewed task actors h g ns) (r : Renews space after g ns) (are : AreRenewed ns actors actors') where
  abbrev task' : Task
  task' = task_renewed task seen actors'

  abbrev come : HasCome task space seen h g
  come = amid.come

  abbrev g' : AbstractState
  g' = record { moment = renewed_moment space.limits.threads ns g.moment; at = r.at; reported = g.reported }

  threads_are : space.limits.threads ≡ threads_of task
  threads_are = ap (λ (l : Limits). l.threads) come.limits

  some : 1 ≤ threads_of task
  some = let few = come.safepoint.holds.space.limits.threads.0 in let e = threads_are in omega (arith, few, e)

  -- as many threads are asked for something
  as_many : threads_of task' ≡ threads_of task
  as_many =
      let old = amid.actors_rest.mutators.rest.as_many in
      let same : (task_limits task).threads ≡ threads_of task = refl in
      length-map (mutators_in actors') (λ m. m.operations) ∙ are.as_many ∙ old ∙ same

  tally_is : after.tally ≡ no_tally
  tally_is = ap (λ (s : Space). s.tally) r.space

  none : after.pauses ≡ 0
  none = ap (λ (s : Space). s.pauses) r.space

  left : (moment (threads_of task) h).unreclaimed ≡ world_name ∷ ns
  left = sym (ap (λ (m : Moment). m.unreclaimed) come.stands.moment) ∙ may.left

  legal : IsLegal (terms_of task) (Renew ns ∷ h)
  legal = legal_renewed (terms_of task) h ns some may.renews (come.history.0, amid.owes_none) may.behind (sym (ap (λ (m : Moment). m.trace) come.stands.moment) ∙ may.untraced) left

  come_renewed : HasCome task' after seen (Renew ns ∷ h) g'
  come_renewed = record {
    history = (
      subst (λ n. IsLegalSoFar (plan_terms task.renews task.plan n) (Renew ns ∷ h)) (sym as_many) legal.0,
      record { calls = λ t low high. (operations_of task'.script t, refl); asked = tt; turns = tt; causes = tt; early = tt },
    );
    stands = record {
      moment = λ i. renewed_moment ((threads_are ∙ sym as_many) i) ns ((come.stands.moment ∙ ap (λ n. moment n h) (sym as_many)) i);
      reported = come.stands.reported;
    };
    safepoint = r.rests.safepoint;
    limits = ap (λ (s : Space). s.limits) r.space ∙ come.limits ∙ ap (plan_limits task.plan) (sym as_many);
    tally = subst (λ (t : Tally). t ≡ record no_tally { moved = t.moved; kept = t.kept }) (sym tally_is) refl;
    evacuated = subst (λ (t : Tally). t.moved + t.kept ≤ GRANULES_IN_BLOCK * after.limits.blocks * after.pauses) (sym tally_is) (omega arith);
    places = r.at;
    sights = record { sights = []; pauses = (refl, ap evacuated_in tally_is); told = none_seen seen };
    kept = λ n k. refl;
  }

  -- no more objects are left than the heap has granules
  few : length ns ≤ MOST_GRANULES
  few =
      let most = unreclaimed_few space g.moment g.at come.safepoint.holds in
      let blocks = come.safepoint.holds.space.limits.blocks.1 in
      let long = ap length may.left in
      omega (arith, most, blocks, long)

  few_for : (t : ℕ) → left_for ns t ≤ MOST_GRANULES
  few_for t = elim (nat_eq t 1) as (λ b. (if b then length ns else 0) ≤ MOST_GRANULES) [ true ↦ few | false ↦ omega arith ]

  limits_same : task_limits task' ≡ task_limits task
  limits_same = ap (plan_limits task.plan) as_many

  rest_renewed : RestAfter (task_limits task) task.plan.every (Renew ns ∷ h) (mutators_in actors')
  rest_renewed = record {
    as_many = are.as_many ∙ amid.actors_rest.mutators.rest.as_many;
    each = λ i m' at.
        let (m, there, is) = one_renewed ns actors actors' are i m' at in
        subst (RestsAfter (task_limits task) task.plan.every (Renew ns ∷ h) (i + 1)) (sym is)
        (renewed_rests (task_limits task) task.plan.every h ns (i + 1) (left_for ns (i + 1)) m (amid.actors_rest.mutators.rest.each i m there) (amid.served.unwaiting i m there) (may.go_on i m there) (few_for (i + 1)) refl);
  }

  helpers_renewed : HelpersRest (task_limits task) actors'
  helpers_renewed =
      let old = amid.actors_rest.helpers in
      record {
        order = are.order;
        each = λ i d at. old.each i d (ap (λ ds. slice_get ds i) (sym are.decrementers) ∙ at);
        tracers = λ i d at. old.tracers i d (ap (λ ds. slice_get ds i) (sym are.tracers) ∙ at);
      }

  actors_renewed : HaveActors task' (Renew ns ∷ h) actors'
  actors_renewed = record {
    mutators = record {
      rest = subst (λ l. RestAfter l task.plan.every (Renew ns ∷ h) (mutators_in actors')) (sym limits_same) rest_renewed;
      script = refl;
      names = λ i m' at. let (m, there, is) = one_renewed ns actors actors' are i m' at in ap (λ (x : Mutating). x.names) is ∙ amid.actors_rest.mutators.names i m there;
    };
    helpers = subst (λ l. HelpersRest l actors') (sym limits_same) helpers_renewed;
    workers = ap length are.decrementers ∙ amid.actors_rest.workers;
    tracers = ap length are.tracers ∙ amid.actors_rest.tracers;
    few = amid.actors_rest.few;
  }

  served_renewed : AreServed (Renew ns ∷ h) (mutators_in actors')
  served_renewed = record {
    unwaiting = λ i m' at waits. let (m, there, is) = one_renewed ns actors actors' are i m' at in amid.served.unwaiting i m there (subst IsWaiting is waits);
    few = λ t. omega arith;
    unasked = λ t. refl;
  }

  -- some thread goes on
  more_renewed : HasMore (mutators_in actors')
  more_renewed =
      let (i, m, there, more) = amid.more in
      (i, renewed m (left_for ns (i + 1)), are.each i m there, λ through. more through)

  between_renewed : IsQuiescent after g'
  between_renewed = record {
    safepoint = r.rests.safepoint;
    unwritten = refl;
    undecremented = r.rests.undecremented;
    lines = r.rests.lines;
    outs = r.rests.outs;
    states = r.rests.states;
  }

  pub run_renewed : IsBetweenEpochs task' after seen actors' (Renew ns ∷ h) g'
  run_renewed =
      let listed : IsListedWhole after = renews_listed space after g ns r (record { listed = amid.listed; whole = amid.all_listed }) in
      record {
        come = come_renewed;
        between = between_renewed;
        listed = listed.listed;
        all_listed = listed.whole;
        actors_rest = actors_renewed;
        served = served_renewed;
        owes_none = tt;
        few = (let k = none in omega (arith, k));
        more = more_renewed;
      }

pub runs_renewed : RunsAreRenewed
runs_renewed task space after seen actors actors' h g ns amid may r are = run_renewed task space after seen actors actors' h g ns amid may r are
