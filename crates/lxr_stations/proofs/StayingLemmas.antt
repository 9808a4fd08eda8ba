-- An event of a pass leads its actor on from where the events before had led it, so what is done with a pass leaves it a pass of its epoch.
use Rattle.std.proofs.Common.{Bool, ◌≡◌, ◌∙◌, ℕ, true, false, List, [], ◌∷◌, ◌++◌, append_assoc, Some, refl, sym, ap, subst}
use Rattle.std.specs.Prelude.{slice_get}
use Rattle.std.proofs.lemmas.Option.{slice_get_within}
use Rattle.lxr_graph.specs.declared.Op.{Op}
use Rattle.lxr_actor.specs.declared.Core.{Core}
use Rattle.lxr_actor.specs.declared.Event.{Event}
use Rattle.lxr_actor.specs.declared.Event.TheVariants.{Order, Step}
use Rattle.lxr_actor.specs.Run.{change, of_event, run}
use Rattle.lxr_actor.proofs.Runs.{event-is, run-snoc, slice_get-set_same}
use Rattle.lxr_mutator.specs.Orders.{ordered_if, takes_order}
use Rattle.lxr_core.specs.declared.actors.AnyActor.{AnyActor}
use Rattle.lxr_core.specs.declared.actors.AnyActor.TheVariants as any
use Rattle.lxr_core.specs.Actors.{any_machine}
use Rattle.lxr_shared_passes.specs.Passing.{Came, DoesStep, GoesOn, IsAt, Opened, Passing, Told, Turned}
use Rattle.atomic_table.specs.Seated.{TableId}
use Rattle.lxr_stations.specs.declared.homes.Absence.{Absence}
use Rattle.lxr_stations.specs.Homes.{GoesOnFrom, IsAbsent, IsPassAt, StaysPass}
use Rattle.lxr_stations.proofs.HomeLemmas.{goes_on_further, goes_on_same}
use Rattle.lxr_stations.specs.Stations.{Stationed, StaysPassOf, table_of}

-- a pass of an epoch, be it in a unit
record IsOf (epoch : Opened AnyActor) (number : ℕ) (p : Passing AnyActor) : Type 0 where
  epoch_is : p.epoch ≡ epoch.id
  opening : p.opening ≡ epoch.opening
  number_is : p.number ≡ number
  at : IsAt any_machine epoch.opening p.seen number p.actor

of_pass : (epoch : Opened AnyActor) (number : ℕ) (p : Passing AnyActor) → IsPassAt epoch number p → IsOf epoch number p
of_pass epoch number p is = record { epoch_is = is.epoch_is; opening = is.opening; number_is = is.number_is; at = is.at }

at_rest : (epoch : Opened AnyActor) (number : ℕ) (p : Passing AnyActor) → IsOf epoch number p → any_machine.rests p.actor ≡ true → IsPassAt epoch number p
at_rest epoch number p is rests = record { epoch_is = is.epoch_is; opening = is.opening; number_is = is.number_is; at = is.at; rests = rests }

-- behind an event the actor is where it has led it
led : (core : Core AnyActor) (seen : List Event) (number : ℕ) (a : AnyActor) (e : Event) → of_event e ≡ number → IsAt any_machine core seen number a
    → IsAt any_machine core (seen ++ e ∷ []) number (change any_machine e (run any_machine core seen).words a).1
led core seen number a e own at =
    let there = run any_machine core seen in
    let b = (change any_machine e there.words a).1 in
    let at' : slice_get there.actors (of_event e) ≡ Some a = ap (slice_get there.actors) own ∙ at in
    let within = slice_get_within there.actors (of_event e) a at' in
    let is = run-snoc any_machine core seen e ∙ event-is any_machine there e a at' in
    let same = ap (λ (c : Core AnyActor). slice_get c.actors (of_event e)) is ∙ slice_get-set_same there.actors (of_event e) b within in
    ap (slice_get (run any_machine core (seen ++ e ∷ [])).actors) (sym own) ∙ same

came_on : (epoch : Opened AnyActor) (number : ℕ) (p : Passing AnyActor) (others : List Event) (e : Event) (q : Passing AnyActor) → of_event e ≡ p.number → Came any_machine p others e q → IsOf epoch number p → IsOf epoch number q
came_on epoch number p others e q own (none, at, is) of =
    let now = led p.opening (p.seen ++ others) p.number p.actor e own at in
    record {
      epoch_is = ap (λ (r : Passing AnyActor). r.epoch) is ∙ of.epoch_is;
      opening = ap (λ (r : Passing AnyActor). r.opening) is ∙ of.opening;
      number_is = ap (λ (r : Passing AnyActor). r.number) is ∙ of.number_is;
      at = subst (λ (r : Passing AnyActor). IsAt any_machine epoch.opening r.seen number r.actor) (sym is)
          (subst (λ (k : Core AnyActor). IsAt any_machine k ((p.seen ++ others) ++ e ∷ []) number (change any_machine e (run any_machine p.opening (p.seen ++ others)).words p.actor).1) of.opening
          (subst (λ n. IsAt any_machine p.opening ((p.seen ++ others) ++ e ∷ []) n (change any_machine e (run any_machine p.opening (p.seen ++ others)).words p.actor).1) of.number_is now));
    }

step_on : (epoch : Opened AnyActor) (number : ℕ) (p : Passing AnyActor) (old : ℕ) (q : Passing AnyActor) → DoesStep any_machine p old q → IsOf epoch number p → IsOf epoch number q
step_on epoch number p old q d of = came_on epoch number p d.1 (Step p.number) q refl d.4 of

steps_on : (epoch : Opened AnyActor) (number : ℕ) (p : Passing AnyActor) (olds : List ℕ) (q : Passing AnyActor) → GoesOn any_machine p olds q → IsOf epoch number p → IsOf epoch number q
steps_on epoch number p [] q is of = subst (IsOf epoch number) (sym is) of
steps_on epoch number p (old ∷ olds) q t of = steps_on epoch number t.1.0 olds q t.1.2 (step_on epoch number p old t.1.0 t.1.1 of)

-- a unit leaves a pass of its epoch, in no unit
pub turned_stays : (p : Passing AnyActor) (olds : List ℕ) (q : Passing AnyActor) → Turned any_machine p olds q → StaysPass p q
turned_stays p [] q t epoch number is = subst (IsPassAt epoch number) (sym t.1) is
turned_stays p (old ∷ olds) q t epoch number is =
    at_rest epoch number q (steps_on epoch number t.0 olds q t.2 (step_on epoch number p old t.0 t.1 (of_pass epoch number p is))) t.3

-- an order leaves an actor in no unit
order_rests : (a b : AnyActor) (o : Op) (took : Bool) → (b, took) ≡ any_machine.ordered a o → any_machine.rests a ≡ true → any_machine.rests b ≡ true
order_rests (any.Mutator m) b o took is rests = ap (λ (t : AnyActor × Bool). any_machine.rests t.0) is ∙ by (takes_order m o)
  where
    by : (c : Bool) → any_machine.rests (any.Mutator (ordered_if m o c).0) ≡ true
    by true = rests
    by false = rests
order_rests (any.Decrementer d) b o took is rests = ap (λ (t : AnyActor × Bool). any_machine.rests t.0) is ∙ rests
order_rests (any.Tracer d) b o took is rests = ap (λ (t : AnyActor × Bool). any_machine.rests t.0) is ∙ rests

-- and so does an order
pub ordered_stays : (p : Passing AnyActor) (o : Op) (took : Bool) (q : Passing AnyActor) → Told any_machine p (Order p.number o) q → (q.actor, took) ≡ any_machine.ordered p.actor o → StaysPass p q
ordered_stays p o took q told answer epoch number is =
    at_rest epoch number q (came_on epoch number p told.0 (Order p.number o) q refl told.1 (of_pass epoch number p is)) (order_rests p.actor q.actor o took answer is.rests)

-- ---- what goes on

-- behind an event a pass has seen more
came_from : (p : Passing AnyActor) (others : List Event) (e : Event) (q : Passing AnyActor) → Came any_machine p others e q → GoesOnFrom p q
came_from p others e q (none, at, is) = record {
  same = record { epoch = ap (λ (r : Passing AnyActor). r.epoch) is; opening = ap (λ (r : Passing AnyActor). r.opening) is; number = ap (λ (r : Passing AnyActor). r.number) is };
  more = others ++ e ∷ [];
  seen = ap (λ (r : Passing AnyActor). r.seen) is ∙ append_assoc p.seen others (e ∷ []);
}

steps_from : (p : Passing AnyActor) (olds : List ℕ) (q : Passing AnyActor) → GoesOn any_machine p olds q → GoesOnFrom p q
steps_from p [] q is = subst (GoesOnFrom p) (sym is) (goes_on_same p)
steps_from p (old ∷ olds) q t = let d = t.1.1 in goes_on_further p t.1.0 q (came_from p d.1 (Step p.number) t.1.0 d.4) (steps_from t.1.0 olds q t.1.2)

-- so it has behind a unit
pub turned_from : (p : Passing AnyActor) (olds : List ℕ) (q : Passing AnyActor) → Turned any_machine p olds q → GoesOnFrom p q
turned_from p [] q t = subst (GoesOnFrom p) (sym t.1) (goes_on_same p)
turned_from p (old ∷ olds) q t = let d = t.1 in goes_on_further p t.0 q (came_from p d.1 (Step p.number) t.0 d.4) (steps_from t.0 olds q t.2)

-- and behind an order
pub told_from : (p : Passing AnyActor) (e : Event) (q : Passing AnyActor) → Told any_machine p e q → GoesOnFrom p q
told_from p e q told = came_from p told.0 e q told.1

-- so the pass may come home that the one may from which it goes on
pub absent_on : (homes : TableId) (number : ℕ) (p q : Passing AnyActor) (a : Absence) → GoesOnFrom p q → IsAbsent homes number p a → IsAbsent homes number q a
absent_on homes number p q a on away = record {
  own = away.own;
  within = away.within;
  table = away.table;
  place = away.place;
  taken = away.taken;
  tells = away.tells;
  goes_on = goes_on_further away.taken p q away.goes_on on;
}

-- ---- stations

-- what leaves the pass of a station one of its epoch leaves the station one
pub station_stays : (s : Stationed) (q : Passing AnyActor) → StaysPass s.pass q → StaysPassOf s (record { pass = q; homes = s.homes })
station_stays s q stays epoch number is = record { pass = stays (table_of epoch) number is.pass; homes = is.homes }

-- one thing behind another
pub stays_further : (s t u : Stationed) → StaysPassOf s t → StaysPassOf t u → StaysPassOf s u
stays_further s t u first second epoch number is = second epoch number (first epoch number is)
