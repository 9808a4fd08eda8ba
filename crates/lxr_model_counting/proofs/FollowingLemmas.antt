-- The state follows the last pause: at the opening, after each call, and anew after a pause. What is reachable is
-- live, since registers hold live names and live names refer to live names.
use Rattle.std.proofs.Common.{◌≡◌, ℕ, ◌+◌, ◌-◌, ◌*◌, ◌<◌, ◌≤◌, refl, sym, ap, subst, ◌∙◌, inl, inr, ◌⊎◌, arith, List, [], IsTrue, ◌↔◌, length}
use Rattle.std.specs.Prelude.{false, Option, Some, None, is_some, slice_get}
use Rattle.std.proofs.lemmas.Bool.{false_from_ne_true}
use Rattle.lxr_layout.specs.declared.TheConstants.{REGISTERS}
use Rattle.lxr_layout.specs.declared.Name.{Name}
use Rattle.lxr_graph.specs.declared.Op.{Op}
use Rattle.lxr_graph.specs.declared.Op.TheVariants as op
use Rattle.lxr_graph.specs.declared.Reply.{Reply}
use Rattle.lxr_graph.specs.declared.Reply.TheVariants as reply
use Rattle.lxr_graph.specs.Names.{has, union, AreInOrder}
use Rattle.lxr_graph.specs.State.{Graph, Object, HasObject, object_at, refs_of, world_name, opening}
use Rattle.lxr_graph.specs.Step.{step}
use Rattle.lxr_graph.proofs.OpeningLemmas.{length-opening}
use Rattle.lxr_graph.proofs.NameSets.{not_both, has_one, insert_new, in_order-none, in_order-one, in_order-insert, in_order-union, union_cases, union_left, union_right}
use Rattle.lxr_graph.proofs.RowCounts.{step_rows}
use Rattle.lxr_model.specs.Reachable.{Reachable, the_world, held, referred, Refers, Holds, IsClosed}
use Rattle.lxr_model.specs.Dead.{Promoted, by_register, by_kept, by_promoted}
use Rattle.lxr_model.specs.Moments.{Trace, Moment, opening_moment, made_after, written_after}
use Rattle.lxr_model.proofs.ReachableLemmas.{promoted_made, reachable_within}
use Rattle.lxr_model.proofs.StepLemmas.{gets-replicate, step_reaches, step_refers}
use Rattle.lxr_model.proofs.ObjectLemmas.{step_facts, no_object}
use Rattle.lxr_model.proofs.HistoryLemmas.{GoodAt, good_history, made_cases, made_old}
use Rattle.lxr_model_counting.specs.Distinct.{has_field}
use Rattle.lxr_model_counting.specs.Following.{FollowsPause, IsLive}
use Rattle.lxr_model_counting.specs.Laws.{OpeningFollows, CallKeepsFollowing}
use Rattle.lxr_model_counting.proofs.DistinctLemmas.{tested}
use Rattle.lxr_model_counting.proofs.StoreLemmas.{WritesField, step_keeps, same_shape, shape_through, written_split, written_there, written_old, written_distinct}

-- ---- objects

-- an object that there is
pub object_of : (o : Option Object) → IsTrue (is_some o) → (b : Object) × (o ≡ Some b)
object_of None h = absurd (cc)
object_of (Some b) h = (b, refl)

-- no object where it isn't that there is one
pub none_from_no_object : (o : Option Object) → (IsTrue (is_some o) → ⊥) → o ≡ None
none_from_no_object None h = refl
none_from_no_object (Some b) h = absurd (h refl)

-- ---- what is live

pub live_reachable : (m : Moment) → FollowsPause m → (n : Name) → Reachable m.state n → IsLive m n
live_reachable m follows n the_world = inl the_world
live_reachable m follows n (held h) = follows.held n h
live_reachable m follows n (referred {m = u} r f) = follows.referred u n (live_reachable m follows u r) f

-- what is live and unreclaimed was reachable at the last pause
pub live_was_reachable : (m : Moment) → FollowsPause m → (n : Name) → IsLive m n → IsTrue (has m.unreclaimed n) → Reachable m.last n
live_was_reachable m follows n (inl r) h = r
live_was_reachable m follows n (inr k) h = not_both (has m.unreclaimed n) h (follows.apart n k)

-- unreclaimed objects and those made since are there now
pub unreclaimed_object : (m : Moment) → FollowsPause m → (n : Name) → IsTrue (has m.unreclaimed n) → HasObject m.state.graph n
unreclaimed_object m follows n h = let a = follows.objects n h in ap is_some a.3

-- ---- the opening

opening_good : (threads : ℕ) → GoodAt threads (opening_moment threads)
opening_good threads = good_history (record { threads = threads; registers = 0; blocks = 0; evacuate = 0; every = 0; log = 0; trace = 0; within = 0; renews = false }) [] tt

pub opening_follows : OpeningFollows
opening_follows threads =
    let good = opening_good threads in
    let rows : length (opening threads).graph ≡ threads + 1 = good.rows in
    let registers : length (opening threads).registers ≡ REGISTERS * (length (opening threads).graph - 1) = let e = length-opening threads in omega (arith, e, rows) in
    record {
      unreclaimed = in_order-one world_name;
      made = in_order-none;
      apart = λ n h. absurd (cc);
      kept = good.within;
      closed = λ u n h f.
          let g : Refers (opening threads).graph world_name n = subst (λ x. Refers (opening threads).graph x n) (has_one world_name u h) f in
          let nil : None ≡ Some n = gets-replicate 64 None (Some n) g in absurd (cc);
      world = refl;
      stuck = λ n h. h;
      held = λ n h. inl (held h);
      referred = λ u n l f. elim l [ inl r ↦ inl (referred r f) | inr k ↦ absurd (cc) ];
      grows = λ n h. h;
      objects = λ n h. let a = object_of (object_at (opening threads).graph n) (good.kept n h) in (a.0, a.0, a.1, a.1, same_shape a.0);
      young = λ n h. absurd (cc);
      unreached = λ n h away. refl;
      unwritten = λ n i h e. refl;
      written_once = tt;
      written = λ n i h. absurd (cc);
      rows = refl;
      registers = registers;
      registers_were = registers;
    }

-- ---- a call

pub made_new : (ms : List Name) (r : Reply) (n : Name) → r ≡ reply.New n → IsTrue (has (made_after ms r) n)
made_new ms r n e = subst (λ x. IsTrue (has (made_after ms x) n)) (sym e) (insert_new n ms)

made_in_order : (ms : List Name) (r : Reply) → AreInOrder ms → AreInOrder (made_after ms r)
made_in_order ms (reply.New n) o = in_order-insert n ms o
made_in_order ms _ o = o

-- an object that isn't there refers to nothing
refers_nothing : (g : Graph) (u n : Name) → object_at g u ≡ None → Refers g u n → ⊥
refers_nothing g u n e (i, f) = let k : slice_get (refs_of None) i ≡ Some (Some n) = ap (λ x. slice_get (refs_of x) i) (sym e) ∙ f in cc

-- the moment after a step
abbrev pub stepped : Moment → ℕ → Op → Reply → Moment
stepped m t o r = record m { state = (step m.state t o).0; made = made_after m.made r; written = written_after m t o r }

module _ (m : Moment) (t : ℕ) (o : Op) (r : Reply) (follows : FollowsPause m) (e : (step m.state t o).1 ≡ r) (h : t < length m.state.graph) (one : 1 ≤ t) where
  -- what was live stays so
  pub live_stays : (n : Name) → IsLive m n → IsLive (stepped m t o r) n
  live_stays n (inl q) = inl q
  live_stays n (inr k) = inr (made_old m.made r n k)

  live_stepped : (n : Name) → Reachable (step m.state t o).0 n → IsLive (stepped m t o r) n
  live_stepped n k = elim (step_reaches m.state t o h n k) [
    | inl q ↦ live_stays n (live_reachable m follows n q)
    | inr q ↦ inr (made_new m.made r n (sym e ∙ q))
  ]

  -- what is live after a step was so before, or is new
  pub live_before : (n : Name) → IsLive (stepped m t o r) n → IsLive m n ⊎ (object_at m.state.graph n ≡ None)
  live_before n (inl q) = inl (inl q)
  live_before n (inr k) = elim (made_cases m.made r n k) [
    | inl q ↦ inl (inr q)
    | inr q ↦ inr ((step_facts m.state t o h).new n (e ∙ q)).0
  ]

  referred_stepped : (u n : Name) → IsLive (stepped m t o r) u → Refers (step m.state t o).0.graph u n → IsLive (stepped m t o r) n
  referred_stepped u n l f = elim (step_refers m.state t o h u n f) [
    | inr q ↦ live_stays n (live_reachable m follows n q)
    | inl q ↦ elim (live_before u l) [
      | inl k ↦ live_stays n (follows.referred u n k q)
      | inr k ↦ absurd (refers_nothing m.state.graph u n k q)
    ]
  ]

  pub step_follows : FollowsPause (stepped m t o r)
  step_follows =
      let rows = follows.rows in
      let many = follows.registers in
      let facts = step_facts m.state t o h in
      let keeps = step_keeps m.state t o h (omega (arith, many, one, h)) in
      let wrote : (n : Name) (i : ℕ) → WritesField m.state t o r n i → WritesField m.state t o (step m.state t o).1 n i = λ n i w. subst (λ x. WritesField m.state t o x n i) (sym e) w in
      record {
        unreclaimed = follows.unreclaimed;
        made = made_in_order m.made r follows.made;
        apart = λ n k. elim (made_cases m.made r n k) [
          | inl q ↦ follows.apart n q
          | inr q ↦ false_from_ne_true (has m.unreclaimed n) (λ u. no_object m.state.graph n (facts.new n (e ∙ q)).0 (unreclaimed_object m follows n u))
        ];
        kept = follows.kept;
        closed = follows.closed;
        world = follows.world;
        stuck = follows.stuck;
        held = λ n k. live_stepped n (held k);
        referred = referred_stepped;
        grows = λ n k. facts.stays n (follows.grows n k);
        objects = λ n k.
            let a = follows.objects n k in
            let b = keeps.shapes n a.1 a.3 in
            (a.0, b.0, a.2, b.1, shape_through a.0 a.1 b.0 b.2 a.4);
        young = λ n k. elim (made_cases m.made r n k) [
          | inl q ↦ let y = follows.young n q in (y.0, facts.stays n y.1)
          | inr q ↦
              let new = facts.new n (e ∙ q) in
              (none_from_no_object (object_at m.last.graph n) (λ x. no_object m.state.graph n new.0 (follows.grows n x)), new.1)
        ];
        unreached = λ n k away.
            facts.same n (unreclaimed_object m follows n k) (λ r. away (live_was_reachable m follows n (live_reachable m follows n r) k)) ∙ follows.unreached n k away;
        unwritten = λ n i k not. elim (keeps.fields n i (unreclaimed_object m follows n k)) [
          | inl q ↦ q ∙ follows.unwritten n i k (false_from_ne_true (has_field m.written (n, i)) (λ w. not_both (has_field (written_after m t o r) (n, i)) (written_old m t o r n i w) not))
          | inr w ↦ not_both (has_field (written_after m t o r) (n, i)) (written_there m t o r n i k (subst (λ x. WritesField m.state t o x n i) e w)) not
        ];
        written_once = written_distinct m t o r follows.written_once;
        written = λ n i k. elim (written_split m t o r n i k) [
          | inl q ↦ follows.written n i q
          | inr q ↦
              let w = keeps.inside n i (wrote n i q.1) in
              let a = follows.objects n q.0 in
              let now : length (refs_of (object_at m.state.graph n)) ≡ length a.1.refs = ap (λ x. length (refs_of x)) a.3 in
              let was : length (refs_of (object_at m.last.graph n)) ≡ length a.0.refs = ap (λ x. length (refs_of x)) a.2 in
              let same : length a.1.refs ≡ length a.0.refs = a.4.refs in
              let inside : i < length (refs_of (object_at m.state.graph n)) = w.1 in
              (q.0, live_was_reachable m follows n (follows.held n w.0) q.0, omega (arith, now, was, same, inside))
        ];
        rows = (step_rows m.state t o).rows ∙ rows;
        registers = (let a = keeps.registers in let b = (step_rows m.state t o).rows in omega (arith, a, b, many));
        registers_were = follows.registers_were;
      }

pub call_follows : CallKeepsFollowing
call_follows m t (op.New dest shape) reply.Full follows formed is = follows
call_follows m t (op.New dest shape) r follows formed is = step_follows m t (op.New dest shape) r follows is.0 is.1 is.2
call_follows m t o r follows formed is = step_follows m t o r follows is.0 is.1 is.2

-- ---- a pause

-- The promoted names join those that were unreclaimed: these have all that is reachable, and what their objects refer to.
module _ (m : Moment) (promoted : List Name) (follows : FollowsPause m) (promoted_are : (n : Name) → IsTrue (has promoted n) ↔ Promoted m.state m.unreclaimed m.made n) where
  new_joins : (n : Name) → Promoted m.state m.unreclaimed m.made n → IsTrue (has (union promoted m.unreclaimed) n)
  new_joins n p = union_left promoted m.unreclaimed n ((promoted_are n).1 p)

  old_joins : (n : Name) → IsTrue (has m.unreclaimed n) → IsTrue (has (union promoted m.unreclaimed) n)
  old_joins n h = union_right promoted m.unreclaimed n h

  -- what is live joins where a register or one of these names holds it
  live_joins : (u n : Name) → IsTrue (has (union promoted m.unreclaimed) u) → Refers m.state.graph u n → IsLive m n → IsTrue (has (union promoted m.unreclaimed) n)
  live_joins u n k f (inl r) = old_joins n (follows.kept n r)
  live_joins u n k f (inr q) = new_joins n (elim (union_cases promoted m.unreclaimed u k) [
    | inl p ↦ by_promoted q ((promoted_are u).0 p) f
    | inr x ↦ by_kept u q x f
  ])

  held_joins : (n : Name) → Holds m.state n → IsLive m n → IsTrue (has (union promoted m.unreclaimed) n)
  held_joins n k (inl r) = old_joins n (follows.kept n r)
  held_joins n k (inr q) = new_joins n (by_register q k)

  referred_joins : (u n : Name) → IsTrue (has (union promoted m.unreclaimed) u) → Refers m.state.graph u n → IsTrue (has (union promoted m.unreclaimed) n)
  referred_joins u n k f = elim (union_cases promoted m.unreclaimed u k) [
    | inl p ↦ live_joins u n k f (follows.referred u n (inr (promoted_made ((promoted_are u).0 p))) f)
    | inr old ↦ elim (tested (has_field m.written (u, f.0))) [
      | inl w ↦ live_joins u n k f (follows.referred u n (inl (follows.written u f.0 w).1) f)
      | inr e ↦ old_joins n (follows.closed u n old (f.0, sym (follows.unwritten u f.0 old e) ∙ f.1))
    ]
  ]

  pub joined_closed : IsClosed m.state (has (union promoted m.unreclaimed))
  joined_closed = record {
    world = old_joins world_name (follows.kept world_name the_world);
    registers = λ n k. held_joins n k (follows.held n k);
    references = referred_joins;
  }

  pub joined_object : (n : Name) → IsTrue (has (union promoted m.unreclaimed) n) → HasObject m.state.graph n
  joined_object n k = elim (union_cases promoted m.unreclaimed n k) [
    | inl p ↦ (follows.young n (promoted_made ((promoted_are n).0 p))).1
    | inr x ↦ unreclaimed_object m follows n x
  ]

-- The state now becomes that of the last pause, and any names with what is reachable are unreclaimed there.
pub follows_anew : (m : Moment) (us stuck : List Name) (number : ℕ) (trace : Option Trace) → FollowsPause m → AreInOrder us → IsClosed m.state (has us)
    → ((n : Name) → IsTrue (has us n) → HasObject m.state.graph n) → IsTrue (has stuck world_name) → ((n : Name) → IsTrue (has stuck n) → IsTrue (has us n))
    → FollowsPause (record { state = m.state; last = m.state; number = number; unreclaimed = us; stuck = stuck; trace = trace; made = []; written = [] })
follows_anew m us stuck number trace follows in_order closed objects world_stuck stuck_within = record {
  unreclaimed = in_order;
  made = in_order-none;
  apart = λ n h. absurd (cc);
  kept = reachable_within m.state (has us) closed;
  closed = closed.references;
  world = world_stuck;
  stuck = stuck_within;
  held = λ n h. inl (held h);
  referred = λ u n l f. elim l [ inl r ↦ inl (referred r f) | inr k ↦ absurd (cc) ];
  grows = λ n h. h;
  objects = λ n h. let a = object_of (object_at m.state.graph n) (objects n h) in (a.0, a.0, a.1, a.1, same_shape a.0);
  young = λ n h. absurd (cc);
  unreached = λ n h away. refl;
  unwritten = λ n i h e. refl;
  written_once = tt;
  written = λ n i h. absurd (cc);
  rows = refl;
  registers = follows.registers;
  registers_were = follows.registers;
}

-- so it is where the promoted join the unreclaimed names, and some of both the stuck ones
pub promoted_follow : (m : Moment) (promoted stuck : List Name) → FollowsPause m → ((n : Name) → IsTrue (has promoted n) ↔ Promoted m.state m.unreclaimed m.made n)
    → ((n : Name) → IsTrue (has stuck n) → IsTrue (has (union promoted m.unreclaimed) n))
    → FollowsPause (record m { last = m.state; unreclaimed = union promoted m.unreclaimed; stuck = union stuck m.stuck; made = []; written = [] })
promoted_follow m promoted stuck follows promoted_are within =
    follows_anew m (union promoted m.unreclaimed) (union stuck m.stuck) m.number m.trace follows (in_order-union promoted m.unreclaimed follows.unreclaimed)
    (joined_closed m promoted follows promoted_are)
    (joined_object m promoted follows promoted_are)
    (union_right stuck m.stuck world_name follows.world)
    (λ n h. elim (union_cases stuck m.stuck n h) [ inl k ↦ within n k | inr k ↦ union_right promoted m.unreclaimed n (follows.stuck n k) ])
