-- What a call that makes an array leaves of all that the host can reach.
use Rattle.std.proofs.Common.{◌≡◌, ◌≢◌, ℕ, zero, suc, ◌+◌, ◌<◌, ◌≤◌, ◌∙◌, refl, sym, ap, subst, arith, cond, inl, inr, Bool, true, false, Option, Some, None, List, [], ◌∷◌, ◌++◌, map}
use Rattle.std.specs.Prelude.{IsTrue, is_some, nat_le, option_map, slice_get, slice_set, if◌then◌else◌, Ok}
use Rattle.std.proofs.lemmas.List.{map-id}
use Rattle.std.proofs.lemmas.Option.{same_Some, slice_get-map}
use Rattle.std.proofs.lemmas.Simd.{map-map}
use Rattle.lxr_layout.specs.declared.Name.{Name}
use Rattle.lxr_layout.specs.declared.Shape.{Shape}
use Rattle.lxr_layout.specs.declared.TheConstants.{REGISTERS}
use Rattle.lxr_graph.specs.declared.Op.TheVariants as op
use Rattle.lxr_graph.specs.Renewing.{renewed_held, renewed_name}
use Rattle.lxr_graph.specs.State.{HasObject, Object, State, object_at, refs_of, register_at, values_of, with_reference, with_value}
use Rattle.lxr_graph.specs.Step.{put_at, put_to, store_to, stored}
use Rattle.lxr_graph.proofs.RowLemmas.{next_none, object_at-with_reference, object_at-with_value}
use Rattle.lxr_large_model.specs.declared.LargeOp.TheVariants as large_op
use Rattle.lxr_large_model.specs.History.{LargeItem, large_state}
use Rattle.lxr_large_model.specs.State.{LargeState}
use Rattle.lxr_heap.specs.Holding.{terms_of}
use Rattle.lxr_c_base.specs.Codes.{code_of}
use Rattle.lxr_c_base.specs.declared.codes.Code.{Code}
use Rattle.lxr_c_base.specs.declared.codes.Code.TheVariants as code
use Rattle.lxr_c_heap.specs.declared.host.HostHeap.{HostHeap}
use Rattle.lxr_c_heap.specs.declared.host.TheConstants.{ENDS}
use Rattle.lxr_c_heap.specs.declared.own.OwnRegisters.{OwnRegisters}
use Rattle.lxr_c_heap.specs.Hosting.{IsHostOf, own_in, registers_in}
use Rattle.lxr_c_many.specs.declared.applying.Told.{Told}
use Rattle.lxr_c_many.specs.declared.asked.Asked.{Asked}
use Rattle.lxr_c_many.specs.Applying.{Performs}
use Rattle.lxr_c_many.proofs.ApplyLemmas.{performs_host}
use Rattle.lxr_c_many.proofs.HostLemmas.{making_host}
use Rattle.lxr_c_many.proofs.MakingLemmas.{all_registers}
use Rattle.lxr_c_arrays.specs.declared.making.NewArray.{NewArray}
use Rattle.lxr_c_arrays.specs.Elements.{CanReach, HasKeptReached, NewKeepsReached, as_named, as_renamed, by_reference, by_register, given_by, references_of, with_names, with_renewals, words_of}
use Rattle.lxr_c_arrays.specs.Operations.{move_of, new_of, nil_of, put_of, store_of}
use Rattle.lxr_c_arrays.specs.Plans.{own_nil, part_length, part_steps, parts_of, parts_plan, root_steps}
use Rattle.lxr_c_arrays.specs.Running.{Carries, Runs, in_turn}
use Rattle.lxr_c_arrays.proofs.ElementLemmas.{changed_register, few_registers, nil_last, other_register}
use Rattle.lxr_c_arrays.proofs.FillLemmas.{named_with, renewals_with, renewed_bodies}
use Rattle.lxr_c_arrays.proofs.KeptLemmas.{given_none, refused_after}
use Rattle.lxr_c_arrays.proofs.NewLemmas.{GotObject, all_there, new_held, next, object_made, old_object, old_register}
use Rattle.lxr_c_arrays.proofs.OwnLemmas.{after_spares}
use Rattle.lxr_c_arrays.proofs.PlanLemmas.{own_first, own_second, own_there}
use Rattle.lxr_c_arrays.proofs.ReachLemmas.{held_named}
use Rattle.lxr_c_arrays.proofs.RunLemmas.{code_cases, runs_apart, runs_host}
use Rattle.lxr_c_arrays.proofs.SettleLemmas.{Settled, paused_state, settling, turned_state}
use Rattle.lxr_c_arrays.proofs.StoreLemmas.{unlike}

-- ---- one step

-- From state u to w each register that the host may name holds what it held, and each object that it could reach has what it had, by the new names
-- where names were renewed.
record Step (registers : ℕ) (u w : LargeState) : Type 0 where
  names : Option (List Name)
  held : (r : ℕ) → r < registers → register_at w.small 1 r ≡ as_named names (register_at u.small 1 r)
  references : (n : Name) → CanReach registers u n → references_of w.small.graph (as_named names (Some n)) ≡ map (as_named names) (references_of u.small.graph (Some n))
  words : (n : Name) → CanReach registers u n → words_of w.small.graph (as_named names (Some n)) ≡ words_of u.small.graph (Some n)
  bodies : w.large ≡ (with_names names u).large

-- a reference that is there by a new name was there by another one
read_before : (names : Option (List Name)) (vs : List (Option Name)) (i : ℕ) (n : Name) → slice_get (map (as_named names) vs) i ≡ Some (Some n) → (q : Name) × (slice_get vs i ≡ Some (Some q)) × (as_named names (Some q) ≡ Some n)
read_before names vs i n read = at_found (slice_get vs i) refl
  where
    at_found : (found : Option (Option Name)) → slice_get vs i ≡ found → (q : Name) × (slice_get vs i ≡ Some (Some q)) × (as_named names (Some q) ≡ Some n)
    at_found None none = absurd (let wrong : None ≡ Some (Some n) = sym (slice_get-map (as_named names) vs i ∙ ap (option_map (as_named names)) none) ∙ read in cc)
    at_found (Some v) there =
        let now : as_named names v ≡ Some n = same_Some (as_named names v) (Some n) (sym (slice_get-map (as_named names) vs i ∙ ap (option_map (as_named names)) there) ∙ read) in
        let (q, is) = held_named names v n now in
        (q, there ∙ ap (λ z. Some z) is, ap (as_named names) (sym is) ∙ now)

-- what can be reached could be reached before
reached_before : (registers : ℕ) (u w : LargeState) (step : Step registers u w) (n : Name) → CanReach registers w n → (m : Name) × CanReach registers u m × (as_named step.names (Some m) ≡ Some n)
reached_before registers u w step q (by_register r n less is) =
    let now : as_named step.names (register_at u.small 1 r) ≡ Some n = sym (step.held r less) ∙ is in
    let (m, was) = held_named step.names (register_at u.small 1 r) n now in
    (m, by_register r m less was, ap (as_named step.names) (sym was) ∙ now)
reached_before registers u w step q (by_reference m n i reach read) =
    let (a, could, is_a) = reached_before registers u w step m reach in
    let refs : references_of w.small.graph (Some m) ≡ map (as_named step.names) (references_of u.small.graph (Some a)) = ap (references_of w.small.graph) (sym is_a) ∙ step.references a could in
    let (c, was, is_c) = read_before step.names (references_of u.small.graph (Some a)) i n (sym (ap (λ vs. slice_get vs i) refs) ∙ read) in
    (c, by_reference a c i could was, is_c)

-- settling is one
settled_step : (registers : ℕ) (u b : LargeState) → Settled u b → Step registers u b
settled_step registers u b settled = record {
  names = settled.names;
  held = λ r less. settled.registers r;
  references = λ n reach. settled.refs_reached registers n reach;
  words = λ n reach. settled.words_reached registers n reach;
  bodies = ap (λ (z : LargeState). z.large) settled.state;
}

-- and what changes no object that can be reached
same_step : (registers : ℕ) (u w : LargeState) → ((r : ℕ) → r < registers → register_at w.small 1 r ≡ register_at u.small 1 r) → ((n : Name) → CanReach registers u n → object_at w.small.graph n ≡ object_at u.small.graph n)
    → w.large ≡ u.large → Step registers u w
same_step registers u w held objects bodies = record {
  names = None;
  held = held;
  references = λ n reach. ap refs_of (objects n reach) ∙ sym (map-id (references_of u.small.graph (Some n)));
  words = λ n reach. ap values_of (objects n reach);
  bodies = bodies;
}

-- ---- steps in turn

-- so it is from state s to u, by the names of renewals
record Left (registers : ℕ) (s u : LargeState) : Type 0 where
  renewals : List (List Name)
  held : (r : ℕ) → r < registers → register_at u.small 1 r ≡ as_renamed renewals (register_at s.small 1 r)
  references : (n : Name) → CanReach registers s n → references_of u.small.graph (as_renamed renewals (Some n)) ≡ map (as_renamed renewals) (references_of s.small.graph (Some n))
  words : (n : Name) → CanReach registers s n → words_of u.small.graph (as_renamed renewals (Some n)) ≡ words_of s.small.graph (Some n)
  bodies : u.large ≡ (with_renewals renewals s).large

left_none : (registers : ℕ) (s : LargeState) → Left registers s s
left_none registers s = record { renewals = []; held = λ r less. refl; references = λ n reach. sym (map-id (references_of s.small.graph (Some n))); words = λ n reach. refl; bodies = refl }

renamed_some : (renewals : List (List Name)) (n : Name) → (m : Name) × (as_renamed renewals (Some n) ≡ Some m)
renamed_some [] n = (n, refl)
renamed_some (ns ∷ earlier) n = let (m, is) = renamed_some earlier n in (renewed_name ns m, ap (renewed_held ns) is)

named_list : (names : Option (List Name)) (earlier : List (List Name)) (vs : List (Option Name)) → map (as_named names) (map (as_renamed earlier) vs) ≡ map (as_renamed (renewals_with names earlier)) vs
named_list None earlier vs = map-id (map (as_renamed earlier) vs)
named_list (Some ns) earlier vs = map-map (renewed_held ns) (as_renamed earlier) vs

-- what could be reached can be
reached_after : (registers : ℕ) (s u : LargeState) (left : Left registers s u) (n : Name) → CanReach registers s n → (m : Name) × (as_renamed left.renewals (Some n) ≡ Some m) × CanReach registers u m
reached_after registers s u left q (by_register r n less is) =
    let (m, now) = renamed_some left.renewals n in
    (m, now, by_register r m less (left.held r less ∙ ap (as_renamed left.renewals) is ∙ now))
reached_after registers s u left q (by_reference a n i reach read) =
    let (b, is_b, can) = reached_after registers s u left a reach in
    let (m, now) = renamed_some left.renewals n in
    let refs : references_of u.small.graph (Some b) ≡ map (as_renamed left.renewals) (references_of s.small.graph (Some a)) = ap (references_of u.small.graph) (sym is_b) ∙ left.references a reach in
    (m, now, by_reference b m i can (ap (λ vs. slice_get vs i) refs ∙ slice_get-map (as_renamed left.renewals) (references_of s.small.graph (Some a)) i ∙ ap (option_map (as_renamed left.renewals)) read ∙ ap (λ z. Some z) now))

left_more : (registers : ℕ) (s u w : LargeState) → Left registers s u → Step registers u w → Left registers s w
left_more registers s u w left step =
    let names = step.names in
    let f = as_named names in
    record {
      renewals = renewals_with names left.renewals;
      held = λ r less. step.held r less ∙ ap f (left.held r less) ∙ named_with names left.renewals (register_at s.small 1 r);
      references = λ n reach.
          let (m, is, can) = reached_after registers s u left n reach in
          ap (references_of w.small.graph) (sym (named_with names left.renewals (Some n)) ∙ ap f is) ∙ step.references m can
          ∙ ap (map f) (ap (references_of u.small.graph) (sym is) ∙ left.references n reach) ∙ named_list names left.renewals (references_of s.small.graph (Some n));
      words = λ n reach.
          let (m, is, can) = reached_after registers s u left n reach in
          ap (words_of w.small.graph) (sym (named_with names left.renewals (Some n)) ∙ ap f is) ∙ step.words m can ∙ ap (words_of u.small.graph) (sym is) ∙ left.words n reach;
      bodies = step.bodies ∙ renewed_bodies names left.renewals s u left.bodies;
    }

as_kept : (registers : ℕ) (s u : LargeState) → Left registers s u → HasKeptReached registers None s u
as_kept registers s u left = record { renewals = left.renewals; held = λ r less other. left.held r less; references = left.references; words = left.words; new = λ r n given. absurd (cc); bodies = left.bodies }

-- ---- what the host can't reach

-- what a register holds is that
abbrev IsOut : ℕ → LargeState → ℕ → Type 0
IsOut registers u own = (n : Name) → CanReach registers u n → register_at u.small 1 own ≢ Some n

-- it stays so at settling
out_settled : (registers own : ℕ) (u b : LargeState) → Settled u b → IsOut registers u own → IsOut registers b own
unfolding settled_step
out_settled registers own u b settled out n reach is =
    let f = as_named settled.names in
    let (m, could, is_m) = reached_before registers u b (settled_step registers u b settled) n reach in
    let now : f (register_at u.small 1 own) ≡ Some n = sym (settled.registers own) ∙ is in
    let (q, held) = held_named settled.names (register_at u.small 1 own) n now in
    let itself : own < own + 1 = omega arith in
    let same : m ≡ q = settled.one_reached registers (own + 1) m q could (by_register own q itself held) (is_m ∙ sym now ∙ ap f held) in
    out m could (held ∙ ap (λ z. Some z) (sym same))

-- and where no object changes that can be reached
out_same : (registers own : ℕ) (u w : LargeState) → ((r : ℕ) → r < registers → register_at w.small 1 r ≡ register_at u.small 1 r) → ((n : Name) → CanReach registers u n → object_at w.small.graph n ≡ object_at u.small.graph n)
    → w.large ≡ u.large → register_at w.small 1 own ≡ register_at u.small 1 own → IsOut registers u own → IsOut registers w own
unfolding same_step
out_same registers own u w held objects bodies same out n reach is =
    let (m, could, now) = reached_before registers u w (same_step registers u w held objects bodies) n reach in
    out m could (sym same ∙ is ∙ sym now)

-- ---- one operation

-- a new object is none that was there
made_new : (b w : LargeState) (dest : ℕ) (shape : Shape) → GotObject b w dest shape → dest < REGISTERS → (n : Name) → HasObject b.small.graph n → register_at w.small 1 dest ≢ Some n
made_new b w dest shape made room n there is =
    let same : n ≡ next b w dest shape made = same_Some n (next b w dest shape made) (sym is ∙ new_held b w dest shape made room) in
    let none : IsTrue (is_some {T = Object} None) = subst (λ o. IsTrue (is_some o)) (ap (object_at b.small.graph) same ∙ next_none b.small.graph 1) there in
    absurd (cc)

-- a new object: the register that got it holds what the host can't reach, where it isn't one of the host's
module _ (registers dest : ℕ) (b w : LargeState) (shape : Shape) (beyond : registers ≤ dest) (room : dest < REGISTERS) (there : (n : Name) → CanReach registers b n → HasObject b.small.graph n) (made : GotObject b w dest shape) where
  made_held : (r : ℕ) → r < registers → register_at w.small 1 r ≡ register_at b.small 1 r
  made_held r less = old_register b w dest shape made r (λ e. omega (arith, e, beyond, less))

  made_objects : (n : Name) → CanReach registers b n → object_at w.small.graph n ≡ object_at b.small.graph n
  made_objects n reach = old_object b w dest shape made n (there n reach)

  made_bodies : w.large ≡ b.large
  made_bodies = ap (λ (z : LargeState). z.large) made.after

  made_step : Step registers b w
  made_step = same_step registers b w made_held made_objects made_bodies

  made_out : IsOut registers w dest
  unfolding made_step same_step
  made_out n reach is =
      let (m, could, now) = reached_before registers b w made_step n reach in
      made_new b w dest shape made room m (there m could) (is ∙ sym now)

  others_out : (own : ℕ) → own ≢ dest → IsOut registers b own → IsOut registers w own
  others_out own apart = out_same registers own b w made_held made_objects made_bodies (old_register b w dest shape made own apart)

-- an operation that makes an object, whatever it tells: the state behind settling and pauses, and what it made
record Makes (h j : List LargeItem) (dest : ℕ) (shape : Shape) (t : Told) : Type 0 where
  before : LargeState
  settled : Settled (large_state h) before
  there : (k : ℕ) (n : Name) → CanReach k before n → HasObject before.small.graph n
  made : t.code ≡ code.Done → GotObject before (large_state j) dest shape
  refused : t.code ≢ code.Done → large_state j ≡ before

makes_of : (x m : HostHeap) (h j : List LargeItem) (dest refs values : ℕ) (t : Told) → IsHostOf x h → Performs x h (new_of dest refs values) m j t → Makes h j dest (record { refs = refs; values = values }) t
makes_of x m h j dest refs values t is (r, makes, left, told) =
    let shape : Shape = record { refs = refs; values = values } in
    let b = makes.acts.history in
    let host = making_host x m h (large_op.Small (op.New dest shape)) r is makes in
    record {
      before = large_state b;
      settled = subst (Settled (large_state h))
          (sym (paused_state (large_op.Small (op.New dest shape)) makes.paused makes.acts.middle makes.turns.history b makes.acts.pauses
          ∙ turned_state makes.settled makes.paused makes.settled_history makes.turns))
          (settling ENDS x makes.settled h makes.settled_history makes.settles);
      there = all_there makes.acts.middle.heap b host.heap;
      made = λ done. object_made makes.acts.middle m b j dest shape r host makes.acts.replies.heap.holds.legal.1.reply left (sym (ap (λ (u : Told). u.code) told) ∙ done);
      refused = λ failed. ap large_state left
          ∙ refused_after (terms_of m.heap) b (large_op.Small (op.New dest shape)) r tt makes.acts.replies.heap.holds.legal.1.reply (λ done. failed (ap (λ (u : Told). u.code) told ∙ done));
    }

-- a put to what the host can't reach
put_apart : (s : State) (i value : ℕ) (held : Option Name) (n : Name) → held ≢ Some n → object_at (put_to s i value held).0.graph n ≡ object_at s.graph n
put_apart s i value None n apart = refl
put_apart s i value (Some m) n apart = at_object (object_at s.graph m) refl
  where
    other : n ≢ m
    other e = apart (ap (λ z. Some z) (sym e))

    Goal : Option ℕ → Type 0
    Goal found = object_at (put_at s m i value found).0.graph n ≡ object_at s.graph n

    at_object : (o : Option Object) → object_at s.graph m ≡ o → Goal (slice_get (values_of (object_at s.graph m)) i)
    at_object None none = subst (λ z. Goal (slice_get (values_of z) i)) (sym none) refl
    at_object (Some o) there = at_found (slice_get (values_of (object_at s.graph m)) i)
      where
        at_found : (found : Option ℕ) → Goal found
        at_found None = refl
        at_found (Some old) =
            ap (λ z. object_at (with_value s.graph m i value z) n) there ∙ object_at-with_value s.graph m i value o n there
            ∙ ap (λ c. cond c (Some (record o { values = slice_set o.values i value })) (object_at s.graph n)) (unlike n m other)

-- a store to it
store_apart : (s : State) (i : ℕ) (v held : Option Name) (n : Name) → held ≢ Some n → object_at (store_to s i v held).0.graph n ≡ object_at s.graph n
store_apart s i v None n apart = refl
store_apart s i v (Some m) n apart = at_object (object_at s.graph m) refl
  where
    other : n ≢ m
    other e = apart (ap (λ z. Some z) (sym e))

    Goal : Option (Option Name) → Type 0
    Goal found = object_at (stored s m i v found).0.graph n ≡ object_at s.graph n

    at_object : (o : Option Object) → object_at s.graph m ≡ o → Goal (slice_get (refs_of (object_at s.graph m)) i)
    at_object None none = subst (λ z. Goal (slice_get (refs_of z) i)) (sym none) refl
    at_object (Some o) there = at_found (slice_get (refs_of (object_at s.graph m)) i)
      where
        at_found : (found : Option (Option Name)) → Goal found
        at_found None = refl
        at_found (Some old) =
            ap (λ z. object_at (with_reference s.graph m i v z) n) there ∙ object_at-with_reference s.graph m i v o n there
            ∙ ap (λ c. cond c (Some (record o { refs = slice_set o.refs i v })) (object_at s.graph n)) (unlike n m other)

-- ---- the operations of a root

-- an operation on what the register `own` holds, or one that makes an object in another of the library's registers
data IsOwnStep (registers own : ℕ) : Asked → Type 0 where
  step_makes : (dest refs values : ℕ) → registers ≤ dest → dest < REGISTERS → own ≢ dest → IsOwnStep registers own (new_of dest refs values)
  step_puts : (i value : ℕ) → IsOwnStep registers own (put_of own i value)
  step_stores : (i source : ℕ) → IsOwnStep registers own (store_of own i source)

-- all of them are such
data AllOwnSteps (registers own : ℕ) : List Asked → Type 0 where
  no_step : AllOwnSteps registers own []
  one_step : (a : Asked) (ops : List Asked) → IsOwnStep registers own a → AllOwnSteps registers own ops → AllOwnSteps registers own (a ∷ ops)

steps_on : (registers own : ℕ) (ops more : List Asked) → AllOwnSteps registers own ops → AllOwnSteps registers own more → AllOwnSteps registers own (ops ++ more)
steps_on registers own none more no_step others = others
steps_on registers own all more (one_step a ops is rest) others = one_step a (ops ++ more) is (steps_on registers own ops more rest others)

module _ (registers own : ℕ) (s : LargeState) where
  abbrev Keeps : LargeState → Type 0
  Keeps u = Left registers s u × IsOut registers u own

  -- what changes an object that the host can't reach, and no register
  on_own : (u w : LargeState) → Left registers s u → IsOut registers u own → ((n : Name) → CanReach registers u n → object_at w.small.graph n ≡ object_at u.small.graph n)
      → ((r : ℕ) → register_at w.small 1 r ≡ register_at u.small 1 r) → w.large ≡ u.large → Keeps w
  on_own u w left out objects held bodies = (
    left_more registers s u w left (same_step registers u w (λ r less. held r) objects bodies),
    out_same registers own u w (λ r less. held r) objects bodies (held own) out,
  )

  -- one of them, whatever it tells
  step_kept : (x m : HostHeap) (h j : List LargeItem) (a : Asked) (t : Told) → IsOwnStep registers own a → IsHostOf x h → Performs x h a m j t → Keeps (large_state h) → Keeps (large_state j)
  step_kept x m h j a t (step_makes dest refs values beyond room apart) is performs (left, out) =
      let shape : Shape = record { refs = refs; values = values } in
      let makes = makes_of x m h j dest refs values t is performs in
      let b = makes.before in
      let settled = left_more registers s (large_state h) b left (settled_step registers (large_state h) b makes.settled) in
      let out_b = out_settled registers own (large_state h) b makes.settled out in
      elim (code_cases t.code) [
        | inl done ↦
            let got = makes.made done in (
              left_more registers s b (large_state j) settled (made_step registers dest b (large_state j) shape beyond room (makes.there registers) got),
              others_out registers dest b (large_state j) shape beyond room (makes.there registers) got own apart out_b,
            )
        | inr failed ↦ subst Keeps (sym (makes.refused failed)) (settled, out_b)
      ]
  step_kept x m h j a t (step_puts i value) is (r, replies, behind, told) (left, out) =
      let u : LargeState = large_state h in
      let o = large_op.Small (op.Put own i value) in
      on_own u (large_state j) left out (λ n reach. ap (λ l. object_at (large_state l).small.graph n) behind ∙ put_apart u.small i value (register_at u.small 1 own) n (out n reach))
      (λ q. ap (λ l. register_at (large_state l).small 1 q) behind ∙ after_spares u o r q tt) (ap (λ l. (large_state l).large) behind)
  step_kept x m h j a t (step_stores i source) is (r, stores, behind, told) (left, out) =
      let b : LargeState = large_state stores.acts.history in
      let o = large_op.Small (op.Store own i source) in
      let before : b ≡ large_state stores.history = paused_state o stores.settled stores.acts.middle stores.history stores.acts.history stores.acts.pauses in
      let settled : Settled (large_state h) b = subst (Settled (large_state h)) (sym before) (settling ENDS x stores.settled h stores.history stores.settles) in
      let out_b = out_settled registers own (large_state h) b settled out in
      on_own b (large_state j) (left_more registers s (large_state h) b left (settled_step registers (large_state h) b settled)) out_b
      (λ n reach. ap (λ l. object_at (large_state l).small.graph n) behind ∙ store_apart b.small i (register_at b.small 1 source) (register_at b.small 1 own) n (out_b n reach))
      (λ q. ap (λ l. register_at (large_state l).small 1 q) behind ∙ after_spares b o r q tt) (ap (λ l. (large_state l).large) behind)

  -- some of them, and then the host's register gets the root, where all of them are done
  steps_kept : (x y : HostHeap) (h k : List LargeItem) (dest : ℕ) (ops : List Asked) (c : Code) → dest < REGISTERS → AllOwnSteps registers own ops → IsHostOf x h → Keeps (large_state h) → Runs x h (ops ++ move_of dest own ∷ []) y k c
      → HasKeptReached registers (given_by c dest) s (large_state k)
  steps_kept x y h k dest none c room no_step is (left, out) (m, j, t, (r, replies, behind, told), inl (done, (same, end, tells))) =
      subst (λ d. HasKeptReached registers (given_by d dest) s (large_state k)) (sym tells) (record {
        renewals = left.renewals;
        held = λ q less other. ap (λ l. register_at (large_state l).small 1 q) (end ∙ behind) ∙ other_register (large_state h).small dest q (register_at (large_state h).small 1 own) (λ e. other (ap (λ z. Some z) e)) ∙ left.held q less;
        references = λ n reach. ap (λ l. references_of (large_state l).small.graph (as_renamed left.renewals (Some n))) (end ∙ behind) ∙ left.references n reach;
        words = λ n reach. ap (λ l. words_of (large_state l).small.graph (as_renamed left.renewals (Some n))) (end ∙ behind) ∙ left.words n reach;
        new = λ q n gives reach same_name.
            let (a, now, can) = reached_after registers s (large_state h) left n reach in
            let at_dest : register_at (large_state k).small 1 dest ≡ register_at (large_state h).small 1 own =
            ap (λ l. register_at (large_state l).small 1 dest) (end ∙ behind) ∙ changed_register (large_state h).small dest (register_at (large_state h).small 1 own) (all_registers x.heap h is.heap) room in
            out a can (sym at_dest ∙ ap (register_at (large_state k).small 1) (same_Some dest q gives) ∙ sym same_name ∙ now);
        bodies = ap (λ l. (large_state l).large) (end ∙ behind) ∙ left.bodies;
      })
  steps_kept x y h k dest none c room no_step is (left, out) (m, j, t, (r, replies, behind, told), inr (failed, same, end, tells)) =
      absurd (failed (ap (λ (z : Told). z.code) told ∙ sym (ap code_of replies.heap.holds.legal.1.reply)))
  steps_kept x y h k dest all c room (one_step a ops own_step rest) is kept (m, j, t, performs, inl (done, ran)) =
      steps_kept m y j k dest ops c room rest (performs_host x m h j a t is performs) (step_kept x m h j a t own_step is performs kept) ran
  steps_kept x y h k dest all c room (one_step a ops own_step rest) is kept (m, j, t, performs, inr (failed, same, end, tells)) =
      let left = (step_kept x m h j a t own_step is performs kept).0 in
      subst (λ d. HasKeptReached registers d s (large_state k)) (sym (given_none c dest (λ done. failed (sym tells ∙ done)))) (subst (λ l. HasKeptReached registers None s (large_state l)) (sym end) (as_kept registers s (large_state j) left))

-- ---- the call

-- a register that gets an array is one that the host may name
given_named : (c : Code) (dest registers : ℕ) → dest < registers → (r : ℕ) → given_by c dest ≡ Some r → r < registers
given_named c dest registers small r gives = elim (code_cases c) [
  | inl done ↦ let same : dest ≡ r = same_Some dest r (ap (λ d. given_by d dest) (sym done) ∙ gives) in omega (arith, same, small)
  | inr failed ↦ absurd (let none : None ≡ Some r = sym (given_none c dest failed) ∙ gives in cc)
]

-- the library's registers become nil
nils_kept : (registers : ℕ) (given : Option ℕ) (own : OwnRegisters) (s : LargeState) (m y : HostHeap) (j k : List LargeItem) → registers ≤ own.first → registers ≤ own.second → ((r : ℕ) → given ≡ Some r → r < registers) → IsHostOf m j → HasKeptReached registers given s (large_state j)
    → Runs m j (own_nil own) y k code.Done → IsHostOf y k × HasKeptReached registers given s (large_state k)
nils_kept registers given own s m y j k one two named is kept ran =
    let (p, l, before, last) = runs_apart m y j k (nil_of own.first ∷ []) (nil_of own.second ∷ []) ran in
    let once = nil_last m p j l own.first is before in
    let twice = nil_last p y l k own.second once.0 last in
    let u : LargeState = large_state j in
    let graph : (large_state k).small.graph ≡ u.small.graph = ap (λ (z : LargeState). z.small.graph) twice.1 ∙ ap (λ (z : LargeState). z.small.graph) once.1 in
    let bodies : (large_state k).large ≡ u.large = ap (λ (z : LargeState). z.large) twice.1 ∙ ap (λ (z : LargeState). z.large) once.1 in
    let held : (r : ℕ) → r < registers → register_at (large_state k).small 1 r ≡ register_at u.small 1 r =
    λ r less. ap (λ (z : LargeState). register_at z.small 1 r) twice.1 ∙ other_register (large_state l).small own.second r None (λ e. omega (arith, e, two, less))
    ∙ ap (λ (z : LargeState). register_at z.small 1 r) once.1 ∙ other_register u.small own.first r None (λ e. omega (arith, e, one, less)) in (
      twice.0,
      record {
        renewals = kept.renewals;
        held = λ r less other. held r less ∙ kept.held r less other;
        references = λ n reach. ap (λ g. references_of g (as_renamed kept.renewals (Some n))) graph ∙ kept.references n reach;
        words = λ n reach. ap (λ g. words_of g (as_renamed kept.renewals (Some n))) graph ∙ kept.words n reach;
        new = λ r n gives reach same. kept.new r n gives reach (same ∙ held r (named r gives));
        bodies = bodies ∙ kept.bodies;
      },
    )

-- the operations behind the root
parts_all : (registers elements : ℕ) (own : OwnRegisters) (n : ℕ) → registers ≤ own.second → own.second < REGISTERS → own.first ≢ own.second → AllOwnSteps registers own.first (in_turn (part_steps own elements) n)
parts_all registers elements own zero beyond room apart = no_step
parts_all registers elements own (suc n) beyond room apart =
    steps_on registers own.first (in_turn (part_steps own elements) n) (part_steps own elements n) (parts_all registers elements own n beyond room apart)
    (one_step (new_of own.second (part_length elements n) 0) (store_of own.first n own.second ∷ []) (step_makes own.second (part_length elements n) 0 beyond room apart)
    (one_step (store_of own.first n own.second) [] (step_stores n own.second) no_step))

-- a root
root_kept : (x m : HostHeap) (h j : List LargeItem) (own : OwnRegisters) (wanted : NewArray) (told : Code) → IsHostOf x h → wanted.dest < registers_in x → own_in x ≡ Some own
    → Runs x h (root_steps own wanted.length ++ move_of wanted.dest own.first ∷ []) m j told → HasKeptReached (registers_in x) (given_by told wanted.dest) (large_state h) (large_state j)
root_kept x m h j own wanted told is small has (p, l, t, performs, rest) =
    let registers = registers_in x in
    let s : LargeState = large_state h in
    let few = few_registers x h is in
    let one = own_first x own has in
    let two = own_second x own has in
    let known = (own_there x own has).1 in
    let total = parts_of wanted.length in
    let shape : Shape = record { refs = total; values = 1 } in
    let first = makes_of x p h l own.first total 1 t is performs in
    let b = first.before in
    let settled = left_more registers s s b (left_none registers s) (settled_step registers s b first.settled) in
    let beyond : registers ≤ own.first = omega (arith, one) in
    let behind : registers ≤ own.second = omega (arith, two) in
    let room : own.second < REGISTERS = omega (arith, few, known) in
    let room_first : own.first < REGISTERS = omega (arith, one, two, room) in
    let apart : own.first ≢ own.second = λ e. omega (arith, e, one, two) in
    elim rest [
      | inl (done, ran) ↦
          let got = first.made done in
          let kept : Left registers s (large_state l) × IsOut registers (large_state l) own.first = (left_more registers s b (large_state l) settled (made_step registers own.first b (large_state l) shape beyond room_first (first.there registers) got), made_out registers own.first b (large_state l) shape beyond room_first (first.there registers) got) in
          steps_kept registers own.first s p m l j wanted.dest (put_of own.first 0 wanted.length ∷ in_turn (part_steps own wanted.length) total) told (omega (arith, few, small))
          (one_step (put_of own.first 0 wanted.length) (in_turn (part_steps own wanted.length) total) (step_puts 0 wanted.length) (parts_all registers wanted.length own total behind room apart))
          (performs_host x p h l (new_of own.first total 1) t is performs) kept ran
      | inr (failed, same, end, tells) ↦
          subst (λ d. HasKeptReached registers d s (large_state j)) (sym (given_none told wanted.dest (λ done. failed (sym tells ∙ done))))
          (subst (λ l. HasKeptReached registers None s (large_state l)) (sym end) (subst (HasKeptReached registers None s) (sym (first.refused failed)) (as_kept registers s b settled)))
    ]

-- an array of one object
whole_kept : (x m : HostHeap) (h j : List LargeItem) (wanted : NewArray) (told : Code) → IsHostOf x h → wanted.dest < registers_in x → Runs x h (new_of wanted.dest wanted.length 0 ∷ []) m j told
    → HasKeptReached (registers_in x) (given_by told wanted.dest) (large_state h) (large_state j)
whole_kept x m h j wanted told is small (p, l, t, performs, rest) =
    let registers = registers_in x in
    let s : LargeState = large_state h in
    let few = few_registers x h is in
    let first = makes_of x p h l wanted.dest wanted.length 0 t is performs in
    let b = first.before in
    let shape : Shape = record { refs = wanted.length; values = 0 } in
    let left = left_more registers s s b (left_none registers s) (settled_step registers s b first.settled) in
    elim rest [
      | inl (done, (same, end, tells)) ↦
          let made = first.made done in
          subst (λ d. HasKeptReached registers (given_by d wanted.dest) s (large_state j)) (sym tells) (subst (λ z. HasKeptReached registers (Some wanted.dest) s (large_state z)) (sym end) (record {
            renewals = left.renewals;
            held = λ r less other. old_register b (large_state l) wanted.dest shape made r (λ e. other (ap (λ z. Some z) e)) ∙ left.held r less;
            references = λ n reach.
                let (c, now, can) = reached_after registers s b left n reach in
                ap (references_of (large_state l).small.graph) now ∙ ap refs_of (old_object b (large_state l) wanted.dest shape made c (first.there registers c can)) ∙ ap (references_of b.small.graph) (sym now) ∙ left.references n reach;
            words = λ n reach.
                let (c, now, can) = reached_after registers s b left n reach in
                ap (words_of (large_state l).small.graph) now ∙ ap values_of (old_object b (large_state l) wanted.dest shape made c (first.there registers c can)) ∙ ap (words_of b.small.graph) (sym now) ∙ left.words n reach;
            new = λ r n gives reach same_name.
                let (c, now, can) = reached_after registers s b left n reach in
                made_new b (large_state l) wanted.dest shape made (omega (arith, few, small)) c (first.there registers c can) (ap (register_at (large_state l).small 1) (same_Some wanted.dest r gives) ∙ sym same_name ∙ now);
            bodies = ap (λ (z : LargeState). z.large) made.after ∙ left.bodies;
          }))
      | inr (failed, same, end, tells) ↦
          subst (λ d. HasKeptReached registers d s (large_state j)) (sym (given_none told wanted.dest (λ done. failed (sym tells ∙ done))))
          (subst (λ l. HasKeptReached registers None s (large_state l)) (sym end) (subst (HasKeptReached registers None s) (sym (first.refused failed)) (as_kept registers s b left)))
    ]

pub new_keeps_reached : NewKeepsReached
new_keeps_reached x y h wanted told is (small, most) carried = at_size (nat_le wanted.length 1023) carried
  where
    registers : ℕ
    registers = registers_in x

    Goal : Type 0
    Goal = (k : List LargeItem) × IsHostOf y k × HasKeptReached registers (given_by told wanted.dest) (large_state h) (large_state k)

    nothing : y ≡ x → told ≢ code.Done → Goal
    nothing same failed = (
      h,
      subst (λ (z : HostHeap). IsHostOf z h) (sym same) is,
      subst (λ d. HasKeptReached registers d (large_state h) (large_state h)) (sym (given_none told wanted.dest failed)) (as_kept registers (large_state h) (large_state h) (left_none registers (large_state h))),
    )

    at_own : (own : Option OwnRegisters) → own_in x ≡ own → Carries x y h (parts_plan own wanted) told → Goal
    at_own None none (tells, same) = nothing same (λ done. let wrong : code.Register ≡ code.Done = sym tells ∙ done in cc)
    at_own (Some own) has (m, j, k, ran, ended) =
        let one = own_first x own has in
        let two = own_second x own has in
        let (host, kept) = nils_kept registers (given_by told wanted.dest) own (large_state h) m y j k (omega (arith, one)) (omega (arith, two)) (given_named told wanted.dest registers small)
        (runs_host x m h j (root_steps own wanted.length ++ move_of wanted.dest own.first ∷ []) told is ran) (root_kept x m h j own wanted told is small has ran) ended in
        (k, host, kept)

    at_size : (b : Bool) → Carries x y h (if b then Ok (record { steps = new_of wanted.dest wanted.length 0 ∷ []; last = [] }) else parts_plan (own_in x) wanted) told → Goal
    at_size true (m, j, k, ran, (same, end, done)) = (
      k,
      subst (λ (z : HostHeap). IsHostOf z k) (sym same) (subst (IsHostOf m) (sym end) (runs_host x m h j (new_of wanted.dest wanted.length 0 ∷ []) told is ran)),
      subst (λ l. HasKeptReached registers (given_by told wanted.dest) (large_state h) (large_state l)) (sym end) (whole_kept x m h j wanted told is small ran),
    )
    at_size false carry = at_own (own_in x) refl carry
