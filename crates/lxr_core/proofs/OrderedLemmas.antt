-- A mutator that is ordered an operation, whether it takes it or not: the invariant of the epoch holds of what it shows then.
use Rattle.std.proofs.Common.{◌≡◌, ◌∙◌, ℕ, ◌<◌, [], ◌∷◌, Bool, true, false, List, arith, refl, sym, ap, subst, length}
use Rattle.std.specs.Prelude.{Some, slice_get, slice_set}
use Rattle.std.proofs.lemmas.List.{get_or_append_left}
use Rattle.lxr_layout.specs.declared.TheConstants.{REGISTERS}
use Rattle.lxr_graph.proofs.FormLemmas.{formed_more}
use Rattle.lxr_graph.specs.declared.Op.{Op}
use Rattle.lxr_graph.specs.declared.Op.TheVariants as op
use Rattle.lxr_graph.specs.History.{Item}
use Rattle.lxr_mutator.specs.Mutating.{Mutating, op_now}
use Rattle.lxr_mutator.specs.Mutators.{MayTakeOrder}
use Rattle.lxr_mutator.specs.Naming.{without_names}
use Rattle.lxr_mutator.specs.Orders.{ordered, ordered_if, takes_order, with_order}
use Rattle.lxr_mutator.proofs.MostLemmas.{few_operations}
use Rattle.lxr_mutator.proofs.OrderLemmas.{takes_order_decides, with_order_stays}
use Rattle.lxr_core_invariant.specs.ThreadStates.{ThreadState}
use Rattle.lxr_core_invariant.specs.EpochStates.{Beginning, EpochState, limits_of}
use Rattle.lxr_core_invariant.specs.Epoch.{IsEpoch}
use Rattle.lxr_core_sim_mutator.specs.Showing.{HasTold, IsMutatorOf, IsSteadyIn, stage_in, told_by}
use Rattle.lxr_core.specs.Ordering.{MayBeOrdered}
use Rattle.lxr_core.specs.Ordering as showing
use Rattle.lxr_core.proofs.EpochOrderLemmas.{orders_keep_epochs}
use Rattle.lxr_core.proofs.MappedLemmas.{set_itself}
use Rattle.lxr_core.proofs.NamelessLemmas.{Shows}
use Rattle.lxr_core.proofs.ToldLemmas.{shown_in, shown_told, told_state}

-- what a mutator that was ordered an operation leaves of the epoch
pub record OrdersStep (b : Beginning) (s : EpochState) (n : ℕ) (m' : Mutating) : Type 0 where
  pub epoch : IsEpoch b (record s { thread_states = slice_set s.thread_states n (shown_in s.history m') })
  pub mutator : IsMutatorOf (limits_of b) m'
  pub told : HasTold s.history m'

-- an operation that has no reply yet stays the one whose turn it is
same_now : (m : Mutating) (o : Op) → length m.replies.items < length m.operations → op_now (with_order m o) ≡ op_now m
same_now m o more = get_or_append_left m.operations (o ∷ []) op.End (length m.replies.items) more

-- as if it told names it has the operation too
ordered_told : (c : Bool) (h : List Item) (m : Mutating) (o : Op) → told_by c h (with_order m o) ≡ with_order (told_by c h m) o
ordered_told true h m o = refl
ordered_told false h m o = refl

-- so it has told what it had
still_told : (h : List Item) (m : Mutating) (o : Op) → HasTold h m → HasTold h (with_order m o)
still_told h m o told e = record {
  alike = ap without_names (ordered_told m.names h m o) ∙ ap (λ x. with_order x o) (told e).alike;
  looks_none_up = (told e).looks_none_up;
}

-- a list with an item put where it stands
unchanged : (s : EpochState) (n : ℕ) (v : ThreadState) → slice_get s.thread_states n ≡ Some v → s ≡ record s { thread_states = slice_set s.thread_states n v }
unchanged s n v shown = ap (λ vs. record s { thread_states = vs }) (sym (set_itself s.thread_states n v shown))

module _ (b : Beginning) (s : EpochState) (words : List ℕ) (n : ℕ) (m : Mutating) (o : Op) (shows : Shows b s words n m) where
  -- what it shows
  shown : slice_get s.thread_states n ≡ Some (told_state s.history m)
  shown = shows.thread_state ∙ ap Some (shown_told s.history m shows.told)

  taken : MayTakeOrder m o → OrdersStep b s n (with_order m o)
  taken may =
      let h : List Item = s.history in
      let told = still_told h m o shows.told in
      let stage = ap (stage_in m) may.ready in
      let stage' : stage_in (with_order m o) m.phase ≡ stage_in m m.phase = ap (stage_in (with_order m o)) may.ready ∙ sym stage in
      let same : showing.with_order (told_state h m) o ≡ shown_in h (with_order m o) =
      ap (λ z. record (showing.with_order (told_state h m) o) { stage = z }) (sym stage')
      ∙ ap (λ (x : Mutating). record (showing.with_order (told_state h m) o) { stage = stage_in (with_order m o) m.phase; replies = x.replies.items }) (sym (ordered_told m.names h m o))
      ∙ sym (shown_told h (with_order m o) told) in
      let room = may.room in
      let most = shows.mutator.sound.setup.most in
      let few = few_operations m.thread in
      let may_be : MayBeOrdered (told_state h m) o = record { stage = stage; formed = formed_more m.width REGISTERS o shows.mutator.sound.setup.width.1 may.operation.0; endless = may.operation.1; few = omega (arith, room, most, few) } in
      let steady = subst (IsSteadyIn m) may.ready shows.mutator.steady in
      record {
        epoch = subst (λ v. IsEpoch b (record s { thread_states = slice_set s.thread_states n v })) same (orders_keep_epochs b s n (told_state h m) o shows.epoch shown may_be);
        mutator = record {
          sound = with_order_stays m o may shows.mutator.sound;
          regions = shows.mutator.regions;
          width = shows.mutator.width;
          steady = subst (IsSteadyIn (with_order m o)) (sym may.ready) (
            steady.0,
            λ waits. (let is = steady.1 waits in (is.0, is.1, same_now m o (shows.mutator.sound.waits waits) ∙ is.2)),
          );
        };
        told = told;
      }

  by_test : (c : Bool) → takes_order m o ≡ c → OrdersStep b s n (ordered_if m o c).0
  by_test true e = taken ((takes_order_decides m o).0 e)
  by_test false e = record { epoch = subst (IsEpoch b) (unchanged s n (shown_in s.history m) shows.thread_state) shows.epoch; mutator = shows.mutator; told = shows.told }

  pub order_step : OrdersStep b s n (ordered m o).0
  order_step = by_test (takes_order m o) refl
