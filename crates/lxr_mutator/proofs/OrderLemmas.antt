-- A mutator takes an order exactly where it may, and is a mutator again.
use Rattle.std.proofs.Common.{◌≡◌, ◌≢◌, ℕ, ◌+◌, ◌<◌, ◌≤◌, [], ◌∷◌, Bool, true, false, arith, refl, sym, subst, inl, inr, length}
use Rattle.std.specs.Prelude.{◌&&◌, Decides}
use Rattle.std.proofs.lemmas.Bool.{le-leb, leb-true}
use Rattle.std.proofs.lemmas.Bool.Decides.{Decides-and, Decides-like, Decides-ltb}
use Rattle.std.proofs.lemmas.List.{length-append}
use Rattle.std.proofs.lemmas.List.Elements.{All-append, All-cons, All-nil}
use Rattle.lxr_graph.specs.declared.Op.{Op}
use Rattle.lxr_graph.specs.declared.Op.TheVariants as op
use Rattle.lxr_graph.specs.Forms.{is_formed_for}
use Rattle.lxr_graph.proofs.FormLemmas.{formed_for}
use Rattle.lxr_mutator.specs.declared.phases.MutatorPhase.{MutatorPhase}
use Rattle.lxr_mutator.specs.declared.phases.MutatorPhase.TheVariants as phase
use Rattle.lxr_mutator.specs.Mutating.{Mutating}
use Rattle.lxr_mutator.specs.Mutators.{IsMutator, IsOperation, MayBeIn, MayTakeOrder}
use Rattle.lxr_mutator.specs.Orders.{has_room_for_order, is_idle, is_operation, is_ready, ordered_if, takes_order, with_order}
use Rattle.lxr_mutator.specs.Laws.{MutatorsTakeOrdersByRule, TakesOrdersByRule}
use Rattle.lxr_mutator.proofs.MostLemmas.{few_operations}

-- ---- the test

ready_decides : (p : MutatorPhase) → Decides (is_ready p) (p ≡ phase.Ready)
ready_decides phase.Ready = (λ e. refl, λ h. refl)
ready_decides p = (λ e. absurd (cc), λ h. absurd (cc))

-- an operation that is no end is one where it is well formed
endless : (width : ℕ) (o : Op) → o ≢ op.End → Decides (is_formed_for width o) (IsOperation width o)
endless width o no_end = Decides-like (is_formed_for width o) (λ formed. (formed, no_end)) (λ is. is.0) (formed_for width o)

operation_decides : (width : ℕ) (o : Op) → Decides (is_operation width o) (IsOperation width o)
operation_decides width op.End = (λ e. absurd (cc), λ is. absurd (is.1 refl))
operation_decides width o = endless width o (λ e. absurd (cc))

module _ (m : Mutating) (o : Op) where
  room_decides : Decides (has_room_for_order m) (length m.operations + 2 < m.replies.room)
  room_decides = Decides-ltb (length m.operations + 2) m.replies.room

  idle_decides : Decides (is_idle m) (length m.operations ≤ length m.replies.items)
  idle_decides = (leb-true (length m.operations) (length m.replies.items), le-leb (length m.operations) (length m.replies.items))

  pub takes_order_decides : Decides (takes_order m o) (MayTakeOrder m o)
  takes_order_decides =
      Decides-like (takes_order m o)
      (λ h. record { ready = h.0; idle = h.1.0; operation = h.1.1.0; room = h.1.1.1 })
      (λ may. (may.ready, (may.idle, (may.operation, may.room))))
      (Decides-and (is_ready m.phase) (is_idle m && (is_operation m.width o && has_room_for_order m)) (ready_decides m.phase)
      (Decides-and (is_idle m) (is_operation m.width o && has_room_for_order m) idle_decides
      (Decides-and (is_operation m.width o) (has_room_for_order m) (operation_decides m.width o) room_decides)))

  -- ---- what becomes of it

  pub with_order_stays : MayTakeOrder m o → IsMutator m → IsMutator (with_order m o)
  with_order_stays may is =
      let more = length-append m.operations (o ∷ []) in
      record {
        setup = record {
          thread = is.setup.thread;
          width = is.setup.width;
          operations = All-append (IsOperation m.width) m.operations (o ∷ []) is.setup.operations (All-cons (IsOperation m.width) o [] may.operation (All-nil (IsOperation m.width)));
          few = let room = may.room in let most = is.setup.most in let few = few_operations m.thread in omega (arith, more, room, most, few);
          room = let room = may.room in omega (arith, more, room);
          most = is.setup.most;
          indexes = is.setup.indexes;
          every = is.setup.every;
          before = is.setup.before;
        };
        registers = is.registers;
        spans = is.spans;
        few_replies = let few = is.few_replies in omega (arith, more, few);
        replies = elim is.replies [ inl through ↦ inl through | inr few ↦ inr (omega (arith, more, few)) ];
        busy = λ e. (let few = is.busy e in omega (arith, more, few));
        waits = λ e. (let few = is.waits e in omega (arith, more, few));
        since = is.since;
        phase = subst (MayBeIn (with_order m o)) (sym may.ready) tt;
      }

  -- what it is then, and whether it took the order, by the test
  taken_by : (b : Bool) → Decides ((ordered_if m o b).1) (b ≡ true)
  taken_by true = (λ e. e, λ e. e)
  taken_by false = (λ e. e, λ e. e)

  stays_by : (b : Bool) → (b ≡ true → MayTakeOrder m o) → IsMutator m → IsMutator (ordered_if m o b).0
  stays_by true may is = with_order_stays (may refl) is
  stays_by false may is = is

  with_by : (b : Bool) → b ≡ true → (ordered_if m o b).0 ≡ with_order m o
  with_by true e = refl
  with_by false e = absurd (cc)

  without_by : (b : Bool) → ¬ (b ≡ true) → (ordered_if m o b).0 ≡ m
  without_by true other = absurd (other refl)
  without_by false other = refl

  by_rule : TakesOrdersByRule m o
  by_rule =
      let decides = takes_order_decides in
      let taken = taken_by (takes_order m o) in
      record {
        taken = (λ e. decides.0 (taken.0 e), λ may. taken.1 (decides.1 may));
        may = λ may. with_by (takes_order m o) (decides.1 may);
        may_not = λ other. without_by (takes_order m o) (λ e. other (decides.0 e));
        stays = stays_by (takes_order m o) decides.0;
      }

pub orders_by_rule : MutatorsTakeOrdersByRule
orders_by_rule = by_rule
