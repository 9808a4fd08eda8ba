-- What is done through a reference of a root, by way of a register of the library's own, is three operations of a plan.
use Rattle.std.proofs.Common.{◌≡◌, ℕ, ◌<◌, ◌≤◌, inl, inr, refl, sym, subst, Bool, true, false, [], ◌∷◌}
use Rattle.std.specs.Prelude.{IsTrue}
use Rattle.lxr_graph.specs.declared.Op.{Op}
use Rattle.lxr_graph.specs.declared.Op.TheVariants as op
use Rattle.lxr_heap.specs.declared.heap.Heap.{Heap}
use Rattle.lxr_heap.specs.Through.{LoadsThrough, StoresThrough}
use Rattle.lxr_heap.specs.Trying.{Does}
use Rattle.lxr_large_model.specs.declared.LargeOp.TheVariants as large_op
use Rattle.lxr_c_base.specs.declared.codes.Code.TheVariants as code
use Rattle.lxr_c_base.specs.Requests.{IsQuiet}
use Rattle.lxr_c_heap.specs.declared.host.HostHeap.{HostHeap}
use Rattle.lxr_c_heap.specs.declared.host.TheConstants.{ENDS}
use Rattle.lxr_c_heap.specs.Hosting.{IsAtEnd, IsServing, all_registers_in}
use Rattle.lxr_c_heap.proofs.AsideLemmas.{stored_serves}
use Rattle.lxr_c_heap.proofs.TryingLemmas.{tried_serves}
use Rattle.lxr_c_arrays.specs.Operations.{load_of, nil_of, store_of}
use Rattle.lxr_c_arrays.specs.Running.{InPlan, InTurn, SameRegisters}
use Rattle.lxr_c_many.specs.declared.asked.Asked.{Asked}
use Rattle.lxr_c_arrays.proofs.PlanLemmas.{carried, carried_on}
use Rattle.lxr_c_arrays.proofs.RunLemmas.{same_none, same_on}
use Rattle.lxr_c_arrays.proofs.StepLemmas.{tried_in_turn, tried_keeps, tried_stored, tried_stored_keeps}

-- what holds of a heap after what was done: it serves, and has as many registers
abbrev Left : HostHeap → HostHeap → Type 0
Left x y = IsServing y × SameRegisters x y

left_on : (x m y : HostHeap) → Left x m → Left m y → Left x y
left_on x m y one two = (two.0, same_on x m y one.1 two.1)

-- so after an operation that makes no object and stores no reference
quiet_left : (x : HostHeap) (y : Heap) (o : Op) → IsServing x → IsQuiet (all_registers_in x) (large_op.Small o) → Does x.heap y o → Left x (record x { heap = y })
quiet_left x y o serving quiet does = (
  tried_serves x y o quiet true serving (λ e. does) (λ no. absurd (cc)),
  tried_keeps x y o quiet true serving.holds (λ e. does) (λ no. absurd (cc)),
)

-- registers that are there are so still
still_small : (x m : HostHeap) (r : ℕ) → Left x m → r < all_registers_in x → r < all_registers_in m
still_small x m r left small = subst (λ n. r < n) (sym left.1.all) small

module _ (x : HostHeap) (y : Heap) (root i j own : ℕ) (serving : IsServing x) (there : root < all_registers_in x) (small : own < all_registers_in x) where
  abbrev after : HostHeap
  after = record x { heap = y }

  -- an operation between the load of what stands between and the nil
  module _ (entered middle : Heap) (enters : Does x.heap entered (op.Load own root i)) (leaves : Does middle y (op.Nil own)) where
    abbrev at_part : HostHeap
    at_part = record x { heap = entered }

    abbrev behind : HostHeap
    behind = record x { heap = middle }

    entered_left : Left x at_part
    entered_left = quiet_left x entered (op.Load own root i) serving ((small, there), tt) enters

    all_left : Left at_part behind → Left x after
    all_left between =
        let left = left_on x at_part behind entered_left between in
        left_on x behind after left (quiet_left behind y (op.Nil own) left.0 (still_small x behind own left small, tt) leaves)

    all_planned : (a : Asked) → Left at_part behind → InTurn at_part (a ∷ []) behind code.Done
        → InPlan x (record { steps = load_of own root i ∷ a ∷ []; last = nil_of own ∷ [] }) after code.Done
    all_planned a between ran =
        let left = left_on x at_part behind entered_left between in
        carried_on x at_part after (load_of own root i) (a ∷ []) (nil_of own ∷ []) code.Done (tried_in_turn x entered (op.Load own root i) ((small, there), tt) enters)
        (carried at_part behind after (record { steps = a ∷ []; last = nil_of own ∷ [] }) code.Done ran (tried_in_turn behind y (op.Nil own) (still_small x behind own left small, tt) leaves))

  -- ---- a load

  module _ (dest : ℕ) (fits : dest < all_registers_in x) where
    module _ (l : LoadsThrough x.heap y dest root i j own) where
      abbrev first : HostHeap
      first = record x { heap = l.entered }

      loads_quiet : IsQuiet (all_registers_in first) (large_op.Small (op.Load dest own j))
      loads_quiet =
          let left = entered_left l.entered l.loaded l.enters l.leaves in
          ((still_small x first dest left fits, still_small x first own left small), tt)

      loads_left : Left first (record x { heap = l.loaded })
      loads_left = quiet_left first l.loaded (op.Load dest own j) (entered_left l.entered l.loaded l.enters l.leaves).0 loads_quiet l.loads

    pub loads_planned : LoadsThrough x.heap y dest root i j own → InPlan x (record { steps = load_of own root i ∷ load_of dest own j ∷ []; last = nil_of own ∷ [] }) after code.Done
    loads_planned l =
        all_planned l.entered l.loaded l.enters l.leaves (load_of dest own j) (loads_left l) (tried_in_turn (first l) l.loaded (op.Load dest own j) (loads_quiet l) l.loads)

    pub loads_leave : (done : Bool) → (IsTrue done → LoadsThrough x.heap y dest root i j own) → (done ≡ false → y ≡ x.heap) → IsServing after × SameRegisters x after
    loads_leave true through same = let l = through refl in all_left l.entered l.loaded l.enters l.leaves (loads_left l)
    loads_leave false through same = subst (λ (z : Heap). IsServing (record x { heap = z }) × SameRegisters x (record x { heap = z })) (sym (same refl)) (serving, same_none x)

  -- ---- a store

  module _ (source : ℕ) (fits : source < all_registers_in x) where
    module _ (early : IsAtEnd ENDS x → ⊥) (l : StoresThrough x.heap y root i j source own) where
      abbrev entered_host : HostHeap
      entered_host = record x { heap = l.entered }

      entered_early : IsAtEnd ENDS entered_host → ⊥
      entered_early (inl made) = early (inl (subst (λ n. ENDS.made ≤ n) l.made made))
      entered_early (inr pauses) = early (inr (subst (λ n. ENDS.pauses ≤ n) l.pauses pauses))

      stores_left : Left entered_host (record x { heap = l.stored })
      stores_left =
          let left = entered_left l.entered l.stored l.enters l.leaves in (
            stored_serves entered_host l.stored own j source true (all_registers_in entered_host, ((still_small x entered_host own left small, still_small x entered_host source left fits), tt)) left.0 (λ e. entered_early) (λ e. l.stores) (λ no. absurd (cc)),
            tried_stored_keeps entered_host l.stored own j source true left.0.holds (λ e. entered_early) (λ e. l.stores) (λ no. absurd (cc)),
          )

    pub stores_planned : (IsAtEnd ENDS x → ⊥) → StoresThrough x.heap y root i j source own → InPlan x (record { steps = load_of own root i ∷ store_of own j source ∷ []; last = nil_of own ∷ [] }) after code.Done
    stores_planned early l =
        all_planned l.entered l.stored l.enters l.leaves (store_of own j source) (stores_left early l) (tried_stored (entered_host early l) l.stored own j source (entered_early early l) l.stores)

    pub stores_leave : (done : Bool) → (IsTrue done → IsAtEnd ENDS x → ⊥) → (IsTrue done → StoresThrough x.heap y root i j source own) → (done ≡ false → y ≡ x.heap) → IsServing after × SameRegisters x after
    stores_leave true early through same = let l = through refl in all_left l.entered l.stored l.enters l.leaves (stores_left (early refl) l)
    stores_leave false early through same = subst (λ (z : Heap). IsServing (record x { heap = z }) × SameRegisters x (record x { heap = z })) (sym (same refl)) (serving, same_none x)
