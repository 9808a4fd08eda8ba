-- What was planned was carried out.
use Rattle.std.proofs.Common.{◌≡◌, ◌≢◌, ◌∙◌, ℕ, ◌+◌, refl, sym, ap, subst, arith, Bool, true, false, Option, None, Some, List, [], ◌∷◌}
use Rattle.std.proofs.lemmas.Bool.{leb-true}
use Rattle.std.proofs.lemmas.Option.{same_Some}
use Rattle.std.specs.Prelude.{Result, Ok, Err, if◌then◌else◌, nat_le, option_map}
use Rattle.lxr_large_model.specs.History.{LargeItem}
use Rattle.lxr_c_base.specs.declared.codes.Code.{Code}
use Rattle.lxr_c_base.specs.declared.codes.Code.TheVariants as code
use Rattle.lxr_c_heap.specs.declared.host.HostHeap.{HostHeap}
use Rattle.lxr_c_heap.specs.declared.own.OwnRegisters.{OwnRegisters}
use Rattle.lxr_c_heap.specs.declared.settings.TheConstants.{OWN_REGISTERS}
use Rattle.lxr_c_heap.specs.Hosting.{IsHostOf, all_registers_in, own_in, registers_in}
use Rattle.lxr_c_heap.proofs.RegisterLemmas.{named_few}
use Rattle.lxr_c_heap.proofs.RoomLemmas.{SomeHistory}
use Rattle.lxr_c_many.specs.declared.asked.Asked.{Asked}
use Rattle.lxr_c_arrays.specs.declared.registers.Pair.{Pair}
use Rattle.lxr_c_arrays.specs.Plans.{IsOwn, IsPair, first_own, planned}
use Rattle.lxr_c_arrays.specs.Running.{Carries, InPlan, InTurn, Plan}
use Rattle.lxr_c_arrays.proofs.RunLemmas.{runs_host, runs_on, turn_stop}

-- the steps, and then the last operations
pub carried : (x m y : HostHeap) (plan : Plan) (told : Code) → InTurn x plan.steps m told → InTurn m plan.last y code.Done → (h : List LargeItem) → IsHostOf x h → Carries x y h (Ok plan) told
carried x m y plan told ran ended h is =
    let (j, runs) = ran h is in
    let (k, ends) = ended j (runs_host x m h j plan.steps told is runs) in
    (m, j, k, runs, ends)

-- so where the first of the steps was done
pub carried_on : (x m y : HostHeap) (a : Asked) (ops last : List Asked) (told : Code) → InTurn x (a ∷ []) m code.Done → InPlan m (record { steps = ops; last = last }) y told → InPlan x (record { steps = a ∷ ops; last = last }) y told
carried_on x m y a ops last told first rest = λ h is.
    let (j, ran) = first h is in
    let (n, l, k, runs, ends) = rest j (runs_host x m h j (a ∷ []) code.Done is ran) in
    (n, l, k, runs_on x m n h j l (a ∷ []) ops told ran runs, ends)

-- or wasn't
pub carried_short : (x m y : HostHeap) (a : Asked) (ops last : List Asked) (told : Code) → InTurn x (a ∷ []) m told → told ≢ code.Done → InTurn m last y code.Done → InPlan x (record { steps = a ∷ ops; last = last }) y told
carried_short x m y a ops last told first failed ended = carried x m y (record { steps = a ∷ ops; last = last }) told (turn_stop x m (a ∷ []) ops told first failed) ended

-- with what was there
pub carried_with : {A : Type 0} (x m y : HostHeap) (plan : A → Plan) (there : Result A Code) (a : A) (told : Code) (h : List LargeItem) → IsHostOf x h → Ok a ≡ there → InTurn x (plan a).steps m told → InTurn m (plan a).last y code.Done
    → Carries x y h (planned plan there) told
carried_with {A} x m y plan there a told h is same ran ended = subst (λ (q : Result A Code). Carries x y h (planned plan q) told) same (carried x m y (plan a) told ran ended h is)

pub carried_by : {A : Type 0} (x y : HostHeap) (plan : A → Plan) (there : Result A Code) (a : A) (told : Code) → Ok a ≡ there → InPlan x (plan a) y told → (h : List LargeItem) → IsHostOf x h → Carries x y h (planned plan there) told
carried_by {A} x y plan there a told same ran h is = subst (λ (q : Result A Code). Carries x y h (planned plan q) told) same (ran h is)

-- or nothing, where something wasn't
pub carried_not : {A : Type 0} (x : HostHeap) (plan : A → Plan) (there : Result A Code) (e : Code) (h : List LargeItem) → Err e ≡ there → Carries x x h (planned plan there) e
carried_not {A} x plan there e h same = subst (λ (q : Result A Code). Carries x x h (planned plan q) e) same (refl, refl)

-- registers of the host are there
pub pair_there : (x : HostHeap) (pair : Pair) → SomeHistory x → IsPair (registers_in x) pair → IsPair (all_registers_in x) pair
pair_there x pair some (array, other) = let few = named_few x some in (omega (arith, few, array), omega (arith, few, other))

-- so are those of the library's own
pub own_there : (x : HostHeap) (own : OwnRegisters) → own_in x ≡ Some own → IsOwn (all_registers_in x) own
own_there x own is = at_room (nat_le (registers_in x + OWN_REGISTERS) (all_registers_in x)) refl is
  where
    at_room : (b : Bool) → nat_le (registers_in x + OWN_REGISTERS) (all_registers_in x) ≡ b → (if b then Some (record { first = registers_in x; second = registers_in x + 1 }) else None) ≡ Some own → IsOwn (all_registers_in x) own
    at_room true e same =
        let room = leb-true (registers_in x + OWN_REGISTERS) (all_registers_in x) e in
        subst (IsOwn (all_registers_in x)) (same_Some _ _ same) (omega (arith, room), omega (arith, room))
    at_room false e same = absurd (cc)

-- and the first of them is the one behind the host's
pub own_first : (x : HostHeap) (own : OwnRegisters) → own_in x ≡ Some own → own.first ≡ registers_in x
own_first x own is = at_room (nat_le (registers_in x + OWN_REGISTERS) (all_registers_in x)) is
  where
    at_room : (b : Bool) → (if b then Some (record { first = registers_in x; second = registers_in x + 1 }) else None) ≡ Some own → own.first ≡ registers_in x
    at_room true same = sym (ap (λ (o : OwnRegisters). o.first) (same_Some _ _ same))
    at_room false same = absurd (cc)

-- which the second follows
pub own_second : (x : HostHeap) (own : OwnRegisters) → own_in x ≡ Some own → own.second ≡ registers_in x + 1
own_second x own is = at_room (nat_le (registers_in x + OWN_REGISTERS) (all_registers_in x)) is
  where
    at_room : (b : Bool) → (if b then Some (record { first = registers_in x; second = registers_in x + 1 }) else None) ≡ Some own → own.second ≡ registers_in x + 1
    at_room true same = sym (ap (λ (o : OwnRegisters). o.second) (same_Some _ _ same))
    at_room false same = absurd (cc)

-- so is the first, where there is one
pub first_beyond : (x : HostHeap) (part : ℕ) → first_own x ≡ Some part → part ≡ registers_in x
first_beyond x part is = at_own (own_in x) refl is
  where
    at_own : (o : Option OwnRegisters) → own_in x ≡ o → option_map (λ (own : OwnRegisters). own.first) o ≡ Some part → part ≡ registers_in x
    at_own None e same = absurd (cc)
    at_own (Some own) e same = sym (same_Some own.first part same) ∙ own_first x own e
