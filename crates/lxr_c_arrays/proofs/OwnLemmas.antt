-- The library's own registers are nil after each call.
use Rattle.std.proofs.Common.{◌≡◌, ◌≢◌, ℕ, zero, suc, ◌+◌, ◌-◌, ◌*◌, ◌<◌, ◌≤◌, ◌⊎◌, ◌∙◌, refl, sym, ap, subst, arith, inl, inr, Bool, true, false, Option, Some, None, List, [], ◌∷◌, ◌++◌}
use Rattle.std.specs.Prelude.{⊤, Result, Ok, Err, min, nat_le, option_map, slice_get, if◌then◌else◌, ◌==◌}
use Rattle.std.proofs.lemmas.Option.{same_Some}
use Rattle.lxr_layout.specs.declared.Name.{Name}
use Rattle.lxr_graph.specs.declared.Op.TheVariants as op
use Rattle.lxr_graph.specs.declared.Reply.TheVariants as reply
use Rattle.lxr_graph.specs.State.{State, next_name, object_at, refs_of, register_at, values_of, with_new}
use Rattle.lxr_graph.specs.Step.{fresh, load_from, loaded, put_at, put_to, store_to, stored}
use Rattle.lxr_large_model.specs.declared.LargeOp.{LargeOp}
use Rattle.lxr_large_model.specs.declared.LargeOp.TheVariants as large_op
use Rattle.lxr_large_model.specs.declared.LargeReply.{LargeReply}
use Rattle.lxr_large_model.specs.declared.LargeReply.TheVariants as large_reply
use Rattle.lxr_large_model.specs.History.{LargeItem, large_state}
use Rattle.lxr_large_model.specs.State.{LargeState}
use Rattle.lxr_large_model.specs.Step.{large_after}
use Rattle.lxr_c_base.specs.declared.codes.Code.{Code}
use Rattle.lxr_c_base.specs.declared.codes.Code.TheVariants as code
use Rattle.lxr_c_heap.specs.declared.host.HostHeap.{HostHeap}
use Rattle.lxr_c_heap.specs.declared.host.TheConstants.{ENDS}
use Rattle.lxr_c_heap.specs.declared.own.OwnRegisters.{OwnRegisters}
use Rattle.lxr_c_heap.specs.declared.settings.TheConstants.{OWN_REGISTERS}
use Rattle.lxr_c_heap.specs.Hosting.{IsHostOf, all_registers_in, own_in, registers_in}
use Rattle.lxr_c_heap.proofs.RegisterLemmas.{made_all, made_keeps, replied_all, replied_keeps, stored_all, stored_keeps}
use Rattle.lxr_c_many.specs.declared.applying.Told.{Told}
use Rattle.lxr_c_many.specs.declared.asked.Asked.{Asked}
use Rattle.lxr_c_many.specs.declared.asked.Asked.TheVariants as asked
use Rattle.lxr_c_many.specs.Applying.{Performs}
use Rattle.lxr_c_many.proofs.ApplyLemmas.{performs_host}
use Rattle.lxr_c_many.proofs.MakingLemmas.{all_registers}
use Rattle.lxr_c_arrays.specs.declared.copying.Copying.{Copying}
use Rattle.lxr_c_arrays.specs.declared.making.NewArray.{NewArray}
use Rattle.lxr_c_arrays.specs.declared.registers.Pair.{Pair}
use Rattle.lxr_c_arrays.specs.declared.side.Side.{Side}
use Rattle.lxr_c_arrays.specs.declared.side.Side.TheVariants as side
use Rattle.lxr_c_arrays.specs.declared.side.TheConstants.{PART}
use Rattle.lxr_c_arrays.specs.Elements.{as_named}
use Rattle.lxr_c_arrays.specs.Operations.{new_of, nil_of}
use Rattle.lxr_c_arrays.specs.Own.{ArraysKeepNil, KeepNil, OwnAreNil, StayNil}
use Rattle.lxr_c_arrays.specs.Plans.{IsPair, copy_by, copy_checked, copying, copying_of, enters, fill_steps, filling, first_own, loading, making, own_nil, parts_plan, planned, storing}
use Rattle.lxr_c_arrays.specs.Running.{Carries, Plan, Runs, SameRegisters, in_turn}
use Rattle.lxr_c_arrays.specs.Sides.{check_steps, checks, entering, last_of, load_steps, parts_between, parts_side, range_held, range_of, references_held, root_length, side_by, side_of, store_steps}
use Rattle.lxr_c_arrays.proofs.ElementLemmas.{changed_register, few_registers, nil_last, other_register}
use Rattle.lxr_c_arrays.proofs.PlanLemmas.{own_first, own_second, own_there}
use Rattle.lxr_c_arrays.proofs.RunLemmas.{runs_host, same_none, same_on}
use Rattle.lxr_c_arrays.proofs.SettleLemmas.{paused_state, settling, turned_state}

-- ---- one operation

-- an operation of an array leaves a register as it is: it gives another one something, or none
abbrev pub Spares : LargeOp → ℕ → Type 0
Spares (large_op.Small (op.New dest shape)) q = q ≢ dest
Spares (large_op.Small (op.Load dest base index)) q = q ≢ dest
Spares (large_op.Small (op.Store base index source)) q = ⊤
Spares (large_op.Small (op.Put base index value)) q = ⊤
Spares (large_op.Small (op.Move dest source)) q = q ≢ dest
Spares (large_op.Small (op.Nil dest)) q = q ≢ dest
Spares o q = ⊥

abbrev pub SparesAsked : Asked → ℕ → Type 0
SparesAsked (asked.Make o) q = Spares o q
SparesAsked (asked.Store o) q = Spares o q
SparesAsked (asked.Reply o) q = Spares o q
SparesAsked a q = ⊥

-- a register is nil in a state
abbrev pub IsNil : LargeState → ℕ → Type 0
IsNil s q = register_at s.small 1 q ≡ None

load_spares : (s : State) (dest index q : ℕ) (held : Option Name) → q ≢ dest → register_at (load_from s 1 dest index held).0 1 q ≡ register_at s 1 q
load_spares s dest index q None apart = refl
load_spares s dest index q (Some n) apart = at_found (slice_get (refs_of (object_at s.graph n)) index)
  where
    at_found : (found : Option (Option Name)) → register_at (loaded s 1 dest found).0 1 q ≡ register_at s 1 q
    at_found None = refl
    at_found (Some v) = other_register s dest q v apart

store_spares : (s : State) (index q : ℕ) (v held : Option Name) → register_at (store_to s index v held).0 1 q ≡ register_at s 1 q
store_spares s index q v None = refl
store_spares s index q v (Some n) = at_found (slice_get (refs_of (object_at s.graph n)) index)
  where
    at_found : (found : Option (Option Name)) → register_at (stored s n index v found).0 1 q ≡ register_at s 1 q
    at_found None = refl
    at_found (Some old) = refl

put_spares : (s : State) (index value q : ℕ) (held : Option Name) → register_at (put_to s index value held).0 1 q ≡ register_at s 1 q
put_spares s index value q None = refl
put_spares s index value q (Some n) = at_found (slice_get (values_of (object_at s.graph n)) index)
  where
    at_found : (found : Option ℕ) → register_at (put_at s n index value found).0 1 q ≡ register_at s 1 q
    at_found None = refl
    at_found (Some old) = refl

pub after_spares : (s : LargeState) (o : LargeOp) (r : LargeReply) (q : ℕ) → Spares o q → register_at (large_after s o r).small 1 q ≡ register_at s.small 1 q
after_spares s (large_op.Small (op.New dest shape)) (large_reply.Small reply.Full) q apart = refl
after_spares s (large_op.Small (op.New dest shape)) r q apart =
    other_register (record s.small { graph = with_new s.small.graph 1 (fresh shape) }) dest q (Some (next_name s.small.graph 1)) apart
after_spares s (large_op.Small (op.Load dest base index)) r q apart = load_spares s.small dest index q (register_at s.small 1 base) apart
after_spares s (large_op.Small (op.Store base index source)) r q apart = store_spares s.small index q (register_at s.small 1 source) (register_at s.small 1 base)
after_spares s (large_op.Small (op.Put base index value)) r q apart = put_spares s.small index value q (register_at s.small 1 base)
after_spares s (large_op.Small (op.Move dest source)) r q apart = other_register s.small dest q (register_at s.small 1 source) apart
after_spares s (large_op.Small (op.Nil dest)) r q apart = other_register s.small dest q None apart
after_spares s o r q apart = absurd apart

-- nil has no name
pub nil_named : (names : Option (List Name)) → as_named names None ≡ None
nil_named None = refl
nil_named (Some ns) = refl

-- a register that is nil is so after an operation, whatever the state and the reply are
abbrev pub LeavesNil : LargeOp → ℕ → Type 0
LeavesNil o q = (s : LargeState) (r : LargeReply) → IsNil s q → IsNil (large_after s o r) q

abbrev pub AskedLeavesNil : Asked → ℕ → Type 0
AskedLeavesNil (asked.Make o) q = LeavesNil o q
AskedLeavesNil (asked.Store o) q = LeavesNil o q
AskedLeavesNil (asked.Reply o) q = LeavesNil o q
AskedLeavesNil a q = ⊤

-- so it is where the operation was done, with the pauses that came
pub performs_nil : (x y : HostHeap) (h k : List LargeItem) (a : Asked) (told : Told) (q : ℕ) → AskedLeavesNil a q → Performs x h a y k told → IsNil (large_state h) q → IsNil (large_state k) q
performs_nil x y h k (asked.Make o) told q leaves (r, makes, left, tells) nil =
    let b = makes.acts.history in
    let settled = settling ENDS x makes.settled h makes.settled_history makes.settles in
    let before : large_state b ≡ large_state makes.settled_history =
    paused_state o makes.paused makes.acts.middle makes.turns.history b makes.acts.pauses
    ∙ turned_state makes.settled makes.paused makes.settled_history makes.turns in
    ap (λ l. register_at (large_state l).small 1 q) left
    ∙ leaves (large_state b) r (ap (λ (z : LargeState). register_at z.small 1 q) before ∙ settled.registers q ∙ ap (as_named settled.names) nil ∙ nil_named settled.names)
performs_nil x y h k (asked.Store o) told q leaves (r, stores, left, tells) nil =
    let b = stores.acts.history in
    let settled = settling ENDS x stores.settled h stores.history stores.settles in
    let before : large_state b ≡ large_state stores.history = paused_state o stores.settled stores.acts.middle stores.history b stores.acts.pauses in
    ap (λ l. register_at (large_state l).small 1 q) left
    ∙ leaves (large_state b) r (ap (λ (z : LargeState). register_at z.small 1 q) before ∙ settled.registers q ∙ ap (as_named settled.names) nil ∙ nil_named settled.names)
performs_nil x y h k (asked.Reply o) told q leaves (r, replies, left, tells) nil = ap (λ l. register_at (large_state l).small 1 q) left ∙ leaves (large_state h) r nil
performs_nil x y h k (asked.See o) told q leaves (r, sees, same, left, tells) nil = ap (λ l. register_at (large_state l).small 1 q) left ∙ nil
performs_nil x y h k (asked.IsNil register) told q leaves (b, sees, same, left, tells) nil = ap (λ l. register_at (large_state l).small 1 q) left ∙ nil

spared_leave : (a : Asked) (q : ℕ) → SparesAsked a q → AskedLeavesNil a q
spared_leave (asked.Make o) q apart = λ s r nil. after_spares s o r q apart ∙ nil
spared_leave (asked.Store o) q apart = λ s r nil. after_spares s o r q apart ∙ nil
spared_leave (asked.Reply o) q apart = λ s r nil. after_spares s o r q apart ∙ nil
spared_leave (asked.See o) q apart = absurd apart
spared_leave (asked.IsNil register) q apart = absurd apart

performs_spares : (x y : HostHeap) (h k : List LargeItem) (a : Asked) (told : Told) (q : ℕ) → SparesAsked a q → Performs x h a y k told → IsNil (large_state h) q → IsNil (large_state k) q
performs_spares x y h k a told q apart = performs_nil x y h k a told q (spared_leave a q apart)

pub performs_same : (x y : HostHeap) (h k : List LargeItem) (a : Asked) (told : Told) → Performs x h a y k told → SameRegisters x y
performs_same x y h k (asked.Make o) told (r, makes, left, tells) = record { named = made_keeps x y h o r makes; all = made_all x y h o r makes }
performs_same x y h k (asked.Store o) told (r, stores, left, tells) = record { named = stored_keeps x y h o r stores; all = stored_all x y h o r stores }
performs_same x y h k (asked.Reply o) told (r, replies, left, tells) = record { named = replied_keeps x y h o r replies; all = replied_all x y h o r replies }
performs_same x y h k (asked.See o) told (r, sees, left, same, tells) = record { named = ap registers_in left; all = ap all_registers_in left }
performs_same x y h k (asked.IsNil register) told (nil, sees, left, same, tells) = record { named = ap registers_in left; all = ap all_registers_in left }

-- ---- operations in turn

abbrev pub AllSpare : List Asked → ℕ → Type 0
AllSpare [] q = ⊤
AllSpare (a ∷ ops) q = SparesAsked a q × AllSpare ops q

pub spare_on : (ops more : List Asked) (q : ℕ) → AllSpare ops q → AllSpare more q → AllSpare (ops ++ more) q
spare_on [] more q none after = after
spare_on (a ∷ ops) more q (one, before) after = (one, spare_on ops more q before after)

pub spare_turns : (f : ℕ → List Asked) (n q : ℕ) → ((i : ℕ) → AllSpare (f i) q) → AllSpare (in_turn f n) q
spare_turns f zero q each = tt
spare_turns f (suc n) q each = spare_on (in_turn f n) (f n) q (spare_turns f n q each) (each n)

runs_spare : (x y : HostHeap) (h k : List LargeItem) (ops : List Asked) (c : Code) (q : ℕ) → AllSpare ops q → Runs x h ops y k c → IsNil (large_state h) q → IsNil (large_state k) q
runs_spare x y h k [] c q none (same, left, done) nil = ap (λ l. register_at (large_state l).small 1 q) left ∙ nil
runs_spare x y h k (a ∷ ops) c q (one, all) (m, j, t, performs, inl (done, rest)) nil = runs_spare m y j k ops c q all rest (performs_spares x m h j a t q one performs nil)
runs_spare x y h k (a ∷ ops) c q (one, all) (m, j, t, performs, inr (failed, same, left, told)) nil = ap (λ l. register_at (large_state l).small 1 q) left ∙ performs_spares x m h j a t q one performs nil

runs_same : (x y : HostHeap) (h k : List LargeItem) (ops : List Asked) (c : Code) → Runs x h ops y k c → SameRegisters x y
runs_same x y h k [] c (same, left, done) = subst (SameRegisters x) (sym same) (same_none x)
runs_same x y h k (a ∷ ops) c (m, j, t, performs, inl (done, rest)) = same_on x m y (performs_same x m h j a t performs) (runs_same m y j k ops c rest)
runs_same x y h k (a ∷ ops) c (m, j, t, performs, inr (failed, same, left, told)) = subst (SameRegisters x) (sym same) (performs_same x m h j a t performs)

-- ---- the library's registers

pub own_same : (x y : HostHeap) → SameRegisters x y → own_in y ≡ own_in x
own_same x y same =
    ap (λ n. if nat_le (n + OWN_REGISTERS) (all_registers_in y) then Some (record { first = n; second = n + 1 }) else None) same.named
    ∙ ap (λ n. if nat_le (registers_in x + OWN_REGISTERS) n then Some (record { first = registers_in x; second = registers_in x + 1 }) else None) same.all

-- they stay nil where this history shows it
kept : (x y : HostHeap) (h k : List LargeItem) → KeepNil x h y k → StayNil x h y
kept x y h k keep = λ nil. let (host, own) = keep nil in (k, host, own)

-- a call that changes nothing does
unchanged : (x y : HostHeap) (h : List LargeItem) → IsHostOf x h → y ≡ x → StayNil x h y
unchanged x y h is same = λ nil. (h, subst (λ (z : HostHeap). IsHostOf z h) (sym same) is, subst (λ (z : HostHeap). OwnAreNil z h) (sym same) nil)

-- a call that spares them leaves them nil
spared : (x m y : HostHeap) (h j k : List LargeItem) (steps last : List Asked) (c d : Code) → IsHostOf x h → Runs x h steps m j c → Runs m j last y k d
    → ((q : ℕ) → registers_in x ≤ q → AllSpare steps q × AllSpare last q) → KeepNil x h y k
spared x m y h j k steps last c d is ran ended spares nil = (
  runs_host m y j k last d (runs_host x m h j steps c is ran) ended,
  λ own has.
      let same = same_on x m y (runs_same x m h j steps c ran) (runs_same m y j k last d ended) in
      let there : own_in x ≡ Some own = sym (own_same x y same) ∙ has in
      let one = own_first x own there in
      let two = own_second x own there in
      let (first, second) = nil own there in
      let low = spares own.first (omega (arith, one)) in
      let high = spares own.second (omega (arith, two)) in (
        runs_spare m y j k last d own.first low.1 ended (runs_spare x m h j steps c own.first low.0 ran first),
        runs_spare m y j k last d own.second high.1 ended (runs_spare x m h j steps c own.second high.0 ran second),
      ),
)

-- a register that became nil is
nil_ended : (x y : HostHeap) (h k : List LargeItem) (q : ℕ) → q < all_registers_in x → IsHostOf x h → Runs x h (nil_of q ∷ []) y k code.Done → IsNil (large_state k) q
nil_ended x y h k q room is ran =
    let few = few_registers x h is in
    let last = nil_last x y h k q is ran in
    ap (λ (z : LargeState). register_at z.small 1 q) last.1 ∙ changed_register (large_state h).small q None (all_registers x.heap h is.heap) (omega (arith, few, room))

-- a call that ends by making both nil
pub both_ended : (x m y : HostHeap) (h j k : List LargeItem) (own : OwnRegisters) (steps : List Asked) (c : Code) → IsHostOf x h → own_in x ≡ Some own → Runs x h steps m j c → Runs m j (own_nil own) y k code.Done → KeepNil x h y k
both_ended x m y h j k own steps c is there ran (n, l, t, performs, inl (done, rest)) nil =
    let host = runs_host x m h j steps c is ran in
    let before = runs_same x m h j steps c ran in
    let once = performs_same m n j l (nil_of own.first) t performs in
    let after = runs_same n y l k (nil_of own.second ∷ []) code.Done rest in
    let room = own_there x own there in
    let one = own_first x own there in
    let two = own_second x own there in
    let middle = performs_host m n j l (nil_of own.first) t host performs in
    let all = before.all in
    let more = once.all in
    let first : IsNil (large_state l) own.first = nil_ended m n j l own.first (omega (arith, room, all)) host (n, l, t, performs, inl (done, (refl, refl, refl))) in
    let apart : own.first ≢ own.second = λ e. omega (arith, e, one, two) in (
      runs_host n y l k (nil_of own.second ∷ []) code.Done middle rest,
      λ other has.
          let same : own_in y ≡ own_in x = own_same x y (same_on x n y (same_on x m n before once) after) in
          subst (λ (o : OwnRegisters). IsNil (large_state k) o.first × IsNil (large_state k) o.second) (same_Some own other (sym there ∙ sym same ∙ has))
          (runs_spare n y l k (nil_of own.second ∷ []) code.Done own.first (apart, tt) rest first, nil_ended n y l k own.second (omega (arith, room, all, more)) middle rest),
    )
both_ended x m y h j k own steps c is there ran (n, l, t, performs, inr (failed, same, left, told)) nil = absurd (failed (sym told))

-- a call that ends by making the first nil, and spares the other
first_ended : (x m y : HostHeap) (h j k : List LargeItem) (own : OwnRegisters) (steps : List Asked) (c : Code) → IsHostOf x h → own_in x ≡ Some own → Runs x h steps m j c → Runs m j (nil_of own.first ∷ []) y k code.Done
    → AllSpare steps own.second → KeepNil x h y k
first_ended x m y h j k own steps c is there ran ended spares nil =
    let host = runs_host x m h j steps c is ran in
    let before = runs_same x m h j steps c ran in
    let after = runs_same m y j k (nil_of own.first ∷ []) code.Done ended in
    let room = own_there x own there in
    let one = own_first x own there in
    let two = own_second x own there in
    let all = before.all in
    let apart : own.second ≢ own.first = λ e. omega (arith, e, one, two) in (
      runs_host m y j k (nil_of own.first ∷ []) code.Done host ended,
      λ other has.
          let same : own_in y ≡ own_in x = own_same x y (same_on x m y before after) in
          subst (λ (o : OwnRegisters). IsNil (large_state k) o.first × IsNil (large_state k) o.second) (same_Some own other (sym there ∙ sym same ∙ has)) (
            nil_ended m y j k own.first (omega (arith, room, all)) host ended,
            runs_spare m y j k (nil_of own.first ∷ []) code.Done own.second (apart, tt) ended (runs_spare x m h j steps c own.second spares ran (nil own there).1),
          ),
    )

-- ---- sides

-- a call takes an array by the register that holds it, and a root with the first of the library's registers
abbrev pub IsSideOf : HostHeap → ℕ → Side → Type 0
IsSideOf x array a = (a ≡ side.Whole array) ⊎ ((own : OwnRegisters) × (own_in x ≡ Some own) × (a ≡ side.Parts array own.first))

same_Ok : (a b : Side) → ◌≡◌ {A = Result Side Code} (Ok a) (Ok b) → a ≡ b
same_Ok a b same = cc

parts_cases : (x : HostHeap) (elements array end : ℕ) (a : Side) → parts_side elements (first_own x) array end ≡ Ok a → IsSideOf x array a
parts_cases x elements array end a = at_own (own_in x) refl
  where
    at_own : (o : Option OwnRegisters) → own_in x ≡ o → parts_side elements (option_map (λ (own : OwnRegisters). own.first) o) array end ≡ Ok a → IsSideOf x array a
    at_own None none same = absurd (cc)
    at_own (Some own) there same = at_end (nat_le end elements) same
      where
        at_end : (b : Bool) → (if b then Ok (side.Parts array own.first) else Err code.Index) ≡ Ok a → IsSideOf x array a
        at_end true is = inr (own, there, sym (same_Ok (side.Parts array own.first) a is))
        at_end false is = absurd (cc)

pub side_cases : (x : HostHeap) (s : LargeState) (array index : ℕ) (a : Side) → side_of s (first_own x) array index ≡ Ok a → IsSideOf x array a
side_cases x s array index a = at_root (root_length s array)
  where
    at_root : (root : Option ℕ) → side_by root (first_own x) array index ≡ Ok a → IsSideOf x array a
    at_root None same = inl (sym (same_Ok (side.Whole array) a same))
    at_root (Some elements) same = parts_cases x elements array (index + 1) a same

pub range_cases : (x : HostHeap) (s : LargeState) (array first count : ℕ) (a : Side) → range_of s (first_own x) array first count ≡ Ok a → IsSideOf x array a
range_cases x s array first count a = at_held (references_held s array) (root_length s array)
  where
    at_held : (held root : Option ℕ) → range_held held root (first_own x) array (first + count) ≡ Ok a → IsSideOf x array a
    at_held None root same = absurd (cc)
    at_held (Some references) None same = at_end (nat_le (first + count) references) same
      where
        at_end : (b : Bool) → (if b then Ok (side.Whole array) else Err code.Index) ≡ Ok a → IsSideOf x array a
        at_end true is = inl (sym (same_Ok (side.Whole array) a is))
        at_end false is = absurd (cc)
    at_held (Some references) (Some elements) same = parts_cases x (min elements (PART * references)) array (first + count) a same

-- a register that a side doesn't take a part in hand with
abbrev pub IsApart : Side → ℕ → Type 0
IsApart (side.Whole array) q = ⊤
IsApart (side.Parts root part) q = q ≢ part

pub entering_spares : (a : Side) (enters : Bool) (i q : ℕ) → IsApart a q → AllSpare (entering a enters i) q
entering_spares (side.Whole array) true i q apart = tt
entering_spares (side.Parts root part) true i q apart = (apart, tt)
entering_spares a false i q apart = tt

pub loads_spare : (a : Side) (dest i q : ℕ) → IsApart a q → q ≢ dest → AllSpare (load_steps a dest i) q
loads_spare (side.Whole array) dest i q apart other = (other, tt)
loads_spare (side.Parts root part) dest i q apart other = (apart, (other, tt))

pub stores_spare : (a : Side) (enters : Bool) (i source q : ℕ) → IsApart a q → AllSpare (store_steps a enters i source) q
stores_spare a enters i source q apart = spare_on (entering a enters i) _ q (entering_spares a enters i q apart) (tt, tt)

pub checks_spare : (a : Side) (first count q : ℕ) → IsApart a q → AllSpare (checks a first count) q
checks_spare (side.Whole array) first count q apart = tt
checks_spare (side.Parts root part) first count q apart = at_none (count == 0)
  where
    at_none : (b : Bool) → AllSpare (if b then [] else in_turn (check_steps root part first (first + count - 1)) (parts_between first (first + count - 1))) q
    at_none true = tt
    at_none false = spare_turns (check_steps root part first (first + count - 1)) (parts_between first (first + count - 1)) q (λ i. (apart, (apart, tt)))

-- a call that takes an array in hand, does steps that spare the registers it doesn't need, and lets go of it
pub side_ended : (x m y : HostHeap) (h j k : List LargeItem) (array : ℕ) (a : Side) (steps : List Asked) (c : Code) → IsHostOf x h → IsSideOf x array a → Runs x h steps m j c → Runs m j (last_of a) y k code.Done
    → ((q : ℕ) → registers_in x ≤ q → IsApart a q → AllSpare steps q) → KeepNil x h y k
side_ended x m y h j k array a steps c is (inl whole) ran ended spares =
    spared x m y h j k steps [] c code.Done is ran (subst (λ b. Runs m j (last_of b) y k code.Done) whole ended)
    (λ q more. (spares q more (subst (λ b. IsApart b q) (sym whole) tt), tt))
side_ended x m y h j k array a steps c is (inr (own, there, parts)) ran ended spares =
    let one = own_first x own there in
    let two = own_second x own there in
    first_ended x m y h j k own steps c is there ran (subst (λ b. Runs m j (last_of b) y k code.Done) parts ended)
    (spares own.second (omega (arith, two)) (subst (λ b. IsApart b own.second) (sym parts) (let apart : own.second ≢ own.first = λ e. omega (arith, e, one, two) in apart)))

-- so with what is planned for a side that is found
side_carried : (x y : HostHeap) (h : List LargeItem) (array : ℕ) (plan : Side → Plan) (found : Result Side Code) (told : Code) → IsHostOf x h → ((a : Side) → found ≡ Ok a → IsSideOf x array a)
    → ((a : Side) → (plan a).last ≡ last_of a) → ((a : Side) (q : ℕ) → registers_in x ≤ q → IsApart a q → AllSpare (plan a).steps q) → Carries x y h (planned plan found) told → StayNil x h y
side_carried x y h array plan (Err e) told is there last spares (tells, same) = unchanged x y h is same
side_carried x y h array plan (Ok a) told is there last spares (m, j, k, ran, ended) =
    kept x y h k (side_ended x m y h j k array a (plan a).steps told is (there a refl) ran (subst (λ ops. Runs m j ops y k code.Done) (last a) ended) (spares a))

-- ---- calls

-- what is planned spares each register of the library's that it doesn't take a part in hand with
pub loading_spares : (registers index : ℕ) (pair : Pair) → IsPair registers pair → (a : Side) (q : ℕ) → registers ≤ q → IsApart a q → AllSpare (load_steps a pair.other index) q
loading_spares registers index pair fits a q more apart = loads_spare a pair.other index q apart (let other : q ≢ pair.other = λ e. let small = fits.1 in omega (arith, e, more, small) in other)

pub storing_spares : (registers index : ℕ) (pair : Pair) (a : Side) (q : ℕ) → registers ≤ q → IsApart a q → AllSpare (store_steps a true index pair.other) q
storing_spares registers index pair a q more apart = stores_spare a true index pair.other q apart

pub filling_spares : (registers first count : ℕ) (pair : Pair) (a : Side) (q : ℕ) → registers ≤ q → IsApart a q → AllSpare (checks a first count ++ in_turn (fill_steps a first pair.other) count) q
filling_spares registers first count pair a q more apart =
    spare_on (checks a first count) (in_turn (fill_steps a first pair.other) count) q (checks_spare a first count q apart)
    (spare_turns (fill_steps a first pair.other) count q (λ n. stores_spare a (enters false n (first + n)) (first + n) pair.other q apart))

-- an array of one object is made in a register of the host's
pub whole_made : (x m y : HostHeap) (h j k : List LargeItem) (wanted : NewArray) (told : Code) → IsHostOf x h → wanted.dest < registers_in x → Runs x h (new_of wanted.dest wanted.length 0 ∷ []) m j told → Runs m j [] y k code.Done → KeepNil x h y k
whole_made x m y h j k wanted told is small ran ended =
    spared x m y h j k (new_of wanted.dest wanted.length 0 ∷ []) [] told code.Done is ran ended (λ q more. ((let apart : q ≢ wanted.dest = λ e. omega (arith, e, more, small) in (apart, tt)), tt))

made : (x y : HostHeap) (h : List LargeItem) (wanted : NewArray) (told : Code) (b : Bool) → IsHostOf x h → wanted.dest < registers_in x
    → Carries x y h (if b then Ok (record { steps = new_of wanted.dest wanted.length 0 ∷ []; last = [] }) else parts_plan (own_in x) wanted) told → StayNil x h y
made x y h wanted told true is small (m, j, k, ran, ended) =
    kept x y h k (whole_made x m y h j k wanted told is small ran ended)
made x y h wanted told false is small carried = at_own (own_in x) refl carried
  where
    at_own : (o : Option OwnRegisters) → own_in x ≡ o → Carries x y h (parts_plan o wanted) told → StayNil x h y
    at_own None none (tells, same) = unchanged x y h is same
    at_own (Some own) there (m, j, k, ran, ended) = kept x y h k (both_ended x m y h j k own (making wanted own).steps told is there ran ended)

copied : (x y : HostHeap) (h : List LargeItem) (at first count : ℕ) (pair : Pair) (told : Code) → IsHostOf x h → Carries x y h (copy_by (own_in x) (large_state h) at first count pair) told → StayNil x h y
copied x y h at first count pair told is carried = at_own (own_in x) refl carried
  where
    at_own : (o : Option OwnRegisters) → own_in x ≡ o → Carries x y h (copy_by o (large_state h) at first count pair) told → StayNil x h y
    at_own None none (tells, same) = unchanged x y h is same
    at_own (Some own) there carried = at_found (copying_of (large_state h) own pair at first count) carried
      where
        at_found : (found : Result Copying Code) → Carries x y h (planned (copying own) found) told → StayNil x h y
        at_found (Err e) (tells, same) = unchanged x y h is same
        at_found (Ok c) (m, j, k, ran, ended) = kept x y h k (both_ended x m y h j k own (copy_checked c) told is there ran ended)

pub arrays_keep_nil : ArraysKeepNil
arrays_keep_nil = record {
  made = λ x y h wanted told is fits carried. made x y h wanted told (nat_le wanted.length PART) is fits.0 carried;
  loaded = λ x y h index pair told is fits carried.
      side_carried x y h pair.array (loading pair index) (side_of (large_state h) (first_own x) pair.array index) told is (λ a found. side_cases x (large_state h) pair.array index a found) (λ a. refl)
      (loading_spares (registers_in x) index pair fits) carried;
  stored = λ x y h index pair told is fits carried.
      side_carried x y h pair.array (storing pair index) (side_of (large_state h) (first_own x) pair.array index) told is (λ a found. side_cases x (large_state h) pair.array index a found) (λ a. refl)
      (storing_spares (registers_in x) index pair) carried;
  filled = λ x y h first count pair told is fits carried.
      side_carried x y h pair.array (filling pair first count) (range_of (large_state h) (first_own x) pair.array first count) told is (λ a found. range_cases x (large_state h) pair.array first count a found) (λ a. refl)
      (filling_spares (registers_in x) first count pair) carried;
  copied = λ x y h at first count pair told is fits carried. copied x y h at first count pair told is carried;
}
