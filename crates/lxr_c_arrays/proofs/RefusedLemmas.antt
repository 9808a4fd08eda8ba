-- A fill and a copy of whole arrays do all, or change nothing.
use Rattle.std.proofs.Common.{◌≡◌, ◌≢◌, ℕ, zero, suc, ◌+◌, ◌<◌, ◌≤◌, ◌⊎◌, ◌∙◌, refl, sym, ap, subst, arith, inl, inr, Bool, true, false, Option, Some, None, List, [], ◌∷◌, ◌++◌, length}
use Rattle.std.specs.Prelude.{nat_lt, option_map, slice_get, slice_index_or, unwrap_or, if◌then◌else◌, Result, Ok}
use Rattle.std.proofs.lemmas.Bool.{lt-ltb}
use Rattle.std.proofs.lemmas.Option.{slice_get-get_or, slice_get_within}
use Rattle.lxr_layout.specs.declared.Name.{Name}
use Rattle.lxr_layout.specs.declared.TheConstants.{REGISTERS}
use Rattle.lxr_graph.specs.declared.Op.TheVariants as op
use Rattle.lxr_graph.specs.State.{object_at, refs_of, register_at}
use Rattle.lxr_graph.specs.Step.{load_from, loaded, store_to, stored}
use Rattle.lxr_large_model.specs.declared.LargeOp.TheVariants as large_op
use Rattle.lxr_large_model.specs.declared.LargeReply.TheVariants as large_reply
use Rattle.lxr_large_model.specs.History.{LargeItem, large_state}
use Rattle.lxr_large_model.specs.State.{LargeState}
use Rattle.lxr_c_base.specs.Codes.{code_of}
use Rattle.lxr_c_base.specs.Requests.{index_of}
use Rattle.lxr_c_base.specs.declared.codes.Code.{Code}
use Rattle.lxr_c_base.specs.declared.codes.Code.TheVariants as code
use Rattle.lxr_c_heap.specs.declared.host.HostHeap.{HostHeap}
use Rattle.lxr_c_heap.specs.declared.host.TheConstants.{ENDS}
use Rattle.lxr_c_heap.specs.declared.own.OwnRegisters.{OwnRegisters}
use Rattle.lxr_c_heap.specs.Hosting.{IsHostOf, own_in, registers_in}
use Rattle.lxr_c_many.specs.Fields.{references_in}
use Rattle.lxr_c_many.specs.declared.applying.Told.{Told}
use Rattle.lxr_c_many.specs.declared.asked.Asked.{Asked}
use Rattle.lxr_c_many.proofs.LogLemmas.{references_few}
use Rattle.lxr_c_arrays.specs.declared.copying.Copying.{Copying}
use Rattle.lxr_c_arrays.specs.declared.registers.Pair.{Pair}
use Rattle.lxr_c_arrays.specs.declared.side.Side.{Side}
use Rattle.lxr_c_arrays.specs.declared.side.Side.TheVariants as side
use Rattle.lxr_c_arrays.specs.Elements.{WholeCallsDoAll, as_named, as_renamed}
use Rattle.lxr_c_arrays.specs.Operations.{load_of, store_of}
use Rattle.lxr_c_arrays.specs.Plans.{CopiesElements, FillsElements, IsPair, copy_by, copy_steps, copying, copying_by, enters, fill_steps, filling, first_own, planned, round_of}
use Rattle.lxr_c_arrays.specs.Running.{Carries, Runs, in_turn}
use Rattle.lxr_c_arrays.specs.Sides.{range_held, root_length}
use Rattle.lxr_c_arrays.proofs.CopyLemmas.{Copies, IsSource, Left, Written, copy_rounds, none_copied, of_object, range_cases, round_small, source_kept, source_left, source_words}
use Rattle.lxr_c_arrays.proofs.ElementLemmas.{few_registers, load_first}
use Rattle.lxr_c_arrays.proofs.FillLemmas.{fill_rounds, whole_steps}
use Rattle.lxr_c_arrays.proofs.LeftLemmas.{mapped_at, reference_at, whole_at}
use Rattle.lxr_c_arrays.proofs.PlanLemmas.{own_second, own_there}
use Rattle.lxr_c_arrays.proofs.RootFillLemmas.{Beside, beside_with, same_refs}
use Rattle.lxr_c_arrays.proofs.RunLemmas.{runs_host}
use Rattle.lxr_c_arrays.proofs.SettleLemmas.{Settled, paused_state, settling}
use Rattle.lxr_c_arrays.proofs.StoreLemmas.{root_by}

-- operations in turn were done up to some, and the others follow, or one of these was the last
runs_cases : (x y : HostHeap) (h k : List LargeItem) (ops more : List Asked) (c : Code) → Runs x h (ops ++ more) y k c
    → ((m : HostHeap) × (j : List LargeItem) × Runs x h ops m j code.Done × Runs m j more y k c) ⊎ (Runs x h ops y k c × (c ≢ code.Done))
runs_cases x y h k [] more c ran = inl (x, h, (refl, refl, refl), ran)
runs_cases x y h k (a ∷ ops) more c (n, l, t, performs, inl (done, rest)) = elim (runs_cases n y l k ops more c rest) [
  | inl (m, j, before, behind) ↦ inl (m, j, (n, l, t, performs, inl (done, before)), behind)
  | inr (before, failed) ↦ inr ((n, l, t, performs, inl (done, before)), failed)
]
runs_cases x y h k (a ∷ ops) more c (n, l, t, performs, inr (failed, same, left, told)) = inr ((n, l, t, performs, inr (failed, same, left, told)), λ done. failed (sym told ∙ done))

-- ---- one operation

-- a reference that is there, and whose it is
record IsThere (s : LargeState) (base i : ℕ) (v : Option Name) : Type 0 where
  name : Name
  held : register_at s.small 1 base ≡ Some name
  there : slice_get (refs_of (object_at s.small.graph name)) i ≡ Some v

found_there : (s : LargeState) (base i : ℕ) (v : Option Name) → reference_at s base i ≡ Some v → IsThere s base i v
found_there s base i v found = at_held (register_at s.small 1 base) refl found
  where
    at_held : (o : Option Name) → register_at s.small 1 base ≡ o → slice_get (unwrap_or (option_map (λ n. refs_of (object_at s.small.graph n)) o) []) i ≡ Some v → IsThere s base i v
    at_held None e none = absurd (cc)
    at_held (Some n) e there = record { name = n; held = e; there = there }

-- its index stays what it is
index_there : (x : HostHeap) (h : List LargeItem) (base i : ℕ) (v : Option Name) → IsHostOf x h → base < REGISTERS → reference_at (large_state h) base i ≡ Some v → index_of i ≡ i
index_there x h base i v is small found =
    let there = found_there (large_state h) base i v found in
    let refs : List (Option Name) = refs_of (object_at (large_state h).small.graph there.name) in
    let inside = slice_get_within refs i v there.there in
    let few : length refs ≤ 1023 = references_few x.heap h is.heap base (length refs) small (record { name = there.name; held = there.held; within = let same : length refs ≤ length refs = omega arith in same }) in
    let less : i < 65536 = omega (arith, few, inside) in
    ap (λ b. if b then i else 65535) (lt-ltb i 65536 less)

-- a load of it succeeds
load_told : (x y : HostHeap) (h k : List LargeItem) (dest base i : ℕ) (v : Option Name) (ops : List Asked) (c : Code) → reference_at (large_state h) base i ≡ Some v → index_of i ≡ i → Runs x h (load_of dest base (index_of i) ∷ ops) y k c
    → (m : HostHeap) × (j : List LargeItem) × Runs x h (load_of dest base (index_of i) ∷ []) m j code.Done × Runs m j ops y k c
load_told x y h k dest base i v ops c found index (m, j, t, performs, inl (done, rest)) = (m, j, (m, j, t, performs, inl (done, (refl, refl, refl))), rest)
load_told x y h k dest base i v ops c found index (m, j, t, (r, replies, left, told), inr (failed, same, end, tells)) =
    let s : LargeState = large_state h in
    let there = found_there s base i v found in
    let step : code_of (large_reply.Small (load_from s.small 1 dest (index_of i) (register_at s.small 1 base)).1) ≡ code.Done =
    ap (λ q. code_of (large_reply.Small (load_from s.small 1 dest (index_of i) q).1)) there.held ∙ ap (λ a. code_of (large_reply.Small (loaded s.small 1 dest (slice_get (refs_of (object_at s.small.graph there.name)) a)).1)) index
    ∙ ap (λ q. code_of (large_reply.Small (loaded s.small 1 dest q).1)) there.there in
    absurd (failed (ap (λ (u : Told). u.code) told ∙ sym (ap code_of replies.heap.holds.legal.1.reply) ∙ step))

-- so does a store to it
store_told : (x y : HostHeap) (h k : List LargeItem) (base i source : ℕ) (v : Option Name) (c : Code) → reference_at (large_state h) base i ≡ Some v → index_of i ≡ i → Runs x h (store_of base (index_of i) source ∷ []) y k c → c ≡ code.Done
store_told x y h k base i source v c found index (m, j, t, performs, inl (done, (same, end, tells))) = tells
store_told x y h k base i source v c found index (m, j, t, (r, stores, left, told), inr (failed, same, end, tells)) =
    let l = stores.acts.history in
    let b : LargeState = large_state l in
    let before : b ≡ large_state stores.history = paused_state (large_op.Small (op.Store base (index_of i) source)) stores.settled stores.acts.middle stores.history l stores.acts.pauses in
    let settled : Settled (large_state h) b = subst (Settled (large_state h)) (sym before) (settling ENDS x stores.settled h stores.history stores.settles) in
    let f = as_named settled.names in
    let now : reference_at b base i ≡ Some (f v) = ap (λ vs. slice_get (unwrap_or vs []) i) (settled.references base) ∙ mapped_at f (references_in (large_state h) base) i ∙ ap (option_map f) found in
    let there = found_there b base i (f v) now in
    let w = register_at b.small 1 source in
    let step : code_of (large_reply.Small (store_to b.small (index_of i) w (register_at b.small 1 base)).1) ≡ code.Done =
    ap (λ q. code_of (large_reply.Small (store_to b.small (index_of i) w q).1)) there.held ∙ ap (λ a. code_of (large_reply.Small (stored b.small there.name (index_of i) w (slice_get (refs_of (object_at b.small.graph there.name)) a)).1)) index
    ∙ ap (λ q. code_of (large_reply.Small (stored b.small there.name (index_of i) w q).1)) there.there in
    absurd (failed (ap (λ (u : Told). u.code) told ∙ sym (ap code_of stores.acts.replies.heap.holds.legal.1.reply) ∙ step))

-- ---- rounds

-- there are so many references of what a register holds
abbrev AreMany : LargeState → ℕ → ℕ → Type 0
AreMany s base end = (i : ℕ) → i < end → (v : Option Name) × (reference_at s base i ≡ Some v)

many_there : (s : LargeState) (base end : ℕ) → end ≤ length (unwrap_or (references_in s base) []) → AreMany s base end
many_there s base end within i less = (slice_index_or (unwrap_or (references_in s base) []) i None, slice_get-get_or (unwrap_or (references_in s base) []) i None (omega (arith, less, within)))

-- what is there stays there by other names
there_after : (s u : LargeState) (base other i : ℕ) (v : Option Name) (renewals : List (List Name)) → reference_at u base i ≡ option_map (as_renamed renewals) (reference_at s other i) → reference_at s other i ≡ Some v → reference_at u base i ≡ Some (as_renamed renewals v)
there_after s u base other i v renewals same there = same ∙ ap (option_map (as_renamed renewals)) there

fill_told : (x y : HostHeap) (h k : List LargeItem) (first count n : ℕ) (pair : Pair) (c : Code) → IsHostOf x h → IsPair (registers_in x) pair → AreMany (large_state h) pair.array (first + count) → n ≤ count
    → Runs x h (in_turn (fill_steps (side.Whole pair.array) first pair.other) n) y k c → c ≡ code.Done
fill_told x y h k first count zero pair c is fits many few (same, left, done) = done
fill_told x y h k first count (suc n) pair c is fits many few ran =
    let steps = fill_steps (side.Whole pair.array) first pair.other in
    let known = few_registers x h is in
    let array = fits.0 in
    elim (runs_cases x y h k (in_turn steps n) (steps n) c ran) [
      | inl (m, j, before, last) ↦
          let host = runs_host x m h j (in_turn steps n) code.Done is before in
          let fills = fill_rounds x m h j (registers_in x) first n pair is fits (omega (arith, known)) before in
          let (v, there) = many (first + n) (omega (arith, few)) in
          let now = there_after (large_state h) (large_state j) pair.array pair.array (first + n) v fills.renewals (fills.others (first + n) (inr (omega arith))) there in
          store_told m y j k pair.array (first + n) pair.other (as_renamed fills.renewals v) c now (index_there m j pair.array (first + n) (as_renamed fills.renewals v) host (omega (arith, array, known)) now)
          (subst (λ ops. Runs m j ops y k c) (whole_steps _ pair.array (first + n) pair.other) last)
      | inr (before, failed) ↦ absurd (failed (fill_told x y h k first count n pair c is fits many (omega (arith, few)) before))
    ]

-- an element is still to be copied in its round
left_now : (up : Bool) (at count n : ℕ) → n < count → Left up at count n (at + round_of up count n)
left_now true at count n less = inl (omega (arith, less))
left_now false at count n less = inr (omega arith)

module _ (registers at first count own : ℕ) (pair : Pair) (s : LargeState) (fits : IsPair registers pair) (few : registers ≤ own) (room : own < REGISTERS) (none : root_length s pair.array ≡ None) (plain : root_length s pair.other ≡ None)
    (to : AreMany s pair.array (at + count)) (from : AreMany s pair.other (first + count)) where
  abbrev c : Copying
  c = record { to = side.Whole pair.array; at = at; from = side.Whole pair.other; first = first; count = count; element = own }

  abbrev up : Bool
  up = nat_lt first at

  source : IsSource own pair s (side.Whole pair.other)
  source = of_object refl plain

  no_root : (all : ℕ) → root_length s pair.other ≡ Some all → first + count ≤ all
  no_root all root = absurd (let wrong : None ≡ Some all = sym plain ∙ root in cc)

  copy_told : (x y : HostHeap) (h k : List LargeItem) (n : ℕ) (told : Code) → IsHostOf x h → large_state h ≡ s → n ≤ count → Runs x h (in_turn (copy_steps c) n) y k told → told ≡ code.Done
  copy_told x y h k zero told is same within (stays, left, done) = done
  copy_told x y h k (suc n) told is same within ran = elim (runs_cases x y h k (in_turn (copy_steps c) n) (copy_steps c n) told ran) [
    | inl (m, j, before, last) ↦
        let r = round_of up count n in
        let u : LargeState = large_state j in
        let less : n < count = omega (arith, within) in
        let small = round_small up count n less in
        let host = runs_host x m h j (in_turn (copy_steps c) n) code.Done is before in
        let begun = subst (Copies registers at first (Written up at count 0) (Left up at count 0) pair s) (sym same) (none_copied registers at first count up pair s) in
        let copies = copy_rounds registers at first count own pair (side.Whole pair.other) s fits few room none source no_root x m h j n is begun (omega (arith, within)) before in
        let f = as_renamed copies.renewals in
        let array = fits.0 in
        let other = fits.1 in
        let (v, there) = from (first + r) (omega (arith, small)) in
        let (w, there_to) = to (at + r) (omega (arith, small)) in
        let plain_u : root_length u pair.other ≡ None = root_by s u pair.other (source_words registers at first (Written up at count n) (Left up at count n) pair s u fits none copies) ∙ plain in
        let now : reference_at u pair.other (first + r) ≡ Some (f v) =
        sym (whole_at u pair.other (first + r) plain_u) ∙ source_kept registers at first (Written up at count n) (Left up at count n) pair s u fits none copies own (side.Whole pair.other) source (first + r) (source_left up at first count n refl less)
        ∙ ap (option_map f) (whole_at s pair.other (first + r) plain ∙ there) in
        let (m2, j2, one, rest) = load_told m y j k own pair.other (first + r) (f v) (store_of pair.array (index_of (at + r)) own ∷ []) told now (index_there m j pair.other (first + r) (f v) host (omega (arith, other, few, room)) now)
        (subst (λ ops. Runs m j (load_of own pair.other (index_of (first + r)) ∷ ops) y k told) (whole_steps (enters up n (at + r)) pair.array (at + r) own) last) in
        let host2 = runs_host m m2 j j2 (load_of own pair.other (index_of (first + r)) ∷ []) code.Done host one in
        let loads = load_first m m2 j j2 own pair.other (index_of (first + r)) [] host one in
        let t : LargeState = large_state j2 in
        let by : Beside own u t = subst (λ l. Beside own u (large_state l)) (sym loads.rest.1) (beside_with own u (large_state loads.history) loads.got.value loads.got.after) in
        let still : reference_at t pair.array (at + r) ≡ Some (f w) =
        ap (λ vs. slice_get (unwrap_or vs []) (at + r)) (same_refs own u t by pair.array (λ e. omega (arith, e, few, array))) ∙ copies.others (at + r) (left_now up at count n less) ∙ ap (option_map f) there_to in
        store_told m2 y j2 k pair.array (at + r) own (f w) told still (index_there m2 j2 pair.array (at + r) (f w) host2 (omega (arith, array, few, room)) still) rest
    | inr (before, failed) ↦ absurd (failed (copy_told x y h k n told is same (omega (arith, within)) before))
  ]

-- ---- the calls

module _ (x y : HostHeap) (h : List LargeItem) (pair : Pair) (told : Code) (is : IsHostOf x h) (fits : IsPair (registers_in x) pair) (none : root_length (large_state h) pair.array ≡ None) (failed : told ≢ code.Done) where
  abbrev s : LargeState
  s = large_state h

  filled : (first count : ℕ) → FillsElements first count x y h pair told → y ≡ x
  filled first count carried = elim (range_cases (references_in s pair.array) (root_length s pair.array) (first_own x) pair.array (first + count) none) [
    | inl whole ↦
        let (m, j, k, ran, ended) = subst (λ r. Carries x y h (planned (filling pair first count) r) told) whole.same carried in
        absurd (failed (fill_told x m h j first count count pair told is fits (many_there s pair.array (first + count) whole.within) (omega arith) ran))
    | inr (e, fails, same) ↦ (subst (λ r. Carries x y h (planned (filling pair first count) r) told) same carried).1
  ]

  copied : (at first count : ℕ) → root_length s pair.other ≡ None → CopiesElements at first count x y h pair told → y ≡ x
  copied at first count plain carried = at_own (own_in x) refl carried
    where
      to : OwnRegisters → Result Side Code
      to own = range_held (option_map length (references_in s pair.array)) (root_length s pair.array) (Some own.first) pair.array (at + count)

      from : OwnRegisters → Result Side Code
      from own = range_held (option_map length (references_in s pair.other)) (root_length s pair.other) (Some own.second) pair.other (first + count)

      at_from : (own : OwnRegisters) → own_in x ≡ Some own → at + count ≤ length (unwrap_or (references_in s pair.array) [])
          → Carries x y h (planned (copying own) (copying_by own at first count (Ok (side.Whole pair.array)) (from own))) told → y ≡ x
      at_from own has stored ran = elim (range_cases (references_in s pair.other) (root_length s pair.other) (Some own.second) pair.other (first + count) plain) [
        | inl whole ↦
            let (m, j, k, did, ended) = subst (λ r. Carries x y h (planned (copying own) (copying_by own at first count (Ok (side.Whole pair.array)) r)) told) whole.same ran in
            let few = few_registers x h is in
            let two = own_second x own has in
            let known = (own_there x own has).1 in
            absurd (failed (copy_told (registers_in x) at first count own.second pair s fits (omega (arith, two)) (omega (arith, few, known)) none plain
            (many_there s pair.array (at + count) stored) (many_there s pair.other (first + count) whole.within) x m h j count told is refl (omega arith) did))
        | inr (e, fails, same) ↦ (subst (λ r. Carries x y h (planned (copying own) (copying_by own at first count (Ok (side.Whole pair.array)) r)) told) same ran).1
      ]

      at_to : (own : OwnRegisters) → own_in x ≡ Some own → Carries x y h (planned (copying own) (copying_by own at first count (to own) (from own))) told → y ≡ x
      at_to own has ran = elim (range_cases (references_in s pair.array) (root_length s pair.array) (Some own.first) pair.array (at + count) none) [
        | inl whole ↦ at_from own has whole.within (subst (λ r. Carries x y h (planned (copying own) (copying_by own at first count r (from own))) told) whole.same ran)
        | inr (e, fails, same) ↦ (subst (λ r. Carries x y h (planned (copying own) (copying_by own at first count r (from own))) told) same ran).1
      ]

      at_own : (own : Option OwnRegisters) → own_in x ≡ own → Carries x y h (copy_by own s at first count pair) told → y ≡ x
      at_own None has carry = carry.1
      at_own (Some own) has ran = at_to own has ran

pub whole_calls_do_all : WholeCallsDoAll
whole_calls_do_all = record {
  filled = λ x y h first count pair told is fits none carried failed. filled x y h pair told is fits none failed first count carried;
  copied = λ x y h at first count pair told is fits none plain carried failed. copied x y h pair told is fits none failed at first count plain carried;
}
