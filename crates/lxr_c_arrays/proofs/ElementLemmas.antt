-- What single loads, stores and nils of a call leave, and the elements of an array by them.
use Rattle.std.proofs.Common.{◌≡◌, ◌≢◌, ℕ, ◌+◌, ◌*◌, ◌/◌, ◌%◌, ◌<◌, ◌≤◌, ◌∙◌, refl, sym, ap, subst, arith, inl, inr, Bool, true, false, Option, Some, None, List, [], ◌∷◌, length, get_or, map}
use Rattle.std.specs.Prelude.{min, nat_lt, if◌then◌else◌, option_map, slice_get, unwrap_or}
use Rattle.std.specs.List.{range_with_len}
use Rattle.std.proofs.lemmas.List.{get_or-set_other, get_or-set_same}
use Rattle.std.proofs.lemmas.List.FromFn.{get_or-map-range_with_len, length-map-range_with_len}
use Rattle.std.proofs.lemmas.Option.{get_or_from_slice_get, slice_get-get_or, slice_get_within}
use Rattle.lxr_layout.specs.declared.Name.{Name}
use Rattle.lxr_layout.specs.declared.TheConstants.{REGISTERS}
use Rattle.lxr_graph.specs.State.{State, object_at, refs_of, register_at, register_index, with_register}
use Rattle.lxr_graph.specs.Step.{load_from, loaded}
use Rattle.lxr_large_model.specs.declared.LargeReply.TheVariants as large_reply
use Rattle.lxr_large_model.specs.declared.LargeOp.TheVariants as large_op
use Rattle.lxr_graph.specs.declared.Op.TheVariants as op
use Rattle.lxr_large_model.specs.History.{LargeItem, large_state}
use Rattle.lxr_large_model.specs.State.{LargeState}
use Rattle.lxr_large_model.specs.Step.{large_step}
use Rattle.lxr_c_base.specs.Codes.{code_of}
use Rattle.lxr_c_base.specs.Requests.{index_of}
use Rattle.lxr_c_base.specs.declared.codes.Code.TheVariants as code
use Rattle.lxr_c_heap.specs.declared.host.HostHeap.{HostHeap}
use Rattle.lxr_c_heap.specs.Hosting.{IsHostOf, all_registers_in, registers_in}
use Rattle.lxr_c_many.specs.declared.applying.Told.{Told}
use Rattle.lxr_c_many.specs.declared.asked.Asked.{Asked}
use Rattle.lxr_c_many.proofs.ApplyLemmas.{performs_host}
use Rattle.lxr_c_many.proofs.LogLemmas.{references_few}
use Rattle.lxr_c_arrays.specs.Elements.{element_at, element_in, elements_at, elements_of, references_of}
use Rattle.lxr_c_arrays.specs.Operations.{load_of, nil_of}
use Rattle.lxr_c_arrays.specs.Running.{Runs}
use Rattle.lxr_c_arrays.specs.Sides.{length_by, root_length}
use Rattle.lxr_c_arrays.specs.declared.side.TheConstants.{PART}
use Rattle.lxr_c_many.specs.Fields.{references_in}

-- ---- length

as_long : (s : LargeState) (references : Option (List (Option Name))) (root : Option ℕ) → length_by (option_map length references) root ≡ option_map length (option_map (λ rs. elements_of s.small.graph rs root) references)
as_long s None root = refl
as_long s (Some rs) None = refl
as_long s (Some rs) (Some n) = ap Some (sym (length-map-range_with_len (element_in s.small.graph rs) 0 (min n (PART * length rs))))

pub length_counts : (s : LargeState) (base : ℕ) → length_by (option_map length (references_in s base)) (root_length s base) ≡ option_map length (elements_at s base)
length_counts s base = as_long s (references_in s base) (root_length s base)

-- ---- one load

-- a reference was there, and the register got it
pub record GotReference (s u : LargeState) (dest base i : ℕ) : Type 0 where
  pub name : Name
  pub value : Option Name
  pub held : register_at s.small 1 base ≡ Some name
  pub there : slice_get (refs_of (object_at s.small.graph name)) i ≡ Some value
  pub after : u ≡ record s { small = with_register s.small 1 dest value }

load_done : (s : LargeState) (dest base i : ℕ) → code_of (large_step s (large_op.Small (op.Load dest base i))).1 ≡ code.Done → GotReference s (large_step s (large_op.Small (op.Load dest base i))).0 dest base i
load_done s dest base i = at_held (register_at s.small 1 base) refl
  where
    at_held : (held : Option Name) → register_at s.small 1 base ≡ held → code_of (large_reply.Small (load_from s.small 1 dest i held).1) ≡ code.Done
        → GotReference s (record s { small = (load_from s.small 1 dest i held).0 }) dest base i
    at_held None e told = absurd (cc)
    at_held (Some n) e told = at_found (slice_get (refs_of (object_at s.small.graph n)) i) refl told
      where
        at_found : (found : Option (Option Name)) → slice_get (refs_of (object_at s.small.graph n)) i ≡ found → code_of (large_reply.Small (loaded s.small 1 dest found).1) ≡ code.Done
            → GotReference s (record s { small = (loaded s.small 1 dest found).0 }) dest base i
        at_found None f failed = absurd (cc)
        at_found (Some v) f done = record { name = n; value = v; held = e; there = f; after = refl }

-- the first operation of a run was a load, and the others follow
pub record LoadsFirst (h : List LargeItem) (dest base i : ℕ) (ops : List Asked) (y : HostHeap) (k : List LargeItem) : Type 0 where
  pub heap : HostHeap
  pub history : List LargeItem
  pub host : IsHostOf heap history
  pub got : GotReference (large_state h) (large_state history) dest base i
  pub rest : Runs heap history ops y k code.Done

pub load_first : (x y : HostHeap) (h k : List LargeItem) (dest base i : ℕ) (ops : List Asked) → IsHostOf x h → Runs x h (load_of dest base i ∷ ops) y k code.Done → LoadsFirst h dest base i ops y k
load_first x y h k dest base i ops is (m, j, t, (r, replies, left, told), inl (done, rest)) =
    let step : (large_step (large_state h) (large_op.Small (op.Load dest base i))).1 ≡ r = replies.heap.holds.legal.1.reply in
    record {
      heap = m;
      history = j;
      host = performs_host x m h j (load_of dest base i) t is (r, replies, left, told);
      got = subst (λ l. GotReference (large_state h) (large_state l) dest base i) (sym left)
          (load_done (large_state h) dest base i (ap code_of step ∙ sym (ap (λ (u : Told). u.code) told) ∙ done));
      rest = rest;
    }
load_first x y h k dest base i ops is (m, j, t, performs, inr (failed, same, left, told)) = absurd (failed (sym told))

-- a register became nil, and that was all
pub nil_last : (x y : HostHeap) (h k : List LargeItem) (dest : ℕ) → IsHostOf x h → Runs x h (nil_of dest ∷ []) y k code.Done
    → IsHostOf y k × (large_state k ≡ record (large_state h) { small = with_register (large_state h).small 1 dest None })
nil_last x y h k dest is (m, j, t, (r, replies, left, told), inl (done, (same, behind, end))) =
    let host : IsHostOf m j = performs_host x m h j (nil_of dest) t is (r, replies, left, told) in
    (subst (IsHostOf y) (sym behind) (subst (λ (z : HostHeap). IsHostOf z j) (sym same) host), ap large_state behind ∙ ap large_state left)
nil_last x y h k dest is (m, j, t, performs, inr (failed, same, left, told)) = absurd (failed (sym told))

-- ---- registers

-- what a register holds that was changed, or another one
pub changed_register : (s : State) (dest : ℕ) (v : Option Name) → length s.registers ≡ REGISTERS → dest < REGISTERS → register_at (with_register s 1 dest v) 1 dest ≡ v
changed_register s dest v long small = get_or-set_same s.registers (register_index 1 dest) v None (omega (arith, long, small))

pub other_register : (s : State) (dest other : ℕ) (v : Option Name) → other ≢ dest → register_at (with_register s 1 dest v) 1 other ≡ register_at s 1 other
other_register s dest other v apart =
    let no : register_index 1 other ≢ register_index 1 dest = λ e. apart (omega (arith, e)) in
    get_or-set_other s.registers (register_index 1 dest) (register_index 1 other) v None no

-- registers of a host are among all there are
pub few_registers : (x : HostHeap) (h : List LargeItem) → IsHostOf x h → (registers_in x ≤ all_registers_in x) × (all_registers_in x ≤ REGISTERS)
few_registers x h is = (is.named.1, is.heap.stands.0.safepoint.holds.space.limits.registers.1)

-- ---- elements

-- of what a register holds that is no root
pub whole_element : (s : LargeState) (base i : ℕ) (n : Name) (v : Option Name) → root_length s base ≡ None → register_at s.small 1 base ≡ Some n → slice_get (refs_of (object_at s.small.graph n)) i ≡ Some v → element_at s base i ≡ Some v
whole_element s base i n v none held there =
    ap (λ root. slice_get (unwrap_or (option_map (λ rs. elements_of s.small.graph rs root) (references_in s base)) []) i) none
    ∙ ap (λ b. slice_get (unwrap_or (option_map (λ rs. elements_of s.small.graph rs None) (option_map (λ m. refs_of (object_at s.small.graph m)) b)) []) i) held
    ∙ there

-- of a root
pub root_element : (s : LargeState) (base i elements : ℕ) (n : Name) (part v : Option Name) → root_length s base ≡ Some elements → i + 1 ≤ elements → register_at s.small 1 base ≡ Some n
    → slice_get (refs_of (object_at s.small.graph n)) (i / 1023) ≡ Some part → slice_get (references_of s.small.graph part) (i % 1023) ≡ Some v → element_at s base i ≡ Some v
root_element s base i elements n part v root within held found there =
    let parts : List (Option Name) = refs_of (object_at s.small.graph n) in
    let part_there : i / 1023 < length parts = slice_get_within parts (i / 1023) part found in
    let count : ℕ = min elements (1023 * length parts) in
    let inside : i < count = omega (arith, within, part_there) in
    let long = length-map-range_with_len (element_in s.small.graph parts) 0 count in
    ap (λ r. slice_get (unwrap_or (option_map (λ rs. elements_of s.small.graph rs r) (references_in s base)) []) i) root
    ∙ ap (λ b. slice_get (unwrap_or (option_map (λ rs. elements_of s.small.graph rs (Some elements)) (option_map (λ m. refs_of (object_at s.small.graph m)) b)) []) i) held
    ∙ slice_get-get_or (map (element_in s.small.graph parts) (range_with_len 0 count)) i None (omega (arith, inside, long))
    ∙ ap Some (get_or-map-range_with_len (element_in s.small.graph parts) 0 count i i None inside (let same : 0 + i ≡ i = omega arith in same))
    ∙ ap Some (ap (λ p. get_or (references_of s.small.graph p) (i % 1023) None) (get_or_from_slice_get parts (i / 1023) part None found))
    ∙ ap Some (get_or_from_slice_get (references_of s.small.graph part) (i % 1023) v None there)

-- an index below that of any reference stays what it is
pub index_stays : (i : ℕ) → index_of i < 1024 → index_of i ≡ i
index_stays i small = at_size (nat_lt i 65536) small
  where
    at_size : (b : Bool) → (if b then i else 65535) < 1024 → (if b then i else 65535) ≡ i
    at_size true less = refl
    at_size false less = omega (arith, less)

-- so does one that is there
pub small_index : (x : HostHeap) (h : List LargeItem) (base i : ℕ) (n : Name) → IsHostOf x h → base < REGISTERS → register_at (large_state h).small 1 base ≡ Some n
    → index_of i < length (refs_of (object_at (large_state h).small.graph n)) → index_of i ≡ i
small_index x h base i n is small held within =
    let refs : List (Option Name) = refs_of (object_at (large_state h).small.graph n) in
    let few : length refs ≤ 1023 = references_few x.heap h is.heap base (length refs) small (record { name = n; held = held; within = let same : length refs ≤ length refs = omega arith in same }) in
    index_stays i (omega (arith, few, within))
