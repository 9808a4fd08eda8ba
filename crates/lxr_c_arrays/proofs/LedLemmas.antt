-- From the opening of a heap on, the library's own registers are nil after each call.
use Rattle.std.proofs.Common.{◌≡◌, ◌≢◌, ℕ, zero, suc, ◌+◌, ◌-◌, ◌*◌, ◌<◌, ◌≤◌, ◌∙◌, refl, sym, ap, subst, arith, inl, Bool, true, false, Option, Some, None, List, [], ◌∷◌, ◌++◌}
use Rattle.std.proofs.lemmas.List.{get_or-replicate, get_or_append_left, length-replicate}
use Rattle.std.specs.Prelude.{⊤, Result, Ok, Err, drop, nat_le, replicate, slice_index_or, if◌then◌else◌}
use Rattle.lxr_layout.specs.declared.Name.{Name}
use Rattle.lxr_layout.specs.declared.TheConstants.{REGISTERS}
use Rattle.lxr_graph.specs.declared.Op.TheVariants as op
use Rattle.lxr_graph.specs.State.{next_name, register_at, register_index, with_new}
use Rattle.lxr_graph.specs.Step.{cleared, fresh, get_from}
use Rattle.lxr_pause_decrements.specs.declared.slices.Slice.{Slice}
use Rattle.lxr_large_model.specs.declared.LargeOp.{LargeOp}
use Rattle.lxr_large_model.specs.declared.LargeOp.TheVariants as large_op
use Rattle.lxr_large_model.specs.declared.LargeReply.{LargeReply}
use Rattle.lxr_large_model.specs.declared.LargeReply.TheVariants as large_reply
use Rattle.lxr_large_model.specs.History.{LargeItem, Called, Paused, Renewed, large_state}
use Rattle.lxr_large_model.specs.State.{body_of, handle}
use Rattle.lxr_large_model.specs.Step.{large_after, put_at, put_to, word_in}
use Rattle.lxr_large_model.specs.Full.{LargeTerms}
use Rattle.lxr_heap.specs.declared.heap.Heap.{Heap}
use Rattle.lxr_heap.specs.Acting.{MayBeCalled}
use Rattle.lxr_heap.specs.declared.bulk.BodyReply.{BodyReply}
use Rattle.lxr_heap.specs.declared.bulk.BodyReply.TheVariants as body_reply
use Rattle.lxr_heap.specs.Bulk.{WritesWords, with_puts, with_written}
use Rattle.lxr_heap.specs.Holding.{IsHeapOf}
use Rattle.lxr_c_base.specs.declared.codes.Code.{Code}
use Rattle.lxr_c_base.specs.declared.codes.Code.TheVariants as code
use Rattle.lxr_c_base.specs.Requests.{IsStoring}
use Rattle.lxr_c_heap.specs.declared.host.HostHeap.{HostHeap}
use Rattle.lxr_c_heap.specs.declared.host.TheConstants.{ENDS}
use Rattle.lxr_c_heap.specs.declared.own.OwnRegisters.{OwnRegisters}
use Rattle.lxr_c_heap.specs.declared.settings.Settings.{Settings}
use Rattle.lxr_c_heap.specs.declared.settings.TheConstants.{OWN_REGISTERS}
use Rattle.lxr_c_heap.specs.Hosting.{IsHostOf, IsOpened, Pauses, Settles, all_registers_in, behind_pause, own_in, registers_in}
use Rattle.lxr_c_heap.specs.Settings.{AreSettings, registers_of, with_own}
use Rattle.lxr_c_heap.specs.Trimming.{TrimsHost}
use Rattle.lxr_c_heap.specs.Working.{Works}
use Rattle.lxr_c_heap.proofs.OperationLemmas.{making_may, quiet_may}
use Rattle.lxr_c_heap.proofs.PacingLemmas.{paused_host, replied_host, written_bytes}
use Rattle.lxr_c_heap.proofs.RegisterLemmas.{paused_keeps, replied_all, replied_keeps, settled_all, settled_keeps, where_all}
use Rattle.lxr_c_heap.proofs.RoomLemmas.{settled_holds}
use Rattle.lxr_c_many.specs.declared.applying.Told.{Told}
use Rattle.lxr_c_many.specs.declared.asked.Asked.{Asked}
use Rattle.lxr_c_many.specs.declared.asked.Asked.TheVariants as asked
use Rattle.lxr_c_many.specs.Applying.{MayBeAsked, Performs}
use Rattle.lxr_c_many.specs.Following.{Follows}
use Rattle.lxr_c_many.proofs.ApplyLemmas.{performs_host}
use Rattle.lxr_c_arrays.specs.declared.making.NewArray.{NewArray}
use Rattle.lxr_c_arrays.specs.declared.registers.Pair.{Pair}
use Rattle.lxr_c_arrays.specs.declared.side.Side.{Side}
use Rattle.lxr_c_arrays.specs.declared.side.TheConstants.{PART}
use Rattle.lxr_c_arrays.specs.Elements.{as_named}
use Rattle.lxr_c_arrays.specs.Operations.{new_of}
use Rattle.lxr_c_arrays.specs.Own.{AllMayBeCalled, IsPlanned, KeepNil, OwnStayNil, asked as by_asking, carried as by_plan, copies, fills, followed as by_following, loads, makes, opened as at_opening, paused as by_pause, set as by_setting, settled as by_settling, stores, trimmed as by_trim, worked as by_work, written as by_writing}
use Rattle.lxr_c_arrays.specs.Plans.{copy_by, copying, copying_of, filling, first_own, loading, making, own_nil, parts_plan, planned, storing}
use Rattle.lxr_c_arrays.specs.Running.{Plan, Runs, SameRegisters}
use Rattle.lxr_c_arrays.specs.Sides.{last_of, range_of, side_of}
use Rattle.lxr_c_arrays.proofs.ElementLemmas.{few_registers, other_register}
use Rattle.lxr_c_arrays.proofs.OwnLemmas.{AllSpare, AskedLeavesNil, IsApart, IsNil, IsSideOf, LeavesNil, after_spares, both_ended, filling_spares, loading_spares, nil_named, own_same, performs_nil, performs_same, range_cases, side_cases, side_ended, storing_spares, whole_made}
use Rattle.lxr_c_arrays.proofs.PlanLemmas.{own_first, own_second, own_there}
use Rattle.lxr_c_arrays.proofs.RunLemmas.{same_none, same_on}
use Rattle.lxr_c_arrays.proofs.SettleLemmas.{settling}

-- ---- the opening

-- there are as many registers as the host names
own_more : (n : ℕ) → n ≤ with_own n
own_more n = at_room (nat_le (n + OWN_REGISTERS) REGISTERS)
  where
    at_room : (b : Bool) → n ≤ (if b then n + OWN_REGISTERS else n)
    at_room true = omega arith
    at_room false = omega arith

opened_host : (x : HostHeap) (s : Settings) → AreSettings s → IsOpened x s → IsHostOf x []
opened_host x s fit is =
    let same : registers_in x ≡ registers_of s = ap registers_in is.rest in
    let all : all_registers_in x ≡ with_own (registers_of s) = ap (λ (t : LargeTerms). t.registers) is.heap.terms in
    let some = fit.registers.0 in
    let more = own_more (registers_of s) in
    record { heap = is.heap.holds; bytes = ap (λ (z : HostHeap). z.bytes) is.rest; named = (omega (arith, same, some), omega (arith, same, all, more)) }

-- all registers but the first are nil
opening_nil : (q : ℕ) → 1 ≤ q → q < REGISTERS → IsNil (large_state []) q
opening_nil zero some few = absurd (omega (arith, some))
opening_nil (suc p) some few =
    ap (λ i. slice_index_or (large_state []).small.registers i None) (let same : register_index 1 (suc p) ≡ suc p = omega arith in same)
    ∙ get_or-replicate 255 p None None (let less : p < 255 = omega (arith, few) in less)

-- ---- one operation

cleared_nil : (rest : List (Option Name)) (q : ℕ) → q < 256 → slice_index_or (replicate 256 None ++ rest) q None ≡ None
cleared_nil rest q few =
    get_or_append_left (replicate 256 None) rest None q (subst (λ n. q < n) (sym (length-replicate {A = Option Name} 256 None)) few) ∙ get_or-replicate 256 q None None few

called_leaves : (n q : ℕ) (o : LargeOp) → MayBeCalled n o → n ≤ q → q < REGISTERS → LeavesNil o q
called_leaves n q o is more few s r nil = at_op o is
  where
    other : (dest : ℕ) → dest < n → q ≢ dest
    other dest small = λ e. omega (arith, e, small, more)

    get_small : (i : ℕ) (held : Option Name) → register_at (get_from s.small i held).0 1 q ≡ None
    get_small i None = nil
    get_small i (Some m) = nil

    word_put : (m : Name) (i v : ℕ) (found : Option ℕ) → IsNil (put_at s m i v found).0 q
    word_put m i v None = nil
    word_put m i v (Some old) = nil

    body_put : (i v : ℕ) (held : Option Name) → IsNil (put_to s i v held).0 q
    body_put i v None = nil
    body_put i v (Some m) = word_put m i v (word_in (body_of s.large m) i)

    big_made : (dest blocks : ℕ) (r : LargeReply) → dest < n → IsNil (large_after s (large_op.Big dest blocks) r) q
    big_made dest blocks large_reply.Full small = nil
    big_made dest blocks r small =
        other_register (record s.small { graph = with_new s.small.graph 1 (fresh handle) }) dest q (Some (next_name s.small.graph 1)) (other dest small) ∙ nil

    at_op : (o : LargeOp) → MayBeCalled n o → IsNil (large_after s o r) q
    at_op (large_op.Small (op.New dest shape)) fits = after_spares s (large_op.Small (op.New dest shape)) r q (other dest fits.0.0) ∙ nil
    at_op (large_op.Small (op.Load dest base index)) fits = after_spares s (large_op.Small (op.Load dest base index)) r q (other dest fits.0.0) ∙ nil
    at_op (large_op.Small (op.Store base index source)) fits = after_spares s (large_op.Small (op.Store base index source)) r q tt ∙ nil
    at_op (large_op.Small (op.Put base index value)) fits = after_spares s (large_op.Small (op.Put base index value)) r q tt ∙ nil
    at_op (large_op.Small (op.Get base index)) fits = get_small index (register_at s.small 1 base)
    at_op (large_op.Small (op.Swap dest base index source)) fits = absurd fits.1
    at_op (large_op.Small (op.Add base index value)) fits = absurd fits.1
    at_op (large_op.Small (op.Move dest source)) fits = after_spares s (large_op.Small (op.Move dest source)) r q (other dest fits.0.0) ∙ nil
    at_op (large_op.Small (op.Nil dest)) fits = after_spares s (large_op.Small (op.Nil dest)) r q (other dest fits.0) ∙ nil
    at_op (large_op.Small (op.Same left right)) fits = nil
    at_op (large_op.Small op.Pause) fits = nil
    at_op (large_op.Small op.Collect) fits = nil
    at_op (large_op.Small op.End) fits =
        ap (λ i. slice_index_or (cleared s.small.registers 1) i None) (let same : register_index 1 q ≡ q = omega arith in same) ∙ cleared_nil (drop (REGISTERS * (1 - 1) + REGISTERS) s.small.registers) q few
    at_op (large_op.Big dest blocks) fits = big_made dest blocks r fits.0
    at_op (large_op.BigPut base index value) fits = body_put index value (register_at s.small 1 base)
    at_op (large_op.BigGet base index) fits = nil

storing_may : (n : ℕ) (o : LargeOp) → IsStoring n o → MayBeCalled n o
storing_may n (large_op.Small (op.Store base index source)) is = is
storing_may n o is = absurd is

asked_leaves : (n q : ℕ) (a : Asked) → MayBeAsked n a → n ≤ q → q < REGISTERS → AskedLeavesNil a q
asked_leaves n q (asked.Make o) is more few = called_leaves n q o (making_may n o is) more few
asked_leaves n q (asked.Store o) is more few = called_leaves n q o (storing_may n o is) more few
asked_leaves n q (asked.Reply o) is more few = called_leaves n q o (quiet_may n o is) more few
asked_leaves n q (asked.See o) is more few = tt
asked_leaves n q (asked.IsNil register) is more few = tt

-- ---- a call

-- what leaves each register of the library's nil keeps them nil
each_kept : (x y : HostHeap) (h k : List LargeItem) → IsHostOf x h → IsHostOf y k → SameRegisters x y
    → ((q : ℕ) → registers_in x ≤ q → q < REGISTERS → IsNil (large_state h) q → IsNil (large_state k) q) → KeepNil x h y k
each_kept x y h k is after same each nil = (
  after,
  λ own has.
      let there : own_in x ≡ Some own = sym (own_same x y same) ∙ has in
      let room = own_there x own there in
      let few = few_registers x h is in
      let one = own_first x own there in
      let two = own_second x own there in
      let (first, second) = nil own there in (
        each own.first (omega (arith, one)) (omega (arith, room, few)) first,
        each own.second (omega (arith, two)) (omega (arith, room, few)) second,
      ),
)

asked_kept : (x y : HostHeap) (h k : List LargeItem) (a : Asked) (told : Told) → IsHostOf x h → MayBeAsked (registers_in x) a → Performs x h a y k told → KeepNil x h y k
asked_kept x y h k a told is may performs =
    each_kept x y h k is (performs_host x y h k a told is performs) (performs_same x y h k a told performs)
    (λ q more few nil. performs_nil x y h k a told q (asked_leaves (registers_in x) q a may more few) performs nil)

settle_kept : (x y : HostHeap) (h k : List LargeItem) → IsHostOf x h → Settles x h y k → KeepNil x h y k
settle_kept x y h k is settles =
    let settled = settling ENDS x y h k settles in
    each_kept x y h k is (settled_holds ENDS x y h k is settles) (record { named = settled_keeps ENDS x y h k settles; all = settled_all ENDS x y h k settles })
    (λ q more few nil. settled.registers q ∙ ap (as_named settled.names) nil ∙ nil_named settled.names)

pause_kept : (x y : HostHeap) (h : List LargeItem) (collect : Bool) → IsHostOf x h → Pauses x y h collect → KeepNil x h y (behind_pause y h)
pause_kept x y h collect is pauses =
    each_kept x y h (behind_pause y h) is (paused_host x y h collect is pauses)
    (record { named = paused_keeps x y h collect pauses; all = where_all ⊤ collect x y h (behind_pause y h) (inl (tt, pauses, refl)) }) (λ q more few nil. nil)

-- operations one after another
follow_same : (x y : HostHeap) (h new : List LargeItem) → Follows x h y new → SameRegisters x y
follow_same x y h [] same = subst (SameRegisters x) (sym same) (same_none x)
follow_same x y h (Called o r ∷ new) (m, before, replies) = same_on x m y (follow_same x m h new before) (record { named = replied_keeps m y (new ++ h) o r replies; all = replied_all m y (new ++ h) o r replies })
follow_same x y h (Paused report ∷ new) follows = absurd follows
follow_same x y h (Renewed ns ∷ new) follows = absurd follows

follow_nil : (n q : ℕ) (h new : List LargeItem) → AllMayBeCalled n new → n ≤ q → q < REGISTERS → IsNil (large_state h) q → IsNil (large_state (new ++ h)) q
follow_nil n q h [] may more few nil = nil
follow_nil n q h (Called o r ∷ new) (one, may) more few nil = called_leaves n q o one more few (large_state (new ++ h)) r (follow_nil n q h new may more few nil)
follow_nil n q h (Paused report ∷ new) may more few nil = absurd may
follow_nil n q h (Renewed ns ∷ new) may more few nil = absurd may

follow_host : (x y : HostHeap) (h new : List LargeItem) → IsHostOf x h → Follows x h y new → IsHostOf y (new ++ h)
follow_host x y h [] is same = subst (λ (z : HostHeap). IsHostOf z h) (sym same) is
follow_host x y h (Called o r ∷ new) is (m, before, replies) = replied_host m y (new ++ h) o r (follow_host x m h new is before) replies
follow_host x y h (Paused report ∷ new) is follows = absurd follows
follow_host x y h (Renewed ns ∷ new) is follows = absurd follows

follow_kept : (x y : HostHeap) (h new : List LargeItem) → IsHostOf x h → AllMayBeCalled (registers_in x) new → Follows x h y new → KeepNil x h y (new ++ h)
follow_kept x y h new is may follows =
    each_kept x y h (new ++ h) is (follow_host x y h new is follows) (follow_same x y h new follows) (λ q more few nil. follow_nil (registers_in x) q h new may more few nil)

-- words of a body
body_nil : (h : List LargeItem) (base i value q : ℕ) → IsNil (large_state h) q → IsNil (large_after (large_state h) (large_op.BigPut base i value) large_reply.Put) q
body_nil h base i value q nil = at_held (register_at (large_state h).small 1 base)
  where
    word_put : (m : Name) (found : Option ℕ) → IsNil (put_at (large_state h) m i value found).0 q
    word_put m None = nil
    word_put m (Some old) = nil

    at_held : (held : Option Name) → IsNil (put_to (large_state h) i value held).0 q
    at_held None = nil
    at_held (Some m) = word_put m (word_in (body_of (large_state h).large m) i)

puts_nil : (h : List LargeItem) (base i q : ℕ) (words : List ℕ) → IsNil (large_state h) q → IsNil (large_state (with_puts h base i words)) q
puts_nil h base i q [] nil = nil
puts_nil h base i q (w ∷ words) nil = puts_nil (Called (large_op.BigPut base i w) large_reply.Put ∷ h) base (i + 1) q words (body_nil h base i w q nil)

written_nil : (r : BodyReply) (h : List LargeItem) (base i q : ℕ) (words : List ℕ) → IsNil (large_state h) q → IsNil (large_state (with_written r h base i words)) q
written_nil body_reply.Done h base i q words nil = puts_nil h base i q words nil
written_nil body_reply.Bad h base i q words nil = nil
written_nil body_reply.Range h base i q words nil = nil

write_kept : (x y : HostHeap) (h : List LargeItem) (base i : ℕ) (words : List ℕ) (r : BodyReply) → IsHostOf x h → WritesWords x.heap y.heap h base i words r → y ≡ record x { heap = y.heap } → KeepNil x h y (with_written r h base i words)
write_kept x y h base i words r is writes rest =
    let named : y.named ≡ x.named = ap (λ (z : HostHeap). z.named) rest in
    let bytes : y.bytes ≡ x.bytes = ap (λ (z : HostHeap). z.bytes) rest in
    let all : all_registers_in y ≡ all_registers_in x = ap (λ (t : LargeTerms). t.registers) writes.terms in
    each_kept x y h (with_written r h base i words) is
    (record { heap = writes.holds; bytes = bytes ∙ is.bytes ∙ sym (written_bytes r h base i words); named = let there = is.named in (omega (arith, named, there), omega (arith, named, all, there)) })
    (record { named = named; all = all }) (λ q more few nil. written_nil r h base i q words nil)

-- what leaves the history, the registers and the bytes keeps them nil
stay : (x y : HostHeap) (h : List LargeItem) → IsHostOf x h → IsHeapOf y.heap h → all_registers_in y ≡ all_registers_in x → y.named ≡ x.named → y.bytes ≡ x.bytes → KeepNil x h y h
stay x y h is holds all named bytes =
    each_kept x y h h is (record { heap = holds; bytes = bytes ∙ is.bytes; named = let there = is.named in (omega (arith, named, there), omega (arith, named, all, there)) })
    (record { named = named; all = all }) (λ q more few nil. nil)

set_kept : (x y : HostHeap) (h : List LargeItem) → IsHostOf x h → y.heap ≡ x.heap → y.named ≡ x.named → y.bytes ≡ x.bytes → KeepNil x h y h
set_kept x y h is heap named bytes = stay x y h is (subst (λ (z : Heap). IsHeapOf z h) (sym heap) is.heap) (ap (λ (z : Heap). z.space.limits.registers) heap) named bytes

work_kept : (x y : HostHeap) (h : List LargeItem) (units : ℕ) (next : Option ℕ) (slice : Slice) → IsHostOf x h → Works x y h units next slice → KeepNil x h y h
work_kept x y h units next slice is works =
    stay x y h is works.heap.holds (ap (λ (z : Heap). z.space.limits.registers) works.heap.heap) (ap (λ (z : HostHeap). z.named) works.rest) (ap (λ (z : HostHeap). z.bytes) works.rest)

trim_kept : (x y : HostHeap) (h : List LargeItem) (from : ℕ) (block : Option ℕ) → IsHostOf x h → TrimsHost from x y block → KeepNil x h y h
trim_kept x y h from block is trims =
    stay x y h is (trims.heap.holds h is.heap) (ap (λ (z : Heap). z.space.limits.registers) trims.heap.rest) (ap (λ (z : HostHeap). z.named) trims.rest) (ap (λ (z : HostHeap). z.bytes) trims.rest)

-- ---- a plan

plan_same : (p q : Plan) → ◌≡◌ {A = Result Plan Code} (Ok p) (Ok q) → p ≡ q
plan_same p q same = cc

-- what is planned is planned with what is there
unplanned : {A : Type 0} (plan : A → Plan) (found : Result A Code) (p : Plan) → planned plan found ≡ Ok p → (a : A) × (found ≡ Ok a) × (plan a ≡ p)
unplanned plan (Ok a) p same = (a, refl, plan_same (plan a) p same)
unplanned plan (Err e) p same = absurd (cc)

module _ (x m y : HostHeap) (h j k : List LargeItem) (told : Code) (is : IsHostOf x h) where
  side_kept : (array : ℕ) (plan : Side → Plan) (found : Result Side Code) (p : Plan) → planned plan found ≡ Ok p → ((a : Side) → found ≡ Ok a → IsSideOf x array a) → ((a : Side) → (plan a).last ≡ last_of a)
      → ((a : Side) (q : ℕ) → registers_in x ≤ q → IsApart a q → AllSpare (plan a).steps q) → Runs x h p.steps m j told → Runs m j p.last y k code.Done → KeepNil x h y k
  side_kept array plan found p same there last spares ran ended =
      let (a, was, is_plan) = unplanned plan found p same in
      side_ended x m y h j k array a (plan a).steps told is (there a was) (subst (λ (t : Plan). Runs x h t.steps m j told) (sym is_plan) ran)
      (subst (λ ops. Runs m j ops y k code.Done) (last a) (subst (λ (t : Plan). Runs m j t.last y k code.Done) (sym is_plan) ended)) (spares a)

  own_kept : (own : OwnRegisters) (p q : Plan) → own_in x ≡ Some own → q ≡ p → q.last ≡ own_nil own → Runs x h p.steps m j told → Runs m j p.last y k code.Done → KeepNil x h y k
  own_kept own p q there same last ran ended =
      both_ended x m y h j k own p.steps told is there ran (subst (λ ops. Runs m j ops y k code.Done) (sym (ap (λ (t : Plan). t.last) same) ∙ last) ended)

  copy_kept : (at first count : ℕ) (pair : Pair) (p : Plan) (o : Option OwnRegisters) → own_in x ≡ o → copy_by o (large_state h) at first count pair ≡ Ok p
      → Runs x h p.steps m j told → Runs m j p.last y k code.Done → KeepNil x h y k
  copy_kept at first count pair p None none same ran ended = absurd (cc)
  copy_kept at first count pair p (Some own) there same ran ended =
      let (c, was, is_plan) = unplanned (copying own) (copying_of (large_state h) own pair at first count) p same in
      own_kept own p (copying own c) there is_plan refl ran ended

  parts_kept : (wanted : NewArray) (p : Plan) (o : Option OwnRegisters) → own_in x ≡ o → parts_plan o wanted ≡ Ok p → Runs x h p.steps m j told → Runs m j p.last y k code.Done → KeepNil x h y k
  parts_kept wanted p None none same ran ended = absurd (cc)
  parts_kept wanted p (Some own) there same ran ended = own_kept own p (making wanted own) there (plan_same (making wanted own) p same) refl ran ended

  new_kept : (wanted : NewArray) (p : Plan) (b : Bool) → wanted.dest < registers_in x → (if b then Ok (record { steps = new_of wanted.dest wanted.length 0 ∷ []; last = [] }) else parts_plan (own_in x) wanted) ≡ Ok p
      → Runs x h p.steps m j told → Runs m j p.last y k code.Done → KeepNil x h y k
  new_kept wanted p true small same ran ended =
      let whole : Plan = record { steps = new_of wanted.dest wanted.length 0 ∷ []; last = [] } in
      let is_plan : whole ≡ p = plan_same whole p same in
      whole_made x m y h j k wanted told is small (subst (λ (t : Plan). Runs x h t.steps m j told) (sym is_plan) ran) (subst (λ (t : Plan). Runs m j t.last y k code.Done) (sym is_plan) ended)
  new_kept wanted p false small same ran ended = parts_kept wanted p (own_in x) refl same ran ended

  plan_kept : (p : Plan) → IsPlanned x (large_state h) p → Runs x h p.steps m j told → Runs m j p.last y k code.Done → KeepNil x h y k
  plan_kept p (makes wanted fits same) ran ended = new_kept wanted p (nat_le wanted.length PART) fits.0 same ran ended
  plan_kept p (loads index pair fits same) ran ended =
      side_kept pair.array (loading pair index) (side_of (large_state h) (first_own x) pair.array index) p same (λ a found. side_cases x (large_state h) pair.array index a found) (λ a. refl)
      (loading_spares (registers_in x) index pair fits) ran ended
  plan_kept p (stores index pair fits same) ran ended =
      side_kept pair.array (storing pair index) (side_of (large_state h) (first_own x) pair.array index) p same (λ a found. side_cases x (large_state h) pair.array index a found) (λ a. refl)
      (storing_spares (registers_in x) index pair) ran ended
  plan_kept p (fills first count pair fits same) ran ended =
      side_kept pair.array (filling pair first count) (range_of (large_state h) (first_own x) pair.array first count) p same (λ a found. range_cases x (large_state h) pair.array first count a found) (λ a. refl)
      (filling_spares (registers_in x) first count pair) ran ended
  plan_kept p (copies at first count pair fits same) ran ended = copy_kept at first count pair p (own_in x) refl same ran ended

-- ---- from the opening on

pub own_stay_nil : OwnStayNil
own_stay_nil z l (at_opening x s fit is) =
    let host = opened_host x s fit is in (
      host,
      λ own has.
          let room = own_there x own has in
          let few = few_registers x [] host in
          let one = own_first x own has in
          let two = own_second x own has in
          let some = host.named.0 in (opening_nil own.first (omega (arith, one, some)) (omega (arith, room, few)), opening_nil own.second (omega (arith, two)) (omega (arith, room, few))),
    )
own_stay_nil z l (by_asking x y h k a told led may performs) = let (is, nil) = own_stay_nil x h led in asked_kept x y h k a told is may performs nil
own_stay_nil z l (by_settling x y h k led settles) = let (is, nil) = own_stay_nil x h led in settle_kept x y h k is settles nil
own_stay_nil z l (by_pause x y h collect led pauses) = let (is, nil) = own_stay_nil x h led in pause_kept x y h collect is pauses nil
own_stay_nil z l (by_following x y h new led may follows) = let (is, nil) = own_stay_nil x h led in follow_kept x y h new is may follows nil
own_stay_nil z l (by_writing x y h base i words r led writes rest) = let (is, nil) = own_stay_nil x h led in write_kept x y h base i words r is writes rest nil
own_stay_nil z l (by_setting x y h led heap named bytes) = let (is, nil) = own_stay_nil x h led in set_kept x y h is heap named bytes nil
own_stay_nil z l (by_work x y h units next slice led works) = let (is, nil) = own_stay_nil x h led in work_kept x y h units next slice is works nil
own_stay_nil z l (by_trim x y h from block led trims) = let (is, nil) = own_stay_nil x h led in trim_kept x y h from block is trims nil
own_stay_nil z l (by_plan x m y h j k p told led plans ran ended) = let (is, nil) = own_stay_nil x h led in plan_kept x m y h j k told is p plans ran ended nil
