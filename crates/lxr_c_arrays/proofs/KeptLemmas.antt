-- What a call on arrays leaves of the host's registers and of bodies, whatever it tells.
use Rattle.std.proofs.Common.{◌≡◌, ◌≢◌, ℕ, ◌+◌, ◌*◌, ◌<◌, ◌∙◌, refl, sym, ap, subst, arith, inl, inr, Bool, true, false, Option, Some, None, List, [], ◌∷◌, ◌++◌}
use Rattle.std.proofs.lemmas.Option.{same_Some}
use Rattle.std.specs.Prelude.{⊤, Result, Ok, Err, min, nat_le, slice_get, if◌then◌else◌}
use Rattle.lxr_layout.specs.declared.Name.{Name}
use Rattle.lxr_graph.specs.declared.Op.TheVariants as op
use Rattle.lxr_graph.specs.declared.Reply.TheVariants as reply
use Rattle.lxr_graph.specs.State.{State, object_at, refs_of, register_at}
use Rattle.lxr_graph.specs.Step.{load_from, loaded}
use Rattle.lxr_large_model.specs.declared.LargeOp.{LargeOp}
use Rattle.lxr_large_model.specs.declared.LargeOp.TheVariants as large_op
use Rattle.lxr_large_model.specs.declared.LargeReply.{LargeReply}
use Rattle.lxr_large_model.specs.declared.LargeReply.TheVariants as large_reply
use Rattle.lxr_large_model.specs.Full.{LargeReplies, LargeTerms}
use Rattle.lxr_large_model.specs.History.{LargeItem, large_state}
use Rattle.lxr_large_model.specs.State.{LargeState}
use Rattle.lxr_large_model.specs.Step.{large_after}
use Rattle.lxr_heap.specs.Holding.{terms_of}
use Rattle.lxr_c_base.specs.Codes.{code_of}
use Rattle.lxr_c_base.specs.declared.codes.Code.{Code}
use Rattle.lxr_c_base.specs.declared.codes.Code.TheVariants as code
use Rattle.lxr_c_heap.specs.declared.host.HostHeap.{HostHeap}
use Rattle.lxr_c_heap.specs.declared.host.TheConstants.{ENDS}
use Rattle.lxr_c_heap.specs.declared.own.OwnRegisters.{OwnRegisters}
use Rattle.lxr_c_heap.specs.Hosting.{IsHostOf, own_in, registers_in}
use Rattle.lxr_c_many.specs.declared.applying.Told.{Told}
use Rattle.lxr_c_many.specs.declared.asked.Asked.{Asked}
use Rattle.lxr_c_many.specs.declared.asked.Asked.TheVariants as asked
use Rattle.lxr_c_many.specs.Applying.{Performs}
use Rattle.lxr_c_arrays.specs.declared.copying.Copying.{Copying}
use Rattle.lxr_c_arrays.specs.declared.making.NewArray.{NewArray}
use Rattle.lxr_c_arrays.specs.declared.registers.Pair.{Pair}
use Rattle.lxr_c_arrays.specs.declared.side.Side.{Side}
use Rattle.lxr_c_arrays.specs.declared.side.Side.TheVariants as side
use Rattle.lxr_c_arrays.specs.declared.side.TheConstants.{PART}
use Rattle.lxr_c_arrays.specs.Elements.{ArraysKeepRegisters, KeepsRegisters, as_named, as_renamed, given_by, with_names, with_renewals}
use Rattle.lxr_c_arrays.specs.Operations.{load_of, move_of, new_of, put_of}
use Rattle.lxr_c_arrays.specs.Plans.{check_copy, copy_by, copy_checked, copy_steps, copying, copying_by, enters, fill_steps, filling, first_own, loading, own_nil, part_steps, parts_of, parts_plan, planned, root_steps, storing}
use Rattle.lxr_c_arrays.specs.Running.{Carries, Plan, Runs, in_turn}
use Rattle.lxr_c_arrays.specs.Sides.{checks, enter_steps, holder, index_at, last_of, load_steps, parts_side, range_held, range_of, references_held, root_length, side_of, store_steps}
use Rattle.lxr_c_arrays.proofs.FillLemmas.{named_with, renewals_with, renewed_bodies}
use Rattle.lxr_c_arrays.proofs.OwnLemmas.{AllSpare, IsApart, IsSideOf, Spares, SparesAsked, after_spares, checks_spare, entering_spares, loads_spare, range_cases, side_cases, spare_on, spare_turns, stores_spare}
use Rattle.lxr_c_arrays.proofs.PlanLemmas.{own_first, own_second}
use Rattle.lxr_c_arrays.proofs.RunLemmas.{code_cases, runs_host}
use Rattle.lxr_c_arrays.proofs.SettleLemmas.{paused_state, settling, turned_state}

-- ---- one operation

-- registers that an operation spares hold what they held, and each body is as it was, by the new names where names were renewed
record Spared (a : Asked) (s u : LargeState) : Type 0 where
  names : Option (List Name)
  held : (q : ℕ) → SparesAsked a q → register_at u.small 1 q ≡ as_named names (register_at s.small 1 q)
  bodies : u.large ≡ (with_names names s).large

after_bodies : (s : LargeState) (o : LargeOp) (r : LargeReply) (q : ℕ) → Spares o q → (large_after s o r).large ≡ s.large
after_bodies s (large_op.Small (op.New dest shape)) (large_reply.Small reply.Full) q apart = refl
after_bodies s (large_op.Small (op.New dest shape)) r q apart = refl
after_bodies s (large_op.Small (op.Load dest base index)) r q apart = refl
after_bodies s (large_op.Small (op.Store base index source)) r q apart = refl
after_bodies s (large_op.Small (op.Put base index value)) r q apart = refl
after_bodies s (large_op.Small (op.Move dest source)) r q apart = refl
after_bodies s (large_op.Small (op.Nil dest)) r q apart = refl
after_bodies s o r q apart = absurd apart

-- behind what settling and pauses left
spared_behind : (o : LargeOp) (r : LargeReply) (s t b u : LargeState) (names : Option (List Name)) (q : ℕ) → Spares o q → ((n : ℕ) → register_at t.small 1 n ≡ as_named names (register_at s.small 1 n)) → t.large ≡ (with_names names s).large
    → b ≡ t → u ≡ large_after b o r → ((n : ℕ) → Spares o n → register_at u.small 1 n ≡ as_named names (register_at s.small 1 n)) × (u.large ≡ (with_names names s).large)
spared_behind o r s t b u names q apart held bodies before after = (
  λ n spares. ap (λ (z : LargeState). register_at z.small 1 n) after ∙ after_spares b o r n spares ∙ ap (λ (z : LargeState). register_at z.small 1 n) before ∙ held n,
  ap (λ (z : LargeState). z.large) after ∙ after_bodies b o r q apart ∙ ap (λ (z : LargeState). z.large) before ∙ bodies,
)

performed : (x y : HostHeap) (h k : List LargeItem) (a : Asked) (told : Told) (q : ℕ) → SparesAsked a q → Performs x h a y k told → Spared a (large_state h) (large_state k)
performed x y h k (asked.Make o) told q apart (r, makes, left, tells) =
    let b = makes.acts.history in
    let settled = settling ENDS x makes.settled h makes.settled_history makes.settles in
    let before : large_state b ≡ large_state makes.settled_history =
    paused_state o makes.paused makes.acts.middle makes.turns.history b makes.acts.pauses
    ∙ turned_state makes.settled makes.paused makes.settled_history makes.turns in
    let (held, bodies) = spared_behind o r (large_state h) (large_state makes.settled_history) (large_state b) (large_state k) settled.names q apart settled.registers (ap (λ (z : LargeState). z.large) settled.state) before (ap large_state left) in
    record { names = settled.names; held = held; bodies = bodies }
performed x y h k (asked.Store o) told q apart (r, stores, left, tells) =
    let b = stores.acts.history in
    let settled = settling ENDS x stores.settled h stores.history stores.settles in
    let before : large_state b ≡ large_state stores.history = paused_state o stores.settled stores.acts.middle stores.history b stores.acts.pauses in
    let (held, bodies) = spared_behind o r (large_state h) (large_state stores.history) (large_state b) (large_state k) settled.names q apart settled.registers (ap (λ (z : LargeState). z.large) settled.state) before (ap large_state left) in
    record { names = settled.names; held = held; bodies = bodies }
performed x y h k (asked.Reply o) told q apart (r, replies, left, tells) =
    let (held, bodies) = spared_behind o r (large_state h) (large_state h) (large_state h) (large_state k) None q apart (λ n. refl) refl refl (ap large_state left) in
    record { names = None; held = held; bodies = bodies }
performed x y h k (asked.See o) told q apart performs = absurd apart
performed x y h k (asked.IsNil register) told q apart performs = absurd apart

-- an operation that gives a register something
abbrev pub Gives : LargeOp → Type 0
Gives (large_op.Small (op.New dest shape)) = ⊤
Gives (large_op.Small (op.Load dest base index)) = ⊤
Gives (large_op.Small (op.Move dest source)) = ⊤
Gives o = ⊥

abbrev GivesAsked : Asked → Type 0
GivesAsked (asked.Make o) = Gives o
GivesAsked (asked.Reply o) = Gives o
GivesAsked a = ⊥

-- where it is refused, all stays
refused_load : (s : State) (dest index : ℕ) (held : Option Name) → code_of (large_reply.Small (load_from s 1 dest index held).1) ≢ code.Done → (load_from s 1 dest index held).0 ≡ s
refused_load s dest index None failed = refl
refused_load s dest index (Some n) failed = at_found (slice_get (refs_of (object_at s.graph n)) index) failed
  where
    at_found : (found : Option (Option Name)) → code_of (large_reply.Small (loaded s 1 dest found).1) ≢ code.Done → (loaded s 1 dest found).0 ≡ s
    at_found None failed = refl
    at_found (Some v) failed = absurd (failed refl)

pub refused_after : (terms : LargeTerms) (h : List LargeItem) (o : LargeOp) (r : LargeReply) → Gives o → LargeReplies terms h o r → code_of r ≢ code.Done → large_after (large_state h) o r ≡ large_state h
refused_after terms h (large_op.Small (op.New dest shape)) (large_reply.Small reply.Full) gives replies failed = refl
refused_after terms h (large_op.Small (op.New dest shape)) r gives replies failed = absurd (failed (ap code_of (sym replies)))
refused_after terms h (large_op.Small (op.Load dest base index)) r gives replies failed =
    ap (λ z. record (large_state h) { small = z }) (refused_load (large_state h).small dest index (register_at (large_state h).small 1 base) (λ done. failed (ap code_of (sym replies) ∙ done)))
refused_after terms h (large_op.Small (op.Move dest source)) r gives replies failed = absurd (failed (ap code_of (sym replies)))
refused_after terms h o r gives replies failed = absurd gives

-- each register holds what it held, and each body is as it was, by the new names where names were renewed
record Stays (s u : LargeState) : Type 0 where
  names : Option (List Name)
  held : (q : ℕ) → register_at u.small 1 q ≡ as_named names (register_at s.small 1 q)
  bodies : u.large ≡ (with_names names s).large

refused : (x y : HostHeap) (h k : List LargeItem) (a : Asked) (told : Told) → GivesAsked a → Performs x h a y k told → told.code ≢ code.Done → Stays (large_state h) (large_state k)
refused x y h k (asked.Make o) told gives (r, makes, left, tells) failed =
    let b = makes.acts.history in
    let settled = settling ENDS x makes.settled h makes.settled_history makes.settles in
    let before : large_state b ≡ large_state makes.settled_history =
    paused_state o makes.paused makes.acts.middle makes.turns.history b makes.acts.pauses
    ∙ turned_state makes.settled makes.paused makes.settled_history makes.turns in
    let same : large_state k ≡ large_state makes.settled_history =
    ap large_state left ∙ refused_after (terms_of y.heap) b o r gives makes.acts.replies.heap.holds.legal.1.reply (λ done. failed (ap (λ (t : Told). t.code) tells ∙ done)) ∙ before in
    record {
      names = settled.names;
      held = λ q. ap (λ (z : LargeState). register_at z.small 1 q) same ∙ settled.registers q;
      bodies = ap (λ (z : LargeState). z.large) same ∙ ap (λ (z : LargeState). z.large) settled.state;
    }
refused x y h k (asked.Reply o) told gives (r, replies, left, tells) failed =
    let same : large_state k ≡ large_state h = ap large_state left ∙ refused_after (terms_of y.heap) h o r gives replies.heap.holds.legal.1.reply (λ done. failed (ap (λ (t : Told). t.code) tells ∙ done)) in
    record { names = None; held = λ q. ap (λ (z : LargeState). register_at z.small 1 q) same; bodies = ap (λ (z : LargeState). z.large) same }
refused x y h k (asked.Store o) told gives performs failed = absurd gives
refused x y h k (asked.See o) told gives performs failed = absurd gives
refused x y h k (asked.IsNil register) told gives performs failed = absurd gives

-- ---- operations in turn

-- a register that no operation of a call gives something: it isn't one of the library's, nor the one that the call gives something
abbrev IsKept : ℕ → Option ℕ → ℕ → Type 0
IsKept registers given q = (q ≢ registers) × (q ≢ registers + 1) × (Some q ≢ given)

record Left (registers : ℕ) (given : Option ℕ) (s u : LargeState) : Type 0 where
  renewals : List (List Name)
  held : (q : ℕ) → IsKept registers given q → register_at u.small 1 q ≡ as_renamed renewals (register_at s.small 1 q)
  bodies : u.large ≡ (with_renewals renewals s).large

left_none : (registers : ℕ) (given : Option ℕ) (s : LargeState) → Left registers given s s
left_none registers given s = record { renewals = []; held = λ q kept. refl; bodies = refl }

left_more : (registers : ℕ) (given : Option ℕ) (s u w : LargeState) (a : Asked) → Left registers given s u → ((q : ℕ) → IsKept registers given q → SparesAsked a q) → Spared a u w → Left registers given s w
left_more registers given s u w a left spares one = record {
  renewals = renewals_with one.names left.renewals;
  held = λ q kept. one.held q (spares q kept) ∙ ap (as_named one.names) (left.held q kept) ∙ named_with one.names left.renewals (register_at s.small 1 q);
  bodies = one.bodies ∙ renewed_bodies one.names left.renewals s u left.bodies;
}

-- some register is kept
abbrev SomeKept : ℕ → Option ℕ → Type 0
SomeKept registers given = (q : ℕ) × IsKept registers given q

runs_left : (registers : ℕ) (given : Option ℕ) (s : LargeState) (x y : HostHeap) (h k : List LargeItem) (ops : List Asked) (c : Code) → SomeKept registers given → ((q : ℕ) → IsKept registers given q → AllSpare ops q)
    → Left registers given s (large_state h) → Runs x h ops y k c → Left registers given s (large_state k)
runs_left registers given s x y h k [] c some spare left (same, behind, done) = subst (λ l. Left registers given s (large_state l)) (sym behind) left
runs_left registers given s x y h k (a ∷ ops) c (p, kept) spare left (m, j, t, performs, inl (done, rest)) =
    runs_left registers given s m y j k ops c (p, kept) (λ q is. (spare q is).1)
    (left_more registers given s (large_state h) (large_state j) a left (λ q is. (spare q is).0) (performed x m h j a t p (spare p kept).0 performs)) rest
runs_left registers given s x y h k (a ∷ ops) c (p, kept) spare left (m, j, t, performs, inr (failed, same, behind, told)) =
    subst (λ l. Left registers given s (large_state l)) (sym behind)
    (left_more registers given s (large_state h) (large_state j) a left (λ q is. (spare q is).0) (performed x m h j a t p (spare p kept).0 performs))

left_refused : (registers : ℕ) (given : Option ℕ) (s u w : LargeState) → Left registers given s u → Stays u w → Left registers given s w
left_refused registers given s u w left one = record {
  renewals = renewals_with one.names left.renewals;
  held = λ q kept. one.held q ∙ ap (as_named one.names) (left.held q kept) ∙ named_with one.names left.renewals (register_at s.small 1 q);
  bodies = one.bodies ∙ renewed_bodies one.names left.renewals s u left.bodies;
}

-- where the last of some operations is the one that gives a register something, and they came to another code than that of success
runs_short : (registers : ℕ) (s : LargeState) (x y : HostHeap) (h k : List LargeItem) (before : List Asked) (a : Asked) (c : Code) → SomeKept registers None → GivesAsked a → ((q : ℕ) → IsKept registers None q → AllSpare before q)
    → Left registers None s (large_state h) → Runs x h (before ++ a ∷ []) y k c → c ≢ code.Done → Left registers None s (large_state k)
runs_short registers s x y h k [] a c some gives spare left (m, j, t, performs, inl (done, (same, behind, told))) failed = absurd (failed told)
runs_short registers s x y h k [] a c some gives spare left (m, j, t, performs, inr (fails, same, behind, told)) failed =
    subst (λ l. Left registers None s (large_state l)) (sym behind) (left_refused registers None s (large_state h) (large_state j) left (refused x m h j a t gives performs fails))
runs_short registers s x y h k (b ∷ before) a c (p, kept) gives spare left (m, j, t, performs, inl (done, rest)) failed =
    runs_short registers s m y j k before a c (p, kept) gives (λ q is. (spare q is).1)
    (left_more registers None s (large_state h) (large_state j) b left (λ q is. (spare q is).0) (performed x m h j b t p (spare p kept).0 performs)) rest failed
runs_short registers s x y h k (b ∷ before) a c (p, kept) gives spare left (m, j, t, performs, inr (fails, same, behind, told)) failed =
    subst (λ l. Left registers None s (large_state l)) (sym behind)
    (left_more registers None s (large_state h) (large_state j) b left (λ q is. (spare q is).0) (performed x m h j b t p (spare p kept).0 performs))

-- ---- a call

unchanged : (x y : HostHeap) (h : List LargeItem) (given : Option ℕ) → IsHostOf x h → y ≡ x → KeepsRegisters x h y given
unchanged x y h given is same = (h, subst (λ (z : HostHeap). IsHostOf z h) (sym same) is, record { renewals = []; held = λ r less other. refl; bodies = refl })

-- what a host may name, and isn't given something, is kept
host_kept : (registers r : ℕ) (given : Option ℕ) → r < registers → Some r ≢ given → IsKept registers given r
host_kept registers r given less other = ((let apart : r ≢ registers = λ e. omega (arith, e, less) in apart), (let apart : r ≢ registers + 1 = λ e. omega (arith, e, less) in apart), other)

carried : (x y : HostHeap) (h : List LargeItem) (given : Option ℕ) (plan : Plan) (told : Code) → IsHostOf x h → SomeKept (registers_in x) given
    → ((q : ℕ) → IsKept (registers_in x) given q → AllSpare plan.steps q × AllSpare plan.last q) → Carries x y h (Ok plan) told → KeepsRegisters x h y given
carried x y h given plan told is some spare (m, j, k, ran, ended) =
    let n = registers_in x in
    let s : LargeState = large_state h in
    let first = runs_left n given s x m h j plan.steps told some (λ q kept. (spare q kept).0) (left_none n given s) ran in
    let both = runs_left n given s m y j k plan.last code.Done some (λ q kept. (spare q kept).1) first ended in
    (k, runs_host m y j k plan.last code.Done (runs_host x m h j plan.steps told is ran) ended, record { renewals = both.renewals; held = λ r less other. both.held r (host_kept n r given less other); bodies = both.bodies })

-- the one behind the library's two is kept, where a call gives none of the host's something, or one
some_kept : (registers : ℕ) → SomeKept registers None
some_kept registers = (registers + 2, ((let apart : registers + 2 ≢ registers = λ e. omega (arith, e) in apart), (let apart : registers + 2 ≢ registers + 1 = λ e. omega (arith, e) in apart), λ e. cc))

some_but : (registers dest : ℕ) → dest < registers → SomeKept registers (Some dest)
some_but registers dest small = (
  registers + 2,
  (
    (let apart : registers + 2 ≢ registers = λ e. omega (arith, e) in apart),
    (let apart : registers + 2 ≢ registers + 1 = λ e. omega (arith, e) in apart),
    λ e. let same : registers + 2 ≡ dest = same_Some (registers + 2) dest e in omega (arith, same, small),
  ),
)

-- a call that doesn't tell success gives none of the host's something
pub given_none : (c : Code) (dest : ℕ) → c ≢ code.Done → given_by c dest ≡ None
given_none code.Done dest failed = absurd (failed refl)
given_none c dest failed = refl

-- where the last of its steps is the one that would
by_code : (x y : HostHeap) (h : List LargeItem) (dest : ℕ) (before : List Asked) (a : Asked) (last : List Asked) (told : Code) → IsHostOf x h → dest < registers_in x → GivesAsked a
    → ((q : ℕ) → IsKept (registers_in x) None q → AllSpare before q × AllSpare last q) → ((q : ℕ) → IsKept (registers_in x) (Some dest) q → SparesAsked a q)
    → Carries x y h (Ok (record { steps = before ++ a ∷ []; last = last })) told → KeepsRegisters x h y (given_by told dest)
by_code x y h dest before a last told is small gives spare one carry = elim (code_cases told) [
  | inl done ↦ subst (λ c. KeepsRegisters x h y (given_by c dest)) (sym done)
      (carried x y h (Some dest) (record { steps = before ++ a ∷ []; last = last }) told is (some_but (registers_in x) dest small)
      (λ q kept. let none = spare q (kept.0, kept.1, λ e. cc) in (spare_on before (a ∷ []) q none.0 (one q kept, tt), none.1)) carry)
  | inr failed ↦ subst (KeepsRegisters x h y) (sym (given_none told dest failed)) (short carry failed)
]
  where
    short : Carries x y h (Ok (record { steps = before ++ a ∷ []; last = last })) told → told ≢ code.Done → KeepsRegisters x h y None
    short (m, j, k, ran, ended) failed =
        let n = registers_in x in
        let s : LargeState = large_state h in
        let first = runs_short n s x m h j before a told (some_kept n) gives (λ q kept. (spare q kept).0) (left_none n None s) ran failed in
        let both = runs_left n None s m y j k last code.Done (some_kept n) (λ q kept. (spare q kept).1) first ended in
        (k, runs_host m y j k last code.Done (runs_host x m h j (before ++ a ∷ []) told is ran) ended, record { renewals = both.renewals; held = λ r less other. both.held r (host_kept n r None less other); bodies = both.bodies })

-- ---- sides

-- a register that is kept isn't that of the part at hand
side_apart : (x : HostHeap) (array q : ℕ) (given : Option ℕ) (a : Side) → IsSideOf x array a → IsKept (registers_in x) given q → IsApart a q
side_apart x array q given a (inl whole) kept = subst (λ b. IsApart b q) (sym whole) tt
side_apart x array q given a (inr (own, there, parts)) (first, second, other) = subst (λ b. IsApart b q) (sym parts) (λ e. first (e ∙ own_first x own there))

last_spares : (a : Side) (q : ℕ) → IsApart a q → AllSpare (last_of a) q
last_spares (side.Whole array) q apart = tt
last_spares (side.Parts root part) q apart = (apart, tt)

side_carried : (x y : HostHeap) (h : List LargeItem) (array : ℕ) (given : Option ℕ) (plan : Side → Plan) (found : Result Side Code) (told : Code) → IsHostOf x h → SomeKept (registers_in x) given → ((a : Side) → found ≡ Ok a → IsSideOf x array a)
    → ((a : Side) → (plan a).last ≡ last_of a) → ((a : Side) (q : ℕ) → IsKept (registers_in x) given q → IsApart a q → AllSpare (plan a).steps q) → Carries x y h (planned plan found) told → KeepsRegisters x h y given
side_carried x y h array given plan (Err e) told is some there last spare (tells, same) = unchanged x y h given is same
side_carried x y h array given plan (Ok a) told is some there last spare ran =
    carried x y h given (plan a) told is some
    (λ q kept. let apart = side_apart x array q given a (there a refl) kept in (spare a q kept apart, subst (λ ops. AllSpare ops q) (sym (last a)) (last_spares a q apart))) ran

load_carried : (x y : HostHeap) (h : List LargeItem) (index : ℕ) (pair : Pair) (found : Result Side Code) (told : Code) → IsHostOf x h → pair.other < registers_in x → ((a : Side) → found ≡ Ok a → IsSideOf x pair.array a)
    → Carries x y h (planned (loading pair index) found) told → KeepsRegisters x h y (given_by told pair.other)
load_carried x y h index pair (Err e) told is small there (tells, same) = unchanged x y h (given_by told pair.other) is same
load_carried x y h index pair (Ok a) told is small there ran =
    by_code x y h pair.other (enter_steps a index) (load_of pair.other (holder a) (index_at a index)) (last_of a) told is small tt
    (λ q kept. let apart = side_apart x pair.array q None a (there a refl) kept in (entering_spares a true index q apart, last_spares a q apart)) (λ q kept. λ e. kept.2 (ap Some e)) ran

-- ---- copies

parts_apart : (elements part array end q : ℕ) (a : Side) → parts_side elements (Some part) array end ≡ Ok a → q ≢ part → IsApart a q
parts_apart elements part array end q a same apart = at_end (nat_le end elements) same
  where
    at_end : (b : Bool) → ◌≡◌ {A = Result Side Code} (if b then Ok (side.Parts array part) else Err code.Index) (Ok a) → IsApart a q
    at_end true is = subst (λ b. IsApart b q) (let found : side.Parts array part ≡ a = cc in found) apart
    at_end false is = absurd (cc)

range_apart : (s : LargeState) (part array first count q : ℕ) (a : Side) → range_of s (Some part) array first count ≡ Ok a → q ≢ part → IsApart a q
range_apart s part array first count q a found apart = at_held (references_held s array) (root_length s array) found
  where
    at_end : (references : ℕ) (b : Bool) → ◌≡◌ {A = Result Side Code} (if b then Ok (side.Whole array) else Err code.Index) (Ok a) → IsApart a q
    at_end references true is = subst (λ b. IsApart b q) (let same : side.Whole array ≡ a = cc in same) tt
    at_end references false is = absurd (cc)

    at_held : (held root : Option ℕ) → range_held held root (Some part) array (first + count) ≡ Ok a → IsApart a q
    at_held None root same = absurd (cc)
    at_held (Some references) None same = at_end references (nat_le (first + count) references) same
    at_held (Some references) (Some elements) same = parts_apart (min elements (PART * references)) part array (first + count) q a same apart

copy_spares : (c : Copying) (q : ℕ) → IsApart c.to q → IsApart c.from q → q ≢ c.element → AllSpare (copy_checked c) q
copy_spares c q to from other =
    spare_on (check_copy c) (in_turn (copy_steps c) c.count) q
    (spare_on (checks c.to c.at c.count) (checks c.from c.first c.count) q (checks_spare c.to c.at c.count q to) (checks_spare c.from c.first c.count q from))
    (spare_turns (copy_steps c) c.count q (λ n. spare_on (load_steps c.from c.element _) (store_steps c.to _ _ c.element) q (loads_spare c.from c.element _ q from other) (stores_spare c.to _ _ c.element q to)))

copied : (x y : HostHeap) (h : List LargeItem) (at first count : ℕ) (pair : Pair) (told : Code) → IsHostOf x h → Carries x y h (copy_by (own_in x) (large_state h) at first count pair) told → KeepsRegisters x h y None
copied x y h at first count pair told is carry = at_own (own_in x) refl carry
  where
    at_own : (o : Option OwnRegisters) → own_in x ≡ o → Carries x y h (copy_by o (large_state h) at first count pair) told → KeepsRegisters x h y None
    at_own None none (tells, same) = unchanged x y h None is same
    at_own (Some own) there carry =
        at_to (range_of (large_state h) (Some own.first) pair.array at count) (range_of (large_state h) (Some own.second) pair.other first count) refl refl carry
      where
        at_to : (to from : Result Side Code) → range_of (large_state h) (Some own.first) pair.array at count ≡ to → range_of (large_state h) (Some own.second) pair.other first count ≡ from
            → Carries x y h (planned (copying own) (copying_by own at first count to from)) told → KeepsRegisters x h y None
        at_to (Err e) from a b (tells, same) = unchanged x y h None is same
        at_to (Ok t) (Err e) a b (tells, same) = unchanged x y h None is same
        at_to (Ok t) (Ok f) a b carry =
            carried x y h None (copying own (record { to = t; at = at; from = f; first = first; count = count; element = own.second })) told is (some_kept (registers_in x))
            (λ q kept.
            let one : q ≢ own.first = λ e. kept.0 (e ∙ own_first x own there) in
            let two : q ≢ own.second = λ e. kept.1 (e ∙ own_second x own there) in (
              copy_spares (record { to = t; at = at; from = f; first = first; count = count; element = own.second }) q (range_apart (large_state h) own.first pair.array at count q t a one)
                  (range_apart (large_state h) own.second pair.other first count q f b two) two,
              (one, (two, tt)),
            )) carry

-- ---- new arrays

made : (x y : HostHeap) (h : List LargeItem) (wanted : NewArray) (told : Code) (b : Bool) → IsHostOf x h → wanted.dest < registers_in x
    → Carries x y h (if b then Ok (record { steps = new_of wanted.dest wanted.length 0 ∷ []; last = [] }) else parts_plan (own_in x) wanted) told → KeepsRegisters x h y (given_by told wanted.dest)
made x y h wanted told true is small carry = by_code x y h wanted.dest [] (new_of wanted.dest wanted.length 0) [] told is small tt (λ q kept. (tt, tt)) (λ q kept. λ e. kept.2 (ap Some e)) carry
made x y h wanted told false is small carry = at_own (own_in x) refl carry
  where
    at_own : (o : Option OwnRegisters) → own_in x ≡ o → Carries x y h (parts_plan o wanted) told → KeepsRegisters x h y (given_by told wanted.dest)
    at_own None none (tells, same) = unchanged x y h (given_by told wanted.dest) is same
    at_own (Some own) there carry =
        by_code x y h wanted.dest (root_steps own wanted.length) (move_of wanted.dest own.first) (own_nil own) told is small tt
        (λ q kept.
        let one : q ≢ own.first = λ e. kept.0 (e ∙ own_first x own there) in
        let two : q ≢ own.second = λ e. kept.1 (e ∙ own_second x own there) in (
          spare_on (new_of own.first (parts_of wanted.length) 1 ∷ put_of own.first 0 wanted.length ∷ []) (in_turn (part_steps own wanted.length) (parts_of wanted.length)) q (one, (tt, tt))
              (spare_turns (part_steps own wanted.length) (parts_of wanted.length) q (λ n. (two, (tt, tt)))),
          (one, (two, tt)),
        )) (λ q kept. λ e. kept.2 (ap Some e)) carry

-- ---- each call

pub arrays_keep_registers : ArraysKeepRegisters
arrays_keep_registers = record {
  made = λ x y h wanted told is fits carry. made x y h wanted told (nat_le wanted.length PART) is fits.0 carry;
  loaded = λ x y h index pair told is fits carry.
      load_carried x y h index pair (side_of (large_state h) (first_own x) pair.array index) told is fits.1 (λ a found. side_cases x (large_state h) pair.array index a found) carry;
  stored = λ x y h index pair told is fits carry.
      side_carried x y h pair.array None (storing pair index) (side_of (large_state h) (first_own x) pair.array index) told is (some_kept (registers_in x))
      (λ a found. side_cases x (large_state h) pair.array index a found) (λ a. refl) (λ a q kept apart. stores_spare a true index pair.other q apart) carry;
  filled = λ x y h first count pair told is fits carry.
      side_carried x y h pair.array None (filling pair first count) (range_of (large_state h) (first_own x) pair.array first count) told is (some_kept (registers_in x))
      (λ a found. range_cases x (large_state h) pair.array first count a found) (λ a. refl)
      (λ a q kept apart. spare_on (checks a first count) (in_turn (fill_steps a first pair.other) count) q (checks_spare a first count q apart)
      (spare_turns (fill_steps a first pair.other) count q (λ n. stores_spare a (enters false n (first + n)) (first + n) pair.other q apart))) carry;
  copied = λ x y h at first count pair told is fits carry. copied x y h at first count pair told is carry;
}
