-- A new array of up to 1,023 elements: they are nil.
use Rattle.std.proofs.Common.{◌≡◌, ◌≢◌, ℕ, zero, suc, ◌<◌, ◌∙◌, refl, sym, ap, subst, arith, cond, inl, inr, Option, Some, None, List, [], ◌∷◌, length}
use Rattle.std.specs.Prelude.{IsTrue, is_some, min, option_map, replicate, slice_get, slice_index_or, unwrap_or, if◌then◌else◌, Ok}
use Rattle.std.proofs.lemmas.Bool.{le-leb}
use Rattle.std.proofs.lemmas.List.{get_or_past}
use Rattle.std.proofs.lemmas.Option.{get_or_from_slice_get, same_Some}
use Rattle.lxr_layout.specs.declared.Name.{Name}
use Rattle.lxr_layout.specs.declared.Shape.{Shape}
use Rattle.lxr_layout.specs.declared.TheConstants.{REGISTERS}
use Rattle.lxr_graph.specs.declared.Op.TheVariants as op
use Rattle.lxr_graph.specs.declared.Reply.TheVariants as reply
use Rattle.lxr_graph.specs.Names.{same_name}
use Rattle.lxr_graph.specs.State.{HasObject, Object, State, next_name, object_at, refs_of, register_at, values_of}
use Rattle.lxr_graph.specs.Step.{fresh, make}
use Rattle.lxr_graph.proofs.NameSets.{same_itself}
use Rattle.lxr_graph.proofs.RowLemmas.{next_none, object_at-with_new}
use Rattle.lxr_large_model.specs.declared.LargeOp.TheVariants as large_op
use Rattle.lxr_large_model.specs.declared.LargeReply.{LargeReply}
use Rattle.lxr_large_model.specs.declared.LargeReply.TheVariants as large_reply
use Rattle.lxr_large_model.specs.Full.{LargeReplies, LargeTerms}
use Rattle.lxr_large_model.specs.History.{Called, LargeItem, large_state}
use Rattle.lxr_large_model.specs.State.{LargeState}
use Rattle.lxr_large_model.specs.Step.{large_after}
use Rattle.lxr_heap.specs.declared.heap.Heap.{Heap}
use Rattle.lxr_heap.specs.Holding.{IsHeapOf, abstract_of, terms_of}
use Rattle.lxr_core_invariant.proofs.HeldLemmas.{IsHeld, in_register, reference_held}
use Rattle.lxr_heap.proofs.HeapLemmas.{one_thread}
use Rattle.lxr_heap.proofs.MomentLemmas.{two_rows}
use Rattle.lxr_c_base.specs.Codes.{code_of}
use Rattle.lxr_c_base.specs.declared.codes.Code.TheVariants as code
use Rattle.lxr_c_heap.specs.declared.host.HostHeap.{HostHeap}
use Rattle.lxr_c_heap.specs.declared.host.TheConstants.{ENDS}
use Rattle.lxr_c_heap.specs.Hosting.{IsHostOf}
use Rattle.lxr_c_many.specs.Fields.{references_in, words_in}
use Rattle.lxr_c_many.specs.declared.applying.Told.{Told}
use Rattle.lxr_c_many.specs.declared.asked.Asked.{Asked}
use Rattle.lxr_c_many.proofs.ApplyLemmas.{performs_host}
use Rattle.lxr_c_many.proofs.HostLemmas.{making_host}
use Rattle.lxr_c_many.proofs.MakingLemmas.{all_registers}
use Rattle.lxr_c_arrays.specs.Elements.{CanReach, NewElementsAreNil, by_reference, by_register}
use Rattle.lxr_c_arrays.specs.Operations.{new_of}
use Rattle.lxr_c_arrays.specs.Plans.{parts_plan}
use Rattle.lxr_c_arrays.specs.Running.{Carries, Runs}
use Rattle.lxr_c_arrays.specs.Sides.{root_length}
use Rattle.lxr_c_heap.specs.Hosting.{own_in}
use Rattle.lxr_c_arrays.proofs.ElementLemmas.{changed_register, few_registers, other_register}
use Rattle.lxr_c_arrays.proofs.ReachLemmas.{ReachApart, apart_named, apart_over, own_named, own_over, reached_over}
use Rattle.lxr_c_arrays.proofs.SettleLemmas.{IsReached, IsReachedBy, Settled, paused_state, settling, turned_state}
use Rattle.lxr_c_arrays.proofs.StoreLemmas.{unlike, whole_elements}

-- ---- one new object

pub nil_at : (n j : ℕ) → ◌≡◌ {A = Option Name} (slice_index_or (replicate n None) j None) None
nil_at zero j = get_or_past [] j None (omega arith)
nil_at (suc n) zero = refl
nil_at (suc n) (suc j) = nil_at n j

-- an object was made, which the register got
pub record GotObject (s u : LargeState) (dest : ℕ) (shape : Shape) : Type 0 where
  pub rows : 1 < length s.small.graph
  pub registers : length s.small.registers ≡ REGISTERS
  pub after : u ≡ record s { small = (make s.small 1 dest (fresh shape) (next_name s.small.graph 1)).0 }

-- what registers reach is there
abbrev pub AreThere : LargeState → Type 0
AreThere s = (n : Name) → IsReached s n → HasObject s.small.graph n

module _ (x : Heap) (h : List LargeItem) (is : IsHeapOf x h) where
  held_member : (r : ℕ) (n : Name) → register_at (large_state h).small 1 r ≡ Some n → IsHeld (abstract_of x h is.at).moment (Some n)
  held_member r n held = subst (IsHeld (abstract_of x h is.at).moment) (ap (λ (z : State). register_at z 1 r) is.state ∙ held) (in_register (abstract_of x h is.at).moment 1 r is.stands.0.safepoint.holds.follows)

  member_there : (n : Name) → IsHeld (abstract_of x h is.at).moment (Some n) → HasObject (large_state h).small.graph n
  member_there n member =
      let (o, found, stands) = is.stands.0.safepoint.holds.image.image.stands n member in
      subst (λ q. IsTrue (is_some q)) (sym (sym (ap (λ (z : State). object_at z.graph n) is.state) ∙ found)) refl

  reached_there : AreThere (large_state h)
  reached_there n (r, inl held) = member_there n (held_member r n held)
  reached_there n (r, inr (m, i, held, read)) = at_object (object_at (large_state h).small.graph m) refl
    where
      at_object : (o : Option Object) → object_at (large_state h).small.graph m ≡ o → HasObject (large_state h).small.graph n
      at_object None none = absurd (let nowhere : slice_get (refs_of None) i ≡ Some (Some n) = subst (λ o. slice_get (refs_of o) i ≡ Some (Some n)) none read in cc)
      at_object (Some o) found =
          member_there n (reference_held (abstract_of x h is.at).moment m o i (Some n) is.stands.0.safepoint.holds.follows (held_member r m held) (ap (λ (z : State). object_at z.graph m) is.state ∙ found) (subst (λ q. slice_get (refs_of q) i ≡ Some (Some n)) found read))

  -- so is all that registers can reach
  all_held : (k : ℕ) (n : Name) → CanReach k (large_state h) n → IsHeld (abstract_of x h is.at).moment (Some n)
  all_held k q (by_register r n less held) = held_member r n held
  all_held k q (by_reference m n i reach read) = at_object (object_at (large_state h).small.graph m) refl (all_held k m reach)
    where
      at_object : (o : Option Object) → object_at (large_state h).small.graph m ≡ o → IsHeld (abstract_of x h is.at).moment (Some m) → IsHeld (abstract_of x h is.at).moment (Some n)
      at_object None none member = absurd (let nowhere : slice_get (refs_of None) i ≡ Some (Some n) = subst (λ o. slice_get (refs_of o) i ≡ Some (Some n)) none read in cc)
      at_object (Some o) found member =
          reference_held (abstract_of x h is.at).moment m o i (Some n) is.stands.0.safepoint.holds.follows member (ap (λ (z : State). object_at z.graph m) is.state ∙ found) (subst (λ q. slice_get (refs_of q) i ≡ Some (Some n)) found read)

  pub all_there : (k : ℕ) (n : Name) → CanReach k (large_state h) n → HasObject (large_state h).small.graph n
  all_there k n reach = member_there n (all_held k n reach)

-- success tells of an object
reply_new : (terms : LargeTerms) (h : List LargeItem) (dest : ℕ) (shape : Shape) (r : LargeReply) → LargeReplies terms h (large_op.Small (op.New dest shape)) r → code_of r ≡ code.Done
    → r ≡ large_reply.Small (reply.New (next_name (large_state h).small.graph 1))
reply_new terms h dest shape (large_reply.Small reply.Full) replies done = absurd (cc)
reply_new terms h dest shape r replies done = sym replies

pub object_made : (p m : HostHeap) (b j : List LargeItem) (dest : ℕ) (shape : Shape) (r : LargeReply) → IsHostOf p b → LargeReplies (terms_of m.heap) b (large_op.Small (op.New dest shape)) r
    → j ≡ Called (large_op.Small (op.New dest shape)) r ∷ b → code_of r ≡ code.Done → GotObject (large_state b) (large_state j) dest shape
object_made p m b j dest shape r host replies left done =
    let two = two_rows p.heap.space (abstract_of p.heap b host.heap.at) host.heap.stands.0 (one_thread p.heap b host.heap) in
    let same = ap (λ (z : State). length z.graph) host.heap.state in
    record {
      rows = omega (arith, two, same);
      registers = all_registers p.heap b host.heap;
      after = ap large_state left ∙ ap (large_after (large_state b) (large_op.Small (op.New dest shape))) (reply_new (terms_of m.heap) b dest shape r replies done);
    }

-- the first operation of a run made an object, after settling, and the others follow
pub record MakesFirst (h : List LargeItem) (dest : ℕ) (shape : Shape) (ops : List Asked) (y : HostHeap) (k : List LargeItem) : Type 0 where
  pub heap : HostHeap
  pub history : List LargeItem
  pub before : LargeState
  pub host : IsHostOf heap history
  pub settled : Settled (large_state h) before
  pub there : AreThere before
  pub made : GotObject before (large_state history) dest shape
  pub rest : Runs heap history ops y k code.Done

pub make_first : (x y : HostHeap) (h k : List LargeItem) (dest refs values : ℕ) (ops : List Asked) → IsHostOf x h → Runs x h (new_of dest refs values ∷ ops) y k code.Done
    → MakesFirst h dest (record { refs = refs; values = values }) ops y k
make_first x y h k dest refs values ops is (m, j, t, (r, makes, left, told), inl (done, rest)) =
    let shape : Shape = record { refs = refs; values = values } in
    let b = makes.acts.history in
    let host = making_host x m h (large_op.Small (op.New dest shape)) r is makes in
    record {
      heap = m;
      history = j;
      before = large_state b;
      host = performs_host x m h j (new_of dest refs values) t is (r, makes, left, told);
      settled = subst (Settled (large_state h))
          (sym (paused_state (large_op.Small (op.New dest shape)) makes.paused makes.acts.middle makes.turns.history b makes.acts.pauses
          ∙ turned_state makes.settled makes.paused makes.settled_history makes.turns))
          (settling ENDS x makes.settled h makes.settled_history makes.settles);
      there = reached_there makes.acts.middle.heap b host.heap;
      made = object_made makes.acts.middle m b j dest shape r host makes.acts.replies.heap.holds.legal.1.reply left (sym (ap (λ (u : Told). u.code) told) ∙ done);
      rest = rest;
    }
make_first x y h k dest refs values ops is (m, j, t, performs, inr (failed, same, left, told)) = absurd (failed (sym told))

module _ (s u : LargeState) (dest : ℕ) (shape : Shape) (made : GotObject s u dest shape) where
  abbrev pub next : Name
  next = next_name s.small.graph 1

  object_now : (n : Name) → object_at u.small.graph n ≡ cond (same_name n next) (Some (fresh shape)) (object_at s.small.graph n)
  object_now n = ap (λ (z : LargeState). object_at z.small.graph n) made.after ∙ object_at-with_new s.small.graph 1 (fresh shape) n made.rows

  pub new_object : object_at u.small.graph next ≡ Some (fresh shape)
  new_object = object_now next ∙ ap (λ c. cond c (Some (fresh shape)) (object_at s.small.graph next)) (same_itself next)

  pub new_held : dest < REGISTERS → register_at u.small 1 dest ≡ Some next
  new_held small = ap (λ (z : LargeState). register_at z.small 1 dest) made.after ∙ changed_register s.small dest (Some next) made.registers small

  pub new_references : dest < REGISTERS → references_in u dest ≡ Some (replicate shape.refs None)
  new_references small = ap (option_map (λ n. refs_of (object_at u.small.graph n))) (new_held small) ∙ ap (λ o. Some (refs_of o)) new_object

  pub new_words : dest < REGISTERS → words_in u dest ≡ Some (replicate shape.values 0)
  new_words small = ap (option_map (λ n. values_of (object_at u.small.graph n))) (new_held small) ∙ ap (λ o. Some (values_of o)) new_object

  -- what there was is as it was
  pub old_object : (n : Name) → HasObject s.small.graph n → object_at u.small.graph n ≡ object_at s.small.graph n
  old_object n has =
      let apart : n ≢ next = λ e. let none : IsTrue (is_some {T = Object} None) = subst (λ o. IsTrue (is_some o)) (ap (object_at s.small.graph) e ∙ next_none s.small.graph 1) has in absurd (cc) in
      object_now n ∙ ap (λ c. cond c (Some (fresh shape)) (object_at s.small.graph n)) (unlike n next apart)

  pub old_register : (r : ℕ) → r ≢ dest → register_at u.small 1 r ≡ register_at s.small 1 r
  old_register r apart = ap (λ (z : LargeState). register_at z.small 1 r) made.after ∙ other_register s.small dest r (Some next) apart

  pub old_references : (r : ℕ) → r ≢ dest → AreThere s → references_in u r ≡ references_in s r
  old_references r apart there = ap (option_map (λ n. refs_of (object_at u.small.graph n))) (old_register r apart) ∙ at_held (register_at s.small 1 r) refl
    where
      at_held : (v : Option Name) → register_at s.small 1 r ≡ v → option_map (λ n. refs_of (object_at u.small.graph n)) (register_at s.small 1 r) ≡ option_map (λ n. refs_of (object_at s.small.graph n)) (register_at s.small 1 r)
      at_held None e = ap (option_map (λ n. refs_of (object_at u.small.graph n))) e ∙ sym (ap (option_map (λ n. refs_of (object_at s.small.graph n))) e)
      at_held (Some m) e =
          ap (option_map (λ n. refs_of (object_at u.small.graph n))) e ∙ ap (λ o. Some (refs_of o)) (old_object m (there m (r, inl e))) ∙ sym (ap (option_map (λ n. refs_of (object_at s.small.graph n))) e)

  -- the register reaches the new object alone, and another one what it reached
  reached_new : (n : Name) → dest < REGISTERS → IsReachedBy u dest n → n ≡ next
  reached_new n small (inl held) = same_Some n next (sym held ∙ new_held small)
  reached_new n small (inr (m, i, held, read)) =
      let root : m ≡ next = same_Some m next (sym held ∙ new_held small) in
      let nils : slice_get (replicate shape.refs None) i ≡ Some (Some n) = ap (λ o. slice_get (refs_of o) i) (sym new_object) ∙ ap (λ q. slice_get (refs_of (object_at u.small.graph q)) i) (sym root) ∙ read in
      absurd (let none : Some n ≡ None = sym (get_or_from_slice_get (replicate shape.refs None) i (Some n) None nils) ∙ nil_at shape.refs i in cc)

  pub reached_old : (r : ℕ) (n : Name) → r ≢ dest → AreThere s → IsReachedBy u r n → IsReachedBy s r n
  reached_old r n apart there = reached_over s u r r n (old_register r apart) (λ m held. ap refs_of (old_object m (there m (r, inl held))))

  -- so they reach nothing in common
  pub new_apart : dest < REGISTERS → AreThere s → (r : ℕ) → r ≢ dest → ReachApart u r dest
  new_apart small there r apart n one two =
      let had : HasObject s.small.graph n = there n (r, reached_old r n apart there one) in
      let none : IsTrue (is_some {T = Object} None) = subst (λ o. IsTrue (is_some o)) (ap (object_at s.small.graph) (reached_new n small two) ∙ next_none s.small.graph 1) had in
      absurd (cc)

-- ---- a whole array

pub new_elements_are_nil : NewElementsAreNil
new_elements_are_nil x y h wanted is (small, most) few carried =
    let one : Carries x y h (Ok (record { steps = new_of wanted.dest wanted.length 0 ∷ []; last = [] })) code.Done =
    subst (λ b. Carries x y h (if b then Ok (record { steps = new_of wanted.dest wanted.length 0 ∷ []; last = [] }) else parts_plan (own_in x) wanted) code.Done) (le-leb wanted.length 1023 few) carried in
    let (m, j, k, ran, ended) = one in
    let shape : Shape = record { refs = wanted.length; values = 0 } in
    let first = make_first x m h j wanted.dest wanted.length 0 [] is ran in
    let b = first.before in
    let u : LargeState = large_state first.history in
    let known = few_registers x h is in
    let dest : wanted.dest < REGISTERS = omega (arith, known, small) in
    let root : root_length u wanted.dest ≡ None = ap (λ ws. option_map (λ w. min w 1046529) (slice_get (unwrap_or ws []) 0)) (new_words b u wanted.dest shape first.made dest) in (
      first.history,
      subst (λ (z : HostHeap). IsHostOf z first.history) (sym (ended.0 ∙ first.rest.0)) first.host,
      record {
        elements = whole_elements u wanted.dest (replicate wanted.length None) root (new_references b u wanted.dest shape first.made dest);
        names = first.settled.names;
        held = λ r less apart. old_register b u wanted.dest shape first.made r apart ∙ first.settled.registers r;
        objects = λ n has. old_object b u wanted.dest shape first.made n (subst (λ (z : LargeState). HasObject z.small.graph n) (sym first.settled.state) has) ∙ ap (λ (z : LargeState). object_at z.small.graph n) first.settled.state;
        own = λ r less other was.
            own_over b u r (old_register b u wanted.dest shape first.made r other) (old_references b u wanted.dest shape first.made r other first.there)
            (own_named (large_state h) b b first.settled r (first.settled.registers r) (first.settled.references r) was);
        apart = λ q r less few other differs are.
            apart_over b u q r (old_references b u wanted.dest shape first.made q other first.there) (old_register b u wanted.dest shape first.made r differs) (old_references b u wanted.dest shape first.made r differs first.there)
            (apart_named (large_state h) b b first.settled q r (first.settled.references q) (first.settled.registers r) (first.settled.references r) are);
        bodies = ap (λ (z : LargeState). z.large) first.made.after ∙ ap (λ (z : LargeState). z.large) first.settled.state;
      },
    )
