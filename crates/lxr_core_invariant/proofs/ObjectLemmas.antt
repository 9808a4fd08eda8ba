-- Each thread has as many objects as it began with and as it has had replies that tell of a new one.
use Rattle.std.proofs.Common.{◌≡◌, ℕ, zero, suc, ◌+◌, ◌%◌, ◌^◌, ◌<◌, ◌≤◌, Bool, true, false, arith, refl, sym, subst, ap, ◌∙◌, inl, inr, cond, List, [], ◌∷◌, ◌++◌, length, length-append, length-set, nat_eq, replicate}
use Rattle.std.specs.Prelude.{◌-◌, Option, Some, None, slice_set, if◌then◌else◌}
use Rattle.std.specs.List.{count_by}
use Rattle.std.proofs.lemmas.Bool.Decides.{eqb_tells}
use Rattle.std.proofs.lemmas.List.{length-map}
use Rattle.std.proofs.lemmas.List.Sums.{sum_by-append}
use Rattle.lxr_layout.specs.declared.Name.{Name}
use Rattle.lxr_layout.specs.declared.Shape.{Shape}
use Rattle.lxr_graph.specs.declared.Op.{Op}
use Rattle.lxr_graph.specs.declared.Op.TheVariants as op
use Rattle.lxr_graph.specs.declared.Reply.{Reply}
use Rattle.lxr_graph.specs.declared.Reply.TheVariants as reply
use Rattle.lxr_graph.specs.History.{Item, Call, Pause, Renew, replies_of}
use Rattle.lxr_graph.specs.Renewing.{renewed_graph, renewed_object}
use Rattle.lxr_graph.specs.State.{Graph, Object, State, index_in_row, object_at, register_at, row_of}
use Rattle.lxr_graph.specs.Step.{IsReply, add_to, added, fresh, get_from, got, load_from, loaded, put_at, put_to, state_after, step, store_to, stored, swap_in, swapped}
use Rattle.lxr_graph.proofs.RowLemmas.{row_of-set}
use Rattle.lxr_graph.proofs.RowCounts.{same_lengths, length-with_reference_at, length-with_value_at}
use Rattle.lxr_model.specs.Legal.{IsCall, IsLegalSoFar, Replies}
use Rattle.lxr_model.specs.Moments.{moment, opening_moment}
use Rattle.lxr_model.specs.Terms.{Terms}
use Rattle.lxr_model.proofs.UnrenewedLemmas.{IsUnrenewed}
use Rattle.lxr_model_counting.proofs.ReplyLemmas.{state_after_step}
use Rattle.lxr_core_invariant.specs.EpochStates.{CountsObjects, Extends, called, objects_before, same, tells_new}

-- how many objects a reply tells of, and how many of thread u a reply to thread t does
abbrev news : Reply → ℕ
news r = cond {A = ℕ} (tells_new r) 1 0

abbrev joined : ℕ → ℕ → Reply → ℕ
joined u t r = cond {A = ℕ} (nat_eq u t) (news r) 0

-- a step leaves as many rows, and each thread has as many objects more as the reply tells of
record CountsMore (s : State) (t : ℕ) (s' : State) (r : Reply) : Type 0 where
  pub rows : length s'.graph ≡ length s.graph
  pub objects : (u : ℕ) → length (row_of s'.graph u) ≡ length (row_of s.graph u) + joined u t r

none_added : (u t : ℕ) (r : Reply) (n m : ℕ) → tells_new r ≡ false → n ≡ m → n ≡ m + joined u t r
none_added u t r n m old e = let none = nothing (nat_eq u t) r old in omega (arith, e, none)
  where
    nothing : (own : Bool) (r : Reply) → tells_new r ≡ false → cond {A = ℕ} own (news r) 0 ≡ 0
    nothing true r old = ap (λ c. cond {A = ℕ} c 1 0) old
    nothing false r old = refl

-- the graph stays
unchanged : (s : State) (t : ℕ) (registers : List (Option Name)) (r : Reply) → tells_new r ≡ false → CountsMore s t (record s { registers = registers }) r
unchanged s t registers r old = record { rows = refl; objects = λ u. none_added u t r _ _ old refl }

-- a row is written that stays as long
written : (s : State) (t k : ℕ) (row : List Object) (registers : List (Option Name)) (r : Reply) → tells_new r ≡ false → length row ≡ length (row_of s.graph k)
    → CountsMore s t (record s { graph = slice_set s.graph k row; registers = registers }) r
written s t k row registers r old h = record { rows = length-set s.graph k row; objects = λ u. none_added u t r _ _ old (same_lengths s.graph k row u h) }

-- an object joins the thread's row
pushed : (s : State) (t : ℕ) (o : Object) (registers : List (Option Name)) (name : Name) → t < length s.graph
    → CountsMore s t (record { graph = slice_set s.graph t (row_of s.graph t ++ o ∷ []); registers = registers }) (reply.New name)
pushed s t o registers name there = record {
  rows = length-set s.graph t (row_of s.graph t ++ o ∷ []);
  objects = λ u. ap length (row_of-set s.graph t (row_of s.graph t ++ o ∷ []) u there) ∙ one u;
}
  where
    one : (u : ℕ) → length (cond (nat_eq u t) (row_of s.graph t ++ o ∷ []) (row_of s.graph u)) ≡ length (row_of s.graph u) + joined u t (reply.New name)
    one u = elim (eqb_tells u t) as (λ _. length (cond (nat_eq u t) (row_of s.graph t ++ o ∷ []) (row_of s.graph u)) ≡ length (row_of s.graph u) + joined u t (reply.New name)) [
      | inl q ↦ ap (λ c. length (cond c (row_of s.graph t ++ o ∷ []) (row_of s.graph u))) q.0 ∙ length-append (row_of s.graph t) (o ∷ [])
          ∙ ap (λ k. length (row_of s.graph k) + 1) (sym q.1) ∙ ap (λ (c : Bool). length (row_of s.graph u) + cond {A = ℕ} c 1 0) (sym q.0)
      | inr q ↦ ap (λ c. length (cond c (row_of s.graph t ++ o ∷ []) (row_of s.graph u))) q.0 ∙ plus_none (length (row_of s.graph u)) (nat_eq u t) q.0
    ]
      where
        plus_none : (n : ℕ) (c : Bool) → c ≡ false → n ≡ n + cond {A = ℕ} c 1 0
        plus_none n c e = let none : cond {A = ℕ} c 1 0 ≡ 0 = ap (λ (k : Bool). cond {A = ℕ} k 1 0) e in omega (arith, none)

-- ---- the cases of a step

loaded_counts : (s : State) (t dest : ℕ) (found : Option (Option Name)) → CountsMore s t (loaded s t dest found).0 (loaded s t dest found).1
loaded_counts s t dest None = unchanged s t s.registers reply.Range refl
loaded_counts s t dest (Some v) = unchanged s t _ (reply.Loaded v) refl

load_counts : (s : State) (t dest i : ℕ) (base : Option Name) → CountsMore s t (load_from s t dest i base).0 (load_from s t dest i base).1
load_counts s t dest i None = unchanged s t s.registers reply.Bad refl
load_counts s t dest i (Some n) = loaded_counts s t dest _

stored_counts : (s : State) (t : ℕ) (n : Name) (i : ℕ) (v : Option Name) (found : Option (Option Name)) → CountsMore s t (stored s n i v found).0 (stored s n i v found).1
stored_counts s t n i v None = unchanged s t s.registers reply.Range refl
stored_counts s t n i v (Some old) =
    written s t n.thread _ s.registers reply.Stored refl (length-with_reference_at (row_of s.graph n.thread) (index_in_row n) i v (object_at s.graph n))

store_counts : (s : State) (t i : ℕ) (v base : Option Name) → CountsMore s t (store_to s i v base).0 (store_to s i v base).1
store_counts s t i v None = unchanged s t s.registers reply.Bad refl
store_counts s t i v (Some n) = stored_counts s t n i v _

swapped_counts : (s : State) (t dest : ℕ) (n : Name) (i : ℕ) (v : Option Name) (found : Option (Option Name)) → CountsMore s t (swapped s t dest n i v found).0 (swapped s t dest n i v found).1
swapped_counts s t dest n i v None = unchanged s t s.registers reply.Range refl
swapped_counts s t dest n i v (Some old) =
    written s t n.thread _ _ (reply.Swapped old) refl (length-with_reference_at (row_of s.graph n.thread) (index_in_row n) i v (object_at s.graph n))

swap_counts : (s : State) (t dest i : ℕ) (v base : Option Name) → CountsMore s t (swap_in s t dest i v base).0 (swap_in s t dest i v base).1
swap_counts s t dest i v None = unchanged s t s.registers reply.Bad refl
swap_counts s t dest i v (Some n) = swapped_counts s t dest n i v _

put_at_counts : (s : State) (t : ℕ) (n : Name) (i v : ℕ) (found : Option ℕ) → CountsMore s t (put_at s n i v found).0 (put_at s n i v found).1
put_at_counts s t n i v None = unchanged s t s.registers reply.Range refl
put_at_counts s t n i v (Some old) =
    written s t n.thread _ s.registers reply.Put refl (length-with_value_at (row_of s.graph n.thread) (index_in_row n) i v (object_at s.graph n))

put_counts : (s : State) (t i v : ℕ) (base : Option Name) → CountsMore s t (put_to s i v base).0 (put_to s i v base).1
put_counts s t i v None = unchanged s t s.registers reply.Bad refl
put_counts s t i v (Some n) = put_at_counts s t n i v _

added_counts : (s : State) (t : ℕ) (n : Name) (i v : ℕ) (found : Option ℕ) → CountsMore s t (added s n i v found).0 (added s n i v found).1
added_counts s t n i v None = unchanged s t s.registers reply.Range refl
added_counts s t n i v (Some old) =
    written s t n.thread _ s.registers (reply.Added old) refl (length-with_value_at (row_of s.graph n.thread) (index_in_row n) i ((old + v) % 2 ^ 64) (object_at s.graph n))

add_counts : (s : State) (t i v : ℕ) (base : Option Name) → CountsMore s t (add_to s i v base).0 (add_to s i v base).1
add_counts s t i v None = unchanged s t s.registers reply.Bad refl
add_counts s t i v (Some n) = added_counts s t n i v _

got_counts : (s : State) (t : ℕ) (found : Option ℕ) → CountsMore s t s (got found)
got_counts s t None = unchanged s t s.registers reply.Range refl
got_counts s t (Some v) = unchanged s t s.registers (reply.Got v) refl

get_counts : (s : State) (t i : ℕ) (base : Option Name) → CountsMore s t (get_from s i base).0 (get_from s i base).1
get_counts s t i None = unchanged s t s.registers reply.Bad refl
get_counts s t i (Some n) = got_counts s t _

-- a step counts the objects that it makes
step_counts : (s : State) (t : ℕ) (o : Op) → t < length s.graph → CountsMore s t (step s t o).0 (step s t o).1
step_counts s t (op.New dest shape) there = pushed s t (fresh shape) _ _ there
step_counts s t (op.Load dest base index) there = load_counts s t dest index (register_at s t base)
step_counts s t (op.Store base index source) there = store_counts s t index (register_at s t source) (register_at s t base)
step_counts s t (op.Put base index value) there = put_counts s t index value (register_at s t base)
step_counts s t (op.Get base index) there = get_counts s t index (register_at s t base)
step_counts s t (op.Swap dest base index source) there = swap_counts s t dest index (register_at s t source) (register_at s t base)
step_counts s t (op.Add base index value) there = add_counts s t index value (register_at s t base)
step_counts s t (op.Move dest source) there = unchanged s t _ reply.Moved refl
step_counts s t (op.Nil dest) there = unchanged s t _ reply.Cleared refl
step_counts s t (op.Same left right) there = unchanged s t s.registers (reply.Same _) refl
step_counts s t op.Pause there = unchanged s t s.registers reply.Paused refl
step_counts s t op.Collect there = unchanged s t s.registers reply.Collected refl
step_counts s t op.End there = unchanged s t _ reply.Ended refl

after_counts : (s : State) (t : ℕ) (o : Op) (r : Reply) → t < length s.graph → IsReply s t o r → CountsMore s t (state_after s t o r) r
after_counts s t o r there is = subst (λ x. CountsMore s t (state_after s t o x) x) is (subst (λ x. CountsMore s t x (step s t o).1) (sym (state_after_step s t o)) (step_counts s t o there))

-- ---- histories

replies_counted : (u t : ℕ) (o : Op) (r : Reply) (h : List Item) → count_by tells_new (replies_of u (Call t o r ∷ h)) ≡ count_by tells_new (replies_of u h) + joined u t r
replies_counted u t o r h = by (nat_eq u t)
  where
    by : (own : Bool) → count_by tells_new (if own then replies_of u h ++ r ∷ [] else replies_of u h) ≡ count_by tells_new (replies_of u h) + cond {A = ℕ} own (news r) 0
    by true = let plain : 0 + news r ≡ news r = omega arith in sum_by-append news (replies_of u h) (r ∷ []) ∙ ap (λ (k : ℕ). count_by tells_new (replies_of u h) + k) plain
    by false = omega arith

-- a call that counts what it makes
call_counts : (threads : ℕ) (h : List Item) (t : ℕ) (o : Op) (r : Reply) → CountsObjects threads h → CountsMore (moment threads h).state t (state_after (moment threads h).state t o r) r
    → CountsObjects threads (Call t o r ∷ h)
call_counts threads h t o r counts more = record {
  rows = more.rows ∙ counts.rows;
  objects = λ u one few.
      let old = more.objects u in
      let before = counts.objects u one few in
      let told = replies_counted u t o r h in
      omega (arith, old, before, told);
}

there_is : (threads t rows : ℕ) → rows ≡ threads + 1 → t ≤ threads → t < rows
there_is threads t rows e few = omega arith

-- so it stays while calls go on
pub extends_counts : (threads every : ℕ) (h k : List Item) → CountsObjects threads h → Extends threads every h k → CountsObjects threads k
extends_counts threads every h k counts (same) = counts
extends_counts threads every h k counts (called l t o r before is) =
    let earlier = extends_counts threads every h l counts before in
    call_counts threads l t o r earlier (after_counts (moment threads l).state t o r (there_is threads t (length (moment threads l).state.graph) earlier.rows is.thread.1) is.reply)

-- nor do threads begin with others
pub extends_before : (threads every : ℕ) (h k : List Item) (u : ℕ) → Extends threads every h k → objects_before u k ≡ objects_before u h
extends_before threads every h k u (same) = refl
extends_before threads every h k u (called l t o r before is) = extends_before threads every h l u before

-- where names are never renewed, no thread begins with an object
pub none_before : (h : List Item) (u : ℕ) → IsUnrenewed h → objects_before u h ≡ 0
none_before [] u never = refl
none_before (Call t o r ∷ h) u never = none_before h u never
none_before (Pause report ∷ h) u never = none_before h u never
none_before (Renew ns ∷ h) u never = absurd never

no_objects : (threads u : ℕ) → length (row_of (replicate threads []) u) ≡ 0
no_objects zero u = refl
no_objects (suc threads) zero = refl
no_objects (suc threads) (suc u) = no_objects threads u

opening_row : (threads u : ℕ) → 1 ≤ u → length (row_of (opening_moment threads).state.graph u) ≡ 0
opening_row threads zero some = absurd (omega arith)
opening_row threads (suc u) some = no_objects threads u

-- once names are renewed, thread 1 has all that are left
pub renewed_row : (threads : ℕ) (ns : List Name) (g : Graph) (u : ℕ) → 1 ≤ u → length (row_of (renewed_graph threads ns g) u) ≡ (if nat_eq u 1 then length ns else 0)
renewed_row threads ns g zero some = absurd (omega arith)
renewed_row threads ns g (suc zero) some = length-map ns (λ n. renewed_object ns (object_at g n))
renewed_row threads ns g (suc (suc u)) some = no_objects (threads - 1) u ∙ ap (λ (c : Bool). cond {A = ℕ} c (length ns) 0) (let other : false ≡ nat_eq (suc (suc u)) 1 = grind arith in other)

legal_call : (terms : Terms) (h : List Item) (t : ℕ) (o : Op) (r : Reply) → CountsObjects terms.threads h → IsCall terms h t o r → CountsObjects terms.threads (Call t o r ∷ h)
legal_call terms h t o r counts is = call_counts terms.threads h t o r counts (more o r is.reply)
  where
    st : State
    st = (moment terms.threads h).state

    there : t < length st.graph
    there = there_is terms.threads t (length st.graph) counts.rows is.thread.1

    more_new : (dest : ℕ) (shape : Shape) (r : Reply) → Replies terms h t (op.New dest shape) r → CountsMore st t (state_after st t (op.New dest shape) r) r
    more_new dest shape reply.Full replies = unchanged st t st.registers reply.Full refl
    more_new dest shape r replies = after_counts st t (op.New dest shape) r there replies

    more : (o : Op) (r : Reply) → Replies terms h t o r → CountsMore st t (state_after st t o r) r
    more (op.New dest shape) r replies = more_new dest shape r replies
    more o r replies = after_counts st t o r there replies

-- so it is of every legal history
pub legal_counts : (terms : Terms) (h : List Item) → IsLegalSoFar terms h → CountsObjects terms.threads h
legal_counts terms [] legal = record {
  rows = rows_of terms.threads;
  objects = λ u one few. opening_row terms.threads u one;
}
  where
    length-rows : (threads : ℕ) → length (replicate {A = List Object} threads []) ≡ threads
    length-rows zero = refl
    length-rows (suc threads) = ap suc (length-rows threads)

    rows_of : (threads : ℕ) → length (opening_moment threads).state.graph ≡ threads + 1
    rows_of threads = let e = length-rows threads in omega (arith, e)
legal_counts terms (Renew ns ∷ h) legal = record {
  rows = legal.2.sound.rows;
  objects = λ u one few.
      let row = renewed_row terms.threads ns (moment terms.threads h).state.graph u one in
      let none : count_by tells_new [] ≡ 0 = refl in
      omega (arith, row, none);
}
legal_counts terms (Pause report ∷ h) legal = let counts = legal_counts terms h legal.0 in record { rows = counts.rows; objects = counts.objects }
legal_counts terms (Call t o r ∷ h) legal = legal_call terms h t o r (legal_counts terms h legal.0) legal.2
