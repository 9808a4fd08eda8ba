-- The words of an object after words were put: these stand over what it had.
use Rattle.std.proofs.Common.{◌≡◌, ℕ, zero, suc, ◌+◌, ◌<◌, ◌≤◌, ◌∙◌, refl, sym, ap, subst, arith, cond, true, false, Bool, Some, None, List, [], ◌∷◌, ◌++◌, length, take, drop}
use Rattle.std.specs.Prelude.{if◌then◌else◌, nat_le, option_map, slice_set}
use Rattle.std.proofs.lemmas.Bool.{leb-true}
use Rattle.std.proofs.lemmas.List.{append_assoc, length-set, length-take}
use Rattle.std.proofs.lemmas.Option.{slice_get-get_or}
use Rattle.lxr_layout.specs.declared.Name.{Name}
use Rattle.lxr_graph.specs.Names.{same_name}
use Rattle.lxr_graph.specs.declared.Op.TheVariants as op
use Rattle.lxr_graph.specs.declared.Reply.{Reply}
use Rattle.lxr_graph.specs.State.{State, object_at, register_at, values_of, with_value}
use Rattle.lxr_graph.proofs.NameSets.{same_itself}
use Rattle.lxr_graph.proofs.RowLemmas.{object_at-with_value}
use Rattle.lxr_core_invariant.proofs.ReplyStepLemmas.{put_ok}
use Rattle.lxr_large_model.specs.declared.LargeOp.TheVariants as large_op
use Rattle.lxr_large_model.specs.declared.LargeReply.TheVariants as large_reply
use Rattle.lxr_large_model.specs.History.{LargeItem, Called, large_state}
use Rattle.lxr_large_model.specs.State.{Large, LargeState, body_of, changed_at, with_body}
use Rattle.lxr_large_model.specs.Step.{large_step, put_at, put_to, word_in}
use Rattle.lxr_large_bodies.specs.Bodies.{overwritten}
use Rattle.lxr_heap.specs.declared.bulk.BodyReply.TheVariants as body_reply
use Rattle.lxr_heap.specs.Bulk.{with_puts}
use Rattle.lxr_heap.proofs.BulkLemmas.{over_first, over_none}
use Rattle.lxr_c_many.specs.Fields.{comes_to, put_of}
use Rattle.lxr_c_many.specs.Following.{newest_first}
use Rattle.lxr_c_many.proofs.StateLemmas.{word_object}
use Rattle.lxr_c_words.specs.Words.{words_at, words_in_body, words_of}
use Rattle.lxr_c_words.proofs.FormLemmas.{IsInBody, IsInData, words_of_body}
use Rattle.lxr_c_words.proofs.RowLemmas.{fewer_in_body}

-- ---- rows that are written over

-- the first words of some that were written over from the first on
over_front : (c : ℕ) (more words : List ℕ) → length more ≤ length (take c words) → take c (more ++ drop (length more) words) ≡ more ++ drop (length more) (take c words)
over_front c [] words few = refl
over_front zero (m ∷ ms) words few = let none = length-take 0 words in absurd (omega (arith, few, none))
over_front (suc c) (m ∷ ms) [] few = absurd (omega (arith, few))
over_front (suc c) (m ∷ ms) (w ∷ ws) few = ap (λ xs. m ∷ xs) (over_front c ms ws (omega (arith, few)))

-- and from an index on
over_take : (c i : ℕ) (more words : List ℕ) → i + length more ≤ length (take c words) → take c (overwritten i more words) ≡ overwritten i more (take c words)
over_take c zero more words few =
    let same : 0 + length more ≡ length more = omega arith in
    ap (λ k. take c (more ++ drop k words)) same ∙ over_front c more words (omega (arith, few)) ∙ sym (ap (λ k. more ++ drop k (take c words)) same)
over_take zero (suc i) more words few = let none = length-take 0 words in absurd (omega (arith, few, none))
over_take (suc c) (suc i) more [] few = absurd (omega (arith, few))
over_take (suc c) (suc i) more (w ∷ ws) few =
    let next : suc i + length more ≡ suc (i + length more) = omega arith in
    ap (λ k. take (suc c) (w ∷ (take i ws ++ (more ++ drop k (w ∷ ws))))) next
    ∙ ap (λ xs. w ∷ xs) (over_take c i more ws (omega (arith, few)))
    ∙ sym (ap (λ k. w ∷ (take i (take c ws) ++ (more ++ drop k (w ∷ take c ws)))) next)

-- words of a body behind its first
over_in_body : (first : ℕ) (more body : List ℕ) → 1 ≤ length body → first + length more ≤ length (words_in_body body) → words_in_body (overwritten (first + 1) more body) ≡ overwritten first more (words_in_body body)
over_in_body first more [] some few = absurd (omega (arith, some))
over_in_body first more (count ∷ words) some few =
    let next : first + 1 ≡ suc first = omega arith in
    let last : suc first + length more ≡ suc (first + length more) = omega arith in
    ap (λ k. words_in_body (overwritten k more (count ∷ words))) next
    ∙ ap (λ k. words_in_body (count ∷ (take first words ++ (more ++ drop k (count ∷ words))))) last
    ∙ over_take count first more words few

-- ---- data words

-- a register holds a name that has these data words and no body
record HasDataOf (s : LargeState) (base : ℕ) (n : Name) (values : List ℕ) : Type 0 where
  pub held : register_at s.small 1 base ≡ Some n
  pub found : values_of (object_at s.small.graph n) ≡ values
  pub none : body_of s.large n ≡ None

put_data : (s : LargeState) (base i v : ℕ) (n : Name) (values : List ℕ) → HasDataOf s base n values → i < length values → HasDataOf (large_step s (large_op.Small (op.Put base i v))).0 base n (slice_set values i v)
put_data s base i v n values has within =
    let found = word_object (object_at s.small.graph n) i (let long = ap length has.found in omega (arith, within, long)) in
    let there : object_at (with_value s.small.graph n i v (Some found.0)) n ≡ Some (record found.0 { values = slice_set found.0.values i v }) =
    object_at-with_value s.small.graph n i v found.0 n found.1 ∙ ap (λ b. cond b (Some (record found.0 { values = slice_set found.0.values i v })) (object_at s.small.graph n)) (same_itself n) in
    subst (λ (p : State × Reply). HasDataOf (record s { small = p.0 }) base n (slice_set values i v)) (sym (put_ok s.small 1 base i v n found.0 has.held found.1 found.2)) (record {
      held = has.held;
      found = ap values_of there ∙ sym (ap (λ o. slice_set (values_of o) i v) found.1) ∙ ap (λ ws. slice_set ws i v) has.found;
      none = has.none;
    })

puts_data : (base : ℕ) (more : List ℕ) (i : ℕ) (h : List LargeItem) (n : Name) (values : List ℕ) → HasDataOf (large_state h) base n values → i + length more ≤ length values
    → HasDataOf (large_state (newest_first (put_of base) i more ++ h)) base n (overwritten i more values)
puts_data base [] i h n values has few = subst (HasDataOf (large_state h) base n) (sym (over_none i values)) has
puts_data base (m ∷ ms) i h n values has few =
    let long = length-set values i m in
    subst (λ k. HasDataOf (large_state k) base n (overwritten i (m ∷ ms) values)) (sym (append_assoc (newest_first (put_of base) (i + 1) ms) (put_of base i m ∷ []) h))
    (subst (HasDataOf (large_state (newest_first (put_of base) (i + 1) ms ++ put_of base i m ∷ h)) base n) (over_first i m ms values (omega (arith, few)))
    (puts_data base ms (i + 1) (put_of base i m ∷ h) n (slice_set values i m) (put_data (large_state h) base i m n values has (omega (arith, few))) (omega (arith, few, long))))

-- ---- words of a body

body_changed : (ls : List Large) (n : Name) (f : List ℕ → List ℕ) (words : List ℕ) → body_of ls n ≡ Some words → body_of (with_body ls n f) n ≡ Some (f words)
body_changed [] n f words found = absurd (cc)
body_changed (l ∷ ls) n f words found = by (body_changed ls n f words) (same_name n l.name) refl
  where
    named : same_name n (changed_at n f l).name ≡ same_name n l.name
    named = elim (same_name n l.name) as (λ c. same_name n (cond c (record l { words = f l.words }) l).name ≡ same_name n l.name) [ true ↦ refl | false ↦ refl ]

    by : (body_of ls n ≡ Some words → body_of (with_body ls n f) n ≡ Some (f words)) → (c : Bool) → same_name n l.name ≡ c → body_of (with_body (l ∷ ls) n f) n ≡ Some (f words)
    by rest true e =
        let there : Some l.words ≡ Some words = sym (ap (λ c. cond c (Some l.words) (body_of ls n)) e) ∙ found in
        let same : l.words ≡ words = cc in
        ap (λ c. cond c (Some (changed_at n f l).words) (body_of (with_body ls n f) n)) (named ∙ e)
        ∙ ap (λ c. Some (cond c (record l { words = f l.words }) l).words) e
        ∙ ap (λ xs. Some (f xs)) same
    by rest false e =
        ap (λ c. cond c (Some (changed_at n f l).words) (body_of (with_body ls n f) n)) (named ∙ e)
        ∙ rest (sym (ap (λ c. cond c (Some l.words) (body_of ls n)) e) ∙ found)

body_put : (s : LargeState) (base i v : ℕ) (n : Name) (words : List ℕ) → register_at s.small 1 base ≡ Some n → body_of s.large n ≡ Some words → i < length words
    → (large_step s (large_op.BigPut base i v)).0 ≡ record s { large = with_body s.large n (λ xs. slice_set xs i v) }
body_put s base i v n words held found within =
    ap (λ b. (put_to s i v b).0) held ∙ ap (λ b. (put_at s n i v (word_in b i)).0) found ∙ ap (λ w. (put_at s n i v w).0) (slice_get-get_or words i 0 within)

-- a register holds a name that has these words as its body
pub record HasBodyOf (s : LargeState) (base : ℕ) (n : Name) (words : List ℕ) : Type 0 where
  pub held : register_at s.small 1 base ≡ Some n
  pub found : body_of s.large n ≡ Some words

pub put_body : (s : LargeState) (base i v : ℕ) (n : Name) (words : List ℕ) → HasBodyOf s base n words → i < length words → HasBodyOf (large_step s (large_op.BigPut base i v)).0 base n (slice_set words i v)
put_body s base i v n words has within =
    let put = body_put s base i v n words has.held has.found within in
    record {
      held = ap (λ (t : LargeState). register_at t.small 1 base) put ∙ has.held;
      found = ap (λ (t : LargeState). body_of t.large n) put ∙ body_changed s.large n (λ xs. slice_set xs i v) words has.found;
    }

puts_body : (base : ℕ) (more : List ℕ) (i : ℕ) (h : List LargeItem) (n : Name) (words : List ℕ) → HasBodyOf (large_state h) base n words → i + length more ≤ length words
    → HasBodyOf (large_state (with_puts h base i more)) base n (overwritten i more words)
puts_body base [] i h n words has few = subst (HasBodyOf (large_state h) base n) (sym (over_none i words)) has
puts_body base (m ∷ ms) i h n words has few =
    let long = length-set words i m in
    subst (HasBodyOf (large_state (with_puts h base i (m ∷ ms))) base n) (over_first i m ms words (omega (arith, few)))
    (puts_body base ms (i + 1) (Called (large_op.BigPut base i m) large_reply.Put ∷ h) n (slice_set words i m) (put_body (large_state h) base i m n words has (omega (arith, few))) (omega (arith, few, long)))

-- ---- words of an object

data_at : (s : LargeState) (base : ℕ) (n : Name) (values : List ℕ) → HasDataOf s base n values → words_at s base ≡ Some values
data_at s base n values has =
    ap (option_map (λ n. words_of (values_of (object_at s.small.graph n)) (body_of s.large n))) has.held
    ∙ ap (λ b. Some (words_of (values_of (object_at s.small.graph n)) b)) has.none
    ∙ ap Some has.found

pub body_at : (s : LargeState) (base : ℕ) (n : Name) (words : List ℕ) → HasBodyOf s base n words → words_at s base ≡ Some (words_in_body words)
body_at s base n words has =
    ap (option_map (λ n. words_of (values_of (object_at s.small.graph n)) (body_of s.large n))) has.held ∙ ap (λ b. Some (words_of (values_of (object_at s.small.graph n)) b)) has.found

all_within : (words : List ℕ) (first n : ℕ) → comes_to (Some words) first n ≡ body_reply.Done → first + n ≤ length words
all_within words first n done = by (nat_le (first + n) (length words)) refl done
  where
    by : (b : Bool) → nat_le (first + n) (length words) ≡ b → (if b then body_reply.Done else body_reply.Range) ≡ body_reply.Done → first + n ≤ length words
    by true e d = leb-true (first + n) (length words) e
    by false e d = absurd (cc)

fewer_of_body : (body : List ℕ) → 1 ≤ length body → length (words_in_body body) + 1 ≤ length body
fewer_of_body [] some = absurd (omega (arith, some))
fewer_of_body (count ∷ words) some = let fewer = fewer_in_body count words in omega (arith, fewer)

-- after words were put, of data words or of words of a body
pub after_data : (h : List LargeItem) (base first : ℕ) (more : List ℕ) (of : IsInData (large_state h) base) → comes_to (words_at (large_state h) base) first (length more) ≡ body_reply.Done
    → words_at (large_state (newest_first (put_of base) first more ++ h)) base ≡ option_map (overwritten first more) (words_at (large_state h) base)
after_data h base first more of done =
    let s = large_state h in
    let values = values_of (object_at s.small.graph of.name) in
    let before : words_at s base ≡ Some values = data_at s base of.name values (record { held = of.held; found = refl; none = of.bodiless }) in
    let few = all_within values first (length more) (sym (ap (λ ws. comes_to ws first (length more)) before) ∙ done) in
    data_at _ base of.name (overwritten first more values) (puts_data base more first h of.name values (record { held = of.held; found = refl; none = of.bodiless }) few) ∙ sym (ap (option_map (overwritten first more)) before)

pub after_body : (h : List LargeItem) (base count first : ℕ) (more : List ℕ) (of : IsInBody (large_state h) base count) → first + length more ≤ count
    → words_at (large_state (with_puts h base (first + 1) more)) base ≡ option_map (overwritten first more) (words_at (large_state h) base)
after_body h base count first more of within =
    let counted = of.counted in
    let fewer = fewer_of_body of.body of.some in
    let has = puts_body base more (first + 1) h of.name of.body (record { held = of.held; found = of.found }) (omega (arith, within, counted, fewer)) in
    body_at _ base of.name (overwritten (first + 1) more of.body) has
    ∙ ap Some (over_in_body first more of.body of.some (omega (arith, within, counted)))
    ∙ sym (ap (option_map (overwritten first more)) (words_of_body (large_state h) base count of))
