-- Words that are written in a row are written by one `bput` for each: the heap behind them is that behind the first and then behind the others.
use Rattle.std.proofs.Common.{◌≡◌, ℕ, suc, ◌+◌, ◌*◌, ◌<◌, ◌≤◌, refl, sym, ap, subst, ◌∙◌, arith, Bool, true, false, cond, nat_eq, get_or, take, drop, List, [], ◌∷◌, ◌++◌, length, Option, Some, None, leb}
use Rattle.std.specs.Prelude.{is_some, slice_set}
use Rattle.std.specs.List.{AllByRecursion}
use Rattle.std.proofs.lemmas.Bool.{leb-true}
use Rattle.std.proofs.lemmas.List.{append_assoc, drop-set-lt, length-set, take-append-drop, take_more_set}
use Rattle.std.proofs.lemmas.Option.{slice_get-get_or}
use Rattle.lxr_layout.specs.declared.Name.{Name}
use Rattle.lxr_graph.specs.Names.{same_name}
use Rattle.lxr_graph.specs.State.{State, register_at}
use Rattle.lxr_graph.proofs.NameSets.{same_names}
use Rattle.lxr_large_model.specs.declared.LargeOp.TheVariants as large_op
use Rattle.lxr_large_model.specs.declared.LargeReply.TheVariants as large_reply
use Rattle.lxr_large_model.specs.History.{LargeItem, Called, large_moment, large_state}
use Rattle.lxr_large_model.specs.State.{LargeState, body_of as large_of}
use Rattle.lxr_large_model.specs.Step.{put_at, put_to, word_in as word_of}
use Rattle.lxr_large_bodies.specs.Bodies.{Body, Held, body_of, changed_at, overwritten, range_at, range_in, with_words, word_in}
use Rattle.lxr_heap.specs.declared.heap.Heap.{Heap}
use Rattle.lxr_heap.specs.declared.bulk.BodyReply.{BodyReply}
use Rattle.lxr_heap.specs.declared.bulk.BodyReply.TheVariants as body_reply
use Rattle.lxr_heap.specs.Bulk.{WritesWords, base_held, bulk_reply, fresh_behind, with_puts, words_from, words_held}
use Rattle.lxr_heap.specs.Holding.{AreApart, IsHeapOf, IsOther, IsWhole}
use Rattle.lxr_heap.proofs.ActingLemmas.{word_there}
use Rattle.lxr_heap.proofs.BlockLemmas.{found_whole}
use Rattle.lxr_heap.proofs.BodyLemmas.{words_of, words_same}
use Rattle.lxr_heap.proofs.CallLemmas.{done_put, held_is_kept}
use Rattle.lxr_heap.proofs.HeapLemmas.{behind}
use Rattle.lxr_heap.proofs.StayLemmas.{stay_changed, stay_same}

-- ---- words of one body

-- no word written over others
pub over_none : (i : ℕ) (xs : List ℕ) → overwritten i [] xs ≡ xs
over_none i xs = let same : i + 0 ≡ i = omega arith in ap (λ k. take i xs ++ drop k xs) same ∙ take-append-drop i xs

-- the first of some words, and then the others
pub over_first : (i w : ℕ) (ws xs : List ℕ) → i < length xs → overwritten (i + 1) ws (slice_set xs i w) ≡ overwritten i (w ∷ ws) xs
over_first i w ws xs within =
    let index : i + 1 + length ws ≡ i + suc (length ws) = omega arith in
    ap (λ front. front ++ (ws ++ drop (i + 1 + length ws) (slice_set xs i w))) (take_more_set xs i w within)
    ∙ ap (λ rest. (take i xs ++ w ∷ []) ++ (ws ++ rest)) (drop-set-lt (i + 1 + length ws) xs i w (omega arith) ∙ ap (λ k. drop k xs) index)
    ∙ append_assoc (take i xs) (w ∷ []) (ws ++ drop (i + suc (length ws)) xs)

-- ---- words of one body among others

changed_none : (n : Name) (i : ℕ) (b : Body) → changed_at n (overwritten i []) b ≡ b
changed_none n i b = elim (same_name n b.name) as (λ c. cond c (record b { words = overwritten i [] b.words }) b ≡ b) [ true ↦ ap (λ ws. record b { words = ws }) (over_none i b.words) | false ↦ refl ]

with_none : (n : Name) (i : ℕ) (bs : List Body) → with_words bs n (overwritten i []) ≡ bs
with_none n i [] = refl
with_none n i (b ∷ bs) = λ k. changed_none n i b k ∷ with_none n i bs k

-- each body of a name has so many words behind an index
abbrev HaveWords : Name → ℕ → ℕ → List Body → Type 0
HaveWords n i count bs = AllByRecursion (λ (b : Body). same_name n b.name ≡ true → i + count ≤ length b.words) bs

changed_twice : (n : Name) (f g h : List ℕ → List ℕ) (b : Body) → (same_name n b.name ≡ true → g (f b.words) ≡ h b.words) → changed_at n g (changed_at n f b) ≡ changed_at n h b
changed_twice n f g h b same = by (same_name n b.name) refl
  where
    by : (c : Bool) → same_name n b.name ≡ c → changed_at n g (changed_at n f b) ≡ changed_at n h b
    by true e =
        ap (λ t. changed_at n g (cond t (record b { words = f b.words }) b)) e
        ∙ ap (λ t. cond t (record b { words = g (f b.words) }) (record b { words = f b.words })) e
        ∙ ap (λ ws. record b { words = ws }) (same e)
        ∙ sym (ap (λ t. cond t (record b { words = h b.words }) b) e)
    by false e =
        ap (λ t. changed_at n g (cond t (record b { words = f b.words }) b)) e
        ∙ ap (λ t. cond t (record b { words = g b.words }) b) e
        ∙ sym (ap (λ t. cond t (record b { words = h b.words }) b) e)

with_first : (n : Name) (i w : ℕ) (ws : List ℕ) (bs : List Body) → HaveWords n i (suc (length ws)) bs → with_words (with_words bs n (λ xs. slice_set xs i w)) n (overwritten (i + 1) ws) ≡ with_words bs n (overwritten i (w ∷ ws))
with_first n i w ws [] have = refl
with_first n i w ws (b ∷ bs) have =
    λ k. changed_twice n (λ xs. slice_set xs i w) (overwritten (i + 1) ws) (overwritten i (w ∷ ws)) b (λ e. let long = have.0 e in over_first i w ws b.words (omega (arith, long))) k
    ∷ with_first n i w ws bs have.1 k

-- the body of a name has so many words behind an index
record HasWords (bs : List Body) (n : Name) (i count : ℕ) : Type 0 where
  pub body : Body
  pub found : body_of bs n ≡ Some body
  pub within : i + count ≤ length body.words

-- no other has its name
others_have : (n : Name) (i count : ℕ) (c : Body) (ds : List Body) → same_name n c.name ≡ true → AllByRecursion (IsOther c) ds → HaveWords n i count ds
others_have n i count c [] is all = tt
others_have n i count c (d ∷ ds) is all = (
  λ e. let no : true ≡ false = sym e ∙ ap (λ q. same_name q d.name) (same_names n c.name is) ∙ all.0.named in absurd (cc),
  others_have n i count c ds is all.1,
)

have_words : (blocks i count : ℕ) (bs : List Body) (n : Name) (b : Body) → AreApart blocks bs → body_of bs n ≡ Some b → i + count ≤ length b.words → HaveWords n i count bs
have_words blocks i count [] n b apart found within = tt
have_words blocks i count (c ∷ cs) n b apart found within = by (λ there. have_words blocks i count cs n b apart.2 there within) (same_name n c.name) refl
  where
    by : (body_of cs n ≡ Some b → HaveWords n i count cs) → (t : Bool) → same_name n c.name ≡ t → HaveWords n i count (c ∷ cs)
    by rest true e =
        let there : Some c ≡ Some b = sym (ap (λ t. cond t (Some c) (body_of cs n)) e) ∙ found in
        let same : b ≡ c = cc in
        (λ is. subst (λ (q : Body). i + count ≤ length q.words) same within, others_have n i count c cs e apart.1)
    by rest false e = (
      λ is. let both : true ≡ false = sym is ∙ e in absurd (cc),
      rest (sym (ap (λ t. cond t (Some c) (body_of cs n)) e) ∙ found),
    )

-- the body of the name that is changed
changed_name : (n : Name) (f : List ℕ → List ℕ) (b : Body) → (changed_at n f b).name ≡ b.name
changed_name n f b = elim (same_name n b.name) as (λ c. (cond c (record b { words = f b.words }) b).name ≡ b.name) [ true ↦ refl | false ↦ refl ]

body_changed : (n : Name) (f : List ℕ → List ℕ) (bs : List Body) (b : Body) → body_of bs n ≡ Some b → body_of (with_words bs n f) n ≡ Some (record b { words = f b.words })
body_changed n f [] b found = let no : None ≡ Some b = found in absurd (cc)
body_changed n f (c ∷ cs) b found = by (body_changed n f cs b) (same_name n c.name) refl
  where
    named : same_name n (changed_at n f c).name ≡ same_name n c.name
    named = ap (same_name n) (changed_name n f c)

    by : (body_of cs n ≡ Some b → body_of (with_words cs n f) n ≡ Some (record b { words = f b.words })) → (t : Bool) → same_name n c.name ≡ t
        → body_of (with_words (c ∷ cs) n f) n ≡ Some (record b { words = f b.words })
    by rest true e =
        let there : Some c ≡ Some b = sym (ap (λ t. cond t (Some c) (body_of cs n)) e) ∙ found in
        let same : c ≡ b = cc in
        ap (λ t. cond t (Some (changed_at n f c)) (body_of (with_words cs n f) n)) (named ∙ e)
        ∙ ap (λ t. Some (cond t (record c { words = f c.words }) c)) e
        ∙ ap (λ (q : Body). Some (record q { words = f q.words })) same
    by rest false e =
        ap (λ t. cond t (Some (changed_at n f c)) (body_of (with_words cs n f) n)) (named ∙ e)
        ∙ rest (sym (ap (λ t. cond t (Some c) (body_of cs n)) e) ∙ found)

has_first : (bs : List Body) (n : Name) (i w count : ℕ) → HasWords bs n i (suc count) → HasWords (with_words bs n (λ xs. slice_set xs i w)) n (i + 1) count
has_first bs n i w count has =
    let long = has.within in
    let same = length-set has.body.words i w in
    record {
      body = record has.body { words = slice_set has.body.words i w };
      found = body_changed n (λ xs. slice_set xs i w) bs has.body has.found;
      within = omega (arith, long, same);
    }

-- ---- one `bput` for each word

-- no pause is fresh behind words
stale_behind : (fresh : Bool) (w : ℕ) (ws : List ℕ) → fresh_behind fresh (w ∷ ws) ≡ false
stale_behind fresh w ws = let some : nat_eq (suc (length ws)) 0 ≡ false = grind arith in ap (λ c. cond c fresh false) some

still_stale : (ws : List ℕ) → fresh_behind false ws ≡ false
still_stale ws = elim (nat_eq (length ws) 0) as (λ c. cond c false false ≡ false) [ true ↦ refl | false ↦ refl ]

-- the heap behind words that were written
abbrev pub behind_words : Heap → Name → ℕ → List ℕ → Heap
behind_words x n i words = record x { bodies = record x.bodies { bodies = with_words x.bodies.bodies n (overwritten i words) }; fresh = fresh_behind x.fresh words }

-- a `bput` leaves registers
put_small : (s : LargeState) (i value : ℕ) (v : Option Name) → (put_to s i value v).0.small ≡ s.small
put_small s i value None = refl
put_small s i value (Some n) = by (word_of (large_of s.large n) i)
  where
    by : (word : Option ℕ) → (put_at s n i value word).0.small ≡ s.small
    by None = refl
    by (Some w) = refl

-- a word of the body
word_found : (x : Heap) (h : List LargeItem) (is : IsHeapOf x h) (n : Name) (base i count : ℕ) → base_held h base ≡ Some n → HasWords x.bodies.bodies n i (suc count) → (old : ℕ) × (word_of (large_of (large_state h).large n) i ≡ Some old)
word_found x h is n base i count there has =
    let long = has.within in
    let e : Some n ≡ register_at (large_moment h).state 1 base = sym (ap (λ (s : State). register_at s 1 base) is.state ∙ there) in
    (get_or has.body.words i 0, sym (word_there x h is base i n e) ∙ ap (λ found. word_in found i) has.found ∙ slice_get-get_or has.body.words i 0 (omega (arith, long)))

puts : (n : Name) (base : ℕ) (words : List ℕ) (i : ℕ) (x : Heap) (h : List LargeItem) → base < x.space.limits.registers → IsHeapOf x h → base_held h base ≡ Some n → HasWords x.bodies.bodies n i (length words)
    → IsHeapOf (behind_words x n i words) (with_puts h base i words)
puts n base [] i x h small is there has = subst (λ (bs : List Body). IsHeapOf (record x { bodies = record x.bodies { bodies = bs } }) h) (sym (with_none n i x.bodies.bodies)) is
puts n base (w ∷ ws) i x h small is there has =
    let word = word_found x h is n base i (length ws) there has in
    let held : Held = record x.bodies { bodies = with_words x.bodies.bodies n (λ xs. slice_set xs i w) } in
    let first : IsHeapOf (behind x x.space held x.made) (Called (large_op.BigPut base i w) large_reply.Put ∷ h) = done_put x h is base i w word.0 n small there word.1 in
    let kept : base_held (Called (large_op.BigPut base i w) large_reply.Put ∷ h) base ≡ Some n =
    ap (λ (s : State). register_at s 1 base) (put_small (large_state h) i w (base_held h base)) ∙ there in
    let rest = puts n base ws (i + 1) (behind x x.space held x.made) (Called (large_op.BigPut base i w) large_reply.Put ∷ h) small first kept (has_first x.bodies.bodies n i w (length ws) has) in
    subst (λ (bs : List Body). IsHeapOf (record x { bodies = record x.bodies { bodies = bs }; fresh = fresh_behind x.fresh (w ∷ ws) }) (with_puts h base i (w ∷ ws)))
    (with_first n i w ws x.bodies.bodies (have_words x.bodies.blocks i (suc (length ws)) x.bodies.bodies n has.body is.apart has.found has.within))
    (subst (λ c. IsHeapOf (record x { bodies = record x.bodies { bodies = with_words held.bodies n (overwritten (i + 1) ws) }; fresh = c }) (with_puts h base i (w ∷ ws))) (still_stale ws ∙ sym (stale_behind x.fresh w ws)) rest)

-- ---- what is found

-- a range of a body by its words
range_words : (blocks : ℕ) (found : Option Body) → ((b : Body) → found ≡ Some b → IsWhole blocks b) → (i count : ℕ) → range_in found i count ≡ words_from (words_of found) i count
range_words blocks None whole i count = refl
range_words blocks (Some b) whole i count = ap (λ most. cond (leb (i + count) most) (Some (take count (drop i b.words))) None) (sym (whole b refl).words)

pub range_held : (x : Heap) (h : List LargeItem) (is : IsHeapOf x h) (base i count : ℕ) (n : Name) → base_held h base ≡ Some n → range_at x.bodies.bodies n i count ≡ words_from (large_of (large_state h).large n) i count
range_held x h is base i count n there =
    range_words x.bodies.blocks (body_of x.bodies.bodies n) (λ b found. found_whole x.bodies.blocks x.bodies.bodies n b is.apart found) i count
    ∙ ap (λ words. words_from words i count)
    (words_same (large_moment h) x.bodies.bodies (large_state h).large n is.bodies (held_is_kept x h is base n (ap (λ (s : State). register_at s 1 base) is.state ∙ there)))

-- what the base holds by the state of the graph
pub base_is : (x : Heap) (h : List LargeItem) (is : IsHeapOf x h) (base : ℕ) (v : Option Name) → v ≡ register_at (large_moment h).state 1 base → base_held h base ≡ v
base_is x h is base v e = sym (e ∙ ap (λ (s : State). register_at s 1 base) is.state)

has_range : (blocks : ℕ) (bs : List Body) (n : Name) (i count : ℕ) → AreApart blocks bs → is_some (range_at bs n i count) ≡ true → HasWords bs n i count
has_range blocks bs n i count apart some = by (body_of bs n) refl
  where
    by : (found : Option Body) → body_of bs n ≡ found → HasWords bs n i count
    by None e = let no : false ≡ true = ap (λ f. is_some (range_in f i count)) (sym e) ∙ some in absurd (cc)
    by (Some b) e = record {
      body = b;
      found = e;
      within = within (leb (i + count) (4096 * b.blocks)) refl (ap (λ f. is_some (range_in f i count)) (sym e) ∙ some);
    }
      where
        within : (c : Bool) → leb (i + count) (4096 * b.blocks) ≡ c → is_some (range_in (Some b) i count) ≡ true → i + count ≤ length b.words
        within true fits is = let le = leb-true _ _ fits in let words = (found_whole blocks bs n b apart e).words in omega (arith, le, words)
        within false fits is = let no : false ≡ true = sym (ap (λ c. is_some (cond c (Some (take count (drop i b.words))) None)) fits) ∙ is in absurd (cc)

-- ---- what a write comes to

-- the reply by whether the words are there
abbrev pub by_found : Bool → BodyReply
by_found found = cond found body_reply.Done body_reply.Range

pub reply_held : (x : Heap) (h : List LargeItem) (is : IsHeapOf x h) (base i count : ℕ) (n : Name) → base_held h base ≡ Some n → by_found (is_some (range_at x.bodies.bodies n i count)) ≡ bulk_reply (large_state h) (base_held h base) i count
reply_held x h is base i count n there =
    ap (λ range. by_found (is_some range)) (range_held x h is base i count n there) ∙ sym (ap (λ v. bulk_reply (large_state h) v i count) there)

pub writes_nil : (x : Heap) (h : List LargeItem) (is : IsHeapOf x h) (base i : ℕ) (words : List ℕ) → base_held h base ≡ None → WritesWords x x h base i words body_reply.Bad
writes_nil x h is base i words none = record {
  reply = sym (ap (λ v. bulk_reply (large_state h) v i (length words)) none);
  holds = is;
  unchanged = λ other. refl;
  made = refl;
  space = refl;
  gone = refl;
  stay = stay_same x.bodies.bodies;
  terms = refl;
}

pub writes_past : (x : Heap) (h : List LargeItem) (is : IsHeapOf x h) (base i : ℕ) (words : List ℕ) (n : Name) → base_held h base ≡ Some n → is_some (range_at x.bodies.bodies n i (length words)) ≡ false
    → WritesWords x x h base i words body_reply.Range
writes_past x h is base i words n there none = record {
  reply = ap by_found (sym none) ∙ reply_held x h is base i (length words) n there;
  holds = is;
  unchanged = λ other. refl;
  made = refl;
  space = refl;
  gone = refl;
  stay = stay_same x.bodies.bodies;
  terms = refl;
}

pub writes_done : (x : Heap) (h : List LargeItem) (is : IsHeapOf x h) (base i : ℕ) (words : List ℕ) (n : Name) → base < x.space.limits.registers → base_held h base ≡ Some n → is_some (range_at x.bodies.bodies n i (length words)) ≡ true
    → WritesWords x (behind_words x n i words) h base i words body_reply.Done
writes_done x h is base i words n small there some = record {
  reply = ap by_found (sym some) ∙ reply_held x h is base i (length words) n there;
  holds = puts n base words i x h small is there (has_range x.bodies.blocks x.bodies.bodies n i (length words) is.apart some);
  unchanged = λ other. absurd (other refl);
  made = refl;
  space = refl;
  gone = refl;
  stay = stay_changed n (overwritten i words) x.bodies.bodies;
  terms = refl;
}

-- ---- what a read gives

pub words_read : (x : Heap) (h : List LargeItem) (is : IsHeapOf x h) (base i count : ℕ) (n : Name) → base_held h base ≡ Some n → range_at x.bodies.bodies n i count ≡ words_held (large_state h) (base_held h base) i count
words_read x h is base i count n there = range_held x h is base i count n there ∙ sym (ap (λ v. words_held (large_state h) v i count) there)
