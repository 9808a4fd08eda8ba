-- What is known of the side that an array is taken by.
use Rattle.std.proofs.Common.{◌≡◌, ℕ, ◌+◌, ◌-◌, ◌<◌, ◌≤◌, ◌∙◌, refl, sym, ap, subst, arith, Bool, true, false, Option, Some, None, List, [], ◌∷◌, length}
use Rattle.std.proofs.lemmas.Bool.{eqb-true}
use Rattle.std.proofs.lemmas.Option.{same_Some}
use Rattle.std.specs.Prelude.{◌==◌, if◌then◌else◌, min, nat_le, option_map, slice_get, unwrap_or, Ok, Err}
use Rattle.lxr_layout.specs.declared.Name.{Name}
use Rattle.lxr_graph.specs.declared.Op.TheVariants as op
use Rattle.lxr_graph.specs.declared.Reply.TheVariants as reply
use Rattle.lxr_layout.specs.declared.Shape.{Shape}
use Rattle.lxr_graph.specs.State.{Object, State, object_at, refs_of, register_at, values_of}
use Rattle.lxr_graph.specs.Step.{get_from, got}
use Rattle.lxr_large_model.specs.declared.LargeOp.TheVariants as large_op
use Rattle.lxr_large_model.specs.declared.LargeReply.TheVariants as large_reply
use Rattle.lxr_large_model.specs.State.{LargeState, body_of}
use Rattle.lxr_large_model.specs.Step.{IsLargeReply, large_step}
use Rattle.lxr_heap.specs.Known.{shape_at}
use Rattle.lxr_heap.specs.Looking.{body_blocks, shape_held}
use Rattle.lxr_c_base.specs.declared.codes.Code.TheVariants as code
use Rattle.lxr_direct.specs.Operating.{named_shape, shape_found}
use Rattle.lxr_c_many.specs.Applying.{word_of}
use Rattle.lxr_c_many.specs.Fields.{words_in}
use Rattle.lxr_c_arrays.specs.declared.side.Side.TheVariants as side
use Rattle.lxr_c_arrays.specs.declared.side.TheConstants.{MOST_ELEMENTS}
use Rattle.lxr_c_arrays.specs.Running.{in_turn}
use Rattle.lxr_c_arrays.specs.Sides.{check_steps, checks, parts_between, parts_side, root_length}

-- the word that a read of a data word tells is the one that is there
got_word : (found : Option ℕ) → word_of (large_reply.Small (got found)) ≡ found
got_word None = refl
got_word (Some v) = refl

get_word : (s : State) (i : ℕ) (held : Option Name) → word_of (large_reply.Small (get_from s i held).1) ≡ slice_get (unwrap_or (option_map (λ n. values_of (object_at s.graph n)) held) []) i
get_word s i None = refl
get_word s i (Some n) = got_word (slice_get (values_of (object_at s.graph n)) i)

get_tells : (s : LargeState) (base i : ℕ) → word_of (large_step s (large_op.Small (op.Get base i))).1 ≡ slice_get (unwrap_or (words_in s base) []) i
get_tells s base i = get_word s.small i (register_at s.small 1 base)

-- ---- roots

-- nil is no root
pub nil_rooted : (s : LargeState) (base : ℕ) → None ≡ shape_at s.small base → None ≡ root_length s base
nil_rooted s base told = at_held (register_at s.small 1 base) told
  where
    at_held : (v : Option Name) → None ≡ option_map (λ (p : Name × Shape). p.1) (named_shape s.small v) → None ≡ option_map (λ w. min w MOST_ELEMENTS) (slice_get (unwrap_or (option_map (λ n. values_of (object_at s.small.graph n)) v) []) 0)
    at_held None same = refl
    at_held (Some n) same = absurd (cc)

-- nor is an object without data words
none_of : (o : Option Object) → (shape_found o).values ≡ 0 → None ≡ option_map (λ w. min w MOST_ELEMENTS) (slice_get (values_of o) 0)
none_of None none = refl
none_of (Some o) none = at_values o.values none
  where
    at_values : (vs : List ℕ) → length vs ≡ 0 → None ≡ option_map (λ w. min w MOST_ELEMENTS) (slice_get vs 0)
    at_values [] same = refl
    at_values (v ∷ vs) same = absurd (cc)

pub wordless_rooted : (s : LargeState) (base : ℕ) (shape : Shape) → Some shape ≡ shape_at s.small base → shape.values ≡ 0 → None ≡ root_length s base
wordless_rooted s base shape told none = at_held (register_at s.small 1 base) told
  where
    at_held : (v : Option Name) → Some shape ≡ option_map (λ (p : Name × Shape). p.1) (named_shape s.small v) → None ≡ option_map (λ w. min w MOST_ELEMENTS) (slice_get (unwrap_or (option_map (λ n. values_of (object_at s.small.graph n)) v) []) 0)
    at_held None same = absurd (cc)
    at_held (Some n) same = none_of (object_at s.small.graph n) (sym (ap (λ (z : Shape). z.values) (same_Some _ _ same)) ∙ none)

-- the first data word of another tells how many elements there are
pub word_rooted : (s : LargeState) (base register word least : ℕ) → register ≡ base → least ≡ min word MOST_ELEMENTS → IsLargeReply s (large_op.Small (op.Get register 0)) (large_reply.Small (reply.Got word)) → Some least ≡ root_length s base
word_rooted s base register word least same is got =
    ap Some is ∙ ap (option_map (λ w. min w MOST_ELEMENTS)) (ap word_of (sym got) ∙ get_tells s register 0) ∙ ap (root_length s) same

-- ---- parts

-- an array in parts asks for a register of the library's own
pub no_own : (elements : ℕ) (part : Option ℕ) (array end : ℕ) → part ≡ None → Err code.Register ≡ parts_side elements part array end
no_own elements part array end none = subst (λ p. Err code.Register ≡ parts_side elements p array end) (sym none) refl

module _ (elements : ℕ) (part : Option ℕ) (array i p : ℕ) (own : part ≡ Some p) where
  -- and for its elements to be there
  pub past_end : elements ≤ i → Err code.Index ≡ parts_side elements part array (i + 1)
  past_end over = subst (λ q. Err code.Index ≡ parts_side elements q array (i + 1)) (sym own) (ap (λ b. if b then Ok (side.Parts array p) else Err code.Index) (let out : false ≡ nat_le (i + 1) elements = grind (arith, over) in out))

  pub within_end : i < elements → Ok (side.Parts array p) ≡ parts_side elements part array (i + 1)
  within_end less = subst (λ q. Ok (side.Parts array p) ≡ parts_side elements q array (i + 1)) (sym own) (ap (λ b. if b then Ok (side.Parts array p) else Err code.Index) (let there : true ≡ nat_le (i + 1) elements = grind (arith, less) in there))

-- ---- references

refs_found : (o : Option Object) → (shape_found o).refs ≡ length (refs_of o)
refs_found None = refl
refs_found (Some o) = refl

pub references_told : (s : LargeState) (v : Option Name) (shape : Shape) (blocks : ℕ) → Some (shape, blocks) ≡ shape_held s v → Some shape.refs ≡ option_map length (option_map (λ n. refs_of (object_at s.small.graph n)) v)
references_told s None shape blocks told = absurd (cc)
references_told s (Some n) shape blocks told =
    let same : (shape, blocks) ≡ (shape_found (object_at s.small.graph n), body_blocks (body_of s.large n)) = same_Some _ _ told in
    ap (λ (p : Shape × ℕ). Some p.0.refs) same ∙ ap Some (refs_found (object_at s.small.graph n))

pub none_told : (s : LargeState) (v : Option Name) → None ≡ shape_held s v → None ≡ option_map length (option_map (λ n. refs_of (object_at s.small.graph n)) v)
none_told s None told = refl
none_told s (Some n) told = absurd (cc)

-- ---- checks

-- where some elements are meant, their parts are checked
pub checks_some : (root part first count : ℕ) → (count ≡ 0 → ⊥) → checks (side.Parts root part) first count ≡ in_turn (check_steps root part first (first + count - 1)) (parts_between first (first + count - 1))
checks_some root part first count some = at_none (count == 0) refl
  where
    at_none : (b : Bool) → (count == 0) ≡ b → (if b then [] else in_turn (check_steps root part first (first + count - 1)) (parts_between first (first + count - 1))) ≡ in_turn (check_steps root part first (first + count - 1)) (parts_between first (first + count - 1))
    at_none true e = absurd (some (eqb-true count 0 e))
    at_none false e = refl
