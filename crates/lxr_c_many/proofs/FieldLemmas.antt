-- Whether fields are there, by the shape that is told of an object.
use Rattle.std.proofs.Common.{◌≡◌, ℕ, ◌+◌, ◌≤◌, ◌∙◌, refl, sym, ap, subst, arith, Bool, true, false, Option, Some, None, List, length}
use Rattle.std.specs.Prelude.{if◌then◌else◌, nat_le, option_map}
use Rattle.std.proofs.lemmas.Bool.{leb-true}
use Rattle.std.proofs.lemmas.Option.{none-some, same_Some}
use Rattle.lxr_layout.specs.declared.Name.{Name}
use Rattle.lxr_layout.specs.declared.Shape.{Shape}
use Rattle.lxr_graph.specs.State.{Object, object_at, refs_of, register_at, values_of}
use Rattle.lxr_direct.specs.Operating.{named_shape, shape_found}
use Rattle.lxr_heap.specs.declared.bulk.BodyReply.TheVariants as body_reply
use Rattle.lxr_heap.specs.Known.{shape_at}
use Rattle.lxr_large_model.specs.State.{LargeState}
use Rattle.lxr_c_many.specs.Fields.{comes_to, references_in, within, words_in}
use Rattle.lxr_c_many.specs.Steps.{HasReferences, HasWords}

-- ---- what a shape tells

values_found : (o : Option Object) (first count : ℕ) → within (shape_found o).values first count ≡ within (length (values_of o)) first count
values_found None first count = refl
values_found (Some o) first count = refl

refs_found : (o : Option Object) (first count : ℕ) → within (shape_found o).refs first count ≡ within (length (refs_of o)) first count
refs_found None first count = refl
refs_found (Some o) first count = refl

pub words_told : (s : LargeState) (v : Option Name) (shape : Shape) (first count : ℕ) → Some shape ≡ option_map (λ p. p.1) (named_shape s.small v)
    → within shape.values first count ≡ comes_to (option_map (λ n. values_of (object_at s.small.graph n)) v) first count
words_told s None shape first count told = absurd (cc)
words_told s (Some n) shape first count told = ap (λ (z : Shape). within z.values first count) (same_Some _ _ told) ∙ values_found (object_at s.small.graph n) first count

pub references_told : (s : LargeState) (v : Option Name) (shape : Shape) (first count : ℕ) → Some shape ≡ option_map (λ p. p.1) (named_shape s.small v)
    → within shape.refs first count ≡ comes_to (option_map (λ n. refs_of (object_at s.small.graph n)) v) first count
references_told s None shape first count told = absurd (cc)
references_told s (Some n) shape first count told = ap (λ (z : Shape). within z.refs first count) (same_Some _ _ told) ∙ refs_found (object_at s.small.graph n) first count

pub none_told : {A : Type 0} (s : LargeState) (v : Option Name) (fields : Name → List A) (first count : ℕ) → None ≡ option_map (λ p. p.1) (named_shape s.small v) → body_reply.Bad ≡ comes_to (option_map fields v) first count
none_told s None fields first count told = refl
none_told s (Some n) fields first count told = absurd (cc)

-- what has so many references has a shape with so many
pub shape_of_references : (s : LargeState) (base most : ℕ) (shape : Shape) → HasReferences s base most → Some shape ≡ shape_at s.small base → most ≤ shape.refs
shape_of_references s base most shape has told =
    let same : shape ≡ shape_found (object_at s.small.graph has.name) = same_Some _ _ (told ∙ ap (λ v. option_map (λ p. p.1) (named_shape s.small v)) has.held) in
    let all = has.within in
    let refs = refs_many (object_at s.small.graph has.name) in
    subst (λ (z : Shape). most ≤ z.refs) (sym same) (omega (arith, all, refs))
  where
    refs_many : (o : Option Object) → (shape_found o).refs ≡ length (refs_of o)
    refs_many None = refl
    refs_many (Some o) = refl

-- and so some shape
pub references_shaped : (s : LargeState) (base most : ℕ) → HasReferences s base most → None ≡ shape_at s.small base → ⊥
references_shaped s base most has told = none-some _ (told ∙ ap (λ v. option_map (λ p. p.1) (named_shape s.small v)) has.held)

pub shape_of_words : (s : LargeState) (base most : ℕ) (shape : Shape) → HasWords s base most → Some shape ≡ shape_at s.small base → most ≤ shape.values
shape_of_words s base most shape has told =
    let same : shape ≡ shape_found (object_at s.small.graph has.name) = same_Some _ _ (told ∙ ap (λ v. option_map (λ p. p.1) (named_shape s.small v)) has.held) in
    let all = has.within in
    let values = values_many (object_at s.small.graph has.name) in
    subst (λ (z : Shape). most ≤ z.values) (sym same) (omega (arith, all, values))
  where
    values_many : (o : Option Object) → (shape_found o).values ≡ length (values_of o)
    values_many None = refl
    values_many (Some o) = refl

-- ---- that all are there

done_within : (most first count : ℕ) → body_reply.Done ≡ within most first count → first + count ≤ most
done_within most first count done = by (nat_le (first + count) most) refl done
  where
    by : (b : Bool) → nat_le (first + count) most ≡ b → body_reply.Done ≡ (if b then body_reply.Done else body_reply.Range) → first + count ≤ most
    by true e d = leb-true (first + count) most e
    by false e d = absurd (cc)

pub words_there : (s : LargeState) (base first count : ℕ) → body_reply.Done ≡ comes_to (words_in s base) first count → HasWords s base (first + count)
words_there s base first count done = by (register_at s.small 1 base) refl done
  where
    by : (v : Option Name) → register_at s.small 1 base ≡ v → body_reply.Done ≡ comes_to (option_map (λ n. values_of (object_at s.small.graph n)) v) first count → HasWords s base (first + count)
    by None e d = absurd (cc)
    by (Some n) e d = record { name = n; held = e; within = done_within (length (values_of (object_at s.small.graph n))) first count d }

pub references_there : (s : LargeState) (base first count : ℕ) → body_reply.Done ≡ comes_to (references_in s base) first count → HasReferences s base (first + count)
references_there s base first count done = by (register_at s.small 1 base) refl done
  where
    by : (v : Option Name) → register_at s.small 1 base ≡ v → body_reply.Done ≡ comes_to (option_map (λ n. refs_of (object_at s.small.graph n)) v) first count → HasReferences s base (first + count)
    by None e d = absurd (cc)
    by (Some n) e d = record { name = n; held = e; within = done_within (length (refs_of (object_at s.small.graph n))) first count d }

pub fewer_words : (s : LargeState) (base most least : ℕ) → HasWords s base most → least ≤ most → HasWords s base least
fewer_words s base most least has few = record { name = has.name; held = has.held; within = let all = has.within in omega (arith, all, few) }
