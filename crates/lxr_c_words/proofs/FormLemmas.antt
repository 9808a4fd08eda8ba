-- How an object holds its words, by the shape that is told of it.
use Rattle.std.proofs.Common.{◌≡◌, ◌≢◌, ℕ, ◌-◌, ◌/◌, ◌≤◌, ◌∙◌, refl, sym, ap, arith, Option, Some, None, List, length}
use Rattle.std.specs.Prelude.{option_map}
use Rattle.std.proofs.lemmas.Option.{same_Some}
use Rattle.lxr_layout.specs.declared.Name.{Name}
use Rattle.lxr_layout.specs.declared.Shape.{Shape}
use Rattle.lxr_graph.specs.State.{Object, object_at, register_at, values_of}
use Rattle.lxr_direct.specs.Operating.{shape_found}
use Rattle.lxr_large_model.specs.History.{LargeItem, large_state}
use Rattle.lxr_large_model.specs.State.{LargeState, body_of}
use Rattle.lxr_heap.specs.declared.heap.Heap.{Heap}
use Rattle.lxr_heap.specs.Holding.{IsHeapOf}
use Rattle.lxr_heap.specs.Looking.{body_blocks, shape_held}
use Rattle.lxr_c_words.specs.declared.form.Form.{Form}
use Rattle.lxr_c_words.specs.declared.form.Form.TheVariants as form
use Rattle.lxr_c_many.specs.Fields.{words_in}
use Rattle.lxr_c_words.specs.Words.{HasBody, form_at, form_of, length_in, words_at, words_in_body, words_of}
use Rattle.lxr_c_words.specs.Writing.{body_held}
use Rattle.lxr_c_words.proofs.WholeLemmas.{AreWholeBlocks, whole_body}

-- ---- what a shape tells

-- what is told of what is held
told_of : (s : LargeState) (v : Option Name) (shape : Shape) (blocks : ℕ) → Some (shape, blocks) ≡ shape_held s v
    → (n : Name) × (v ≡ Some n) × (shape ≡ shape_found (object_at s.small.graph n)) × (blocks ≡ body_blocks (body_of s.large n))
told_of s None shape blocks told = absurd (cc)
told_of s (Some n) shape blocks told =
    let same : (shape, blocks) ≡ (shape_found (object_at s.small.graph n), body_blocks (body_of s.large n)) = same_Some _ _ told in
    (n, refl, ap (λ (p : Shape × ℕ). p.0) same, ap (λ (p : Shape × ℕ). p.1) same)

values_found : (o : Option Object) → (shape_found o).values ≡ length (values_of o)
values_found None = refl
values_found (Some o) = refl

module _ (x : Heap) (h : List LargeItem) (is : IsHeapOf x h) (base : ℕ) (shape : Shape) (blocks : ℕ) (told : Some (shape, blocks) ≡ shape_held (large_state h) (register_at (large_state h).small 1 base)) where
  abbrev s : LargeState
  s = large_state h

  -- where a body is told of, there is one
  pub has_body : blocks ≢ 0 → HasBody s base blocks
  has_body some = by (body_of s.large of.0) refl
    where
      of : (n : Name) × (register_at s.small 1 base ≡ Some n) × (shape ≡ shape_found (object_at s.small.graph n)) × (blocks ≡ body_blocks (body_of s.large n))
      of = told_of s (register_at s.small 1 base) shape blocks told

      by : (body : Option (List ℕ)) → body_of s.large of.0 ≡ body → HasBody s base blocks
      by None e = absurd (some (of.3 ∙ ap body_blocks e))
      by (Some words) e =
          let whole : AreWholeBlocks words = whole_body _ h of.0 words is.legal e in
          let long = whole.long in
          let counted : blocks ≡ length words / 4096 = of.3 ∙ ap body_blocks e in
          let same : blocks ≡ whole.blocks = omega (arith, long, counted) in
          let least = whole.some in
          let most = whole.few in
          record {
            name = of.0;
            held = of.1;
            words = words;
            body = e;
            long = omega (arith, long, same);
            some = omega (arith, least, same);
            few = omega (arith, most, same);
          }

  -- and where none is, the words are its data words
  pub has_data : blocks ≡ 0 → Some (form.Data shape.values) ≡ form_at s base
  has_data none = by (body_of s.large of.0) refl
    where
      of : (n : Name) × (register_at s.small 1 base ≡ Some n) × (shape ≡ shape_found (object_at s.small.graph n)) × (blocks ≡ body_blocks (body_of s.large n))
      of = told_of s (register_at s.small 1 base) shape blocks told

      by : (body : Option (List ℕ)) → body_of s.large of.0 ≡ body → Some (form.Data shape.values) ≡ form_at s base
      by None e =
          ap (λ (q : Shape). Some (form.Data q.values)) of.2
          ∙ ap (λ k. Some (form.Data k)) (values_found (object_at s.small.graph of.0))
          ∙ sym (ap (λ b. Some (form_of (values_of (object_at s.small.graph of.0)) b)) e)
          ∙ sym (ap (option_map (λ n. form_of (values_of (object_at s.small.graph n)) (body_of s.large n))) of.1)
      by (Some words) e =
          let whole : AreWholeBlocks words = whole_body _ h of.0 words is.legal e in
          let long = whole.long in
          let least = whole.some in
          let counted : 0 ≡ length words / 4096 = sym none ∙ of.3 ∙ ap body_blocks e in
          absurd (omega (arith, long, least, counted))

-- ---- what a form tells

-- what is held, by its form
form_told : (s : LargeState) (v : Option Name) (f : Form) → Some f ≡ option_map (λ n. form_of (values_of (object_at s.small.graph n)) (body_of s.large n)) v
    → (n : Name) × (v ≡ Some n) × (f ≡ form_of (values_of (object_at s.small.graph n)) (body_of s.large n))
form_told s None f told = absurd (cc)
form_told s (Some n) f told = (n, refl, same_Some _ _ told)

-- what a register holds has so many words in its body
pub record IsInBody (s : LargeState) (base count : ℕ) : Type 0 where
  pub name : Name
  pub held : register_at s.small 1 base ≡ Some name
  pub body : List ℕ
  pub found : body_of s.large name ≡ Some body
  pub counted : count ≡ length (words_in_body body)
  pub some : 1 ≤ length body

in_body_of : (s : LargeState) → ((n : Name) (words : List ℕ) → body_of s.large n ≡ Some words → AreWholeBlocks words) → (base count : ℕ) → Some (form.Body count) ≡ form_at s base → IsInBody s base count
in_body_of s all_whole base count told = by (body_of s.large of.0) refl
  where
    of : (n : Name) × (register_at s.small 1 base ≡ Some n) × (form.Body count ≡ form_of (values_of (object_at s.small.graph n)) (body_of s.large n))
    of = form_told s (register_at s.small 1 base) (form.Body count) told

    by : (body : Option (List ℕ)) → body_of s.large of.0 ≡ body → IsInBody s base count
    by None e = let no : form.Body count ≡ form.Data (length (values_of (object_at s.small.graph of.0))) = of.2 ∙ ap (form_of (values_of (object_at s.small.graph of.0))) e in absurd (cc)
    by (Some body) e =
        let same : form.Body count ≡ form.Body (length (words_in_body body)) = of.2 ∙ ap (form_of (values_of (object_at s.small.graph of.0))) e in
        let whole = all_whole of.0 body e in
        let long = whole.long in
        let least = whole.some in
        record { name = of.0; held = of.1; body = body; found = e; counted = cc; some = omega (arith, long, least) }

pub in_body : (x : Heap) (h : List LargeItem) → IsHeapOf x h → (base count : ℕ) → Some (form.Body count) ≡ form_at (large_state h) base → IsInBody (large_state h) base count
in_body x h is base count told = in_body_of (large_state h) (λ n words found. whole_body _ h n words is.legal found) base count told

-- these are its words
pub words_of_body : (s : LargeState) (base count : ℕ) (of : IsInBody s base count) → words_at s base ≡ Some (words_in_body of.body)
words_of_body s base count of =
    ap (option_map (λ n. words_of (values_of (object_at s.small.graph n)) (body_of s.large n))) of.held ∙ ap (λ b. Some (words_of (values_of (object_at s.small.graph of.name)) b)) of.found

-- what a register holds has its words as data words
pub record IsInData (s : LargeState) (base : ℕ) : Type 0 where
  pub name : Name
  pub held : register_at s.small 1 base ≡ Some name
  pub bodiless : body_of s.large name ≡ None
  pub words : words_at s base ≡ words_in s base
  pub none : body_held s (register_at s.small 1 base) ≡ None

pub in_data : (s : LargeState) (base count : ℕ) → Some (form.Data count) ≡ form_at s base → IsInData s base
in_data s base count told = by (body_of s.large of.0) refl
  where
    of : (n : Name) × (register_at s.small 1 base ≡ Some n) × (form.Data count ≡ form_of (values_of (object_at s.small.graph n)) (body_of s.large n))
    of = form_told s (register_at s.small 1 base) (form.Data count) told

    by : (body : Option (List ℕ)) → body_of s.large of.0 ≡ body → IsInData s base
    by None e = record {
      name = of.0;
      held = of.1;
      bodiless = e;
      words =
          ap (option_map (λ n. words_of (values_of (object_at s.small.graph n)) (body_of s.large n))) of.1
          ∙ ap (λ b. Some (words_of (values_of (object_at s.small.graph of.0)) b)) e
          ∙ sym (ap (option_map (λ n. values_of (object_at s.small.graph n))) of.1);
      none = ap (body_held s) of.1 ∙ e;
    }
    by (Some body) e = let no : form.Data count ≡ form.Body (length (words_in_body body)) = of.2 ∙ ap (form_of (values_of (object_at s.small.graph of.0))) e in absurd (cc)

-- nothing has no words
pub none_at : (s : LargeState) (base : ℕ) → None ≡ form_at s base → words_at s base ≡ None
none_at s base told = by (register_at s.small 1 base) told
  where
    by : (v : Option Name) → None ≡ option_map (λ n. form_of (values_of (object_at s.small.graph n)) (body_of s.large n)) v
        → option_map (λ n. words_of (values_of (object_at s.small.graph n)) (body_of s.large n)) v ≡ None
    by None e = refl
    by (Some n) e = absurd (cc)

-- how many words there are
pub form_length : (s : LargeState) (base : ℕ) → option_map length_in (form_at s base) ≡ option_map length (words_at s base)
form_length s base = of (register_at s.small 1 base)
  where
    by : (values : List ℕ) (body : Option (List ℕ)) → length_in (form_of values body) ≡ length (words_of values body)
    by values None = refl
    by values (Some body) = refl

    of : (v : Option Name) → option_map length_in (option_map (λ n. form_of (values_of (object_at s.small.graph n)) (body_of s.large n)) v)
        ≡ option_map length (option_map (λ n. words_of (values_of (object_at s.small.graph n)) (body_of s.large n)) v)
    of None = refl
    of (Some n) = ap Some (by (values_of (object_at s.small.graph n)) (body_of s.large n))
