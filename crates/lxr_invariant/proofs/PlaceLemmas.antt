-- Objects of an image stand apart, so that a count of one is neither another's count nor a mark.
use Rattle.std.proofs.Common.{◌≡◌, ◌≢◌, ℕ, ◌/◌, ◌%◌, ◌<◌, ◌≤◌, sym, ap, ◌∙◌, inl, inr, arith, false, List}
use Rattle.std.specs.Prelude.{Some, IsTrue}
use Rattle.std.proofs.lemmas.Bool.{false_from_ne_true}
use Rattle.lxr_layout.specs.declared.TheConstants.{GRANULES_IN_LINE}
use Rattle.lxr_layout.specs.declared.Name.{Name}
use Rattle.lxr_graph.specs.Names.{has, same_name}
use Rattle.lxr_graph.specs.State.{Graph, Object, object_at}
use Rattle.lxr_graph.proofs.NameSets.{same_names}
use Rattle.lxr_image.specs.Tables.{Tables}
use Rattle.lxr_image.specs.Reads.{granule_of}
use Rattle.lxr_image.specs.Image.{IsImage, StartsAre, granules_of}
use Rattle.lxr_model_counting.proofs.DistinctLemmas.{tested}
use Rattle.lxr_invariant.specs.Lines.{HasMarks, IsMarkOf}
use Rattle.lxr_blocks.specs.Lines.{line_behind, next_line}

pub same_object : (g : Graph) (n : Name) (a b : Object) → object_at g n ≡ Some a → object_at g n ≡ Some b → a ≡ b
same_object g n a b e f = let q : Some a ≡ Some b = sym e ∙ f in cc

-- two members at one granule are one
pub granules_differ : (t : Tables) (blocks : ℕ) (at : Name → ℕ) (g : Graph) (ms : List Name) → IsImage t blocks at g ms → (n o : Name) → IsTrue (has ms n) → IsTrue (has ms o)
    → same_name n o ≡ false → granule_of (at n) ≢ granule_of (at o)
granules_differ t blocks at g ms image n o in_n in_o ne e =
    let a = image.stands n in_n in
    let b = image.stands o in_o in
    elim (image.apart n o a.0 b.0 in_n in_o ne a.1 b.1) [ inl h ↦ omega (arith, h, e) | inr h ↦ omega (arith, h, e) ]

-- no member begins at a mark
pub mark_apart : (t : Tables) (blocks : ℕ) (at : Name → ℕ) (g : Graph) (ms : List Name) → IsImage t blocks at g ms → (n r : Name) (b : Object) (k : ℕ) → IsTrue (has ms n) → IsTrue (has ms r)
    → object_at g n ≡ Some b → IsMarkOf at n b k → granule_of (at r) ≢ k
mark_apart t blocks at g ms image n r b k in_n in_r has_b mark e =
    let behind = mark.behind in
    let within = mark.within in
    let a = image.stands r in_r in
    elim (tested (same_name r n)) [
      | inl q ↦ let p : at r ≡ at n = ap at (same_names r n q) in omega (arith, p, behind, e)
      | inr q ↦ elim (image.apart r n a.0 b in_r in_n q a.1 has_b) [ inl h ↦ omega (arith, h, behind, e) | inr h ↦ omega (arith, h, within, e) ]
    ]

-- marks stay where counts change only at start bits, which stand where these objects begin
pub marks_stay : (t u : Tables) (blocks : ℕ) (at : Name → ℕ) (g : Graph) (ms us : List Name) → IsImage t blocks at g ms → ((n : Name) → IsTrue (has us n) → IsTrue (has ms n)) → StartsAre t at us
    → ((k : ℕ) → t.starts k ≡ false → u.counts k ≡ t.counts k) → HasMarks t g at us → HasMarks u g at us
marks_stay t u blocks at g ms us image within starts still is = record {
  marked = λ n b k in_n has_b mark.
      let none : t.starts k ≡ false = false_from_ne_true (t.starts k) (λ start. let r = starts.only k start in mark_apart t blocks at g ms image n r.0 b k (within n in_n) (within r.0 r.1) has_b mark r.2) in
      still k none ∙ is.marked n b k in_n has_b mark;
  elsewhere = λ k nobody nothing.
      let none : t.starts k ≡ false = false_from_ne_true (t.starts k) (λ start. let r = starts.only k start in nobody r.0 r.1 r.2) in
      still k none ∙ is.elsewhere k nobody nothing;
}

-- the first granule of a line from one on and below another
pub record BeginsLine (first end k : ℕ) : Type 0 where
  pub begins : k % GRANULES_IN_LINE ≡ 0
  pub from : first ≤ k / GRANULES_IN_LINE
  pub below : k / GRANULES_IN_LINE < end

-- the marked granules are those of an object's further lines
pub line_mark : (at : Name → ℕ) (o : Name) (b : Object) (k : ℕ) → BeginsLine (next_line (granule_of (at o))) (line_behind (granule_of (at o)) (granules_of b)) k → IsMarkOf at o b k
line_mark at o b k is = let begins = is.begins in let from = is.from in let below = is.below in record { begins = begins; behind = omega (arith, begins, from); within = omega (arith, begins, below) }

pub mark_line : (at : Name → ℕ) (o : Name) (b : Object) (k : ℕ) → IsMarkOf at o b k → BeginsLine (next_line (granule_of (at o))) (line_behind (granule_of (at o)) (granules_of b)) k
mark_line at o b k is = let begins = is.begins in let behind = is.behind in let within = is.within in record { begins = begins; from = omega (arith, begins, behind); below = omega (arith, begins, within) }
