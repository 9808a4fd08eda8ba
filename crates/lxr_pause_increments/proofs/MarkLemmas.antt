-- The marks once an object is promoted, and once a count is raised.
use Rattle.std.proofs.Common.{◌≡◌, ◌≢◌, ℕ, sym, ap, subst, ◌∙◌, inl, inr, List}
use Rattle.std.specs.Prelude.{◌||◌, Some, IsTrue}
use Rattle.std.proofs.lemmas.Bool.{or_cases, or_left, or_right}
use Rattle.lxr_layout.specs.declared.Name.{Name}
use Rattle.lxr_graph.specs.Names.{has, same_name}
use Rattle.lxr_graph.specs.State.{Graph, Object, object_at, shape_of}
use Rattle.lxr_graph.proofs.NameSets.{same_itself, same_names}
use Rattle.lxr_image.specs.Tables.{Tables}
use Rattle.lxr_image.specs.Reads.{granule_of}
use Rattle.lxr_image.specs.Image.{granules_of}
use Rattle.lxr_invariant.specs.Lines.{HasMarks, IsMarkOf}
use Rattle.lxr_blocks.specs.Lines.{line_behind, next_line}
use Rattle.lxr_invariant.proofs.EntryLemmas.{changed_other}
use Rattle.lxr_invariant.proofs.PlaceLemmas.{line_mark, mark_line, same_object}
use Rattle.lxr_pause_promote.specs.Promotion.{with_promotion}
use Rattle.lxr_pause_increments.specs.Promotion.{with_raised}
use Rattle.lxr_pause_increments.proofs.RangeLemmas.{marked_cases}

-- the count of one of these objects is raised, which doesn't begin at a mark of another
pub marks_raised : (t : Tables) (at : Name → ℕ) (g : Graph) (us : List Name) (o : Name)
    → ((n : Name) (b : Object) (k : ℕ) → IsTrue (has us n) → object_at g n ≡ Some b → IsMarkOf at n b k → granule_of (at o) ≢ k) → IsTrue (has us o)
    → HasMarks t g at us → HasMarks (with_raised t (granule_of (at o))) g at us
marks_raised t at g us o apart in_o is = record {
  marked = λ n b k in_n has_b mark. changed_other t.counts (granule_of (at o)) _ k (λ e. apart n b k in_n has_b mark (sym e)) ∙ is.marked n b k in_n has_b mark;
  elsewhere = λ k nobody nothing. changed_other t.counts (granule_of (at o)) _ k (λ e. nobody o in_o (sym e)) ∙ is.elsewhere k nobody nothing;
}

-- a new object is promoted
pub marks_promoted : (t : Tables) (at : Name → ℕ) (g : Graph) (us vs : List Name) (o : Name) (b : Object) → object_at g o ≡ Some b → ((n : Name) → has vs n ≡ (same_name n o || has us n)) → HasMarks t g at us
    → HasMarks (with_promotion t (at o) (shape_of b)) g at vs
marks_promoted t at g us vs o b has_o joined is =
    let gr : ℕ = granule_of (at o) in
    record {
      marked = λ n c k in_n has_c mark. elim (marked_cases t.counts (next_line gr) (line_behind gr (granules_of b)) k) [
        | inl q ↦ q.1
        | inr q ↦ elim (or_cases (same_name n o) (has us n) (sym (joined n) ∙ in_n)) [
          | inl e ↦
              let same : n ≡ o = same_names n o e in
              let c_is : b ≡ c = same_object g o b c has_o (ap (object_at g) (sym same) ∙ has_c) in
              absurd (q.0 (mark_line at o b k (subst (λ z. IsMarkOf at o z k) (sym c_is) (subst (λ z. IsMarkOf at z c k) same mark))))
          | inr e ↦ q.1 ∙ is.marked n c k e has_c mark
        ]
      ];
      elsewhere = λ k nobody nothing. elim (marked_cases t.counts (next_line gr) (line_behind gr (granules_of b)) k) [
        | inl q ↦ absurd (nothing o b (joined o ∙ or_left (same_name o o) (has us o) (same_itself o)) has_o (line_mark at o b k q.0))
        | inr q ↦ q.1 ∙ is.elsewhere k (λ n in_n. nobody n (joined n ∙ or_right (same_name n o) (has us n) in_n)) (λ n c in_n. nothing n c (joined n ∙ or_right (same_name n o) (has us n) in_n))
      ];
    }
