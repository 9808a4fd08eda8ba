-- Blocks whose state is Free are unused, and so all their lines are free: a count stands only where an object begins, or where one that
-- begins in the same block reaches into a further line.
use Rattle.std.proofs.Common.{◌≡◌, ◌≢◌, ℕ, ◌+◌, ◌-◌, ◌*◌, ◌/◌, ◌<◌, refl, sym, ap, subst, ◌∙◌, arith, List, true, ◌%◌, ◌⊎◌, inl, inr, false}
use Rattle.std.specs.Prelude.{IsTrue}
use Rattle.std.proofs.lemmas.Bool.{false_from_ne_true}
use Rattle.lxr_layout.specs.declared.Name.{Name}
use Rattle.lxr_layout.specs.declared.TheConstants.{GRANULES_IN_BLOCK, GRANULES_IN_LINE, LINES_IN_BLOCK}
use Rattle.lxr_graph.specs.Names.{has}
use Rattle.lxr_graph.specs.State.{Graph}
use Rattle.lxr_image.specs.declared.space.Space.{Space}
use Rattle.lxr_image.specs.Spaces.{tables_of}
use Rattle.lxr_image.specs.Tables.{Tables}
use Rattle.lxr_image.specs.Reads.{granule_of}
use Rattle.lxr_image.specs.Image.{IsImage, granules_of}
use Rattle.lxr_blocks.specs.declared.states.BlockState.TheVariants.{Free}
use Rattle.lxr_blocks.specs.Lines.{free_in, is_free}
use Rattle.lxr_blocks.specs.States.{FreeBlocksAreFree, KeepsFree, state_in, state_by_lines}
use Rattle.lxr_blocks.proofs.FreeLemmas.{free_same, used_by_lines}
use Rattle.lxr_blocks.proofs.KeptLemmas.{free_line_is_told, out_keeps}
use Rattle.lxr_blocks.proofs.LineLemmas.{all_free_state}
use Rattle.lxr_model.specs.Moments.{Moment}
use Rattle.lxr_invariant.specs.AbstractState.{members}
use Rattle.lxr_invariant.specs.Lines.{FreeAreUnused, HasMarks}
use Rattle.lxr_invariant.specs.Quiescent.{HoldsMoment}
use Rattle.lxr_invariant.proofs.NameLemmas.{in_first}
use Rattle.lxr_invariant.proofs.PlaceLemmas.{same_object}

-- they are unused by fewer objects too, where no block has become Free and no line of a Free one was handed out
pub unused_left : (t u : Tables) (at : Name → ℕ) (ms ns : List Name) → KeepsFree t u → ((n : Name) → IsTrue (has ns n) → IsTrue (has ms n)) → FreeAreUnused t at ms → FreeAreUnused u at ns
unused_left t u at ms ns keeps sub is = record {
  objects = λ n h free. is.objects n (sub n h) (keeps (granule_of (at n) / GRANULES_IN_BLOCK) free).0;
  outs = λ line out free. let was = keeps (line / LINES_IN_BLOCK) free in is.outs line (was.1 line refl out) was.0;
}

pub unused_still : (t u : Tables) (at : Name → ℕ) (ms ns : List Name) → u.states ≡ t.states → u.outs ≡ t.outs → ((n : Name) → IsTrue (has ns n) → IsTrue (has ms n)) → FreeAreUnused t at ms → FreeAreUnused u at ns
unused_still t u at ms ns states outs sub is = unused_left t u at ms ns (free_same t u states outs) sub is

-- an object that begins on a line that is out begins outside Free blocks
pub out_used : (t : Tables) (k : ℕ) → ((line : ℕ) → IsTrue (t.outs line) → state_in t (line / LINES_IN_BLOCK) ≢ Free) → IsTrue (t.outs (k / GRANULES_IN_LINE)) → state_in t (k / GRANULES_IN_BLOCK) ≢ Free
out_used t k used out free = used (k / GRANULES_IN_LINE) out (ap (state_in t) (same_block k) ∙ free)
  where
    same_block : (k : ℕ) → k / GRANULES_IN_LINE / LINES_IN_BLOCK ≡ k / GRANULES_IN_BLOCK
    same_block k = omega arith

-- so they are where states are renewed by lines: no object with a count, and no line that is out, is of a block that is Free by its lines
pub unused_by_lines : (t u : Tables) (at : Name → ℕ) (ns : List Name) → u.outs ≡ t.outs → ((b : ℕ) → state_in u b ≡ Free → (state_in t b ≡ Free) ⊎ (state_by_lines t b ≡ Free))
    → ((n : Name) → IsTrue (has ns n) → t.counts (granule_of (at n)) ≢ 0) → FreeAreUnused t at ns → FreeAreUnused u at ns
unused_by_lines t u at ns outs renewed positive is = record {
  objects = λ n h free. elim (renewed (granule_of (at n) / GRANULES_IN_BLOCK) free) [
    | inl was ↦ is.objects n h was
    | inr lines ↦ used_by_lines t (granule_of (at n) / GRANULES_IN_LINE) (counted (granule_of (at n)) (positive n h)) (ap (state_by_lines t) (same_block (granule_of (at n))) ∙ lines)
  ];
  outs = λ line out free.
      let out_then : IsTrue (t.outs line) = sym (ap (λ f. f line) outs) ∙ out in
      elim (renewed (line / LINES_IN_BLOCK) free) [
        | inl was ↦ is.outs line out_then was
        | inr lines ↦ used_by_lines t line (out_keeps t line out_then) lines
      ];
}
  where
    same_block : (k : ℕ) → k / GRANULES_IN_LINE / LINES_IN_BLOCK ≡ k / GRANULES_IN_BLOCK
    same_block k = omega arith

    place_in_line : (k : ℕ) → GRANULES_IN_LINE * (k / GRANULES_IN_LINE) + k % GRANULES_IN_LINE ≡ k
    place_in_line k = omega arith

    counted : (k : ℕ) → t.counts k ≢ 0 → is_free t (k / GRANULES_IN_LINE) ≡ false
    counted k some = false_from_ne_true (is_free t (k / GRANULES_IN_LINE)) (λ free.
        some (sym (ap t.counts (place_in_line k)) ∙ ((free_line_is_told t (k / GRANULES_IN_LINE)).0 free).uncounted (k % GRANULES_IN_LINE) (omega arith)))

-- all lines of a Free block are free
module _ (t : Tables) (blocks : ℕ) (at : Name → ℕ) (g : Graph) (ms ns : List Name) (image : IsImage t blocks at g ms) (sub : (n : Name) → IsTrue (has ns n) → IsTrue (has ms n))
    (marks : HasMarks t g at ns) (unused : FreeAreUnused t at ns) (b : ℕ) (free : state_in t b ≡ Free) where
  -- a granule of a line of the block is one of the block
  in_block : (i k : ℕ) → i < LINES_IN_BLOCK → k < 16 → (GRANULES_IN_LINE * (LINES_IN_BLOCK * b + i) + k) / GRANULES_IN_BLOCK ≡ b
  in_block i k low small = omega arith

  -- no object that begins in it has a granule, and none reaches into it from another
  within_one : (first count k : ℕ) → first / GRANULES_IN_BLOCK ≡ (first + count - 1) / GRANULES_IN_BLOCK → first < k → k < first + count → first / GRANULES_IN_BLOCK ≡ k / GRANULES_IN_BLOCK
  within_one first count k one low high = omega arith

  uncounted : (k : ℕ) → k / GRANULES_IN_BLOCK ≡ b → t.counts k ≡ 0
  uncounted k here = marks.elsewhere k
      (λ n member same. unused.objects n member (ap (λ x. state_in t (x / GRANULES_IN_BLOCK)) same ∙ ap (state_in t) here ∙ free))
      (λ n o member has_o mark.
      let x = image.stands n (sub n member) in
      let one = within_one (granule_of (at n)) (granules_of x.0) k x.2.whole.in_block mark.behind (subst (λ z. k < granule_of (at n) + granules_of z) (same_object g n o x.0 has_o x.1) mark.within) in
      unused.objects n member (ap (state_in t) (one ∙ here) ∙ free))

  line_of_block : (i : ℕ) → i < LINES_IN_BLOCK → (LINES_IN_BLOCK * b + i) / LINES_IN_BLOCK ≡ b
  line_of_block i low = omega arith

  pub line_free : (i : ℕ) → i < LINES_IN_BLOCK → free_in t b i ≡ true
  line_free i low = (free_line_is_told t (LINES_IN_BLOCK * b + i)).1 (record {
    in_hand = false_from_ne_true (t.outs (LINES_IN_BLOCK * b + i)) (λ out. unused.outs (LINES_IN_BLOCK * b + i) out (ap (state_in t) (line_of_block i low) ∙ free));
    uncounted = λ k small. uncounted (GRANULES_IN_LINE * (LINES_IN_BLOCK * b + i) + k) (in_block i k low small);
  })

-- so it is in a space that holds a moment
pub free_are_free : (s : Space) (m : Moment) (at : Name → ℕ) → HoldsMoment s m at → FreeBlocksAreFree (tables_of s) s.limits.blocks
free_are_free s m at is b within free = sym (all_free_state (tables_of s) b
    (line_free (tables_of s) s.limits.blocks at m.state.graph (members m) m.unreclaimed is.image.image (λ n h. in_first m.unreclaimed m.made n h) is.marks is.unused b free))

-- and start bits stand outside Free blocks
pub starts_used : (s : Space) (m : Moment) (at : Name → ℕ) → HoldsMoment s m at → (k : ℕ) → IsTrue ((tables_of s).starts k) → state_in (tables_of s) (k / GRANULES_IN_BLOCK) ≢ Free
starts_used s m at is k start free =
    let x = is.bits.starts.only k start in
    is.unused.objects x.0 x.1 (ap (λ z. state_in (tables_of s) (z / GRANULES_IN_BLOCK)) x.2 ∙ free)
