-- A counted object keeps its first line by its count, and each further line by its line mark.
use Rattle.std.proofs.Common.{◌≡◌, ◌≢◌, ℕ, ◌*◌, ◌/◌, inl, subst, arith, false}
use Rattle.std.specs.Prelude.{IsTrue}
use Rattle.lxr_layout.specs.declared.TheConstants.{GRANULES_IN_LINE, STUCK}
use Rattle.lxr_layout.specs.declared.Name.{Name}
use Rattle.lxr_graph.specs.Names.{has}
use Rattle.lxr_graph.specs.State.{Object}
use Rattle.lxr_graph.proofs.NameSets.{not_both}
use Rattle.lxr_image.specs.declared.space.Space.{Space}
use Rattle.lxr_image.specs.Spaces.{tables_of}
use Rattle.lxr_image.specs.Image.{granules_of}
use Rattle.lxr_image.specs.Reads.{granule_of}
use Rattle.lxr_blocks.specs.Kept.{KeepsLines}
use Rattle.lxr_blocks.specs.Lines.{is_free}
use Rattle.lxr_blocks.proofs.KeptLemmas.{kept_line_is_taken}
use Rattle.lxr_invariant.specs.AbstractState.{AbstractState}
use Rattle.lxr_invariant.specs.Lines.{Covers}
use Rattle.lxr_invariant.specs.Quiescent.{IsAtSafepoint}
use Rattle.lxr_invariant.proofs.BlockLemmas.{line_free}
use Rattle.lxr_full.specs.Kept.{AllAreCounted, CountedKeepLines}

-- a line mark counts
stuck_counts : (count : ℕ) → count ≡ STUCK → count ≢ 0
stuck_counts count stuck none = omega (arith, stuck, none)

-- a counted object keeps its lines
keeps : (s : Space) (g : AbstractState) (n : Name) (o : Object) (k : ℕ) → IsAtSafepoint s g → AllAreCounted (tables_of s) g.moment g.at → IsTrue (has g.moment.unreclaimed n) → Covers g.moment.state.graph g.at n o k
    → KeepsLines (tables_of s) (granule_of (g.at n)) (granules_of o)
keeps s g n o k is counted member covers = record {
  first = inl (counted n member);
  further = λ line low high. inl (stuck_counts ((tables_of s).counts (GRANULES_IN_LINE * line))
      (is.holds.marks.marked n o (GRANULES_IN_LINE * line) member covers.object (record { begins = omega arith; behind = low; within = high })));
}

-- none of them is free
line_taken : (s : Space) (g : AbstractState) (n : Name) (o : Object) (k : ℕ) → IsAtSafepoint s g → AllAreCounted (tables_of s) g.moment g.at → IsTrue (has g.moment.unreclaimed n) → Covers g.moment.state.graph g.at n o k
    → is_free (tables_of s) (k / GRANULES_IN_LINE) ≡ false
line_taken s g n o k is counted member covers =
    let first = covers.first in let behind = covers.behind in
    kept_line_is_taken (tables_of s) (granule_of (g.at n)) (granules_of o) (k / GRANULES_IN_LINE) (keeps s g n o k is counted member covers) (omega (arith, first)) (omega (arith, behind))

-- so none of them is one of a free run
pub counted_keep_lines : CountedKeepLines
counted_keep_lines s g is counted = record {
  lines = λ n o k member covers. line_taken s g n o k is counted member covers;
  runs = λ r line free low high taken. not_both (is_free (tables_of s) line) (line_free (tables_of s) s.limits.blocks r line free low high)
      (subst (λ z. is_free (tables_of s) z ≡ false) taken.5 (line_taken s g taken.0 taken.1 taken.2 is counted taken.3 taken.4));
}
