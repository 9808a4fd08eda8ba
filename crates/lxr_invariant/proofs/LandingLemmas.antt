-- Where copies land: no line of an object that lives on is free, so copies lie apart from all of these.
use Rattle.std.proofs.Common.{◌≡◌, ◌≢◌, ℕ, ◌+◌, ◌*◌, ◌/◌, ◌<◌, ◌≤◌, sym, ap, subst, ◌∙◌, inl, inr, arith, false, List}
use Rattle.std.specs.Prelude.{IsTrue}
use Rattle.lxr_layout.specs.declared.Name.{Name}
use Rattle.lxr_layout.specs.declared.TheConstants.{GRANULES_IN_LINE, STUCK}
use Rattle.lxr_graph.specs.Names.{has}
use Rattle.lxr_graph.specs.State.{Object}
use Rattle.lxr_image.specs.declared.space.Space.{Space}
use Rattle.lxr_image.specs.Tables.{Tables}
use Rattle.lxr_image.specs.Spaces.{tables_of}
use Rattle.lxr_image.specs.Reads.{granule_of}
use Rattle.lxr_image.specs.Image.{granules_of}
use Rattle.lxr_blocks.specs.Lines.{is_free}
use Rattle.lxr_blocks.proofs.KeptLemmas.{free_line_is_told, kept_line_is_taken}
use Rattle.lxr_model.specs.Dead.{Dead}
use Rattle.lxr_invariant.specs.AbstractState.{AbstractState, leaving}
use Rattle.lxr_invariant.specs.Copied.{CopiesLieApart, CopiesLieOnFreeLines}
use Rattle.lxr_invariant.specs.Counting.{IsUndecremented}
use Rattle.lxr_invariant.specs.Lines.{Covers, IsMarkOf}
use Rattle.lxr_invariant.specs.Quiescent.{HoldsMoment}

-- an object whose count isn't 0, and whose further lines are marked, keeps its lines
pub counted_line : (t : Tables) (at : Name → ℕ) (n : Name) (o : Object) (k : ℕ) → t.counts (granule_of (at n)) ≢ 0 → ((j : ℕ) → IsMarkOf at n o j → t.counts j ≡ STUCK) → granule_of (at n) ≤ k → k < granule_of (at n) + granules_of o
    → is_free t (k / GRANULES_IN_LINE) ≡ false
counted_line t at n o k positive marked first behind = kept_line_is_taken t (granule_of (at n)) (granules_of o) (k / GRANULES_IN_LINE) (record {
  first = inl positive;
  further = λ line after before. inl (λ none. let full = marked (GRANULES_IN_LINE * line) (record { begins = omega arith; behind = after; within = before }) in omega (arith, full, none));
}) (omega (arith, first)) (omega (arith, behind))

-- Once the dead are gone and no decrement waits, each unreclaimed object keeps its lines. Copies that lie on what is open then lie apart
-- from them.
pub copies_apart : (before found : Space) (g : AbstractState) (us : List Name) (at' : Name → ℕ) (promoted : List Name)
    → HoldsMoment found (leaving g.moment us) g.at → IsUndecremented (tables_of found) (leaving g.moment us) g.at
    → ((n : Name) → IsTrue (has g.moment.unreclaimed n) → ¬ Dead g.moment.last g.moment.unreclaimed g.moment.stuck n → IsTrue (has us n))
    → (tables_of found).outs ≡ (tables_of before).outs → found.rest_next ≡ before.rest_next → found.rest_end ≡ before.rest_end
    → CopiesLieOnFreeLines found (leaving g.moment us) g.at at' promoted → CopiesLieApart before g at' promoted
copies_apart before found g us at' promoted holds undecremented lives outs next end onto n o k promoted_is moved covers = elim (onto n o k promoted_is moved covers) [
  | inl free ↦ inl (sym (ap (λ f. f (k / GRANULES_IN_LINE)) outs) ∙ ((free_line_is_told (tables_of found) (k / GRANULES_IN_LINE)).0 free).in_hand, apart free)
  | inr left ↦ inr (subst (λ z. z ≤ k) next left.0, subst (λ z. k < z) end left.1)
]
  where
    apart : IsTrue (is_free (tables_of found) (k / GRANULES_IN_LINE)) → (u : Name) (a : Object) (j : ℕ) → IsTrue (has g.moment.unreclaimed u) → ¬ Dead g.moment.last g.moment.unreclaimed g.moment.stuck u
        → Covers g.moment.state.graph g.at u a j → j / GRANULES_IN_LINE ≢ k / GRANULES_IN_LINE
    apart free u a j member alive has_granule line =
        let kept = lives u member alive in
        let taken = counted_line (tables_of found) g.at u a j (undecremented.positive u kept) (λ i mark. holds.marks.marked u a i kept has_granule.object mark) has_granule.first has_granule.behind in
        let same = ap (is_free (tables_of found)) line in
        cc
