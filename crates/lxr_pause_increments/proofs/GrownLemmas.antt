-- Where all is raised that logged references, registers and promoted objects ask for, no more is held up: what holds an
-- unpromoted new object up would have been counted.
use Rattle.std.proofs.Common.{◌≡◌, ℕ, zero, suc, ◌+◌, refl, sym, ap, ◌∙◌, inl, inr, arith, Bool, true, false, cond, List, [], ◌∷◌, IsTrue, length}
use Rattle.std.specs.Prelude.{not, ◌&&◌, Option, None, Some, count_by, slice_get}
use Rattle.std.specs.List.{zip}
use Rattle.std.proofs.lemmas.List.Sums.{sum_by-cons}
use Rattle.std.proofs.lemmas.Option.{get_or_from_slice_get}
use Rattle.lxr_layout.specs.declared.Name.{Name}
use Rattle.lxr_graph.specs.Names.{has, same_held}
use Rattle.lxr_graph.specs.State.{object_at, refs_of}
use Rattle.lxr_graph.proofs.NameSets.{not_both, same_itself}
use Rattle.lxr_model.specs.Reachable.{held}
use Rattle.lxr_model.specs.References.{references_from}
use Rattle.lxr_model.specs.Moments.{Field, Moment}
use Rattle.lxr_model.specs.Reports.{field_holds, newly_held}
use Rattle.lxr_model.proofs.CountLemmas.{held_same, references_zero}
use Rattle.lxr_model_counting.specs.Distinct.{has_field}
use Rattle.lxr_model_counting.specs.Following.{FollowsPause}
use Rattle.lxr_model_counting.specs.Raising.{IsGrown}
use Rattle.lxr_model_counting.proofs.DistinctLemmas.{field_split, tested}
use Rattle.lxr_invariant.proofs.EntryLemmas.{one_if}
use Rattle.lxr_pause_increments.specs.Increments.{IncrementStage}

neither_counted : (b : Bool) (k n : ℕ) → n ≡ one_if b + k → n ≡ 0 → (b ≡ false) × (k ≡ 0)
neither_counted true k n e z = absurd (omega arith)
neither_counted false k n e z = (refl, omega arith)

-- where no field of a list passes, each fails
fields_none : (p : Field → Bool) (ws : List Field) (w : Field) → count_by p ws ≡ 0 → IsTrue (has_field ws w) → p w ≡ false
fields_none p [] w e h = absurd (cc)
fields_none p (x ∷ ws) w e h =
    let parts = neither_counted (p x) (count_by p ws) (count_by p (x ∷ ws)) (sum_by-cons (λ y. cond (p y) 1 0) x ws) e in
    elim (field_split x ws w h) [ inl k ↦ ap p k ∙ parts.0 | inr k ↦ fields_none p ws w parts.1 k ]

so : (x : Bool) → (true && not x) ≡ false → IsTrue x
so true h = refl
so false h = absurd (cc)

first_none : (b n : Option Name) (before now : List (Option Name)) (o : Name) → newly_held (b ∷ before) (n ∷ now) o ≡ 0
    → ((same_held (Some o) n && not (same_held (Some o) b)) ≡ false) × (newly_held before now o ≡ 0)
first_none b n before now o z =
    neither_counted (same_held (Some o) n && not (same_held (Some o) b)) (newly_held before now o) (newly_held (b ∷ before) (n ∷ now) o)
    (sum_by-cons (λ (p : Option Name × Option Name). cond (same_held (Some o) p.1 && not (same_held (Some o) p.0)) 1 0) (b, n) (zip before now)) z

-- where no register holds a name newly, each that holds it held it before
newly_none : (before now : List (Option Name)) (o : Name) (i : ℕ) → length before ≡ length now → newly_held before now o ≡ 0 → slice_get now i ≡ Some (Some o) → slice_get before i ≡ Some (Some o)
newly_none before [] o i e z g = absurd (cc)
newly_none [] (n ∷ now) o i e z g = absurd (omega arith)
newly_none (b ∷ before) (n ∷ now) o zero e z g =
    let is : n ≡ Some o = cc in
    let holds : same_held (Some o) n ≡ true = ap (same_held (Some o)) is ∙ same_itself o in
    ap Some (held_same o b (so (same_held (Some o) b) (sym (ap (λ x. x && not (same_held (Some o) b)) holds) ∙ (first_none b n before now o z).0)))
newly_none (b ∷ before) (n ∷ now) o (suc i) e z g = newly_none before now o i (omega arith) (first_none b n before now o z).1 g

-- no more is held up where each name was raised as often as written fields, registers and promoted objects hold it
pub grown : (m : Moment) (st : IncrementStage) → FollowsPause m
    → ((o : Name) → st.added o ≡ count_by (field_holds m.state.graph o) m.written + newly_held m.last.registers m.state.registers o + references_from m.state.graph st.promoted o)
    → ((n : Name) → IsTrue (has m.made n) → has st.promoted n ≡ false → st.added n ≡ 0) → IsGrown m.state m.unreclaimed m.made st.promoted
grown m st follows added unraised n made up = elim (tested (has st.promoted n)) [
  | inl h ↦ h
  | inr e ↦
      let sum = added n in
      let none = unraised n made e in
      let fields : count_by (field_holds m.state.graph n) m.written ≡ 0 = omega (arith, sum, none) in
      let registers : newly_held m.last.registers m.state.registers n ≡ 0 = omega (arith, sum, none) in
      let references : references_from m.state.graph st.promoted n ≡ 0 = omega (arith, sum, none) in
      let old : IsTrue (has m.unreclaimed n) → IsTrue (has st.promoted n) = λ k. not_both (has m.unreclaimed n) k (follows.apart n made) in
      let sizes : length m.last.registers ≡ length m.state.registers = let a = follows.rows in let b = follows.registers in let c = follows.registers_were in omega (arith, a, b, c) in
      elim up [
        | inl r ↦ old (follows.kept n (held (r.0, newly_none m.last.registers m.state.registers n r.0 sizes registers r.1)))
        | inr k ↦ elim k [
          | inl u ↦ elim (tested (has_field m.written (u.0, u.2.0))) [
            | inl w ↦
                let holds : field_holds m.state.graph n (u.0, u.2.0) ≡ true = ap (same_held (Some n)) (get_or_from_slice_get (refs_of (object_at m.state.graph u.0)) u.2.0 (Some n) None u.2.1) ∙ same_itself n in
                not_both (field_holds m.state.graph n (u.0, u.2.0)) holds (fields_none (field_holds m.state.graph n) m.written (u.0, u.2.0) fields w)
            | inr w ↦ old (follows.closed u.0 n u.1 (u.2.0, sym (follows.unwritten u.0 u.2.0 u.1 w) ∙ u.2.1))
          ]
          | inr u ↦ absurd ((references_zero (record { graph = m.state.graph; registers = [] }) st.promoted n (omega (arith, references))).1 u.0 u.1 u.2)
        ]
      ]
]
