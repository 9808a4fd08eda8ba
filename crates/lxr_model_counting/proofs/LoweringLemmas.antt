-- Each lowering keeps what holds: a name whose count is zero has no reference left, and puts its own references in line.
use Rattle.std.proofs.Common.{◌≡◌, ℕ, ◌+◌, ◌≤◌, refl, sym, ap, subst, ◌∙◌, inl, inr, arith, Bool, true, false, cond, List, [], ◌∷◌, IsTrue}
use Rattle.std.specs.Prelude.{not, ◌||◌}
use Rattle.std.proofs.lemmas.Bool.{or_cases}
use Rattle.lxr_layout.specs.declared.Name.{Name}
use Rattle.lxr_graph.specs.Names.{same_name, has, without}
use Rattle.lxr_graph.specs.State.{State, Graph, object_at, refs_of}
use Rattle.lxr_graph.proofs.NameSets.{same_names, not_both}
use Rattle.lxr_model.specs.Dead.{Dead}
use Rattle.lxr_model.specs.References.{occurrences, references_from, references}
use Rattle.lxr_model.proofs.ReachableLemmas.{dead_parts}
use Rattle.lxr_model_counting.specs.Distinct.{IsDistinct}
use Rattle.lxr_model_counting.specs.Lowering.{IsLowered, TakenFrom, LoweredAt, WithReferences, once}
use Rattle.lxr_model_counting.specs.Laws.{LoweringKills}
use Rattle.lxr_model_counting.proofs.DistinctLemmas.{without_apart, tested, or_false, same_flip}
use Rattle.lxr_model_counting.proofs.DeathLemmas.{over_dead, unreferred_dead}

pub once_same : (o r : Name) → same_name o r ≡ true → once o r ≡ 1
once_same o r e = ap (λ b. cond b 1 0) e

pub once_other : (o r : Name) → same_name o r ≡ false → once o r ≡ 0
once_other o r e = ap (λ b. cond b 1 0) e

-- ---- references from what is left

-- a list without nothing
pub without_none : (us : List Name) → without us [] ≡ us
without_none us = without_apart us [] (λ n h. refl)

filtered : (g : Graph) (o x : Name) (b : Bool) (ns : List Name) → references_from g (cond b (x ∷ ns) ns) o ≡ cond b (occurrences (refs_of (object_at g x)) o) 0 + references_from g ns o
filtered g o x true ns = refl
filtered g o x false ns = omega arith

refs_kept : (g : Graph) (o x : Name) (xs out : List Name)
    → references_from g (without (x ∷ xs) out) o ≡ cond (not (has out x)) (occurrences (refs_of (object_at g x)) o) 0 + references_from g (without xs out) o
refs_kept g o x xs out = filtered g o x (not (has out x)) (without xs out)

kept_more : (x r : Name) (gone : List Name) (n : ℕ) → same_name x r ≡ false → cond (not (has (r ∷ gone) x)) n 0 ≡ cond (not (has gone x)) n 0
kept_more x r gone n h = ap (λ b. cond (not (b || has gone x)) n 0) h

kept_out : (x r : Name) (gone : List Name) (n : ℕ) → same_name x r ≡ true → cond (not (has (r ∷ gone) x)) n 0 ≡ 0
kept_out x r gone n h = ap (λ b. cond (not (b || has gone x)) n 0) h

-- a name that isn't in the list may be taken out
pub refs_same : (g : Graph) (o r : Name) (us gone : List Name) → has us r ≡ false → references_from g (without us (r ∷ gone)) o ≡ references_from g (without us gone) o
refs_same g o r [] gone h = refl
refs_same g o r (x ∷ xs) gone h =
    let parts = or_false (same_name r x) (has xs r) h in
    let a = refs_kept g o x xs (r ∷ gone) in
    let b = refs_kept g o x xs gone in
    let c = kept_more x r gone (occurrences (refs_of (object_at g x)) o) (same_flip r x parts.0) in
    let e = refs_same g o r xs gone parts.1 in
    omega (arith, a, b, c, e)

-- taking one more name out takes out its references
pub refs_out : (g : Graph) (o r : Name) (us gone : List Name) → IsDistinct us → IsTrue (has us r) → has gone r ≡ false
    → references_from g (without us gone) o ≡ occurrences (refs_of (object_at g r)) o + references_from g (without us (r ∷ gone)) o
refs_out g o r [] gone d h k = absurd (cc)
refs_out g o r (x ∷ xs) gone d h k =
    let a = refs_kept g o x xs (r ∷ gone) in
    let b = refs_kept g o x xs gone in
    elim (tested (same_name x r)) [
      | inl q ↦
          let same : x ≡ r = same_names x r q in
          let t : occurrences (refs_of (object_at g x)) o ≡ occurrences (refs_of (object_at g r)) o = ap (λ z. occurrences (refs_of (object_at g z)) o) same in
          let c = kept_out x r gone (occurrences (refs_of (object_at g x)) o) q in
          let e = refs_same g o r xs gone (sym (ap (has xs) same) ∙ d.0) in
          let f : cond (not (has gone x)) (occurrences (refs_of (object_at g x)) o) 0 ≡ occurrences (refs_of (object_at g x)) o = ap (λ b. cond (not b) (occurrences (refs_of (object_at g x)) o) 0) (ap (has gone) same ∙ k) in
          omega (arith, a, b, c, e, f, t)
      | inr q ↦
          let there : IsTrue (has xs r) = elim (or_cases (same_name r x) (has xs r) h) [ inl z ↦ not_both (same_name r x) z (same_flip x r q) | inr z ↦ z ] in
          let c = kept_more x r gone (occurrences (refs_of (object_at g x)) o) q in
          let e = refs_out g o r xs gone d.1 there k in
          omega (arith, a, b, c, e)
    ]

-- ---- the steps

-- nothing but counts and waits of the list is asked
pub lowered_still : (s : State) (us stuck gone : List Name) (count other pending waits : Name → ℕ) → ((o : Name) → IsTrue (has us o) → other o ≡ count o)
    → ((o : Name) → IsTrue (has us o) → waits o ≡ pending o) → IsLowered s us stuck gone count pending → IsLowered s us stuck gone other waits
lowered_still s us stuck gone count other pending waits counted waited is = record {
  dead = is.dead;
  zero = λ o h. counted o (dead_parts (is.dead o h)).member ∙ is.zero o h;
  exact = λ o in_us unstuck. let e = is.exact o in_us unstuck in let c = counted o in_us in let w = waited o in_us in omega (arith, e, c, w);
}

-- a count of some is lowered
pub lowers : (s : State) (us stuck gone : List Name) (count pending after rest : Name → ℕ) (r : Name) → IsLowered s us stuck gone count pending → 1 ≤ count r
    → TakenFrom pending r rest → LoweredAt us count r after → IsLowered s us stuck gone after rest
lowers s us stuck gone count pending after rest r is some taken lowered =
    record {
      dead = is.dead;
      zero = λ o h. let z = is.zero o h in let l = lowered o (dead_parts (is.dead o h)).member in omega (arith, z, l);
      exact = λ o in_us unstuck. let e = is.exact o in_us unstuck in let t = taken o in let l = lowered o in_us in
          elim (tested (same_name o r)) [
            | inl k ↦ let c : count o ≡ count r = ap count (same_names o r k) in let n = once_same o r k in omega (arith, e, t, l, c, n, some)
            | inr k ↦ let n = once_other o r k in omega (arith, e, t, l, n)
          ];
    }

-- a stuck name is never lowered, and what waits for it may be left out
pub stuck_stays : (s : State) (us stuck gone : List Name) (count pending rest : Name → ℕ) (r : Name) → IsLowered s us stuck gone count pending → IsTrue (has stuck r)
    → TakenFrom pending r rest → IsLowered s us stuck gone count rest
stuck_stays s us stuck gone count pending rest r is stuck_r taken = record {
  dead = is.dead;
  zero = is.zero;
  exact = λ o in_us unstuck. let e = is.exact o in_us unstuck in let t = taken o in elim (tested (same_name o r)) [
    | inl k ↦ not_both (has stuck o) (ap (has stuck) (same_names o r k) ∙ stuck_r) unstuck
    | inr k ↦ let n = once_other o r k in omega (arith, e, t, n)
  ];
}

-- a name without a count goes, and its references wait
pub drops : (s : State) (us stuck gone : List Name) (count pending more : Name → ℕ) (r : Name) → IsLowered s us stuck gone count pending → IsDistinct us
    → IsTrue (has us r) → has stuck r ≡ false → has gone r ≡ false → count r ≡ 0 → WithReferences s pending r more → IsLowered s us stuck (r ∷ gone) count more
drops s us stuck gone count pending more r is distinct in_r unstuck_r not_gone none with =
    let exact_r = is.exact r in_r unstuck_r in
    let unreferred : references s (without us gone) r ≡ 0 = omega (arith, exact_r, none) in
    record {
      dead = λ o h. elim (or_cases (same_name o r) (has gone o) h) [
        | inl k ↦ subst (Dead s us stuck) (sym (same_names o r k)) (unreferred_dead s us stuck gone is.dead r in_r unstuck_r unreferred)
        | inr k ↦ is.dead o k
      ];
      zero = λ o h. elim (or_cases (same_name o r) (has gone o) h) [ inl k ↦ ap count (same_names o r k) ∙ none | inr k ↦ is.zero o k ];
      exact = λ o in_us unstuck.
          let e = is.exact o in_us unstuck in
          let w = with o in
          let out = refs_out s.graph o r us gone distinct in_r not_gone in
          omega (arith, e, w, out);
    }

-- where nothing waits and what has no count is gone, exactly the dead are gone
pub over : LoweringKills
over s us stuck gone count pending is none empty o = (
  is.dead o,
  λ d. over_dead s us stuck gone
      (λ u in_us unstuck there zero_refs. let e = is.exact u in_us unstuck in let n = none u in not_both (has gone u) (empty u in_us unstuck (omega (arith, e, n, zero_refs))) there) o d (has gone o) refl,
)
