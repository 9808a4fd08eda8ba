-- Lines that are gathered group by group: each group has the lines that were put into it.
use Rattle.std.proofs.Common.{◌≡◌, ℕ, zero, suc, ◌+◌, ◌-◌, ◌<◌, ◌≤◌, inl, inr, List, [], ◌∷◌, ◌++◌, Some, length, take, drop, refl, sym, ap, ◌∙◌, arith, nat_eq, length-append, length-drop}
use Rattle.std.proofs.Math.Seq.{drop-append_seam}
use Rattle.std.specs.Prelude.{slice_get, slice_index_or}
use Rattle.std.proofs.lemmas.Bool.{cases_lt, cases_eq, cond-true, cond-false, eq-eqb, ne_eqb}
use Rattle.std.proofs.lemmas.List.{take-append-le, drop-append-le, length_push, take_all}
use Rattle.std.proofs.lemmas.Option.{none-some, same_Some, slice_get_within}
use Rattle.lxr_graph.proofs.RowLemmas.{slice_get-push}
use Rattle.lxr_judge_output.specs.Form.{Grouped, no_lines}
use Rattle.lxr_judge_output.proofs.ReadingLemmas.{with_group}
use Rattle.lxr_judge.specs.Evidence.{begin_of, group}

-- the groups have these lines, the first group first
pub record HasGroups {T : Type 0} (g : Grouped T) (groups : List (List T)) : Type 0 where
  pub count : length g.starts ≡ length groups
  pub within : (i : ℕ) → begin_of g i ≤ length g.lines
  pub each : (i : ℕ) (ls : List T) → slice_get groups i ≡ Some ls → group g i ≡ ls

pub no_groups : {T : Type 0} → HasGroups (let g : Grouped T = no_lines in g) []
no_groups = record { count = refl; within = λ i. omega arith; each = λ i ls at. absurd (none-some ls at) }

index_front : (xs : List ℕ) (x i d e : ℕ) → i < length xs → slice_index_or (xs ++ x ∷ []) i d ≡ slice_index_or xs i e
index_front [] x i d e lt = absurd (omega (arith, lt))
index_front (y ∷ xs) x zero d e lt = refl
index_front (y ∷ xs) x (suc i) d e lt = index_front xs x i d e (omega (arith, lt))

index_last : (xs : List ℕ) (x d : ℕ) → slice_index_or (xs ++ x ∷ []) (length xs) d ≡ x
index_last [] x d = refl
index_last (y ∷ xs) x d = index_last xs x d

index_past : (xs : List ℕ) (i d : ℕ) → length xs ≤ i → slice_index_or xs i d ≡ d
index_past [] i d le = refl
index_past (y ∷ xs) zero d le = absurd (omega (arith, le))
index_past (y ∷ xs) (suc i) d le = index_past xs i d (omega (arith, le))

module _ {T : Type 0} (g : Grouped T) (ls : List T) where
  -- where the new group begins, where one does that was there, and that none begins behind
  begin_new : (i : ℕ) → i ≡ length g.starts → begin_of (with_group g ls) i ≡ length g.lines
  begin_new i last = ap (λ (k : ℕ). begin_of (with_group g ls) k) last ∙ index_last g.starts (length g.lines) (length (g.lines ++ ls))

  begin_old : (i : ℕ) → i ≤ length g.starts → begin_of (with_group g ls) i ≡ begin_of g i
  begin_old i le = elim (cases_lt i (length g.starts)) [
    | inl lt ↦ index_front g.starts (length g.lines) i (length (g.lines ++ ls)) (length g.lines) lt
    | inr past ↦
        let last : i ≡ length g.starts = omega (arith, le, past) in
        begin_new i last ∙ sym (index_past g.starts i (length g.lines) past)
  ]

  begin_past : (i : ℕ) → length g.starts < i → begin_of (with_group g ls) i ≡ length (g.lines ++ ls)
  begin_past i lt =
      let size = length_push g.starts (length g.lines) in
      index_past (g.starts ++ length g.lines ∷ []) i (length (g.lines ++ ls)) (omega (arith, size, lt))

-- a part of the front is the same part of the whole
part_kept : {T : Type 0} (xs ys : List T) (b e : ℕ) → b ≤ length xs → e ≤ length xs → take (e - b) (drop b (xs ++ ys)) ≡ take (e - b) (drop b xs)
part_kept xs ys b e low high =
    let size = length-drop b xs in
    ap (take (e - b)) (drop-append-le b xs ys low) ∙ take-append-le (e - b) (drop b xs) ys (omega (arith, size, high))

-- the rest behind the front
part_behind : {T : Type 0} (xs ys : List T) → take (length (xs ++ ys) - length xs) (drop (length xs) (xs ++ ys)) ≡ ys
part_behind xs ys =
    let size = length-append xs ys in
    ap (take (length (xs ++ ys) - length xs)) (drop-append_seam xs ys) ∙ take_all (length (xs ++ ys) - length xs) ys (omega (arith, size))

pub one_group : {T : Type 0} (g : Grouped T) (groups : List (List T)) (ls : List T) → HasGroups g groups → HasGroups (with_group g ls) (groups ++ ls ∷ [])
one_group {T} g groups ls has =
    let size = length-append g.lines ls in
    record {
      count = let a = length_push g.starts (length g.lines) in let b = length_push groups ls in let c = has.count in omega (arith, a, b, c);
      within = λ i. elim (cases_lt (length g.starts) i) [
        | inl past ↦ let e = begin_past g ls i past in omega (arith, e)
        | inr low ↦ let e = begin_old g ls i low in let w = has.within i in omega (arith, e, w, size)
      ];
      each = λ i l at. elim (cases_eq i (length groups)) [
        | inl last ↦
            let is : Some ls ≡ Some l = sym (slice_get-push groups ls i ∙ cond-true (nat_eq i (length groups)) (Some ls) (slice_get groups i) (eq-eqb i (length groups) last)) ∙ at in
            let here = begin_new g ls i (omega (arith, last, has.count)) in
            let next = begin_past g ls (i + 1) (omega (arith, last, has.count)) in
            rw (here, next) (part_behind g.lines ls) ∙ same_Some ls l is
        | inr other ↦
            let there : slice_get groups i ≡ Some l = sym (slice_get-push groups ls i ∙ cond-false (nat_eq i (length groups)) (Some ls) (slice_get groups i) (ne_eqb i (length groups) other)) ∙ at in
            let inside = slice_get_within groups i l there in
            let here = begin_old g ls i (omega (arith, inside, has.count)) in
            let next = begin_old g ls (i + 1) (omega (arith, inside, has.count)) in
            rw (here, next) (part_kept g.lines ls (begin_of g i) (begin_of g (i + 1)) (has.within i) (has.within (i + 1))) ∙ has.each i l there
      ];
    }
