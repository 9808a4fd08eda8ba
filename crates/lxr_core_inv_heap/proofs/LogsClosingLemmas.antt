-- Where all mutators rest, the references that are cleared are those that were stored to.
use Rattle.std.proofs.Common.{◌≡◌, ℕ, refl, sym, ap, subst, ◌∙◌, inl, inr, ◌⊎◌, arith, Bool, true, false, List, [], ◌∷◌, ◌++◌, length, map}
use Rattle.std.specs.Prelude.{IsTrue, ◌↔◌}
use Rattle.std.specs.List.Sorted.{IsPermutation}
use Rattle.std.proofs.lemmas.Bool.{false_from_ne_true}
use Rattle.std.proofs.lemmas.List.{length-map}
use Rattle.std.proofs.lemmas.List.Sorted.{IsPermutation-cons, IsPermutation-map, IsPermutation-middle, IsPermutation-refl, IsPermutation-sym, IsPermutation-trans, length_permutation}
use Rattle.lxr_layout.specs.declared.Name.{Name}
use Rattle.lxr_graph.proofs.NameSets.{not_both}
use Rattle.lxr_image.specs.Tables.{Tables}
use Rattle.lxr_model.specs.Moments.{Field, Moment}
use Rattle.lxr_model_counting.specs.Distinct.{AreDistinctFields, has_field}
use Rattle.lxr_model_counting.proofs.DistinctLemmas.{field_split, first_field, later_field}
use Rattle.lxr_invariant.specs.Standing.{AreLogged, HasBits, entry_of}
use Rattle.lxr_core_invariant.specs.ThreadStates.{Stage, Stores, Works}
use Rattle.lxr_core_invariant.specs.EpochStates.{moment_of}
use Rattle.lxr_core_invariant.specs.Logged.{logs_of, with_cleared}
use Rattle.lxr_core_invariant.specs.Epoch.{IsResting}
use Rattle.lxr_core_invariant.specs.Laws.{ClosingLogs}
use Rattle.lxr_core_inv_heap.proofs.LogsThreadStateLemmas.{log_is_part}

-- ---- lists of fields that have the same ones

-- a list that has a field has it between two parts
parted : (ws : List Field) (w : Field) → IsTrue (has_field ws w) → (xs : List Field) × (ys : List Field) × (ws ≡ xs ++ w ∷ ys)
parted [] w h = absurd (let k : false ≡ true = h in cc)
parted (v ∷ ws) w h = elim (field_split v ws w h) [
  | inl e ↦ ([], ws, ap (λ z. z ∷ ws) (sym e))
  | inr k ↦ let p = parted ws w k in (v ∷ p.0, p.1, ap (λ z. v ∷ z) p.2)
]

-- what a list has beside one field
has_beside : (xs ys : List Field) (w v : Field) → IsTrue (has_field (xs ++ w ∷ ys) v) → (v ≡ w) ⊎ IsTrue (has_field (xs ++ ys) v)
has_beside [] ys w v h = field_split w ys v h
has_beside (x ∷ xs) ys w v h = elim (field_split x (xs ++ w ∷ ys) v h) [
  | inl e ↦ inr (subst (λ z. IsTrue (has_field (x ∷ (xs ++ ys)) z)) (sym e) (first_field x (xs ++ ys)))
  | inr k ↦ elim (has_beside xs ys w v k) [ inl e ↦ inl e | inr q ↦ inr (later_field x (xs ++ ys) v q) ]
]

-- what two parts have, they have around a field
has_around : (xs ys : List Field) (w v : Field) → IsTrue (has_field (xs ++ ys) v) → IsTrue (has_field (xs ++ w ∷ ys) v)
has_around [] ys w v h = later_field w ys v h
has_around (x ∷ xs) ys w v h = elim (field_split x (xs ++ ys) v h) [
  | inl e ↦ subst (λ z. IsTrue (has_field (x ∷ (xs ++ w ∷ ys)) z)) (sym e) (first_field x (xs ++ w ∷ ys))
  | inr k ↦ later_field x (xs ++ w ∷ ys) v (has_around xs ys w v k)
]

-- without a field, a list has none twice, and not that field
distinct_beside : (xs ys : List Field) (w : Field) → AreDistinctFields (xs ++ w ∷ ys) → AreDistinctFields (xs ++ ys) × (has_field (xs ++ ys) w ≡ false)
distinct_beside [] ys w d = (d.1, d.0)
distinct_beside (x ∷ xs) ys w d =
    let rest = distinct_beside xs ys w d.1 in
    let front : has_field (xs ++ ys) x ≡ false = false_from_ne_true (has_field (xs ++ ys) x) (λ h. not_both (has_field (xs ++ w ∷ ys) x) (has_around xs ys w x h) d.0) in (
      (front, rest.0),
      false_from_ne_true (has_field (x ∷ (xs ++ ys)) w) (λ h. elim (field_split x (xs ++ ys) w h) [
        | inl e ↦ not_both (has_field (xs ++ w ∷ ys) x) (subst (λ z. IsTrue (has_field (xs ++ w ∷ ys) z)) e (has_own xs ys w)) d.0
        | inr k ↦ not_both (has_field (xs ++ ys) w) k rest.1
      ]),
    )
  where
    -- a list has what stands in its middle
    has_own : (xs ys : List Field) (w : Field) → IsTrue (has_field (xs ++ w ∷ ys) w)
    has_own [] ys w = first_field w ys
    has_own (x ∷ xs) ys w = later_field x (xs ++ w ∷ ys) w (has_own xs ys w)

-- two lists with the same fields, each once, are one in another order
pub same_fields_permute : (vs ws : List Field) → AreDistinctFields vs → AreDistinctFields ws → ((w : Field) → IsTrue (has_field vs w) ↔ IsTrue (has_field ws w)) → IsPermutation vs ws
same_fields_permute [] [] d e same = IsPermutation-refl []
same_fields_permute [] (w ∷ ws) d e same = absurd (let k : false ≡ true = (same w).1 (first_field w ws) in cc)
same_fields_permute (v ∷ vs) ws d e same =
    let p = parted ws v ((same v).0 (first_field v vs)) in
    let xs : List Field = p.0 in
    let ys : List Field = p.1 in
    let apart = distinct_beside xs ys v (subst AreDistinctFields p.2 e) in
    let rest : (w : Field) → IsTrue (has_field vs w) ↔ IsTrue (has_field (xs ++ ys) w) = λ w. (
      λ h. elim (has_beside xs ys v w (subst (λ z. IsTrue (has_field z w)) p.2 ((same w).0 (later_field v vs w h)))) [
        | inl q ↦ not_both (has_field vs v) (subst (λ z. IsTrue (has_field vs z)) q h) d.0
        | inr q ↦ q
      ],
      λ h. elim (field_split v vs w ((same w).1 (subst (λ z. IsTrue (has_field z w)) (sym p.2) (has_around xs ys v w h)))) [
        | inl q ↦ not_both (has_field (xs ++ ys) v) (subst (λ z. IsTrue (has_field (xs ++ ys) z)) q h) apart.1
        | inr q ↦ q
      ],
    ) in
    let behind = IsPermutation-cons v vs (xs ++ ys) (same_fields_permute vs (xs ++ ys) d.1 apart.0 rest) in
    let middle = IsPermutation-sym (xs ++ v ∷ ys) (v ∷ (xs ++ ys)) (IsPermutation-middle xs v ys) in
    subst (IsPermutation (v ∷ vs)) (sym p.2) (IsPermutation-trans (v ∷ vs) (v ∷ (xs ++ ys)) (xs ++ v ∷ ys) behind middle)

-- ---- what is left of the bits

-- two tests that hold at once are one
same_test : (a b : Bool) → (IsTrue a ↔ IsTrue b) → a ≡ b
same_test true b same = sym (same.0 refl)
same_test false true same = same.1 refl
same_test false false same = refl

-- bits for one list are those for another with the same fields
bits_of_same : (t : Tables) (m : Moment) (at : Name → ℕ) (vs ws : List Field) (us : List Name) → ((w : Field) → has_field vs w ≡ has_field ws w) → HasBits t (with_cleared m vs) at us → HasBits t (with_cleared m ws) at us
bits_of_same t m at vs ws us same is = record {
  starts = record { each = is.starts.each; only = is.starts.only };
  marks = is.marks;
  grays = is.grays;
  dones = is.dones;
  unlogged = λ w. (
    λ h. let u = (is.unlogged w).0 h in (u.0, u.1, record { member = u.2.member; index = u.2.index; word = u.2.word; unwritten = sym (same (u.0, u.1)) ∙ u.2.unwritten }),
    λ u. (is.unlogged w).1 (u.0, u.1, record { member = u.2.member; index = u.2.index; word = u.2.word; unwritten = same (u.0, u.1) ∙ u.2.unwritten }),
  );
}

-- ---- the law

-- who rests is not about to store
rests_no_store : (stage : Stage) (place index : ℕ) → IsResting stage → stage ≡ Works (Stores place index) → ⊥
rests_no_store stage place index rests e = subst IsResting e rests

-- what is cleared was stored to, since nobody is about to store
pub closing_logs : ClosingLogs
closing_logs b s is rest =
    let m : Moment = moment_of b s in
    let logged = is.logged in
    let same : (w : Field) → IsTrue (has_field s.cleared w) ↔ IsTrue (has_field m.written w) = λ w. (
      λ h. elim (logged.cleared w.0 w.1 h) [
        | inl k ↦ k
        | inr k ↦ absurd (rests_no_store k.thread_state.stage (s.at w.0) w.1 (rest k.number k.thread_state k.shows) k.stage)
      ],
      λ h. logged.written w.0 w.1 h,
    ) in
    let permuted = IsPermutation-sym s.cleared m.written (same_fields_permute s.cleared m.written logged.once is.lives.written_once same) in
    let entries = IsPermutation-map (entry_of m s.at) m.written s.cleared permuted in
    let logs : AreLogged m s.at (logs_of s.thread_states) = IsPermutation-trans (map (entry_of m s.at) m.written) (map (entry_of m s.at) s.cleared) (logs_of s.thread_states) entries logged.logs in
    let long : length m.written ≡ length (logs_of s.thread_states) =
    sym (length-map m.written (entry_of m s.at)) ∙ sym (length_permutation (map (entry_of m s.at) m.written) (logs_of s.thread_states) logs) in
    record {
      bits = bits_of_same s.tables m s.at s.cleared m.written m.unreclaimed (λ w. same_test (has_field s.cleared w) (has_field m.written w) (same w)) logged.bits;
      logs = logs;
      as_many = long;
      few = λ i v there. let part = log_is_part s.thread_states i v there in omega (arith, part, long);
    }
