-- The mark and gray bits of a trace that runs: newly begun objects are marked, step after step, and old values are gray, entry after
-- entry.
use Rattle.std.proofs.Common.{◌≡◌, ◌≢◌, ℕ, zero, suc, ◌+◌, ◌*◌, ◌≤◌, refl, sym, ap, subst, ◌∙◌, inl, inr, ◌⊎◌, Bool, true, false, cond, List, [], ◌∷◌, IsTrue, drop, add-one}
use Rattle.std.specs.Prelude.{◌||◌, ◌&&◌, not, Some, slice_get}
use Rattle.std.proofs.Math.Seq.{drop-cons}
use Rattle.std.proofs.lemmas.Bool.Decides.{eqb_tells}
use Rattle.std.proofs.lemmas.Option.{slice_get_within, get_or_from_slice_get}
use Rattle.lxr_layout.specs.declared.TheConstants.{GRANULES_IN_BLOCK}
use Rattle.lxr_layout.specs.declared.LogEntry.{LogEntry}
use Rattle.lxr_image.specs.declared.space.Space.{Space}
use Rattle.lxr_image.specs.Tables.{Tables, changed}
use Rattle.lxr_image.specs.Spaces.{IsSpace, Turns, tables_of}
use Rattle.lxr_image.specs.Reads.{granule_of}
use Rattle.lxr_image.proofs.SpaceLemmas.{still_space}
use Rattle.lxr_invariant.specs.Tracing.{IsOldValue}
use Rattle.lxr_invariant.proofs.EntryLemmas.{changed_cases, changed_here}
use Rattle.lxr_image.specs.Reads.{is_tracing}
use Rattle.lxr_pause_increments.specs.Traced.{OldValuesFit, marks_with, with_gray, with_grays, with_old_grays}

-- ---- marks

pub or_none : (b : Bool) → b ≡ (b || false)
or_none true = refl
or_none false = refl

or_true : (b : Bool) → (b || true) ≡ true
or_true true = refl
or_true false = refl

-- nothing begins newly
none_new : (mark tracing start : Bool) → mark ≡ (mark || (tracing && (start && not start)))
none_new true tracing start = refl
none_new false false start = refl
none_new false true true = refl
none_new false true false = refl

pub marks_same : (t : Tables) (k : ℕ) → t.marks k ≡ marks_with t t.starts k
marks_same t k = none_new (t.marks k) (is_tracing t) (t.starts k)

-- what began newly by a first step or by a second began newly by both
both_new : (mark tracing a b c : Bool) → (IsTrue a → IsTrue b) → (IsTrue b → IsTrue c) → ((mark || (tracing && (b && not a))) || (tracing && (c && not b))) ≡ (mark || (tracing && (c && not a)))
both_new true tracing a b c more most = refl
both_new false false a b c more most = refl
both_new false true true true c more most = let e = most refl in cc
both_new false true true false c more most = absurd (let e = more refl in cc)
both_new false true false true c more most = let e = most refl in cc
both_new false true false false true more most = refl
both_new false true false false false more most = refl

pub marks_both : (t u v : Tables) → is_tracing u ≡ is_tracing t → ((k : ℕ) → IsTrue (t.starts k) → IsTrue (u.starts k)) → ((k : ℕ) → IsTrue (u.starts k) → IsTrue (v.starts k))
    → ((k : ℕ) → u.marks k ≡ marks_with t u.starts k) → ((k : ℕ) → v.marks k ≡ marks_with u v.starts k) → (k : ℕ) → v.marks k ≡ marks_with t v.starts k
marks_both t u v tracing more most first next k =
    next k ∙ (λ i. first k i || (tracing i && (v.starts k && not (u.starts k)))) ∙ both_new (t.marks k) (is_tracing t) (t.starts k) (u.starts k) (v.starts k) (more k) (most k)

-- an object that hasn't begun at a granule begins there and is marked
pub marks_begun : (t : Tables) (g : ℕ) → t.starts g ≡ false → (k : ℕ) → cond (is_tracing t) (changed t.marks g true) t.marks k ≡ marks_with t (changed t.starts g true) k
marks_begun t g clear k = elim (changed_cases t.starts g true k) [
  | inl q ↦ here (is_tracing t) q.0 q.1
  | inr q ↦ other (is_tracing t) q.0 q.1
]
  where
    here : (tracing : Bool) → k ≡ g → changed t.starts g true k ≡ true → cond tracing (changed t.marks g true) t.marks k ≡ (t.marks k || (tracing && (changed t.starts g true k && not (t.starts k))))
    here true e start =
        let new : (t.marks k || (changed t.starts g true k && not (t.starts k))) ≡ (t.marks k || true) = λ i. t.marks k || (start i && not ((ap t.starts e ∙ clear) i)) in
        changed_here t.marks g true k e ∙ sym (new ∙ or_true (t.marks k))
    here false e start = or_none (t.marks k)

    other : (tracing : Bool) → k ≢ g → changed t.starts g true k ≡ t.starts k → cond tracing (changed t.marks g true) t.marks k ≡ (t.marks k || (tracing && (changed t.starts g true k && not (t.starts k))))
    other true ne start = elim (changed_cases t.marks g true k) [
      | inl q ↦ absurd (ne q.0)
      | inr q ↦ q.1 ∙ none_new (t.marks k) true (t.starts k) ∙ (λ i. t.marks k || (sym start i && not (t.starts k)))
    ]
    other false ne start = or_none (t.marks k)

-- marks stay at objects that begin
pub mark_starts : (t : Tables) (g : ℕ) → ((k : ℕ) → IsTrue (t.marks k) → IsTrue (t.starts k)) → (k : ℕ) → IsTrue (cond (is_tracing t) (changed t.marks g true) t.marks k) → IsTrue (changed t.starts g true k)
mark_starts t g only k h = elim (changed_cases t.starts g true k) [
  | inl q ↦ q.1
  | inr q ↦ q.1 ∙ only k (marked (is_tracing t) q.0 h)
]
  where
    marked : (tracing : Bool) → k ≢ g → IsTrue (cond tracing (changed t.marks g true) t.marks k) → IsTrue (t.marks k)
    marked true ne h = elim (changed_cases t.marks g true k) [
      | inl q ↦ absurd (ne q.0)
      | inr q ↦ sym q.1 ∙ h
    ]
    marked false ne h = h

-- ---- grays

-- a granule is that of a place, which isn't nil and is an old value
abbrev pub IsOldGranule : List LogEntry → ℕ → Type 0
IsOldGranule entries k = (p : ℕ) × IsOldValue entries p × (p ≢ 0) × (k ≡ granule_of p)

later_old : (e : LogEntry) (es : List LogEntry) (k : ℕ) → IsOldGranule es k → IsOldGranule (e ∷ es) k
later_old e es k old = (old.0, (suc old.1.0, old.1.1, old.1.2, old.1.3), old.2, old.3)

gray_cases : (t : Tables) (p k : ℕ) → IsTrue ((with_gray t p).grays k) → IsTrue (t.grays k) ⊎ ((p ≢ 0) × (k ≡ granule_of p))
gray_cases t p k h = elim (eqb_tells p 0) [
  | inl q ↦ inl (sym (ap (λ b. cond b t.grays (changed t.grays (granule_of p) true) k) q.0) ∙ h)
  | inr q ↦ elim (changed_cases t.grays (granule_of p) true k) [
    | inl r ↦ inr (q.1, r.0)
    | inr r ↦ inl (sym r.1 ∙ sym (ap (λ b. cond b t.grays (changed t.grays (granule_of p) true) k) q.0) ∙ h)
  ]
]

gray_stays : (t : Tables) (p k : ℕ) → IsTrue (t.grays k) → IsTrue ((with_gray t p).grays k)
gray_stays t p k h = elim (eqb_tells p 0) [
  | inl q ↦ ap (λ b. cond b t.grays (changed t.grays (granule_of p) true) k) q.0 ∙ h
  | inr q ↦ ap (λ b. cond b t.grays (changed t.grays (granule_of p) true) k) q.0 ∙ elim (changed_cases t.grays (granule_of p) true k) [ inl r ↦ r.1 | inr r ↦ r.1 ∙ h ]
]

gray_here : (t : Tables) (p : ℕ) → p ≢ 0 → IsTrue ((with_gray t p).grays (granule_of p))
gray_here t p some = elim (eqb_tells p 0) [
  | inl q ↦ absurd (some q.1)
  | inr q ↦ ap (λ b. cond b t.grays (changed t.grays (granule_of p) true) (granule_of p)) q.0 ∙ changed_here t.grays (granule_of p) true (granule_of p) refl
]

-- exactly these granules join those that are gray
pub grays_from : (t : Tables) (es : List LogEntry) (k : ℕ) → IsTrue ((with_grays t es).grays k) → IsTrue (t.grays k) ⊎ IsOldGranule es k
grays_from t [] k h = inl h
grays_from t (e ∷ es) k h = elim (grays_from (with_gray t e.old.0) es k h) [
  | inl g ↦ elim (gray_cases t e.old.0 k g) [
    | inl q ↦ inl q
    | inr q ↦ inr (e.old.0, (0, e, refl, refl), q.0, q.1)
  ]
  | inr old ↦ inr (later_old e es k old)
]

grays_stay : (t : Tables) (es : List LogEntry) (k : ℕ) → IsTrue (t.grays k) → IsTrue ((with_grays t es).grays k)
grays_stay t [] k h = h
grays_stay t (e ∷ es) k h = grays_stay (with_gray t e.old.0) es k (gray_stays t e.old.0 k h)

grays_old : (t : Tables) (es : List LogEntry) (j p : ℕ) (entry : LogEntry) → slice_get es j ≡ Some entry → entry.old.0 ≡ p → p ≢ 0 → IsTrue ((with_grays t es).grays (granule_of p))
grays_old t [] j p entry got is some = absurd (cc)
grays_old t (e ∷ es) zero p entry got is some =
    let same : e ≡ entry = cc in
    let old : e.old.0 ≡ p = ap (λ x. x.old.0) same ∙ is in
    grays_stay (with_gray t e.old.0) es (granule_of p) (ap (λ x. (with_gray t x).grays (granule_of p)) old ∙ gray_here t p some)
grays_old t (e ∷ es) (suc j) p entry got is some = grays_old (with_gray t e.old.0) es j p entry got is some

pub grays_join : (t : Tables) (es : List LogEntry) (k : ℕ) → IsTrue (t.grays k) ⊎ IsOldGranule es k → IsTrue ((with_grays t es).grays k)
grays_join t es k (inl h) = grays_stay t es k h
grays_join t es k (inr old) = ap (with_grays t es).grays old.3 ∙ grays_old t es old.1.0 old.0 old.1.1 old.1.2 old.1.3 old.2

-- and no other table changes
only_grays : (t : Tables) (es : List LogEntry) → with_grays t es ≡ record t { grays = (with_grays t es).grays }
only_grays t [] = refl
only_grays t (e ∷ es) = let rest = only_grays (with_gray t e.old.0) es in rest

pub only_old_grays : (t : Tables) (es : List LogEntry) → with_old_grays t es ≡ record t { grays = (with_old_grays t es).grays }
only_old_grays t es = elim (is_tracing t) as (λ b. cond b (with_grays t es) t ≡ record t { grays = (cond b (with_grays t es) t).grays }) [
  | true ↦ only_grays t es
  | false ↦ refl
]

pub old_grays_from : (t : Tables) (es : List LogEntry) (k : ℕ) → IsTrue ((with_old_grays t es).grays k) → IsTrue (t.grays k) ⊎ IsOldGranule es k
old_grays_from t es k = elim (is_tracing t) as (λ b. IsTrue ((cond b (with_grays t es) t).grays k) → IsTrue (t.grays k) ⊎ IsOldGranule es k) [
  | true ↦ grays_from t es k
  | false ↦ λ h. inl h
]

-- ---- entries

-- the rest of a list from an index begins with the item there
rest_from : {X : Type 0} (xs : List X) (k : ℕ) (x : X) → slice_get xs k ≡ Some x → drop k xs ≡ x ∷ drop (k + 1) xs
rest_from xs k x e =
    drop-cons xs k x (slice_get_within xs k x e)
    ∙ ap (λ y. y ∷ drop (suc k) xs) (get_or_from_slice_get xs k x x e)
    ∙ ap (λ n. x ∷ drop n xs) (sym (add-one k))

-- the old values of the entries before one are gray
pub record GrayedSoFar (a b : Space) (k : ℕ) : Type 0 where
  pub space : IsSpace b
  pub rest : b ≡ record a { words = b.words }
  pub left : with_grays (tables_of b) (drop k a.logged.items) ≡ with_grays (tables_of a) a.logged.items

pub gray_fits : (a b : Space) (k : ℕ) (e : LogEntry) → GrayedSoFar a b k → OldValuesFit a.limits.blocks a.logged.items → slice_get b.logged.items k ≡ Some e → e.old.0 ≤ GRANULES_IN_BLOCK * b.limits.blocks
gray_fits a b k e so_far fit there =
    let at_k : slice_get a.logged.items k ≡ Some e = sym (ap (λ s. slice_get s.logged.items k) so_far.rest) ∙ there in
    subst (λ s. e.old.0 ≤ GRANULES_IN_BLOCK * s.limits.blocks) (sym so_far.rest) (fit e.old.0 (k, e, at_k, refl))

pub grays_next : (a b c : Space) (k : ℕ) (e : LogEntry) → GrayedSoFar a b k → slice_get b.logged.items k ≡ Some e → Turns b c (with_gray (tables_of b) e.old.0) → GrayedSoFar a c (k + 1)
grays_next a b c k e so_far there call =
    let at_k : slice_get a.logged.items k ≡ Some e = sym (ap (λ s. slice_get s.logged.items k) so_far.rest) ∙ there in
    record {
      space = still_space b c (with_gray (tables_of b) e.old.0) so_far.space call refl;
      rest = call.rest ∙ ap {A = Space} (λ s. record s { words = c.words }) so_far.rest;
      left = ap (λ t. with_grays t (drop (k + 1) a.logged.items)) call.tables ∙ sym (ap (with_grays (tables_of b)) (rest_from a.logged.items k e at_k)) ∙ so_far.left;
    }
