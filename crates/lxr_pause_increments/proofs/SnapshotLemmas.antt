-- What increments did for a trace that runs: what begins newly is what was promoted, and old values stand at places that are
-- unreclaimed.
use Rattle.std.proofs.Common.{◌≡◌, ◌≢◌, ℕ, refl, sym, ap, ◌∙◌, inl, inr, arith, Bool, true, false, cond, List, IsTrue, nat_eq}
use Rattle.std.specs.Prelude.{◌||◌, ◌&&◌, not, Option, None, Some, slice_get, slice_index_or}
use Rattle.std.proofs.lemmas.Bool.{and_parts, or_cases, or_left, or_right}
use Rattle.std.proofs.lemmas.Bool.Decides.{eqb_tells}
use Rattle.std.proofs.lemmas.Option.{slice_get-get_or}
use Rattle.lxr_layout.specs.declared.Name.{Name}
use Rattle.lxr_layout.specs.declared.LogEntry.{LogEntry}
use Rattle.lxr_layout.specs.declared.TheConstants.{TRACING_WORD}
use Rattle.lxr_graph.specs.Names.{has, same_name}
use Rattle.lxr_graph.specs.State.{object_at, refs_of}
use Rattle.lxr_graph.proofs.NameSets.{has-union, same_names, union_cases}
use Rattle.lxr_graph.proofs.RowLemmas.{slice_get-mapped}
use Rattle.lxr_image.specs.declared.space.Space.{Space}
use Rattle.lxr_image.specs.Tables.{Tables}
use Rattle.lxr_image.specs.Spaces.{IsSpace, Turns, tables_of}
use Rattle.lxr_image.specs.Reads.{granule_of}
use Rattle.lxr_image.specs.Image.{place_word}
use Rattle.lxr_image.proofs.SpaceLemmas.{still_space}
use Rattle.lxr_model.specs.Moments.{Field, Moment, Trace}
use Rattle.lxr_model_counting.proofs.BalanceLemmas.{has_field_permuted}
use Rattle.lxr_model_counting.proofs.DistinctLemmas.{tested}
use Rattle.lxr_model_counting.proofs.RaisingLemmas.{growth_made}
use Rattle.lxr_invariant.specs.Standing.{HasBits, entry_of}
use Rattle.lxr_invariant.specs.Lines.{tracing_word}
use Rattle.lxr_invariant.specs.Tracing.{IsOldValue}
use Rattle.lxr_invariant.proofs.NameLemmas.{in_first, in_second}
use Rattle.lxr_pause_increments.specs.Increments.{IncrementStage, IsIncrementing, RaisingLeavesTables}
use Rattle.lxr_pause_increments.specs.Raising.{RaisesGrays, RaisesMarks}
use Rattle.lxr_image.specs.Reads.{is_tracing}
use Rattle.lxr_pause_increments.specs.Traced.{OldValuesFit, with_grays, with_old_grays}
use Rattle.lxr_pause_increments.proofs.TracedLemmas.{grays_join, old_grays_from, only_old_grays, or_none}
use Rattle.lxr_pause_increments.proofs.RootLemmas.{got_field, log_order}
use Rattle.lxr_pause_increments.proofs.HeldLemmas.{member_place}
use Rattle.lxr_pause_increments.proofs.MovingLemmas.{differ_now, unreclaimed_still}
use Rattle.lxr_pause_increments.proofs.StageLemmas.{all_made}

-- ---- the tracing word

traced : (t : Tables) → t.cursors TRACING_WORD ≡ 1 → is_tracing t ≡ true
traced t e = ap (λ n. nat_eq n 1) e

untraced : (t : Tables) → t.cursors TRACING_WORD ≡ 0 → is_tracing t ≡ false
untraced t e = ap (λ n. nat_eq n 1) e

-- ---- marks

module _ (before : Tables) (s : Space) (m : Moment) (at : Name → ℕ) (st : IncrementStage) (promoted : List Name) (bits : HasBits before m at m.unreclaimed) (is : IsIncrementing s m at st)
    (leaves : RaisingLeavesTables before (tables_of s)) (same : (n : Name) → has promoted n ≡ has st.promoted n) where
  -- a promoted object is one of those that begin now
  promoted_starts : (n : Name) → IsTrue (has st.promoted n) → IsTrue ((tables_of s).starts (granule_of (st.now n)))
  promoted_starts n h = is.bits.starts.each n (has-union st.promoted m.unreclaimed n ∙ or_left (has st.promoted n) (has m.unreclaimed n) h)

  -- an unreclaimed object stands where it stood
  kept_still : (n : Name) → IsTrue (has m.unreclaimed n) → st.now n ≡ at n
  kept_still = unreclaimed_still s st.found m at st.now st.promoted is.moving (all_made s m at st is) is.follows.apart

  -- and a promoted one didn't begin before
  promoted_new : (n : Name) → IsTrue (has st.promoted n) → before.starts (granule_of (st.now n)) ≡ false
  promoted_new n h =
      let made = growth_made m.state m.unreclaimed m.made st.promoted is.growth n h in
      elim (tested (before.starts (granule_of (st.now n)))) [
        | inl q ↦
            let u = bits.starts.only (granule_of (st.now n)) q in
            elim (tested (same_name u.0 n)) [
              | inl k ↦ absurd (let old : IsTrue (has m.unreclaimed n) = ap (has m.unreclaimed) (sym (same_names u.0 n k)) ∙ u.1 in let new = is.follows.apart n made in cc)
              | inr k ↦ absurd (differ_now s st.found m at st.now st.promoted is.moving u.0 n (in_first m.unreclaimed m.made u.0 u.1) (in_second m.unreclaimed m.made n made) k (ap granule_of (kept_still u.0 u.1) ∙ u.2))
            ]
        | inr q ↦ q
      ]

  -- what begins newly is what was promoted
  new_promoted : (k : ℕ) → IsTrue ((tables_of s).starts k) → IsTrue (not (before.starts k)) → (n : Name) × IsTrue (has promoted n) × (k ≡ granule_of (st.now n))
  new_promoted k start new =
      let u = is.bits.starts.only k start in
      elim (union_cases st.promoted m.unreclaimed u.0 u.1) [
        | inl h ↦ (u.0, same u.0 ∙ h, sym u.2)
        | inr h ↦ absurd (let old : IsTrue (before.starts k) = ap before.starts (sym u.2 ∙ ap granule_of (kept_still u.0 h)) ∙ bits.starts.each u.0 h in let no : not (before.starts k) ≡ false = ap not old in cc)
      ]

  pub marks_raise : (trace : Option Trace) → before.cursors TRACING_WORD ≡ tracing_word trace → RaisesMarks trace before.marks (tables_of s).marks st.now promoted
  marks_raise None e = λ i k. (leaves.marks k ∙ (λ j. before.marks k || (untraced before e j && ((tables_of s).starts k && not (before.starts k)))) ∙ sym (or_none (before.marks k))) i
  marks_raise (Some trace) e = λ k.
      let new : Bool = (tables_of s).starts k && not (before.starts k) in
      let marked : (tables_of s).marks k ≡ (before.marks k || new) = leaves.marks k ∙ (λ j. before.marks k || (traced before e j && ((tables_of s).starts k && not (before.starts k)))) in (
        λ h. elim (or_cases (before.marks k) new (sym marked ∙ h)) [
          | inl q ↦ inl q
          | inr q ↦ let parts = and_parts ((tables_of s).starts k) (not (before.starts k)) q in inr (new_promoted k parts.0 parts.1)
        ],
        λ h. marked ∙ elim h [
          | inl q ↦ or_left (before.marks k) new q
          | inr n ↦
              let in_stage : IsTrue (has st.promoted n.0) = sym (same n.0) ∙ n.1 in
              let start : IsTrue ((tables_of s).starts k) = ap (tables_of s).starts n.2 ∙ promoted_starts n.0 in_stage in
              let clear : before.starts k ≡ false = ap before.starts n.2 ∙ promoted_new n.0 in_stage in
              or_right (before.marks k) new (λ j. start j && not (clear j))
        ],
      )

-- ---- grays

-- while old values are made gray the number of words stays
pub grayed_space : (s g : Space) → Turns s g (with_old_grays (tables_of s) s.logged.items) → IsSpace s → IsSpace g
grayed_space s g turns is = still_space s g (with_old_grays (tables_of s) s.logged.items) is turns (ap (λ t. t.size) (only_old_grays (tables_of s) s.logged.items))

pub grays_raise : (t : Tables) (es : List LogEntry) (trace : Option Trace) → t.cursors TRACING_WORD ≡ tracing_word trace → RaisesGrays trace t.grays (with_old_grays t es).grays es
grays_raise t es None e = ap (λ b. (cond b (with_grays t es) t).grays) (untraced t e)
grays_raise t es (Some trace) e = λ k. (
  λ h. old_grays_from t es k h,
  λ h. ap (λ b. (cond b (with_grays t es) t).grays k) (traced t e) ∙ grays_join t es k h,
)

-- an old value that isn't nil is the place of an unreclaimed object, which stands where it stood
old_value_stands : (s : Space) (m : Moment) (at : Name → ℕ) (st : IncrementStage) → IsIncrementing s m at st → (p : ℕ) → IsOldValue s.logged.items p → p ≢ 0 → (o : Name) × IsTrue (has m.unreclaimed o) × (p ≡ st.now o)
old_value_stands s m at st is p old some =
    let order = log_order s m at st is in
    let x = slice_get-mapped (entry_of m at) order.0 old.0 old.1 (ap (λ z. slice_get z old.0) order.1.entries ∙ old.2) in
    let w : Field = x.0 in
    let written = has_field_permuted m.written order.0 w order.1.order ∙ got_field order.0 old.0 w x.1 in
    let facts = is.follows.written w.0 w.1 written in
    held w facts.0 (slice_index_or (refs_of (object_at m.last.graph w.0)) w.1 None) (slice_get-get_or (refs_of (object_at m.last.graph w.0)) w.1 None facts.2) (sym old.3 ∙ ap (λ z. z.old.0) x.2)
  where
    held : (w : Field) → IsTrue (has m.unreclaimed w.0) → (v : Option Name) → slice_get (refs_of (object_at m.last.graph w.0)) w.1 ≡ Some v → p ≡ place_word at v → (o : Name) × IsTrue (has m.unreclaimed o) × (p ≡ st.now o)
    held w member None got e = absurd (some e)
    held w member (Some o) got e =
        let kept = is.follows.closed w.0 o member (w.1, got) in
        (o, kept, e ∙ sym (unreclaimed_still s st.found m at st.now st.promoted is.moving (all_made s m at st is) is.follows.apart o kept))

-- so it begins there
pub old_value_starts : (s : Space) (m : Moment) (at : Name → ℕ) (st : IncrementStage) → IsIncrementing s m at st → (p : ℕ) → IsOldValue s.logged.items p → p ≢ 0 → IsTrue ((tables_of s).starts (granule_of p))
old_value_starts s m at st is p old some =
    let o = old_value_stands s m at st is p old some in
    ap (λ z. (tables_of s).starts (granule_of z)) o.2 ∙ is.bits.starts.each o.0 (has-union st.promoted m.unreclaimed o.0 ∙ or_right (has st.promoted o.0) (has m.unreclaimed o.0) o.1)

pub old_values_fit : (s : Space) (m : Moment) (at : Name → ℕ) (st : IncrementStage) → IsIncrementing s m at st → OldValuesFit s.limits.blocks s.logged.items
old_values_fit s m at st is p old = elim (eqb_tells p 0) [
  | inl q ↦ let e = q.1 in omega arith
  | inr q ↦
      let o = old_value_stands s m at st is p old q.1 in
      let place = (member_place s m at st o.0 (st.now o.0) is (in_first m.unreclaimed m.made o.0 o.1) (inr refl)).2 in
      let e = o.2 in
      omega (arith, place, e)
]
