-- The bits of a new object that is promoted.
use Rattle.std.proofs.Common.{◌≡◌, ℕ, ◌+◌, ◌-◌, sym, ap, ◌∙◌, inl, inr, arith, true, false, List, length}
use Rattle.std.specs.Prelude.{◌||◌, Some, IsTrue}
use Rattle.std.proofs.lemmas.Bool.{or_cases, or_left, or_right}
use Rattle.lxr_layout.specs.declared.Name.{Name}
use Rattle.lxr_layout.specs.Places.{first_word}
use Rattle.lxr_graph.specs.Names.{has, same_name}
use Rattle.lxr_graph.specs.State.{Object, object_at, refs_of, shape_of}
use Rattle.lxr_graph.proofs.NameSets.{same_itself, same_names}
use Rattle.lxr_image.specs.Tables.{Tables, changed}
use Rattle.lxr_image.specs.Reads.{granule_of}
use Rattle.lxr_model.specs.Moments.{Moment}
use Rattle.lxr_model_counting.specs.Distinct.{has_field}
use Rattle.lxr_invariant.specs.Standing.{HasBits, IsUnwritten}
use Rattle.lxr_invariant.proofs.EntryLemmas.{changed_cases, changed_here}
use Rattle.lxr_pause_promote.specs.Promotion.{with_promotion}
use Rattle.lxr_pause_increments.specs.Promotion.{with_raised}
use Rattle.lxr_pause_increments.proofs.RangeLemmas.{set_cases}
use Rattle.lxr_pause_increments.proofs.TracedLemmas.{mark_starts}

-- counts are no bits
pub bits_raised : (t : Tables) (m : Moment) (at : Name → ℕ) (us : List Name) (k : ℕ) → HasBits t m at us → HasBits (with_raised t k) m at us
bits_raised t m at us k is = record {
  starts = record { each = is.starts.each; only = is.starts.only };
  marks = is.marks;
  grays = is.grays;
  dones = is.dones;
  unlogged = is.unlogged;
}

-- gray bits join at objects that begin
pub bits_grayed : (t u : Tables) (m : Moment) (at : Name → ℕ) (us : List Name) → u.starts ≡ t.starts → u.marks ≡ t.marks → u.dones ≡ t.dones → u.unlogged ≡ t.unlogged
    → ((k : ℕ) → IsTrue (u.grays k) → IsTrue (t.starts k)) → HasBits t m at us → HasBits u m at us
bits_grayed t u m at us starts marks dones unlogged grays is = record {
  starts = record {
    each = λ n h. ap (λ f. f (granule_of (at n))) starts ∙ is.starts.each n h;
    only = λ k h. is.starts.only k (sym (ap (λ f. f k) starts) ∙ h);
  };
  marks = λ k h. ap (λ f. f k) starts ∙ is.marks k (sym (ap (λ f. f k) marks) ∙ h);
  grays = λ k h. ap (λ f. f k) starts ∙ grays k h;
  dones = λ k h. ap (λ f. f k) starts ∙ is.dones k (sym (ap (λ f. f k) dones) ∙ h);
  unlogged = λ w. (λ h. (is.unlogged w).0 (sym (ap (λ f. f w) unlogged) ∙ h), λ h. ap (λ f. f w) unlogged ∙ (is.unlogged w).1 h);
}

-- a field of one of these objects is a field of one of those
unwritten_in : (m : Moment) (at : Name → ℕ) (us vs : List Name) (w : ℕ) → ((n : Name) → IsTrue (has us n) → IsTrue (has vs n)) → IsUnwritten m at us w → IsUnwritten m at vs w
unwritten_in m at us vs w more is = let x = is.2 in (is.0, is.1, record { member = more is.0 x.member; index = x.index; unwritten = x.unwritten; word = x.word })

-- a new object is promoted, of whose references none was stored to
pub bits_promoted : (t : Tables) (m : Moment) (at : Name → ℕ) (us vs : List Name) (o : Name) (b : Object) → object_at m.state.graph o ≡ Some b → ((i : ℕ) → has_field m.written (o, i) ≡ false)
    → ((n : Name) → has vs n ≡ (same_name n o || has us n)) → HasBits t m at us → HasBits (with_promotion t (at o) (shape_of b)) m at vs
bits_promoted t m at us vs o b has_o unwritten joined is =
    let gr : ℕ = granule_of (at o) in
    let first : ℕ = first_word (at o) + 1 in
    let end : ℕ = first_word (at o) + 1 + length b.refs in
    let stays : (k : ℕ) → IsTrue (t.starts k) → IsTrue (changed t.starts gr true k) = λ k h. elim (changed_cases t.starts gr true k) [ inl q ↦ q.1 | inr q ↦ q.1 ∙ h ] in
    let here : IsTrue (has vs o) = joined o ∙ or_left (same_name o o) (has us o) (same_itself o) in
    let more : (n : Name) → IsTrue (has us n) → IsTrue (has vs n) = λ n h. joined n ∙ or_right (same_name n o) (has us n) h in
    let size : length (refs_of (object_at m.state.graph o)) ≡ length b.refs = ap (λ z. length (refs_of z)) has_o in
    record {
      starts = record {
        each = λ n in_n. elim (or_cases (same_name n o) (has us n) (sym (joined n) ∙ in_n)) [
          | inl e ↦ changed_here t.starts gr true (granule_of (at n)) (ap (λ z. granule_of (at z)) (same_names n o e))
          | inr e ↦ stays (granule_of (at n)) (is.starts.each n e)
        ];
        only = λ k start. elim (changed_cases t.starts gr true k) [
          | inl q ↦ (o, here, sym q.0)
          | inr q ↦ let u = is.starts.only k (sym q.1 ∙ start) in (u.0, more u.0 u.1, u.2)
        ];
      };
      marks = mark_starts t gr is.marks;
      grays = λ k h. stays k (is.grays k h);
      dones = λ k h. stays k (is.dones k h);
      unlogged = λ w. (
        λ set. elim (set_cases t.unlogged first end w) [
          | inl q ↦
              let from = q.0 in
              let below = q.1 in
              (o, w - first, record { member = here; index = omega (arith, size, from, below); unwritten = unwritten (w - first); word = omega (arith, from) })
          | inr q ↦ unwritten_in m at us vs w more ((is.unlogged w).0 (sym q.1 ∙ set))
        ],
        λ un. elim (set_cases t.unlogged first end w) [
          | inl q ↦ q.2
          | inr q ↦ elim (or_cases (same_name un.0 o) (has us un.0) (sym (joined un.0) ∙ un.2.member)) [
            | inl e ↦
                let there : at un.0 ≡ at o = ap at (same_names un.0 o e) in
                let long : length (refs_of (object_at m.state.graph un.0)) ≡ length b.refs = ap (λ z. length (refs_of (object_at m.state.graph z))) (same_names un.0 o e) ∙ size in
                let word = un.2.word in
                let index = un.2.index in
                absurd (q.0 (omega (arith, there, word)) (omega (arith, there, word, index, long)))
            | inr e ↦ q.1 ∙ (is.unlogged w).1 (un.0, un.1, record { member = e; index = un.2.index; unwritten = un.2.unwritten; word = un.2.word })
          ]
        ],
      );
    }
