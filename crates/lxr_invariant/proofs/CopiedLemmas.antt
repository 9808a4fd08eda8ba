-- What is copied, where copies lie, and what stays for want of lines is so whatever else changes of the tables, and in whatever order promoted
-- names stand. And a line that is free once objects were reclaimed was free before, unless one of them had a granule of it.
use Rattle.std.proofs.Common.{◌≡◌, ◌≢◌, ℕ, ◌+◌, ◌*◌, ◌/◌, ◌%◌, ◌^◌, ◌≤◌, refl, sym, ap, subst, ◌∙◌, inl, inr, ◌⊎◌, arith, Bool, List, IsTrue}
use Rattle.std.specs.Prelude.{Some}
use Rattle.lxr_layout.specs.declared.Name.{Name}
use Rattle.lxr_layout.specs.declared.TheConstants.{GRANULES_IN_LINE, LINES_IN_BLOCK, STUCK}
use Rattle.lxr_layout.specs.Places.{first_word}
use Rattle.lxr_graph.specs.Names.{has}
use Rattle.lxr_graph.specs.State.{Graph, Object, object_at}
use Rattle.lxr_image.specs.declared.space.Space.{Space}
use Rattle.lxr_image.specs.Tables.{Tables}
use Rattle.lxr_image.specs.Image.{granules_of}
use Rattle.lxr_blocks.specs.Lines.{is_free}
use Rattle.lxr_blocks.specs.States.{state_of}
use Rattle.lxr_blocks.proofs.KeptLemmas.{free_line_is_told}
use Rattle.lxr_model.specs.Moments.{Moment}
use Rattle.lxr_invariant.specs.AbstractState.{AbstractState, leaving}
use Rattle.lxr_invariant.specs.Copied.{CopiesLieApart, CopiesPromoted, HasCopy, StayForWantOfLines}
use Rattle.lxr_invariant.specs.Counting.{count_at}
use Rattle.lxr_invariant.specs.Lines.{Covers, HasMarks}

-- ---- what is copied

copy_named : (g : Graph) (at at' : Name → ℕ) (ns ms : List Name) (line : ℕ) → ((n : Name) → has ms n ≡ has ns n) → HasCopy g at at' ms line → HasCopy g at at' ns line
copy_named g at at' ns ms line same c = record {
  name = c.name;
  promoted_is = sym (same c.name) ∙ c.promoted_is;
  moved = c.moved;
  object = c.object;
  granule = c.granule;
  covers = c.covers;
  line_is = c.line_is;
}

-- tables with the same heap words, reuse counters and lines that are out have the same copies, whatever names are unreclaimed
pub copies_still : (t u v w : Tables) (m : Moment) (us : List Name) (at at' : Name → ℕ) (ns ms : List Name) → v.heap ≡ t.heap → v.reuse ≡ t.reuse → v.outs ≡ t.outs → w.heap ≡ u.heap → w.reuse ≡ u.reuse
    → ((n : Name) → has ms n ≡ has ns n) → CopiesPromoted t u (leaving m us) at at' ns → CopiesPromoted v w m at at' ms
copies_still t u v w m us at at' ns ms heap reuse outs heap_then reuse_then same is = record {
  others = λ n none. is.others n (sym (same n) ∙ none);
  left_behind = λ n p moved. ap (λ f. f (first_word (at n))) heap_then ∙ is.left_behind n (sym (same n) ∙ p) moved;
  heap = λ k old new written. ap (λ f. f k) heap_then ∙ is.heap k (λ n p. old n (same n ∙ p)) (λ n p. new n (same n ∙ p)) written ∙ sym (ap (λ f. f k) heap);
  counted = λ line copy free.
      ap (λ f. f line) reuse_then
      ∙ is.counted line (copy_named m.state.graph at at' ns ms line same copy) (sym (ap (λ f. f line) outs) ∙ free)
      ∙ sym (ap (λ f. (f line + 1) % 2 ^ 32) reuse);
  uncounted = λ line none.
      ap (λ f. f line) reuse_then
      ∙ is.uncounted line (λ c. none (copy_named m.state.graph at at' ms ns line (λ n. sym (same n)) c.0, ap (λ f. f line) outs ∙ c.1))
      ∙ sym (ap (λ f. f line) reuse);
}

-- copies lie apart in whatever order promoted names stand
pub apart_still : (s : Space) (g : AbstractState) (at' : Name → ℕ) (ns ms : List Name) → ((n : Name) → has ms n ≡ has ns n) → CopiesLieApart s g at' ns → CopiesLieApart s g at' ms
apart_still s g at' ns ms same is = λ n o k promoted moved covers. is n o k (sym (same n) ∙ promoted) moved covers

-- ---- what stays for want of lines

-- it does so too where each line of such a run was free, and blocks had the same states before
pub stay_still : (t u v w : Tables) (blocks : ℕ) (m : Moment) (at at' : Name → ℕ) (ns ms : List Name) (excepted others : ℕ → Type 0) → ((n : Name) → has ms n ≡ has ns n) → v.states ≡ t.states
    → ((line : ℕ) → ¬ others line → IsTrue (is_free (record w { outs = v.outs }) line) → IsTrue (is_free (record u { outs = t.outs }) line)) → ((line : ℕ) → excepted line → others line)
    → StayForWantOfLines t u blocks m at at' ns excepted → StayForWantOfLines v w blocks m at at' ms others
stay_still t u v w blocks m at at' ns ms excepted others same states lines wider is n o q promoted stays object run free =
    is n o q (sym (same n) ∙ promoted) stays object
    (record {
      run = record {
        block = run.run.block;
        within = run.run.within;
        free = λ i low high. lines (LINES_IN_BLOCK * q.block + i) (free (LINES_IN_BLOCK * q.block + i) (omega (arith, low)) (omega (arith, high))) (run.run.free i low high);
      };
      outside = λ e. run.outside (ap (λ f. state_of (f q.block)) states ∙ e);
    })
    (λ line low high b. free line low high (wider line b))

-- ---- lines that become free

-- a line is as free in tables with the same counts and lines that are out
pub free_alike : (t u : Tables) (line : ℕ) → u.outs ≡ t.outs → u.counts ≡ t.counts → IsTrue (is_free u line) → IsTrue (is_free t line)
free_alike t u line outs counts free =
    subst (λ f. IsTrue (is_free (record t { outs = f }) line)) outs (subst (λ f. IsTrue (is_free (record t { outs = u.outs; counts = f }) line)) counts free)

pub some_granules : (o : Object) → 1 ≤ granules_of o
some_granules o = omega arith

-- an object that is gone had a granule of a line
abbrev pub IsGoneFrom : Graph → (Name → ℕ) → (Name → Type 0) → ℕ → Type 0
IsGoneFrom g at IsGone line = (n : Name) × (o : Object) × (k : ℕ) × IsGone n × Covers g at n o k × (k / GRANULES_IN_LINE ≡ line)

module _ (t u : Tables) (g : Graph) (at : Name → ℕ) (kept left : List Name) (IsGone : Name → Type 0) (objects : (n : Name) → IsTrue (has kept n) → (o : Object) × (object_at g n ≡ Some o)) (was : HasMarks t g at kept)
    (now : HasMarks u g at left) (positive : (n : Name) → IsTrue (has left n) → count_at u at n ≢ 0) (parts : (n : Name) → IsTrue (has kept n) → IsTrue (has left n) ⊎ IsGone n) where
  -- a count that isn't 0 stays so, unless its object is gone
  uncounted_was : (k : ℕ) → ¬ IsGoneFrom g at IsGone (k / GRANULES_IN_LINE) → u.counts k ≡ 0 → t.counts k ≡ 0
  uncounted_was k apart none =
      was.elsewhere k
      (λ n member here. elim (parts n member) [
        | inl stays ↦ positive n stays (ap u.counts here ∙ none)
        | inr reclaimed ↦
            let o = objects n member in
            let some = some_granules o.0 in
            apart (n, o.0, k, reclaimed, record { object = o.1; first = omega (arith, here); behind = omega (arith, here, some) }, refl)
      ])
      (λ n o member object mark. elim (parts n member) [
        | inl stays ↦ let never : STUCK ≡ 0 = sym (now.marked n o k stays object mark) ∙ none in absurd (cc)
        | inr reclaimed ↦ let low = mark.behind in apart (n, o, k, reclaimed, record { object = object; first = omega (arith, low); behind = mark.within }, refl)
      ])

  -- so a line that is free now was free, unless an object that is gone had a granule of it
  pub free_was : (outs : ℕ → Bool) (line : ℕ) → ¬ IsGoneFrom g at IsGone line → IsTrue (is_free (record u { outs = outs }) line) → IsTrue (is_free (record t { outs = outs }) line)
  free_was outs line apart free =
      let is = (free_line_is_told (record u { outs = outs }) line).0 free in
      (free_line_is_told (record t { outs = outs }) line).1 (record {
        in_hand = is.in_hand;
        uncounted = λ k within.
            let here : line ≡ (16 * line + k) / GRANULES_IN_LINE = omega (arith, within) in
            uncounted_was (16 * line + k) (subst (λ l. ¬ IsGoneFrom g at IsGone l) here apart) (is.uncounted k within);
      })
