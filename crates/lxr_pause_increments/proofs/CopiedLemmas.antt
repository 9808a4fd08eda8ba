-- A new object is promoted, and perhaps copied: objects move on, and what was fixed stays so.
use Rattle.std.proofs.Common.{◌≡◌, ℕ, ◌+◌, ◌/◌, ◌<◌, ◌≤◌, refl, sym, ap, subst, ◌∙◌, inl, inr, ◌⊎◌, arith, Bool, false, true, List, ◌∷◌}
use Rattle.std.specs.Prelude.{◌&&◌, not, if◌then◌else◌, None, Option, Some, IsTrue, length, slice_get, slice_index_or}
use Rattle.lxr_layout.specs.declared.Name.{Name}
use Rattle.lxr_layout.specs.declared.Place.{Place}
use Rattle.lxr_layout.specs.declared.TheConstants.{GRANULES_IN_LINE, WORDS_IN_LINE}
use Rattle.lxr_layout.specs.Objects.{word_count}
use Rattle.lxr_layout.specs.Places.{first_word}
use Rattle.lxr_graph.specs.Names.{has, same_name}
use Rattle.lxr_graph.specs.State.{Object, object_at, refs_of, shape_of}
use Rattle.lxr_graph.proofs.NameSets.{same_names}
use Rattle.lxr_image.specs.declared.space.Space.{Space}
use Rattle.lxr_image.specs.Tables.{Tables}
use Rattle.lxr_image.specs.Spaces.{IsSpace, Turns, tables_of}
use Rattle.lxr_image.specs.Reads.{granule_of}
use Rattle.lxr_image.specs.Image.{place_word}
use Rattle.lxr_image.specs.ImageLaws.{placed}
use Rattle.lxr_image.proofs.ImageLemmas.{words_cover, words_even}
use Rattle.lxr_image.proofs.NewLemmas.{placed_here, placed_other}
use Rattle.lxr_blocks.specs.Kept.{IsKeptGranule, KeepsGranules}
use Rattle.lxr_blocks.specs.Lines.{is_free}
use Rattle.lxr_blocks.specs.Placing.{IsFull, IsRest}
use Rattle.lxr_model.specs.Moments.{Moment}
use Rattle.lxr_model_counting.proofs.DistinctLemmas.{tested}
use Rattle.lxr_invariant.specs.AbstractState.{members}
use Rattle.lxr_invariant.specs.Lines.{HasMarks, IsMarkOf}
use Rattle.lxr_invariant.specs.Raised.{with_promoted}
use Rattle.lxr_invariant.specs.Standing.{HasBits, IsUnwritten, place_of, word_of_field}
use Rattle.lxr_invariant.proofs.NameLemmas.{in_second}
use Rattle.lxr_pause_promote.specs.Copying.{StandsKept}
use Rattle.lxr_pause_promote.specs.Promotion.{Promotes, with_promotion}
use Rattle.lxr_pause_promote.proofs.CopyLemmas.{StandsBeside, is_promoted, promoted_beside}
use Rattle.lxr_pause_promote.proofs.PlacedLemmas.{keeps_fewer}
use Rattle.lxr_pause_promote.proofs.EitherLemmas.{some_granules}
use Rattle.lxr_pause_increments.specs.Accounted.{IsFixed, IsRegisterFixed, references_at}
use Rattle.lxr_pause_increments.specs.Increments.{IncrementStage}
use Rattle.lxr_pause_increments.specs.Moving.{IsMoving, IsTaken}
use Rattle.lxr_pause_increments.proofs.MovingLemmas.{AreMade, differ_now, known_member, mark_apart_now, stands_kept}
pub use Rattle.lxr_pause_increments.proofs.EvacuatedLemmas.{placed_known}
use Rattle.lxr_pause_increments.proofs.EvacuatedLemmas.{known_differs, known_more, moving_copied, moving_there, other_place, taken_apart, words_stay}

-- ---- lines that are out

-- a granule of the rest lies in a line that is out
rest_is_out : (s : Space) (k : ℕ) → IsRest s → s.rest_next ≤ k → k < s.rest_end → IsTrue ((tables_of s).outs (k / GRANULES_IN_LINE))
rest_is_out s k (inl none) from below = absurd (omega (arith, none, from, below))
rest_is_out s k (inr rest) from below =
    let line = rest.in_line in
    let same : k / GRANULES_IN_LINE ≡ s.rest_next / GRANULES_IN_LINE = omega (arith, line, from, below) in
    ap (tables_of s).outs same ∙ rest.out

-- what was out before isn't counted
not_counted : (now was : Bool) (more same : ℕ) → (IsTrue now → IsTrue was) → (if now && not was then more else same) ≡ same
not_counted true true more same out = refl
not_counted true false more same out = absurd (let e : false ≡ true = out refl in cc)
not_counted false was more same out = refl

-- ---- it is promoted

module _ (a b found : Space) (m : Moment) (at now : Name → ℕ) (ps : List Name) (o : Name) (q : Place) (object : Object) (is : IsMoving a found m at now ps) (space : IsSpace a)
    (made : IsTrue (has m.made o)) (unpromoted : has ps o ≡ false) (has_o : object_at m.state.graph o ≡ Some object) (promotes : Promotes a b (place_of at o) q o (shape_of object)) where
  stays_put : now o ≡ at o
  stays_put = is.others o unpromoted

  new_member : IsTrue (has (members m) o)
  new_member = in_second m.unreclaimed m.made o made

  -- it was not copied, or it was
  copied_or_not : (IsFull a (shape_of object) × (q ≡ place_of at o) × Turns a b (with_promotion (tables_of a) (at o) (shape_of object)))
      ⊎ StandsBeside a b (with_promotion (tables_of a) q.0 (shape_of object)) (IsTaken m at now) (place_of at o) q o (shape_of object)
  copied_or_not = promoted_beside a b (IsTaken m at now) (place_of at o) q o (shape_of object)
      (subst (λ p. StandsKept a (record { 0 = p }) o (shape_of object)) stays_put (stands_kept a found m at now ps is space o object new_member has_o)) is.kept promotes

  -- a place that it already has changes nothing
  same_places : q ≡ place_of at o → placed now o q.0 ≡ now
  same_places e = λ i n. each n i
    where
      each : (n : Name) → placed now o q.0 n ≡ now n
      each n = elim (tested (same_name n o)) [
        | inl same ↦ ap (placed now o q.0) (same_names n o same) ∙ placed_here now o q.0 ∙ ap (λ p. p.0) e ∙ sym stays_put ∙ ap now (sym (same_names n o same))
        | inr differ ↦ placed_other now o q.0 n differ
      ]

  -- what was kept as increments began is kept
  still_kept_before : KeepsGranules b (IsKeptGranule found)
  still_kept_before =
      let stands = subst (λ p. StandsKept a (record { 0 = p }) o (shape_of object)) stays_put (stands_kept a found m at now ps is space o object new_member has_o) in
      keeps_fewer b _ (IsKeptGranule found) (λ k h. inl h) (is_promoted a b (IsKeptGranule found) (place_of at o) q o (shape_of object) stands is.kept_before promotes).kept

  -- a new object o is promoted, and stands at q
  pub moving_promoted : AreMade m ps → IsMoving b found m at (placed now o q.0) (o ∷ ps)
  moving_promoted all_made = elim copied_or_not [
    | inl there ↦ subst (λ f. IsMoving b found m at f (o ∷ ps)) (sym (same_places there.1)) (moving_there a b found m at now ps o object is stays_put has_o there.0 there.2)
    | inr beside ↦ moving_copied a b found m at now ps o q object is new_member unpromoted has_o beside all_made still_kept_before
  ]

  -- the words of another object, where it stands now, are as they were
  pub word_stays : (n : Name) (x : Object) (i : ℕ) → IsTrue (has (members m) n) → same_name n o ≡ false → object_at m.state.graph n ≡ Some x → i < word_count (shape_of x)
      → (tables_of b).heap (first_word (now n) + i) ≡ (tables_of a).heap (first_word (now n) + i)
  word_stays n x i in_n differ has_x low = elim copied_or_not [
    | inl there ↦ ap (λ t. t.heap (first_word (now n) + i)) there.2.tables
    | inr beside ↦ words_stay a b found m at now ps o q object is new_member unpromoted has_o beside n x (now n) i in_n has_x (inr refl)
        (other_place a b found m at now ps o q object is new_member unpromoted has_o beside n (now n) in_n (inr refl) differ) low
  ]

  -- the line of a granule that a member has is handed out as often as it was
  handed_out : (k : ℕ) → IsTaken m at now k → IsTrue ((tables_of b).outs (k / GRANULES_IN_LINE)) → IsTrue ((tables_of a).outs (k / GRANULES_IN_LINE))
  handed_out k taken out = elim copied_or_not [
    | inl there ↦ sym (ap (λ t. t.outs (k / GRANULES_IN_LINE)) there.2.tables) ∙ out
    | inr beside ↦ elim ((beside.outs (k / GRANULES_IN_LINE)).0 out) [
      | inl was ↦ was
      | inr here ↦ elim (beside.onto here.0 here.1) [
        | inl free ↦ absurd (let e = ap (is_free (tables_of a)) here.2 in let kept = is.kept.lines k taken in cc)
        | inr rest ↦ ap (tables_of a).outs (sym here.2) ∙ rest_is_out a here.0 is.rest rest.0 rest.1
      ]
    ]
  ]

  counted_as_before : (k : ℕ) → IsTaken m at now k → (tables_of b).reuse (k / GRANULES_IN_LINE) ≡ (tables_of a).reuse (k / GRANULES_IN_LINE)
  counted_as_before k taken = elim copied_or_not [
    | inl there ↦ ap (λ t. t.reuse (k / GRANULES_IN_LINE)) there.2.tables
    | inr beside ↦ beside.reuse (k / GRANULES_IN_LINE) ∙ not_counted ((tables_of b).outs (k / GRANULES_IN_LINE)) ((tables_of a).outs (k / GRANULES_IN_LINE)) _ _ (handed_out k taken)
  ]

  -- so is the line of a reference
  pub line_stays : (u : Name) (i : ℕ) → IsTrue (has (members m) u) → i < length (references_at m u) → (tables_of b).reuse (word_of_field now u i / WORDS_IN_LINE) ≡ (tables_of a).reuse (word_of_field now u i / WORDS_IN_LINE)
  line_stays u i in_u low =
      let x = is.stands u in_u in
      let size : length (references_at m u) ≡ length x.0.refs = ap (λ z. length (refs_of z)) x.1 in
      let cover = words_cover x.0 in
      let even = words_even x.0 in
      let k : ℕ = word_of_field now u i / 2 in
      let line : word_of_field now u i / WORDS_IN_LINE ≡ k / GRANULES_IN_LINE = omega arith in
      let taken : IsTaken m at now k = record {
        name = u;
        object = x.0;
        place = now u;
        member = in_u;
        is = x.1;
        place_is = inr refl;
        among = (omega arith, omega (arith, size, cover, even, low));
      } in
      ap (tables_of b).reuse line ∙ counted_as_before k taken ∙ ap (tables_of a).reuse (sym line)

  -- no count is at its first granule
  pub placed_uncounted : AreMade m ps → has (with_promoted m ps) o ≡ false → HasMarks (tables_of a) m.state.graph now (with_promoted m ps) → (tables_of a).counts (granule_of q.0) ≡ 0
  placed_uncounted all_made unknown marks = marks.elsewhere (granule_of q.0)
      (λ n known e.
      let in_n = known_member m ps all_made n known in
      elim copied_or_not [
        | inl there ↦ differ_now a found m at now ps is n o in_n new_member (known_differs m ps o n unknown known) (e ∙ ap (λ p. granule_of p.0) there.1 ∙ ap granule_of (sym stays_put))
        | inr beside ↦
            let x = is.stands n in_n in
            let some = some_granules x.0 in
            let other = some_granules object in
            elim (taken_apart a b found m at now ps o q object is new_member unpromoted has_o beside n x.0 (now n) in_n x.1 (inr refl)) [ inl h ↦ omega (arith, h, e, some) | inr h ↦ omega (arith, h, e, other) ]
      ])
      (λ n x known has_x mark.
      let in_n = known_member m ps all_made n known in
      elim copied_or_not [
        | inl there ↦ mark_apart_now a found m at now ps is n o x (granule_of q.0) in_n new_member has_x mark (sym (ap (λ p. granule_of p.0) there.1 ∙ ap granule_of (sym stays_put)))
        | inr beside ↦
            let after = mark.behind in
            let within = mark.within in
            let other = some_granules object in
            elim (taken_apart a b found m at now ps o q object is new_member unpromoted has_o beside n x (now n) in_n has_x (inr refl)) [ inl h ↦ omega (arith, h, within) | inr h ↦ omega (arith, h, after, other) ]
      ])

-- ---- what was fixed stays so

-- a later stage, at which o is promoted too and stands at a place
pub record IsNextStage (st later : IncrementStage) (o : Name) (p : ℕ) : Type 0 where
  pub promoted : later.promoted ≡ o ∷ st.promoted
  pub now : later.now ≡ placed st.now o p

-- what is held stands where it stood
held_placed : (m : Moment) (now : Name → ℕ) (ps : List Name) (o : Name) (p : ℕ) (held : Option Name) → has (with_promoted m ps) o ≡ false → ((n : Name) → held ≡ Some n → IsTrue (has (with_promoted m ps) n))
    → place_word now held ≡ place_word (placed now o p) held
held_placed m now ps o p None unknown known = refl
held_placed m now ps o p (Some n) unknown known = sym (placed_known m now ps o p unknown n (known n refl))

pub fixed_promoted : (a b : Space) (m : Moment) (at : Name → ℕ) (st later : IncrementStage) (o : Name) (q : Place) (object : Object) → IsMoving a st.found m at st.now st.promoted → IsSpace a → AreMade m st.promoted
    → IsTrue (has m.made o) → has st.promoted o ≡ false → has (with_promoted m st.promoted) o ≡ false → object_at m.state.graph o ≡ Some object → Promotes a b (place_of at o) q o (shape_of object) → IsNextStage st later o q.0
    → (u : Name) (i : ℕ) → IsFixed a m st u i → IsFixed b m later u i
fixed_promoted a b m at st later o q object is space all_made made unpromoted unknown has_o promotes next u i fixed =
    let in_u = known_member m st.promoted all_made u fixed.holder in
    let x = is.stands u in_u in
    let held : Option Name = slice_index_or (references_at m u) i None in
    let size : length (references_at m u) ≡ length x.0.refs = ap (λ z. length (refs_of z)) x.1 in
    let cover = words_cover x.0 in
    let low = fixed.within in
    let within : 1 + i < word_count (shape_of x.0) = omega (arith, size, cover, low) in
    let one : first_word (st.now u) + (1 + i) ≡ word_of_field st.now u i = omega arith in
    let word : (tables_of b).heap (word_of_field st.now u i) ≡ (tables_of a).heap (word_of_field st.now u i) =
    ap (tables_of b).heap (sym one)
    ∙ word_stays a b st.found m at st.now st.promoted o q object is space made unpromoted has_o promotes u x.0 (1 + i) in_u (known_differs m st.promoted o u unknown fixed.holder) x.1 within ∙ ap (tables_of a).heap one in
    let there : placed st.now o q.0 u ≡ st.now u = placed_known m st.now st.promoted o q.0 unknown u fixed.holder in
    record {
      holder = subst (λ ps. IsTrue (has (with_promoted m ps) u)) (sym next.promoted) (known_more m st.promoted o u fixed.holder);
      within = fixed.within;
      holds = subst (λ now. (tables_of b).heap (word_of_field now u i) ≡ place_word now held) (sym next.now)
          (ap (λ p. (tables_of b).heap (first_word p + 1 + i)) there ∙ word ∙ fixed.holds ∙ held_placed m st.now st.promoted o q.0 held unknown fixed.known);
      known = λ n e. subst (λ ps. IsTrue (has (with_promoted m ps) n)) (sym next.promoted) (known_more m st.promoted o n (fixed.known n e));
    }

pub register_promoted : (a b : Space) (m : Moment) (st later : IncrementStage) (o : Name) (p : ℕ) → has (with_promoted m st.promoted) o ≡ false → IsNextStage st later o p → b.registers.items ≡ a.registers.items
    → (k : ℕ) → IsRegisterFixed a m st k → IsRegisterFixed b m later k
register_promoted a b m st later o p unknown next registers k fixed = record {
  place = fixed.place;
  held = fixed.held;
  place_is = subst (λ xs. slice_get xs k ≡ Some fixed.place) (sym registers) fixed.place_is;
  held_is = fixed.held_is;
  holds = subst (λ now. fixed.place.0 ≡ place_word now fixed.held) (sym next.now) (fixed.holds ∙ held_placed m st.now st.promoted o p fixed.held unknown fixed.known);
  known = λ n e. subst (λ ps. IsTrue (has (with_promoted m ps) n)) (sym next.promoted) (known_more m st.promoted o n (fixed.known n e));
}

-- ---- what is told of known objects

-- bits and marks speak of known objects alone, so they don't see where another is placed
unwritten_elsewhere : (m : Moment) (at to : Name → ℕ) (us : List Name) (w : ℕ) → ((n : Name) → IsTrue (has us n) → to n ≡ at n) → IsUnwritten m at us w → IsUnwritten m to us w
unwritten_elsewhere m at to us w same (n, i, is) =
    (n, i, record { member = is.member; index = is.index; unwritten = is.unwritten; word = is.word ∙ ap (λ p. first_word p + 1 + i) (sym (same n is.member)) })

pub bits_elsewhere : (t : Tables) (m : Moment) (at to : Name → ℕ) (us : List Name) → ((n : Name) → IsTrue (has us n) → to n ≡ at n) → HasBits t m at us → HasBits t m to us
bits_elsewhere t m at to us same bits = record {
  starts = record {
    each = λ n h. ap (λ p. t.starts (granule_of p)) (same n h) ∙ bits.starts.each n h;
    only = λ g h. let u = bits.starts.only g h in (u.0, u.1, ap granule_of (same u.0 u.1) ∙ u.2);
  };
  marks = bits.marks;
  grays = bits.grays;
  dones = bits.dones;
  unlogged = λ w. (
    λ h. unwritten_elsewhere m at to us w same ((bits.unlogged w).0 h),
    λ h. (bits.unlogged w).1 (unwritten_elsewhere m to at us w (λ n in_n. sym (same n in_n)) h),
  );
}

mark_elsewhere : (at to : Name → ℕ) (n : Name) (x : Object) (k : ℕ) → to n ≡ at n → IsMarkOf at n x k → IsMarkOf to n x k
mark_elsewhere at to n x k same mark = let behind = mark.behind in let within = mark.within in record { begins = mark.begins; behind = omega (arith, same, behind); within = omega (arith, same, within) }

pub marks_elsewhere : (t : Tables) (m : Moment) (at to : Name → ℕ) (us : List Name) → ((n : Name) → IsTrue (has us n) → to n ≡ at n) → HasMarks t m.state.graph at us → HasMarks t m.state.graph to us
marks_elsewhere t m at to us same marks = record {
  marked = λ n x k in_n has_x mark. marks.marked n x k in_n has_x (mark_elsewhere to at n x k (sym (same n in_n)) mark);
  elsewhere = λ k nobody nothing. marks.elsewhere k (λ n in_n e. nobody n in_n (ap granule_of (same n in_n) ∙ e)) (λ n x in_n has_x mark. nothing n x in_n has_x (mark_elsewhere at to n x k (same n in_n) mark));
}
