-- Objects begin to move where they stand, and when all references are fixed, the heap is an image again, where objects stand now.
use Rattle.std.proofs.Common.{◌≡◌, ◌≢◌, ℕ, suc, ◌+◌, ◌*◌, ◌/◌, ◌%◌, ◌^◌, ◌<◌, ◌≤◌, refl, sym, ap, subst, ◌∙◌, inl, inr, arith, Bool, true, false, List, [], ◌∷◌, length}
use Rattle.std.specs.Prelude.{◌&&◌, not, if◌then◌else◌, Some, None, Option, IsTrue, map, slice_get, slice_index_or}
use Rattle.std.specs.List.Sorted.{IsPermutation}
use Rattle.std.proofs.lemmas.Bool.{false_from_ne_true}
use Rattle.std.proofs.lemmas.Option.{get_or_from_slice_get, slice_get-get_or, slice_get_within}
use Rattle.lxr_layout.specs.declared.LogEntry.{LogEntry}
use Rattle.lxr_layout.specs.declared.Name.{Name}
use Rattle.lxr_layout.specs.declared.Place.{Place}
use Rattle.lxr_layout.specs.declared.TheConstants.{GRANULES_IN_BLOCK, GRANULES_IN_LINE, LINES_IN_BLOCK, STUCK}
use Rattle.lxr_layout.specs.Places.{first_word}
use Rattle.lxr_graph.specs.Names.{has, same_name}
use Rattle.lxr_graph.specs.State.{Object, object_at, refs_of}
use Rattle.lxr_graph.proofs.NameSets.{same_names, union_cases, union_left}
use Rattle.lxr_image.specs.declared.space.Space.{Space}
use Rattle.lxr_image.specs.Tables.{Tables}
use Rattle.lxr_image.specs.Spaces.{tables_of}
use Rattle.lxr_image.specs.Reads.{granule_of}
use Rattle.lxr_image.specs.Image.{ArePlacesOf, IsImage, granules_of, place_word}
use Rattle.lxr_image.proofs.ImageLemmas.{places_still}
use Rattle.lxr_blocks.specs.declared.states.BlockState.TheVariants.{Chosen}
use Rattle.lxr_blocks.specs.Lines.{is_free}
use Rattle.lxr_blocks.proofs.KeptLemmas.{free_line_is_told}
use Rattle.lxr_model.specs.Moments.{Field, Moment}
use Rattle.lxr_model.specs.Reachable.{held}
use Rattle.lxr_model_counting.specs.Distinct.{has_field}
use Rattle.lxr_model_counting.specs.Following.{FollowsPause}
use Rattle.lxr_model_counting.proofs.DistinctLemmas.{first_field, later_field, tested}
use Rattle.lxr_invariant.specs.AbstractState.{members}
use Rattle.lxr_invariant.specs.Copied.{CopiesLieOnFreeLines, CopiesPromoted, HasCopy, StayForWantOfLines}
use Rattle.lxr_invariant.specs.Counting.{IsUndecremented, count_at}
use Rattle.lxr_invariant.specs.Lines.{Covers, HasMarks, IsMarkOf}
use Rattle.lxr_invariant.specs.Quiescent.{HoldsMoment}
use Rattle.lxr_invariant.specs.Raised.{with_promoted}
use Rattle.lxr_invariant.specs.Standing.{AreLogged, entry_of}
use Rattle.lxr_invariant.proofs.BlockLemmas.{still_not}
use Rattle.lxr_invariant.proofs.FrameLemmas.{out_kept}
use Rattle.lxr_invariant.proofs.LandingLemmas.{counted_line}
use Rattle.lxr_invariant.proofs.NameLemmas.{in_either, no_member}
use Rattle.lxr_invariant.proofs.PlaceLemmas.{granules_differ, same_object}
use Rattle.lxr_pause_promote.proofs.EitherLemmas.{held_began, place_began}
use Rattle.lxr_pause_increments.specs.Accounted.{IsFixed, IsRegisterFixed, references_at}
use Rattle.lxr_pause_increments.specs.Increments.{IncrementStage}
use Rattle.lxr_pause_increments.specs.Moving.{IsMoving, IsTaken}
use Rattle.lxr_pause_increments.proofs.FixedLemmas.{fixed_unwritten}
use Rattle.lxr_pause_increments.proofs.MovingLemmas.{AreMade, apart_now, known_member, unreclaimed_still}

-- ---- the beginning

line_began : (s : Space) (m : Moment) (at : Name → ℕ) → HoldsMoment s m at → IsUndecremented (tables_of s) m at → (n : Name) (o : Object) (k : ℕ) → IsTrue (has (members m) n) → Covers m.state.graph at n o k
    → is_free (tables_of s) (k / GRANULES_IN_LINE) ≡ false
line_began s m at holds undecremented n o k member covers = elim (in_either m.unreclaimed m.made n member) [
  | inl kept ↦ counted_line (tables_of s) at n o k (undecremented.positive n kept) (λ j mark. holds.marks.marked n o j kept covers.object mark) covers.first covers.behind
  | inr made ↦ out_kept (tables_of s) m.state.graph at m.made holds.lines n o k made covers
]

covers_began : (m : Moment) (at : Name → ℕ) (k : ℕ) (is : IsTaken m at at k) → Covers m.state.graph at is.name is.object k
covers_began m at k is =
    let place = place_began at is.name is.place is.place_is in
    let first = is.among.0 in
    let behind = is.among.1 in
    record { object = is.is; first = omega (arith, first, place); behind = omega (arith, behind, place) }

never_both : (b : Bool) → (b && not b) ≡ false
never_both true = refl
never_both false = refl

pub moving_begins : (s : Space) (m : Moment) (at : Name → ℕ) → HoldsMoment s m at → IsUndecremented (tables_of s) m at → IsMoving s s m at at []
moving_begins s m at holds undecremented =
    let image = holds.image.image in
    let t : Tables = tables_of s in
    record {
      stands = λ n member. let x = image.stands n member in (x.0, x.1, record { placed = x.2.placed; whole = x.2.whole; refs = λ i r e. inl (x.2.refs i r e); values = x.2.values });
      others = λ n h. refl;
      left_behind = λ n h. no_member n h;
      stood = λ n o member has_o. let x = image.stands n member in (x.2.placed, subst (λ z. granule_of (at n) + granules_of z ≤ GRANULES_IN_BLOCK * s.limits.blocks) (same_object m.state.graph n x.0 o x.1 has_o) x.2.whole.in_heap);
      own = λ n u p in_n in_u here there. elim (tested (same_name n u)) [
        | inl same ↦ same_names n u same
        | inr differ ↦ absurd (granules_differ t s.limits.blocks at m.state.graph (members m) image n u in_n in_u differ (ap granule_of (sym (place_began at n p here) ∙ place_began at u p there)))
      ];
      apart = λ n u a b p q in_n in_u has_a has_b here there ne. elim (tested (same_name n u)) [
        | inl same ↦ absurd (ne (place_began at n p here ∙ ap at (same_names n u same) ∙ sym (place_began at u q there)))
        | inr differ ↦
            let first = place_began at n p here in
            let second = place_began at u q there in
            elim (image.apart n u a b in_n in_u differ has_a has_b) [ inl h ↦ inl (omega (arith, h, first, second)) | inr h ↦ inr (omega (arith, h, first, second)) ]
      ];
      rest = holds.rest.rest;
      kept = record {
        lines = λ k taken. line_began s m at holds undecremented taken.name taken.object k taken.member (covers_began m at k taken);
        rest = λ k taken. holds.rest.apart taken.name taken.object k taken.member (covers_began m at k taken);
      };
      kept_before = record { lines = λ k kept. kept.line; rest = λ k kept. kept.rest };
      onto = λ n o k h. no_member n h;
      registers = held_began at s.registers.items m.state.registers holds.image.registers;
      deferred = holds.image.deferred;
      world = holds.image.world;
      outs = λ line. (λ h. inl h, λ h. elim h [ inl out ↦ out | inr copy ↦ no_member copy.name copy.promoted_is ]);
      reuse = λ line. ap (λ b. if b then ((t.reuse line + 1) % 2 ^ 32) else t.reuse line) (sym (never_both (t.outs line)));
      heap = λ w left promoted written. refl;
      states = λ b. inl refl;
      free = λ b is. (is, λ line of_b out. out);
      unchosen = holds.unchosen;
      stay = λ n o q promoted. no_member n promoted;
    }

-- ---- the end

-- all references of promoted objects are fixed, and all that were stored to
pub record AllFixed (s : Space) (m : Moment) (st : IncrementStage) : Type 0 where
  pub promoted : (u : Name) (i : ℕ) → IsTrue (has st.promoted u) → i < length (references_at m u) → IsFixed s m st u i
  pub written : (u : Name) (i : ℕ) → IsTrue (has_field m.written (u, i)) → IsFixed s m st u i

pub image_ends : (s : Space) (m : Moment) (at : Name → ℕ) (st : IncrementStage) → IsMoving s st.found m at st.now st.promoted → FollowsPause m → AreMade m st.promoted → AllFixed s m st
    → IsImage (tables_of s) s.limits.blocks st.now m.state.graph (with_promoted m st.promoted)
image_ends s m at st is follows made all = record {
  stands = λ n known.
      let x = is.stands n (known_member m st.promoted made n known) in
      let refs : references_at m n ≡ x.0.refs = ap (λ z. refs_of z) x.1 in (
        x.0,
        x.1,
        record {
          placed = x.2.placed;
          whole = x.2.whole;
          refs = λ i r e.
              let low = slice_get_within x.0.refs i r e in
              let within : i < length (references_at m n) = subst (λ xs. i < length xs) (sym refs) low in
              (fixed n i known within).holds ∙ ap (place_word st.now) (ap (λ xs. slice_index_or xs i None) refs ∙ get_or_from_slice_get x.0.refs i r None e);
          values = x.2.values;
        },
      );
  apart = λ n u a b in_n in_u differ has_a has_b. apart_now s st.found m at st.now st.promoted is n u a b (known_member m st.promoted made n in_n) (known_member m st.promoted made u in_u) differ has_a has_b;
}
  where
    fixed : (n : Name) (i : ℕ) → IsTrue (has (with_promoted m st.promoted) n) → i < length (references_at m n) → IsFixed s m st n i
    fixed n i known within = elim (union_cases st.promoted m.unreclaimed n known) [
      | inl promoted ↦ all.promoted n i promoted within
      | inr kept ↦ elim (tested (has_field m.written (n, i))) [
        | inl written ↦ all.written n i written
        | inr unwritten ↦ fixed_unwritten s m at st is follows made n i kept within unwritten
      ]
    ]

-- places that are those of what is held, one by one
places_held : (now : Name → ℕ) (places : List Place) (names : List (Option Name)) → length places ≡ length names
    → ((k : ℕ) (p : Place) (r : Option Name) → slice_get places k ≡ Some p → slice_get names k ≡ Some r → p.0 ≡ place_word now r) → ArePlacesOf now places names
places_held now [] [] many each = refl
places_held now [] (r ∷ names) many each = absurd (omega arith)
places_held now (p ∷ places) [] many each = absurd (omega arith)
places_held now (p ∷ places) (r ∷ names) many each =
    ap (λ x. x ∷ map (λ (q : Place). q.0) places) (each 0 p r refl refl) ∙ ap (λ xs. place_word now r ∷ xs) (places_held now places names (omega arith) (λ k q x e f. each (suc k) q x e f))

-- all registers hold the places where what they are to hold stands now
pub registers_end : (s : Space) (m : Moment) (at : Name → ℕ) (st : IncrementStage) → IsMoving s st.found m at st.now st.promoted → ((k : ℕ) → k < length s.registers.items → IsRegisterFixed s m st k)
    → ArePlacesOf st.now s.registers.items m.state.registers
registers_end s m at st is all = places_held st.now s.registers.items m.state.registers is.registers.as_many (λ k p r e f.
    let fixed = all k (slice_get_within s.registers.items k p e) in
    let one : Some p ≡ Some fixed.place = sym e ∙ fixed.place_is in
    let other : Some r ≡ Some fixed.held = sym f ∙ fixed.held_is in
    let place : p ≡ fixed.place = cc in
    let name : r ≡ fixed.held = cc in
    ap (λ q. q.0) place ∙ fixed.holds ∙ ap (place_word st.now) (sym name))

-- what registers held at the last pause stands where it stood
pub deferred_end : (s found : Space) (m : Moment) (at now : Name → ℕ) (ps : List Name) → IsMoving s found m at now ps → FollowsPause m → AreMade m ps → ArePlacesOf now s.deferred.items m.last.registers
deferred_end s found m at now ps is follows made =
    is.deferred ∙ places_still at now m.last.registers (λ i n e. unreclaimed_still s found m at now ps is made follows.apart n (follows.kept n (held (i, e))))

-- so does what logs tell
old_still : (at now : Name → ℕ) (old : Option Name) → ((n : Name) → old ≡ Some n → now n ≡ at n) → place_word now old ≡ place_word at old
old_still at now None same = refl
old_still at now (Some n) same = same n refl

entries_still : (m : Moment) (at now : Name → ℕ) (ws : List Field) → ((n : Name) (i : ℕ) → IsTrue (has_field ws (n, i)) → entry_of m now (n, i) ≡ entry_of m at (n, i)) → map (entry_of m now) ws ≡ map (entry_of m at) ws
entries_still m at now [] each = refl
entries_still m at now (w ∷ ws) each =
    ap (λ z. z ∷ map (entry_of m now) ws) (each w.0 w.1 (first_field w ws)) ∙ ap (λ z. entry_of m at w ∷ z) (entries_still m at now ws (λ n i h. each n i (later_field w ws (n, i) h)))

pub logs_end : (s found : Space) (m : Moment) (at now : Name → ℕ) (ps : List Name) (entries : List LogEntry) → IsMoving s found m at now ps → FollowsPause m → AreMade m ps → AreLogged m at entries → AreLogged m now entries
logs_end s found m at now ps entries is follows made logs = subst (λ xs. IsPermutation xs entries) (sym (entries_still m at now m.written entry_still)) logs
  where
    still : (n : Name) → IsTrue (has m.unreclaimed n) → now n ≡ at n
    still n kept = unreclaimed_still s found m at now ps is made follows.apart n kept

    entry_still : (n : Name) (i : ℕ) → IsTrue (has_field m.written (n, i)) → entry_of m now (n, i) ≡ entry_of m at (n, i)
    entry_still n i written =
        let was = follows.written n i written in
        let refs : List (Option Name) = refs_of (object_at m.last.graph n) in
        let old : place_word now (slice_index_or refs i None) ≡ place_word at (slice_index_or refs i None) =
        old_still at now (slice_index_or refs i None) (λ o e. still o (follows.closed n o was.0 (i, slice_get-get_or refs i None was.2 ∙ ap Some e))) in
        (λ k. record { place = record { 0 = still n was.0 k }; index = i; old = record { 0 = old k } })

-- the same names in another order
abbrev pub HaveSame : List Name → List Name → Type 0
HaveSame ps qs = (n : Name) → has qs n ≡ has ps n

copy_of_same : (m : Moment) (at now : Name → ℕ) (ps qs : List Name) (line : ℕ) → HaveSame ps qs → HasCopy m.state.graph at now qs line → HasCopy m.state.graph at now ps line
copy_of_same m at now ps qs line same copy = record {
  name = copy.name;
  promoted_is = sym (same copy.name) ∙ copy.promoted_is;
  moved = copy.moved;
  object = copy.object;
  granule = copy.granule;
  covers = copy.covers;
  line_is = copy.line_is;
}

pub copies_end : (s found : Space) (u : Tables) (m : Moment) (at now : Name → ℕ) (ps qs : List Name) → IsMoving s found m at now ps → HaveSame ps qs → u.heap ≡ (tables_of s).heap → u.reuse ≡ (tables_of s).reuse
    → CopiesPromoted (tables_of found) u m at now qs
copies_end s found u m at now ps qs is same heap reuse = record {
  others = λ n h. is.others n (sym (same n) ∙ h);
  left_behind = λ n h moved. ap (λ f. f (first_word (at n))) heap ∙ is.left_behind n (sym (same n) ∙ h) moved;
  heap = λ w left promoted written. ap (λ f. f w) heap ∙ is.heap w (λ n h moved. left n (same n ∙ h) moved) (λ n h. promoted n (same n ∙ h)) written;
  counted = λ line copy in_hand.
      let out = (is.outs line).1 (inr (copy_of_same m at now ps qs line same copy)) in
      ap (λ f. f line) reuse ∙ is.reuse line ∙ (λ i. if out i && not (in_hand i) then (((tables_of found).reuse line + 1) % 2 ^ 32) else (tables_of found).reuse line);
  uncounted = λ line none.
      let off : ((tables_of s).outs line && not ((tables_of found).outs line)) ≡ false = false_from_ne_true ((tables_of s).outs line && not ((tables_of found).outs line)) (λ new.
      let parts = both ((tables_of s).outs line) ((tables_of found).outs line) new in
      elim ((is.outs line).0 parts.0) [
        | inl was ↦ absurd (let no = parts.1 in cc)
        | inr copy ↦ none (copy_of_same m at now qs ps line (λ n. sym (same n)) copy, parts.1)
      ]) in
      ap (λ f. f line) reuse ∙ is.reuse line ∙ ap (λ b. if b then (((tables_of found).reuse line + 1) % 2 ^ 32) else (tables_of found).reuse line) off;
}
  where
    both : (x y : Bool) → (x && not y) ≡ true → (x ≡ true) × (y ≡ false)
    both true true e = absurd (cc)
    both true false e = (refl, refl)
    both false y e = absurd (cc)

-- copies lie on what was open
pub onto_ends : (s found : Space) (m : Moment) (at now : Name → ℕ) (ps qs : List Name) → IsMoving s found m at now ps → HaveSame ps qs → CopiesLieOnFreeLines found m at now qs
onto_ends s found m at now ps qs is same n o k promoted moved covers = is.onto n o k (sym (same n) ∙ promoted) moved covers

-- the tables with these out bits and states of blocks
abbrev with_lines_of : Tables → Tables → Tables
with_lines_of u t = record u { outs = t.outs; states = t.states }

-- a line that is free by what was out before was free: one that is out since has a copy, which is counted
free_at_end : (s found : Space) (u : Tables) (m : Moment) (at now : Name → ℕ) (ps : List Name) (line : ℕ) → IsMoving s found m at now ps → u.counts ≡ (tables_of s).counts
    → ((n : Name) → IsTrue (has ps n) → count_at (tables_of s) now n ≢ 0) → ((n : Name) (o : Object) (k : ℕ) → IsTrue (has ps n) → object_at m.state.graph n ≡ Some o → IsMarkOf now n o k → (tables_of s).counts k ≡ STUCK)
    → IsTrue (is_free (with_lines_of u (tables_of found)) line) → IsTrue (is_free (tables_of s) line)
free_at_end s found u m at now ps line is counts positive marks free =
    let t : Tables = with_lines_of u (tables_of found) in
    let told = (free_line_is_told t line).0 free in
    let no_copy : HasCopy m.state.graph at now ps line → ⊥ = λ copy.
    let taken : is_free t (copy.granule / GRANULES_IN_LINE) ≡ false = counted_line t now copy.name copy.object copy.granule
    (λ none. positive copy.name copy.promoted_is (sym (ap (λ f. f (granule_of (now copy.name))) counts) ∙ none))
    (λ j mark. ap (λ f. f j) counts ∙ marks copy.name copy.object j copy.promoted_is copy.covers.object mark) copy.covers.first copy.covers.behind in
    let same : is_free t (copy.granule / GRANULES_IN_LINE) ≡ is_free t line = ap (is_free t) copy.line_is in
    cc in
    (free_line_is_told (tables_of s) line).1 (record {
      in_hand = false_from_ne_true ((tables_of s).outs line) (λ out. elim ((is.outs line).0 out) [ inl was ↦ absurd (let no = told.in_hand in cc) | inr copy ↦ no_copy copy ]);
      uncounted = λ k low. sym (ap (λ f. f (GRANULES_IN_LINE * line + k)) counts) ∙ told.uncounted k low;
    })

pub stay_ends : (s found : Space) (u : Tables) (m : Moment) (at now : Name → ℕ) (ps qs : List Name) → IsMoving s found m at now ps → HaveSame ps qs → u.counts ≡ (tables_of s).counts
    → ((n : Name) → IsTrue (has (with_promoted m ps) n) → count_at (tables_of s) now n ≢ 0) → HasMarks (tables_of s) m.state.graph now (with_promoted m ps)
    → StayForWantOfLines (tables_of found) u s.limits.blocks m at now qs (λ line. ⊥)
stay_ends s found u m at now ps qs is same counts positive marks n o q promoted still has_o run excepted = is.stay n o q (sym (same n) ∙ promoted) still has_o (record {
  run = record {
    block = run.run.block;
    within = run.run.within;
    free = λ i low high. free_at_end s found u m at now ps (LINES_IN_BLOCK * q.block + i) is counts (λ v h. positive v (union_left ps m.unreclaimed v h)) (λ v x k h. marks.marked v x k (union_left ps m.unreclaimed v h))
        (run.run.free i low high);
  };
  outside = still_not (tables_of found) (tables_of s) q.block Chosen refl (is.states q.block) run.outside;
})
