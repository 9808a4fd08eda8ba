-- Old places are cleared, one after another: what stands elsewhere keeps its bits and counts, and lines become free in Chosen blocks alone.
use Rattle.std.proofs.Common.{◌≡◌, ◌≢◌, ℕ, ◌+◌, ◌-◌, ◌*◌, ◌/◌, ◌<◌, ◌≤◌, refl, sym, ap, subst, ◌∙◌, inl, inr, ◌⊎◌, arith, Bool, true, false, length, nat_eq}
use Rattle.std.specs.Prelude.{◌&&◌, if◌then◌else◌, Some, IsTrue}
use Rattle.std.proofs.lemmas.Bool.Decides.{eqb_tells, leb_tells}
use Rattle.lxr_layout.specs.declared.Header.TheVariants.{Moved, Object as AnObject}
use Rattle.lxr_layout.specs.declared.Name.{Name}
use Rattle.lxr_layout.specs.declared.Place.{Place}
use Rattle.lxr_layout.specs.declared.Shape.{Shape}
use Rattle.lxr_layout.specs.declared.TheConstants.{GRANULES_IN_BLOCK, GRANULES_IN_LINE, LINES_IN_BLOCK}
use Rattle.lxr_layout.specs.declared.limits.Limits.{Limits}
use Rattle.lxr_layout.specs.declared.runs.Run.{Run}
use Rattle.lxr_layout.specs.Objects.{header_of, word_count}
use Rattle.lxr_layout.specs.Places.{first_word}
use Rattle.lxr_graph.specs.Names.{has}
use Rattle.lxr_graph.specs.State.{Object, object_at, refs_of, shape_of}
use Rattle.lxr_image.specs.declared.space.Space.{Space}
use Rattle.lxr_image.specs.Tables.{Tables}
use Rattle.lxr_image.specs.Spaces.{Turns, tables_of}
use Rattle.lxr_image.specs.Reads.{granule_of}
use Rattle.lxr_image.specs.Image.{granules_of}
use Rattle.lxr_image.proofs.ImageLemmas.{words_cover, words_even}
use Rattle.lxr_image.proofs.SpaceLemmas.{still_space}
use Rattle.lxr_blocks.specs.declared.states.BlockState.{BlockState}
use Rattle.lxr_blocks.specs.declared.states.BlockState.TheVariants.{Chosen, Free, Partly, Whole, World}
use Rattle.lxr_blocks.specs.Kept.{KeepsGranules}
use Rattle.lxr_blocks.specs.States.{IsOpenRun, KeepsState, is_fixed, state_in, state_of}
use Rattle.lxr_blocks.proofs.KeptLemmas.{free_line_is_told}
use Rattle.lxr_model.specs.Moments.{Moment}
use Rattle.lxr_invariant.specs.Lines.{is_chosen}
use Rattle.lxr_blocks.specs.Lines.{line_behind, next_line}
use Rattle.lxr_invariant.specs.Standing.{place_of}
use Rattle.lxr_invariant.proofs.BlockLemmas.{still_not}
use Rattle.lxr_invariant.proofs.EntryLemmas.{changed_cases, changed_here, changed_other}
use Rattle.lxr_invariant.proofs.LandingLemmas.{counted_line}
use Rattle.lxr_invariant.proofs.PlaceLemmas.{line_mark, mark_line, same_object}
use Rattle.lxr_pause_promote.specs.Copying.{StandsAt}
use Rattle.lxr_pause_promote.specs.Either.{HoldEither}
use Rattle.lxr_evac_moving.specs.Stages.{EvacuationStage, HasBitsAndCounts, HasHeap, HasMoved, HasPlace, IsEvacuating, IsMarkAt, IsReferenceAt, IsTaken, granules, with_changed_tables}
use Rattle.lxr_evac_moving.specs.Steps.{IsClearing, IsNextChosen, NoneBegins, begins_in_chosen, cleared_to}
use Rattle.lxr_blocks.specs.Clearing.{without_counted}
use Rattle.lxr_evac_moving.proofs.FrameLemmas.{evacuating_with, heap_same, lines_with, turned_changes, turned_outs, turned_tables}
use Rattle.lxr_evac_moving.proofs.RangeLemmas.{cleared_cases, unmarked_cases}
use Rattle.lxr_pause_promote.proofs.EitherLemmas.{some_granules}
use Rattle.lxr_evac_moving.proofs.StageLemmas.{moved_or_still, place_is, place_some, place_within, stands_at, stood}
use Rattle.lxr_evac_moving.proofs.StandingLemmas.{header_left, header_now}

-- ---- states of blocks

-- a Chosen block stays Chosen
pub stays_chosen : (t u : Tables) (b : ℕ) → KeepsState t u b → state_in t b ≡ Chosen → state_in u b ≡ Chosen
stays_chosen t u b (inl e) chosen = ap state_of e ∙ chosen
stays_chosen t u b (inr (was, now)) chosen = absurd (let no : true ≡ false = ap is_fixed (sym chosen) ∙ was in cc)

told_chosen : (state : BlockState) → IsTrue (is_chosen state) → state ≡ Chosen
told_chosen Free is = absurd (let no : false ≡ true = is in cc)
told_chosen Partly is = absurd (let no : false ≡ true = is in cc)
told_chosen Whole is = absurd (let no : false ≡ true = is in cc)
told_chosen Chosen is = refl
told_chosen World is = absurd (let no : false ≡ true = is in cc)

both_told : (a b : Bool) → IsTrue (a && b) → IsTrue a × IsTrue b
both_told true b is = (refl, is)
both_told false b is = absurd (let no : false ≡ true = is in cc)

-- ---- granules of what stands

-- what has its count and its line marks keeps its lines
pub taken_kept : (s : Space) (m : Moment) (st : EvacuationStage) → ((n : Name) → IsTrue (has m.unreclaimed n) → (tables_of st.found).counts (granule_of (st.at n)) ≢ 0) → HasBitsAndCounts (tables_of s) m st
    → ((k : ℕ) → IsTaken m st k → (k < s.rest_next) ⊎ (s.rest_end ≤ k)) → KeepsGranules s (IsTaken m st)
taken_kept s m st positive bits rest = record {
  lines = λ k taken.
      counted_line (tables_of s) (λ n. taken.place) taken.name taken.object k (λ none. positive taken.name taken.member (sym (bits.counts taken.name taken.place taken.member taken.has_place) ∙ none))
      (λ j mark. bits.lines j (record {
        name = taken.name;
        object = taken.object;
        place = taken.place;
        member = taken.member;
        is = taken.is;
        has_place = taken.has_place;
        begins = mark.begins;
        behind = mark.behind;
        within = mark.within;
      })) taken.among.0 taken.among.1;
  rest = rest;
}

-- marks and references at places where bits stand at another stage, with the same objects
pub mark_with : (m : Moment) (st later : EvacuationStage) (k : ℕ) (mark : IsMarkAt m st k) → HasPlace later mark.name mark.place → IsMarkAt m later k
mark_with m st later k mark place = record {
  name = mark.name;
  object = mark.object;
  place = mark.place;
  member = mark.member;
  is = mark.is;
  has_place = place;
  begins = mark.begins;
  behind = mark.behind;
  within = mark.within;
}

pub reference_with : (m : Moment) (st later : EvacuationStage) (w : ℕ) (r : IsReferenceAt m st w) → HasPlace later r.name r.place → IsReferenceAt m later w
reference_with m st later w r place = record { name = r.name; index = r.index; place = r.place; member = r.member; within = r.within; has_place = place; word = r.word }

-- ---- a stage with more cleared

-- tables that differ in bits and counts of objects alone
pub record ClearsBits (t u : Tables) : Type 0 where
  pub size : u.size ≡ t.size
  pub heap : u.heap ≡ t.heap
  pub outs : u.outs ≡ t.outs
  pub reuse : u.reuse ≡ t.reuse
  pub states : u.states ≡ t.states
  pub changes : u ≡ with_changed_tables t u

pub evacuating_cleared : (a b : Space) (t : Tables) (m : Moment) (st : EvacuationStage) (end : ℕ) → IsEvacuating a m st → Turns a b t → ClearsBits (tables_of a) t → HasBitsAndCounts (tables_of b) m (cleared_to st end)
    → ((n : Name) (p : ℕ) → HasPlace (cleared_to st end) n p → HasPlace st n p) → ((q : Run) → IsOpenRun (tables_of b) b.limits.blocks q → IsOpenRun (tables_of a) a.limits.blocks q) → IsEvacuating b m (cleared_to st end)
evacuating_cleared a b t m st end is turns clears bits back before =
    let outs = turned_outs a b t turns clears.outs clears.reuse clears.states in
    let fewer : (k : ℕ) → IsTaken m (cleared_to st end) k → IsTaken m st k = λ k taken. record {
      name = taken.name;
      object = taken.object;
      place = taken.place;
      member = taken.member;
      is = taken.is;
      has_place = back taken.name taken.place taken.has_place;
      among = taken.among;
    } in
    let rest : (k : ℕ) → IsTaken m (cleared_to st end) k → (k < b.rest_next) ⊎ (b.rest_end ≤ k) = λ k taken. elim (is.lines.kept.rest k (fewer k taken)) [
      | inl low ↦ inl (subst (λ z. k < z) (sym outs.rest_next) low)
      | inr high ↦ inr (subst (λ z. z ≤ k) (sym outs.rest_end) high)
    ] in
    evacuating_with a b m st end is (turned_tables a b t turns clears.changes) (turned_changes a b t turns) (record {
      space = still_space a b t is.space turns clears.size;
      heap = subst (λ (l : Limits). HasHeap (tables_of b) l.blocks m (cleared_to st end)) (sym outs.limits)
          (heap_same (tables_of a) (tables_of b) a.limits.blocks m st end (ap (λ x. x.heap) turns.tables ∙ clears.heap) is.heap);
      bits = bits;
      lines = lines_with a b m st outs end (taken_kept b m (cleared_to st end) is.can.undecremented.positive bits rest) before is.lines;
      registers = subst (λ (s : Space). HoldEither st.at st.now s.registers.items m.state.registers) (sym turns.rest) is.registers;
      deferred = subst (λ (s : Space). HoldEither st.at st.now s.deferred.items m.last.registers) (sym turns.rest) is.deferred;
    })

-- so it is where the same places stay
pub places_same : (s : Space) (m : Moment) (st : EvacuationStage) (end : ℕ) → IsEvacuating s m st → ((n : Name) (p : ℕ) → IsTrue (has m.unreclaimed n) → HasPlace st n p → HasPlace (cleared_to st end) n p)
    → ((n : Name) (p : ℕ) → HasPlace (cleared_to st end) n p → HasPlace st n p) → IsEvacuating s m (cleared_to st end)
places_same s m st end is forth back = evacuating_cleared s s (tables_of s) m st end is (record { tables = refl; rest = refl })
    (record { size = refl; heap = refl; outs = refl; reuse = refl; states = refl; changes = refl }) (record {
      starts = λ n p member place. is.bits.starts n p member (back n p place);
      starts_only = λ k h. let x = is.bits.starts_only k h in (x.0, x.1, x.2, forth x.0 x.1 x.2 x.3, x.4);
      marks = λ n p member place. is.bits.marks n p member (back n p place);
      marks_only = is.bits.marks_only;
      grays = λ n p member place. is.bits.grays n p member (back n p place);
      grays_only = is.bits.grays_only;
      counts = λ n p member place. is.bits.counts n p member (back n p place);
      lines = λ k mark. is.bits.lines k (mark_with m (cleared_to st end) st k mark (back mark.name mark.place mark.has_place));
      counts_only = λ k nobody nothing. is.bits.counts_only k (λ n p member place. nobody n p member (forth n p member place))
          (λ mark. nothing (mark_with m st (cleared_to st end) k mark (forth mark.name mark.place mark.member mark.has_place)));
      unlogged = λ w. (
        λ h. let r = (is.bits.unlogged w).0 h in reference_with m st (cleared_to st end) w r (forth r.name r.place r.member r.has_place),
        λ r. (is.bits.unlogged w).1 (reference_with m (cleared_to st end) st w r (back r.name r.place r.has_place)),
      );
    }) back (λ q run. run)

module _ (s : Space) (m : Moment) (st : EvacuationStage) (is : IsEvacuating s m st) where
  -- where a moved object stood, the block is Chosen
  pub stood_in_chosen : (n : Name) → HasMoved st n → state_in (tables_of s) (granule_of (st.at n) / GRANULES_IN_BLOCK) ≡ Chosen
  stood_in_chosen n moved = stays_chosen (tables_of st.found) (tables_of s) _ (is.lines.states _) (is.apart.moved n moved).1

  -- where no object of a Chosen block begins, nothing is to be cleared
  pub cleared_past : (end : ℕ) → st.cleared ≤ end → NoneBegins (tables_of s) st.cleared end → IsEvacuating s m (cleared_to st end)
  cleared_past end past none = places_same s m st end is forth back
    where
      back : (n : Name) (p : ℕ) → HasPlace (cleared_to st end) n p → HasPlace st n p
      back n p (inl e) = inl e
      back n p (inr (e, high)) = inr (e, omega (arith, past, high))

      forth : (n : Name) (p : ℕ) → IsTrue (has m.unreclaimed n) → HasPlace st n p → HasPlace (cleared_to st end) n p
      forth n p member (inl e) = inl e
      forth n p member (inr (e, low)) = elim (leb_tells end (granule_of p)) [
        | inl h ↦ inr (e, h.1)
        | inr h ↦ elim (moved_or_still st n) [
          | inr still ↦ inl (e ∙ sym still)
          | inl moved ↦
              let chosen : state_in (tables_of s) (granule_of p / GRANULES_IN_BLOCK) ≡ Chosen = subst (λ z. state_in (tables_of s) (granule_of z / GRANULES_IN_BLOCK) ≡ Chosen) (sym e) (stood_in_chosen n moved) in
              let begins : begins_in_chosen (tables_of s) (granule_of p) ≡ true = ap (λ x. is_chosen x && (tables_of s).starts (granule_of p)) chosen ∙ is.bits.starts n p member (inr (e, low)) in
              let no = none (granule_of p) low h.1 in
              absurd (cc)
        ]
      ]

  -- what begins in a Chosen block is an object that stood there
  pub begun_in_chosen : (g : ℕ) → IsTrue (begins_in_chosen (tables_of s) g) → (n : Name) × IsTrue (has m.unreclaimed n) × (granule_of (st.at n) ≡ g)
  begun_in_chosen g begins =
      let parts = both_told (is_chosen (state_in (tables_of s) (g / GRANULES_IN_BLOCK))) ((tables_of s).starts g) begins in
      let chosen = told_chosen (state_in (tables_of s) (g / GRANULES_IN_BLOCK)) parts.0 in
      let x = is.bits.starts_only g parts.1 in
      let n : Name = x.0 in
      let p : ℕ = x.1 in (
        n,
        x.2,
        elim x.3 [
          | inr old ↦ ap (λ z. z - 1) (sym old.0) ∙ x.4
          | inl now ↦ elim (moved_or_still st n) [
            | inr still ↦ ap (λ z. z - 1) (sym (now ∙ still)) ∙ x.4
            | inl moved ↦
                let block : granule_of (st.now n) / GRANULES_IN_BLOCK ≡ g / GRANULES_IN_BLOCK = ap (λ z. z / GRANULES_IN_BLOCK) (ap (λ z. z - 1) (sym now) ∙ x.4) in
                absurd (still_not (tables_of st.found) (tables_of s) (granule_of (st.now n) / GRANULES_IN_BLOCK) Chosen refl (is.lines.states _) (is.apart.away n moved) (ap (state_in (tables_of s)) block ∙ chosen))
          ]
        ],
      )

  -- an object that stands where it stood keeps its bits and counts
  pub cleared_still : (n : Name) → IsTrue (has m.unreclaimed n) → st.now n ≡ st.at n → st.cleared ≡ granule_of (st.at n) → IsEvacuating s m (cleared_to st (granule_of (st.at n) + 1))
  cleared_still n member still here = places_same s m st (granule_of (st.at n) + 1) is forth back
    where
      back : (u : Name) (p : ℕ) → HasPlace (cleared_to st (granule_of (st.at n) + 1)) u p → HasPlace st u p
      back u p (inl e) = inl e
      back u p (inr (e, high)) = inr (e, omega (arith, here, high))

      forth : (u : Name) (p : ℕ) → IsTrue (has m.unreclaimed u) → HasPlace st u p → HasPlace (cleared_to st (granule_of (st.at n) + 1)) u p
      forth u p in_u (inl e) = inl e
      forth u p in_u (inr (e, low)) = elim (eqb_tells p (st.at n)) [
        | inl same ↦
            let one : n ≡ u = is.apart.own n u p member in_u (inl same.1) (inl e) in
            inl (same.1 ∙ sym still ∙ ap st.now one)
        | inr other ↦
            let differ = other.1 in
            let first = (place_some s m st is u p in_u (inl e)).0 in
            let first_n = (place_some s m st is n (st.at n) member (inl refl)).0 in
            inr (e, omega (arith, here, low, differ, first, first_n))
      ]

-- ---- the place of a moved object is cleared

module _ (a b : Space) (m : Moment) (st : EvacuationStage) (is : IsEvacuating a m st) (n : Name) (o : Object) (member : IsTrue (has m.unreclaimed n)) (has_o : object_at m.state.graph n ≡ Some o) (moved : HasMoved st n)
    (here : st.cleared ≡ granule_of (st.at n)) (turns : Turns a b (without_counted (tables_of a) (st.at n) (shape_of o))) where
  abbrev gone : ℕ
  gone = granule_of (st.at n)

  abbrev later : EvacuationStage
  later = cleared_to st (granule_of (st.at n) + 1)

  -- places of other objects

  back : (u : Name) (p : ℕ) → HasPlace later u p → HasPlace st u p
  back u p (inl e) = inl e
  back u p (inr (e, high)) = inr (e, omega (arith, here, high))

  elsewhere : (u : Name) (p : ℕ) → IsTrue (has m.unreclaimed u) → HasPlace later u p → p ≢ st.at n
  elsewhere u p in_u (inl e) same = let one : n ≡ u = is.apart.own n u p member in_u (inl same) (inr e) in moved (ap st.now one ∙ sym e ∙ same)
  elsewhere u p in_u (inr (e, high)) same = omega (arith, high, same)

  forth : (u : Name) (p : ℕ) → IsTrue (has m.unreclaimed u) → HasPlace st u p → p ≢ st.at n → HasPlace later u p
  forth u p in_u (inl e) other = inl e
  forth u p in_u (inr (e, low)) other =
      let first = (place_some a m st is u p in_u (inl e)).0 in
      let first_n = (place_some a m st is n (st.at n) member (inl refl)).0 in
      inr (e, omega (arith, here, low, other, first, first_n))

  first_there : 1 ≤ st.at n
  first_there = (place_some a m st is n (st.at n) member (inl refl)).0

  granule_other : (u : Name) (p : ℕ) → IsTrue (has m.unreclaimed u) → HasPlace later u p → granule_of p ≢ gone
  granule_other u p in_u place e =
      let first = (place_some a m st is u p in_u (place_is later u p place)).0 in
      let first_n = first_there in
      elsewhere u p in_u place (omega (arith, e, first, first_n))

  stands_apart : (u : Name) (x : Object) (p : ℕ) → IsTrue (has m.unreclaimed u) → object_at m.state.graph u ≡ Some x → HasPlace later u p → (gone + granules_of o ≤ granule_of p) ⊎ (granule_of p + granules_of x ≤ gone)
  stands_apart u x p in_u has_x place = is.apart.apart n u o x (st.at n) p member in_u has_o has_x (inl refl) (place_is later u p place) (λ e. elsewhere u p in_u place (sym e))

  -- which object it was
  one_there : (u : Name) (x : Object) (p : ℕ) → IsTrue (has m.unreclaimed u) → object_at m.state.graph u ≡ Some x → HasPlace st u p → p ≡ st.at n → (n ≡ u) × (o ≡ x)
  one_there u x p in_u has_x place same =
      let one : n ≡ u = is.apart.own n u p member in_u (inl same) (place_is st u p place) in
      (one, same_object m.state.graph n o x has_o (ap (object_at m.state.graph) one ∙ has_x))

  -- tables

  start_left : (k : ℕ) → k ≢ gone → (tables_of b).starts k ≡ (tables_of a).starts k
  start_left k other = ap (λ t. t.starts k) turns.tables ∙ changed_other (tables_of a).starts gone false k other

  mark_left : (k : ℕ) → k ≢ gone → (tables_of b).marks k ≡ (tables_of a).marks k
  mark_left k other = ap (λ t. t.marks k) turns.tables ∙ changed_other (tables_of a).marks gone false k other

  gray_left : (k : ℕ) → k ≢ gone → (tables_of b).grays k ≡ (tables_of a).grays k
  gray_left k other = ap (λ t. t.grays k) turns.tables ∙ changed_other (tables_of a).grays gone false k other

  count_left : (k : ℕ) → (k < gone) ⊎ (gone + granules_of o ≤ k) → (tables_of b).counts k ≡ (tables_of a).counts k
  count_left k out =
      let some = some_granules o in
      ap (λ t. t.counts k) turns.tables ∙ elim (unmarked_cases (λ j. if nat_eq j gone then 0 else (tables_of a).counts j) (next_line gone) (line_behind gone (granules_of o)) k) [
        | inl q ↦
            let mark = line_mark st.at n o k q.0 in
            let low = mark.behind in
            let high = mark.within in
            absurd (elim out [ inl h ↦ omega (arith, h, low) | inr h ↦ omega (arith, h, high) ])
        | inr q ↦ q.1 ∙ changed_other (tables_of a).counts gone 0 k (λ e. elim out [ inl h ↦ omega (arith, h, e) | inr h ↦ omega (arith, h, e, some) ])
      ]

  bits_cleared : HasBitsAndCounts (tables_of b) m later
  bits_cleared = record {
    starts = λ u p in_u place. start_left (granule_of p) (granule_other u p in_u place) ∙ is.bits.starts u p in_u (back u p place);
    starts_only = λ k h. elim (eqb_tells k gone) [
      | inl e ↦ absurd (let none : (tables_of b).starts k ≡ false = ap (λ t. t.starts k) turns.tables ∙ changed_here (tables_of a).starts gone false k e.1 in cc)
      | inr e ↦
          let x = is.bits.starts_only k (sym (start_left k e.1) ∙ h) in
          (x.0, x.1, x.2, forth x.0 x.1 x.2 x.3 (λ same. e.1 (sym x.4 ∙ ap (λ z. z - 1) same)), x.4)
    ];
    marks = λ u p in_u place. mark_left (granule_of p) (granule_other u p in_u place) ∙ is.bits.marks u p in_u (back u p place);
    marks_only = λ k h. elim (eqb_tells k gone) [
      | inl e ↦ absurd (let none : (tables_of b).marks k ≡ false = ap (λ t. t.marks k) turns.tables ∙ changed_here (tables_of a).marks gone false k e.1 in cc)
      | inr e ↦ start_left k e.1 ∙ is.bits.marks_only k (sym (mark_left k e.1) ∙ h)
    ];
    grays = λ u p in_u place. gray_left (granule_of p) (granule_other u p in_u place) ∙ is.bits.grays u p in_u (back u p place);
    grays_only = λ k h. elim (eqb_tells k gone) [
      | inl e ↦ absurd (let none : (tables_of b).grays k ≡ false = ap (λ t. t.grays k) turns.tables ∙ changed_here (tables_of a).grays gone false k e.1 in cc)
      | inr e ↦ start_left k e.1 ∙ is.bits.grays_only k (sym (gray_left k e.1) ∙ h)
    ];
    counts = λ u p in_u place.
        let x = is.heap.stands u in_u in
        let some = some_granules x.0 in
        count_left (granule_of p) (elim (stands_apart u x.0 p in_u x.1 place) [ inl h ↦ inr h | inr h ↦ inl (omega (arith, h, some)) ]) ∙ is.bits.counts u p in_u (back u p place);
    lines = λ k mark.
        let low = mark.behind in
        let high = mark.within in
        count_left k (elim (stands_apart mark.name mark.object mark.place mark.member mark.is mark.has_place) [ inl h ↦ inr (omega (arith, h, low)) | inr h ↦ inl (omega (arith, h, high)) ])
        ∙ is.bits.lines k (mark_with m later st k mark (back mark.name mark.place mark.has_place));
    counts_only = λ k nobody nothing. ap (λ t. t.counts k) turns.tables ∙ elim (unmarked_cases (λ j. if nat_eq j gone then 0 else (tables_of a).counts j) (next_line gone) (line_behind gone (granules_of o)) k) [
      | inl q ↦ q.1
      | inr q ↦ q.1 ∙ elim (changed_cases (tables_of a).counts gone 0 k) [
        | inl r ↦ r.1
        | inr r ↦ r.1 ∙ is.bits.counts_only k (λ u p in_u place e. nobody u p in_u (forth u p in_u place (λ same. r.0 (sym e ∙ ap (λ z. z - 1) same))) e)
            (λ mark. nothing (mark_with m st later k mark (forth mark.name mark.place mark.member mark.has_place (λ same.
            let one = one_there mark.name mark.object mark.place mark.member mark.is mark.has_place same in
            let low = mark.behind in
            let high : k < granule_of mark.place + granules_of o = subst (λ z. k < granule_of mark.place + granules_of z) (sym one.1) mark.within in
            q.0 (mark_line st.at n o k (record { begins = mark.begins; behind = omega (arith, low, same); within = omega (arith, high, same) }))))))
      ]
    ];
    unlogged = λ w. (unlogged_before w, unlogged_after w);
  }
    where
      unlogged_before : (w : ℕ) → IsTrue ((tables_of b).unlogged w) → IsReferenceAt m later w
      unlogged_before w h = elim (cleared_cases (tables_of a).unlogged (first_word (st.at n) + 1) (first_word (st.at n) + 1 + length o.refs) w) [
        | inl q ↦ absurd (let none : (tables_of b).unlogged w ≡ false = ap (λ t. t.unlogged w) turns.tables ∙ q.2 in cc)
        | inr q ↦
            let r = (is.bits.unlogged w).0 (sym (ap (λ t. t.unlogged w) turns.tables ∙ q.1) ∙ h) in
            reference_with m st later w r (forth r.name r.place r.member r.has_place (λ same.
            let x = is.heap.stands r.name r.member in
            let one = one_there r.name x.0 r.place r.member x.1 r.has_place same in
            let size : length (refs_of (object_at m.state.graph r.name)) ≡ length o.refs = ap (λ z. length (refs_of z)) x.1 ∙ ap (λ z. length z.refs) (sym one.1) in
            let word = r.word in
            let low = r.within in
            q.0 (omega (arith, word, same)) (omega (arith, word, same, low, size))))
      ]

      unlogged_after : (w : ℕ) → IsReferenceAt m later w → IsTrue ((tables_of b).unlogged w)
      unlogged_after w r =
          let x = is.heap.stands r.name r.member in
          let size : length (refs_of (object_at m.state.graph r.name)) ≡ length x.0.refs = ap (λ z. length (refs_of z)) x.1 in
          let cover = words_cover x.0 in
          let even = words_even x.0 in
          let cover_n = words_cover o in
          let even_n = words_even o in
          let word = r.word in
          let low = r.within in
          elim (cleared_cases (tables_of a).unlogged (first_word (st.at n) + 1) (first_word (st.at n) + 1 + length o.refs) w) [
            | inl q ↦
                let from = q.0 in
                let end = q.1 in
                absurd (elim (stands_apart r.name x.0 r.place r.member x.1 r.has_place) [
                  | inl h ↦ omega (arith, h, word, end, cover_n, even_n)
                  | inr h ↦ omega (arith, h, word, low, size, from, cover, even)
                ])
            | inr q ↦ ap (λ t. t.unlogged w) turns.tables ∙ q.1 ∙ (is.bits.unlogged w).1 (reference_with m later st w r (back r.name r.place r.has_place))
          ]

  -- a line of a block that isn't Chosen is as free as it was
  line_left : (block i k : ℕ) → block ≢ gone / GRANULES_IN_BLOCK → i < LINES_IN_BLOCK → k < 16 → (GRANULES_IN_LINE * (LINES_IN_BLOCK * block + i) + k < gone) ⊎ (gone + granules_of o ≤ GRANULES_IN_LINE * (LINES_IN_BLOCK * block + i) + k)
  line_left block i k other low small =
      let in_block = (stood a m st is n o member has_o).whole.in_block in
      let some = some_granules o in
      elim (leb_tells (gone / GRANULES_IN_BLOCK) block) [
        | inl h ↦ let past = h.1 in inr (omega (arith, other, past, in_block, some))
        | inr h ↦ let before = h.1 in inl (omega (arith, before, low, small))
      ]

  open_was : (q : Run) → IsOpenRun (tables_of b) b.limits.blocks q → IsOpenRun (tables_of a) a.limits.blocks q
  open_was q run =
      let states : state_in (tables_of b) q.block ≡ state_in (tables_of a) q.block = ap (λ t. state_of (t.states q.block)) turns.tables in
      let other : q.block ≢ gone / GRANULES_IN_BLOCK = λ e. run.outside (states ∙ ap (state_in (tables_of a)) e ∙ stood_in_chosen a m st is n moved) in
      let within = run.run.within in
      record {
        run = record {
          block = subst (λ (s : Space). q.block < s.limits.blocks) turns.rest run.run.block;
          within = run.run.within;
          free = λ i low high.
              let is_line = (free_line_is_told (tables_of b) (LINES_IN_BLOCK * q.block + i)).0 (run.run.free i low high) in
              (free_line_is_told (tables_of a) (LINES_IN_BLOCK * q.block + i)).1 (record {
                in_hand = sym (ap (λ t. t.outs (LINES_IN_BLOCK * q.block + i)) turns.tables) ∙ is_line.in_hand;
                uncounted = λ k small. sym (count_left (GRANULES_IN_LINE * (LINES_IN_BLOCK * q.block + i) + k) (line_left q.block i k other (omega (arith, high, within)) small)) ∙ is_line.uncounted k small;
              });
        };
        outside = λ e. run.outside (states ∙ e);
      }

  pub place_cleared : IsEvacuating b m later
  place_cleared = evacuating_cleared a b (without_counted (tables_of a) (st.at n) (shape_of o)) m st (gone + 1) is turns (record {
    size = refl;
    heap = refl;
    outs = refl;
    reuse = refl;
    states = refl;
    changes = refl;
  }) bits_cleared back open_was

-- ---- as code does it

-- an object stood at a granule of a Chosen block, where the next one begins
pub record HasStood (m : Moment) (st : EvacuationStage) (granule : ℕ) : Type 0 where
  pub name : Name
  pub object : Object
  pub member : IsTrue (has m.unreclaimed name)
  pub is : object_at m.state.graph name ≡ Some object
  pub granule_is : granule_of (st.at name) ≡ granule
  pub place_is : granule + 1 ≡ st.at name

module _ (s : Space) (m : Moment) (st : EvacuationStage) (from granule : ℕ) (is : IsClearing s m st from) (next : IsNextChosen (tables_of s) from (granules s) granule) where
  past : IsEvacuating s m (cleared_to st granule)
  past = cleared_past s m (cleared_to st from) is.evacuating granule next.reached next.passed

  pub has_stood : HasStood m st granule
  has_stood =
      let x = begun_in_chosen s m (cleared_to st granule) past granule next.is in
      let y = is.evacuating.heap.stands x.0 x.1 in
      let first = (place_some s m (cleared_to st from) is.evacuating x.0 (st.at x.0) x.1 (inl refl)).0 in
      let there = x.2 in
      record { name = x.0; object = y.0; member = x.1; is = y.1; granule_is = x.2; place_is = omega (arith, first, there) }

  -- its object lies in the heap
  stood_within : granule + granules_of has_stood.object ≤ GRANULES_IN_BLOCK * s.limits.blocks
  stood_within =
      let x = has_stood in
      subst (λ z. z + granules_of x.object ≤ GRANULES_IN_BLOCK * s.limits.blocks) x.granule_is (place_within s m (cleared_to st from) is.evacuating x.name x.object (st.at x.name) x.member x.is (inl refl)).1

  -- so it is where its shape was read
  pub shape_within : (shape : Shape) → shape ≡ shape_of has_stood.object → granule_of (granule + 1) + word_count shape / 2 ≤ GRANULES_IN_BLOCK * s.limits.blocks
  shape_within shape same =
      let within = stood_within in
      let size : word_count shape / 2 ≡ granules_of has_stood.object = ap (λ z. word_count z / 2) same in
      omega (arith, within, size)

  same_granules : (b : Space) → b.limits ≡ s.limits → st.looked ≡ granules b
  same_granules b limits = is.looked ∙ ap (λ (l : Limits). GRANULES_IN_BLOCK * l.blocks) (sym limits)

  -- where the header tells a place, it has moved there
  pub left_for : (q : Place) → header_of ((tables_of s).heap (2 * granule)) ≡ Moved q → HasMoved st has_stood.name × (place_of st.now has_stood.name ≡ q)
  left_for q told =
      let x = has_stood in
      let word : header_of ((tables_of s).heap (first_word (st.at x.name))) ≡ Moved q = ap (λ z. header_of ((tables_of s).heap (2 * z))) x.granule_is ∙ told in
      elim (moved_or_still st x.name) [
        | inl moved ↦
            let e : Moved (place_of st.now x.name) ≡ Moved q = sym (header_left s m (cleared_to st from) is.evacuating x.name moved) ∙ word in
            let same : place_of st.now x.name ≡ q = cc in
            (moved, same)
        | inr still ↦
            let e : AnObject x.name (shape_of x.object) ≡ Moved q =
            sym (header_now s m (cleared_to st from) is.evacuating x.name x.object x.member x.is) ∙ ap (λ z. header_of ((tables_of s).heap (first_word z))) still ∙ word in
            absurd (cc)
      ]

  pub stands_there : (q : Place) → header_of ((tables_of s).heap (2 * granule)) ≡ Moved q → StandsAt s q has_stood.name (shape_of has_stood.object)
  stands_there q told =
      let x = has_stood in
      subst (λ z. StandsAt s z x.name (shape_of x.object)) (left_for q told).1 (stands_at s m (cleared_to st from) is.evacuating x.name x.object x.member x.is)

  -- then its old place is cleared
  pub clears_left : (b : Space) (q : Place) (shape : Shape) → header_of ((tables_of s).heap (2 * granule)) ≡ Moved q → shape ≡ shape_of has_stood.object → Turns s b (without_counted (tables_of s) (granule + 1) shape)
      → IsClearing b m st (granule + 1)
  clears_left b q shape told same turns =
      let x = has_stood in
      let there = subst (λ z. Turns s b (without_counted (tables_of s) z (shape_of x.object))) x.place_is (subst (λ z. Turns s b (without_counted (tables_of s) (granule + 1) z)) same turns) in
      record {
        evacuating = subst (λ k. IsEvacuating b m (cleared_to st (k + 1))) x.granule_is
            (place_cleared s b m (cleared_to st granule) past x.name x.object x.member x.is (left_for q told).0 (sym x.granule_is) there);
        looked = same_granules b (ap (λ (z : Space). z.limits) turns.rest);
      }

  -- where it tells an object, that is kept there
  pub clears_kept : (u : Name) (shape : Shape) → header_of ((tables_of s).heap (2 * granule)) ≡ AnObject u shape → IsClearing s m st (granule + 1)
  clears_kept u shape told =
      let x = has_stood in
      let word : header_of ((tables_of s).heap (first_word (st.at x.name))) ≡ AnObject u shape = ap (λ z. header_of ((tables_of s).heap (2 * z))) x.granule_is ∙ told in
      record {
        evacuating = elim (moved_or_still st x.name) [
          | inl moved ↦ absurd (let e : Moved (place_of st.now x.name) ≡ AnObject u shape = sym (header_left s m (cleared_to st from) is.evacuating x.name moved) ∙ word in cc)
          | inr still ↦ subst (λ k. IsEvacuating s m (cleared_to st (k + 1))) x.granule_is (cleared_still s m (cleared_to st granule) past x.name x.member still (sym x.granule_is))
        ];
        looked = is.looked;
      }

-- where none begins any more, all is cleared
pub all_cleared : (s : Space) (m : Moment) (st : EvacuationStage) (from : ℕ) → IsClearing s m st from → from ≤ granules s → NoneBegins (tables_of s) from (granules s) → IsClearing s m st (granules s)
all_cleared s m st from is within none = record { evacuating = cleared_past s m (cleared_to st from) is.evacuating (granules s) within none; looked = is.looked }

-- a space whose words alone have changed has as many granules
pub same_heap : (a b : Space) → b ≡ record a { words = b.words } → granules b ≡ granules a
same_heap a b e = ap granules e

-- tables that differ in bits and counts alone from others that do so too
pub cleared_again : (t u v : Tables) → u ≡ record t { starts = u.starts; marks = u.marks; grays = u.grays; counts = u.counts; unlogged = u.unlogged }
    → v ≡ record u { starts = v.starts; marks = v.marks; grays = v.grays; counts = v.counts; unlogged = v.unlogged } → v ≡ record t { starts = v.starts; marks = v.marks; grays = v.grays; counts = v.counts; unlogged = v.unlogged }
cleared_again t u v first next = next ∙ ap (λ (x : Tables). record x { starts = v.starts; marks = v.marks; grays = v.grays; counts = v.counts; unlogged = v.unlogged }) first
