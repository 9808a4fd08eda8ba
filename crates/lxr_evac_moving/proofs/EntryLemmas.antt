-- Entries of the remembered set: each reference that leads to a moved object has one, which tells where its holder stood.
use Rattle.std.proofs.Common.{◌≡◌, ℕ, ◌+◌, ◌-◌, ◌*◌, ◌/◌, ◌%◌, ◌^◌, ◌<◌, ◌≤◌, refl, sym, ap, subst, ◌∙◌, inl, inr, arith, Bool, true, false, length}
use Rattle.std.specs.Prelude.{◌↔◌, ◌&&◌, not, if◌then◌else◌, None, Option, Some, IsTrue, slice_get, slice_index_or}
use Rattle.std.proofs.lemmas.Bool.Decides.{eqb_tells, leb_tells}
use Rattle.std.proofs.lemmas.Option.{slice_get-get_or}
use Rattle.lxr_layout.specs.declared.limits.Limits.{Limits}
use Rattle.lxr_layout.specs.declared.Name.{Name}
use Rattle.lxr_layout.specs.declared.Place.{Place}
use Rattle.lxr_layout.specs.declared.TheConstants.{GRANULES_IN_BLOCK, GRANULES_IN_LINE, REMEMBERED_CURSOR, WORDS_IN_LINE}
use Rattle.lxr_layout.specs.Runs.{IsEntry, kept_counter, word_of_entry}
use Rattle.lxr_graph.specs.Names.{has}
use Rattle.lxr_graph.specs.State.{object_at, refs_of}
use Rattle.lxr_image.specs.declared.space.Space.{Space}
use Rattle.lxr_image.specs.Spaces.{tables_of}
use Rattle.lxr_image.specs.Reads.{granule_of}
use Rattle.lxr_image.specs.Image.{place_word}
use Rattle.lxr_image.proofs.TableLaws.{reuse_fits}
use Rattle.lxr_blocks.specs.Lines.{is_free}
use Rattle.lxr_blocks.specs.Placing.{IsRest}
use Rattle.lxr_model.specs.Moments.{Moment}
use Rattle.lxr_invariant.specs.Standing.{place_of, word_of_field}
use Rattle.lxr_invariant.specs.Tracing.{HasOverflowed, IsEntryWord}
use Rattle.lxr_invariant.proofs.LandingLemmas.{counted_line}
use Rattle.lxr_remset.specs.Remembering.{line_of_field}
use Rattle.lxr_pause_promote.specs.Either.{IsPlaceOf}
use Rattle.lxr_evac_moving.specs.Stages.{AreFixed, EvacuationStage, IsEvacuating, IsFixed}
use Rattle.lxr_evac_moving.specs.Steps.{CanFix, HasFixedEntries, HoldsMember, IsHolder, KeepsFixed}
use Rattle.lxr_evac_moving.proofs.FollowLemmas.{either_held}
use Rattle.lxr_evac_moving.proofs.FixLemmas.{either_moved}
use Rattle.lxr_evac_moving.proofs.StageLemmas.{place_some, same_cursors, same_limits, same_remembered, stood}
use Rattle.lxr_evac_moving.proofs.StandingLemmas.{field_holds, field_within}

-- ---- the reuse counters of lines where objects stood

-- a granule of the rest is one of a line that is out
rest_is_out : (s : Space) (k line : ℕ) → IsRest s → s.rest_next ≤ k → k < s.rest_end → k / GRANULES_IN_LINE ≡ line → IsTrue ((tables_of s).outs line)
rest_is_out s k line (inl none) low high is = absurd (omega (arith, none, low, high))
rest_is_out s k line (inr rest) low high is =
    let same = rest.in_line in
    let here : s.rest_next / GRANULES_IN_LINE ≡ line = omega (arith, same, low, high, is) in
    subst (λ z. IsTrue ((tables_of s).outs z)) here rest.out

uncounted : (now was : Bool) (x y : ℕ) → (IsTrue now → IsTrue was) → (if now && not was then x else y) ≡ y
uncounted true true x y before = refl
uncounted true false x y before = absurd (let no : false ≡ true = before refl in cc)
uncounted false was x y before = refl

module _ (s : Space) (m : Moment) (st : EvacuationStage) (is : IsEvacuating s m st) where
  -- no copy lies on a line where an object stood, unless the line was out
  was_out : (n : Name) (i : ℕ) → IsTrue (has m.unreclaimed n) → i < length (refs_of (object_at m.state.graph n)) → IsTrue ((tables_of s).outs (word_of_field st.at n i / WORDS_IN_LINE))
      → IsTrue ((tables_of st.found).outs (word_of_field st.at n i / WORDS_IN_LINE))
  was_out n i member within out = elim ((is.lines.outs (word_of_field st.at n i / WORDS_IN_LINE)).0 out) [
    | inl was ↦ was
    | inr copy ↦
        let x = is.heap.stands n member in
        let h = stood s m st is n x.0 member x.1 in
        let size : length (refs_of (object_at m.state.graph n)) ≡ length x.0.refs = ap (λ z. length (refs_of z)) x.1 in
        let line_is = copy.line_is in
        elim (is.apart.onto copy.name copy.object copy.granule copy.promoted_is copy.moved copy.covers) [
          | inl free ↦
              let k : ℕ = granule_of (st.at n) + (1 + i) / 2 in
              let placed = h.placed in
              let taken = counted_line (tables_of st.found) st.at n x.0 k (is.can.undecremented.positive n member)
              (λ j mark. is.can.holds.marks.marked n x.0 j member x.1 mark) (omega arith) (omega (arith, size, within)) in
              let same : k / GRANULES_IN_LINE ≡ copy.granule / GRANULES_IN_LINE = omega (arith, line_is, placed) in
              let here : is_free (tables_of st.found) (k / GRANULES_IN_LINE) ≡ is_free (tables_of st.found) (copy.granule / GRANULES_IN_LINE) = ap (is_free (tables_of st.found)) same in
              absurd (cc)
          | inr left ↦ rest_is_out st.found copy.granule (word_of_field st.at n i / WORDS_IN_LINE) is.can.holds.rest.rest left.0 left.1 copy.line_is
        ]
  ]

  -- so it wasn't handed out since
  pub reuse_stays : (n : Name) (i : ℕ) → IsTrue (has m.unreclaimed n) → i < length (refs_of (object_at m.state.graph n))
      → (tables_of s).reuse (word_of_field st.at n i / WORDS_IN_LINE) ≡ (tables_of st.found).reuse (word_of_field st.at n i / WORDS_IN_LINE)
  reuse_stays n i member within =
      is.lines.reuse (word_of_field st.at n i / WORDS_IN_LINE)
      ∙ uncounted ((tables_of s).outs (word_of_field st.at n i / WORDS_IN_LINE)) ((tables_of st.found).outs (word_of_field st.at n i / WORDS_IN_LINE)) _ _ (was_out n i member within)

  -- ---- what an entry tells

  -- the set hasn't overflowed since
  pub still_whole : ¬ HasOverflowed st.found.limits (tables_of st.found) → ¬ HasOverflowed s.limits (tables_of s)
  still_whole whole over =
      whole (subst (λ (l : Limits). l.remember < (tables_of st.found).cursors REMEMBERED_CURSOR) (same_limits s m st is)
      (subst (λ f. s.limits.remember < f REMEMBERED_CURSOR) (same_cursors s m st is) over))

  -- each entry is one of a reference of the heap
  pub entry_word : (number w : ℕ) → number < (tables_of s).cursors REMEMBERED_CURSOR → number < s.limits.remember → w ≡ (tables_of s).remembered number
      → (c : ℕ) × (p : Place) × (i : ℕ) × IsEntryWord s.limits w c p i
  entry_word number w low room read =
      let limits = same_limits s m st is in
      let x = is.can.remembers.entries number (subst (λ f. number < f REMEMBERED_CURSOR) (same_cursors s m st is) low) (subst (λ (l : Limits). number < l.remember) limits room) in
      let there : w ≡ (tables_of st.found).remembered number = read ∙ ap (λ f. f number) (same_remembered s m st is) in
      (x.0, x.1, x.2, subst (λ z. IsEntryWord s.limits z x.0 x.1 x.2) (sym there) (subst (λ (l : Limits). IsEntryWord l ((tables_of st.found).remembered number) x.0 x.1 x.2) (sym limits) x.3))

  -- so its place is one of the heap
  pub entry_place : (w c : ℕ) (p : Place) (i : ℕ) (parts : ℕ × Place × ℕ) → IsEntryWord s.limits w c p i → parts ≡ (kept_counter s.limits.blocks c, p, i) → (1 ≤ parts.1.0) × (parts.1.0 - 1 < GRANULES_IN_BLOCK * s.limits.blocks)
  entry_place w c p i parts entry e =
      let first = entry.entry.place.0 in
      let heap = entry.in_heap in
      subst (λ (x : ℕ × Place × ℕ). (1 ≤ x.1.0) × (x.1.0 - 1 < GRANULES_IN_BLOCK * s.limits.blocks)) (sym e) (first, omega (arith, first, heap))

  -- where an object begins at a place, an unreclaimed object stands or stood there
  pub begun_there : (p : ℕ) → 1 ≤ p → IsTrue ((tables_of s).starts (p - 1)) → (n : Name) × HoldsMember m st p (Some n)
  begun_there p some start =
      let x = is.bits.starts_only (p - 1) start in
      let place : IsPlaceOf st.at st.now x.0 x.1 = elim x.3 [ inl e ↦ inr e | inr old ↦ inl old.0 ] in
      let first = (place_some s m st is x.0 x.1 x.2 place).0 in
      let granule = x.4 in
      let same : x.1 ≡ p = omega (arith, some, first, granule) in
      (x.0, record { either = either_held st.at st.now p x.0 (subst (λ z. IsPlaceOf st.at st.now x.0 z) same place); member = λ v e. let one : x.0 ≡ v = cc in subst (λ z. IsTrue (has m.unreclaimed z)) one x.2 })

  -- so it is at an entry's place
  pub entry_holder : (number w : ℕ) (parts : ℕ × Place × ℕ) → number < (tables_of s).cursors REMEMBERED_CURSOR → number < s.limits.remember → w ≡ (tables_of s).remembered number
      → ((counter : ℕ) (place : Place) (index : ℕ) → IsEntry s.limits.blocks counter place index → w ≡ word_of_entry s.limits.blocks counter place index → parts ≡ (kept_counter s.limits.blocks counter, place, index)) → IsTrue ((tables_of s).starts (parts.1.0 - 1))
      → (n : Name) × HoldsMember m st parts.1.0 (Some n)
  entry_holder number w parts low room read told start =
      let x = entry_word number w low room read in
      begun_there parts.1.0 (entry_place w x.0 x.1 x.2 parts x.3 (told x.0 x.1 x.2 x.3.entry x.3.is)).0 start

  -- the holder is what stands now where it does
  pub holder_of : (n : Name) (p now : ℕ) → HoldsMember m st p (Some n) → now ≡ place_word st.now (Some n) → IsHolder m st n now
  holder_of n p now holds e = record { member = holds.member n refl; stands = e }

-- ---- the entry of a reference

-- the entry of a number is that of a reference, with the counter that the reference's line has now
pub record TellsField (s : Space) (m : Moment) (st : EvacuationStage) (number : ℕ) (n : Name) (i : ℕ) : Type 0 where
  pub member : IsTrue (has m.unreclaimed n)
  pub within : i < length (refs_of (object_at m.state.graph n))
  pub entry : (tables_of s).remembered number ≡ word_of_entry s.limits.blocks ((tables_of s).reuse (word_of_field st.at n i / WORDS_IN_LINE)) (place_of st.at n) i

module _ (s : Space) (m : Moment) (st : EvacuationStage) (is : IsEvacuating s m st) (number : ℕ) (n : Name) (i : ℕ) (tells : TellsField s m st number n i) where
  pub field_entry : number < (tables_of s).cursors REMEMBERED_CURSOR → number < s.limits.remember → (w : ℕ) → w ≡ (tables_of s).remembered number
      → IsEntryWord s.limits w ((tables_of s).reuse (word_of_field st.at n i / WORDS_IN_LINE)) (place_of st.at n) i
  field_entry drawn room w read =
      let x = is.heap.stands n tells.member in
      let size : length (refs_of (object_at m.state.graph n)) ≡ length x.0.refs = ap (λ z. length (refs_of z)) x.1 in
      let few = x.2.whole.shape.0 in
      let low = tells.within in
      let h = place_some s m st is n (st.at n) tells.member (inl refl) in
      let inside = h.2 in
      record {
        is = read ∙ tells.entry;
        entry = record { heap = is.space.limits.blocks.1; counter = reuse_fits s.limits s.words (word_of_field st.at n i / WORDS_IN_LINE); place = (h.0, omega (arith, inside)); index = omega (arith, size, few, low) };
        in_heap = field_within s m st is n i (st.at n) tells.member tells.within (inl refl);
      }

  -- it is current
  pub field_current : number < (tables_of s).cursors REMEMBERED_CURSOR → number < s.limits.remember → (w : ℕ) (answer : Bool) → w ≡ (tables_of s).remembered number
      → ((counter : ℕ) (place : Place) (index : ℕ) → IsEntryWord s.limits w counter place index → (IsTrue answer ↔ (kept_counter s.limits.blocks counter ≡ kept_counter s.limits.blocks ((tables_of s).reuse (line_of_field place index))))) → IsTrue answer
  field_current drawn room w answer read told = (told _ _ _ (field_entry drawn room w read)).1 refl

  -- its parts
  pub field_parts : number < (tables_of s).cursors REMEMBERED_CURSOR → number < s.limits.remember → (w : ℕ) (parts : ℕ × Place × ℕ) → w ≡ (tables_of s).remembered number → ((counter : ℕ) (place : Place) (index : ℕ) → IsEntry s.limits.blocks counter place index → w ≡ word_of_entry s.limits.blocks counter place index → parts ≡ (kept_counter s.limits.blocks counter, place, index))
      → (parts.1.0 ≡ st.at n) × (parts.2 ≡ i)
  field_parts drawn room w parts read told =
      let entry = field_entry drawn room w read in
      let e = told _ _ _ entry.entry entry.is in
      (ap (λ (x : ℕ × Place × ℕ). x.1.0) e, ap (λ (x : ℕ × Place × ℕ). x.2) e)

  -- the object stands or stood at its place
  pub field_holder : (p : ℕ) → p ≡ st.at n → HoldsMember m st p (Some n)
  field_holder p e = record { either = inr e; member = λ v e. let one : n ≡ v = cc in subst (λ z. IsTrue (has m.unreclaimed z)) one tells.member }

  -- and begins there, as long as nothing is cleared
  pub field_begun : (p : ℕ) → p ≡ st.at n → st.cleared ≡ 0 → IsTrue ((tables_of s).starts (p - 1))
  field_begun p e uncleared = subst (λ z. IsTrue ((tables_of s).starts (z - 1))) (sym e) (is.bits.starts n (st.at n) tells.member (inr (refl, omega (arith, uncleared))))

-- ---- one entry more

-- two spaces at one stage have the same entries, and the same counters
same_outs : (a b : Space) (m : Moment) (st : EvacuationStage) → IsEvacuating a m st → IsEvacuating b m st → (line : ℕ) → (tables_of b).outs line ≡ (tables_of a).outs line
same_outs a b m st before after line =
    told ((tables_of b).outs line) ((tables_of a).outs line) (λ out. (before.lines.outs line).1 ((after.lines.outs line).0 out)) (λ out. (after.lines.outs line).1 ((before.lines.outs line).0 out))
  where
    told : (x y : Bool) → (IsTrue x → IsTrue y) → (IsTrue y → IsTrue x) → x ≡ y
    told true y to from = sym (to refl)
    told false true to from = absurd (let no : false ≡ true = from refl in cc)
    told false false to from = refl

same_reuse : (a b : Space) (m : Moment) (st : EvacuationStage) → IsEvacuating a m st → IsEvacuating b m st → (line : ℕ) → (tables_of b).reuse line ≡ (tables_of a).reuse line
same_reuse a b m st before after line =
    after.lines.reuse line
    ∙ ap (λ out. if out && not ((tables_of st.found).outs line) then (((tables_of st.found).reuse line + 1) % 2 ^ 32) else (tables_of st.found).reuse line) (same_outs a b m st before after line)
    ∙ sym (before.lines.reuse line)

pub one_entry_more : (a b : Space) (m : Moment) (st : EvacuationStage) (number : ℕ) → HasFixedEntries a m st number → IsEvacuating b m st → KeepsFixed a b m st
    → ((n : Name) (i : ℕ) → TellsField a m st number n i → IsFixed (tables_of b) m st n i) → HasFixedEntries b m st (number + 1)
one_entry_more a b m st number before evacuating keeps here = record {
  evacuating = evacuating;
  uncleared = before.uncleared;
  fixed = λ n i member within remembered.
      let k : ℕ = remembered.0 in
      let low = remembered.1 in
      let entries : (tables_of b).remembered k ≡ (tables_of a).remembered k = ap (λ f. f k) (same_remembered b m st evacuating) ∙ sym (ap (λ f. f k) (same_remembered a m st before.evacuating)) in
      let counter = same_reuse a b m st before.evacuating evacuating (word_of_field st.at n i / WORDS_IN_LINE) in
      let limits : b.limits ≡ a.limits = same_limits b m st evacuating ∙ sym (same_limits a m st before.evacuating) in
      let there : (tables_of a).remembered k ≡ word_of_entry a.limits.blocks ((tables_of a).reuse (word_of_field st.at n i / WORDS_IN_LINE)) (place_of st.at n) i =
      sym entries ∙ remembered.2 ∙ (λ j. word_of_entry (limits j).blocks (counter j) (place_of st.at n) i) in
      elim (leb_tells number k) [
        | inl h ↦
            let high = h.1 in
            let same : k ≡ number = omega (arith, low, high) in
            here n i (record { member = member; within = within; entry = ap (tables_of a).remembered (sym same) ∙ there })
        | inr h ↦ keeps n i (before.fixed n i member within (k, h.1, there))
      ];
}

-- ---- all entries

-- where each entry of the set was looked at, all references are fixed: what leads to no moved object was so from the start
pub all_entries_fixed : (s : Space) (m : Moment) (st : EvacuationStage) (count : ℕ) → HasFixedEntries s m st count → ¬ HasOverflowed st.found.limits (tables_of st.found) → (tables_of s).cursors REMEMBERED_CURSOR ≤ count
    → AreFixed (tables_of s) m st
all_entries_fixed s m st count has_fixed whole all n i member within =
    let is = has_fixed.evacuating in
    let w : ℕ = (tables_of s).heap (word_of_field st.now n i) in
    let held : Option Name = slice_index_or (refs_of (object_at m.state.graph n)) i None in
    elim (eqb_tells w (place_word st.now held)) [
      | inl e ↦ record { member = member; within = within; holds = e.1 }
      | inr other ↦
          let x = either_moved m st w held (field_holds s m st is n i member within) other.1 in
          let got : slice_get (refs_of (object_at m.state.graph n)) i ≡ Some (Some x.0) = slice_get-get_or (refs_of (object_at m.state.graph n)) i None within ∙ ap Some x.1 in
          elim (is.can.remembers.fields n x.0 i member got (is.apart.moved x.0 x.2).1) [
            | inl remembered ↦
                let k : ℕ = remembered.0 in
                let low : k < (tables_of s).cursors REMEMBERED_CURSOR = subst (λ f. k < f REMEMBERED_CURSOR) (sym (same_cursors s m st is)) remembered.1 in
                has_fixed.fixed n i member within (
                  k,
                  omega (arith, low, all),
                  (
                      ap (λ f. f k) (same_remembered s m st is) ∙ remembered.3
                      ∙ (λ j. word_of_entry (sym (same_limits s m st is) j).blocks (sym (reuse_stays s m st is n i member within) j) (place_of st.at n) i)
                      ),
                )
            | inr over ↦ absurd (whole over)
          ]
    ]

-- ---- numbers of entries

module _ (a b : Space) (m : Moment) (st : EvacuationStage) (number count : ℕ) (can : CanFix a m st) (is : IsEvacuating b m st) (count_is : count ≡ (tables_of a).cursors REMEMBERED_CURSOR) where
  count_now : count ≡ (tables_of b).cursors REMEMBERED_CURSOR
  count_now = count_is ∙ ap (λ f. f REMEMBERED_CURSOR) (same_cursors a m st can.evacuating ∙ sym (same_cursors b m st is))

  -- a number below the count of entries is one of an entry that the set has
  pub number_below : number < count → (number < (tables_of b).cursors REMEMBERED_CURSOR) × (number < b.limits.remember)
  number_below low =
      let now = count_now in
      let some : number < (tables_of b).cursors REMEMBERED_CURSOR = omega (arith, low, now) in (
        some,
        elim (leb_tells b.limits.remember number) [
          | inl h ↦ let high = h.1 in absurd (still_whole b m st is can.whole (omega (arith, high, some)))
          | inr h ↦ h.1
        ],
      )

  pub number_end : count ≤ number → (tables_of b).cursors REMEMBERED_CURSOR ≤ number
  number_end high = let now = count_now in omega (arith, high, now)
