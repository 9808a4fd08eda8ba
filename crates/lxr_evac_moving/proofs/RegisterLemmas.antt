-- Registers hold either place of what they are to hold; one after another gets the place where that stands now.
use Rattle.std.proofs.Common.{◌≡◌, ◌≢◌, ℕ, suc, ◌+◌, ◌≤◌, refl, sym, ap, subst, ◌∙◌, inl, inr, ◌⊎◌, arith, List, [], ◌∷◌, length}
use Rattle.std.specs.Prelude.{IsTrue, None, Option, Some, slice_get, slice_set, slice_index_or}
use Rattle.std.proofs.Math.ListN.{length-set}
use Rattle.std.proofs.lemmas.Bool.Decides.{eqb_tells}
use Rattle.std.proofs.lemmas.Option.{get_or_from_slice_get, slice_get-get_or, slice_get_within}
use Rattle.lxr_layout.specs.declared.Name.{Name}
use Rattle.lxr_layout.specs.declared.Place.{Place}
use Rattle.lxr_layout.specs.Registers.{AreNil, held_at, nil}
use Rattle.lxr_image.proofs.PassedLemmas.{nil_there, passed_over}
use Rattle.lxr_image.proofs.SpaceLemmas.{space_alike}
use Rattle.lxr_graph.proofs.RowLemmas.{set_cases}
use Rattle.lxr_image.specs.declared.space.Space.{Space}
use Rattle.lxr_image.specs.Spaces.{tables_of}
use Rattle.lxr_image.specs.Image.{ArePlacesOf, place_word}
use Rattle.lxr_model.specs.Moments.{Moment}
use Rattle.lxr_model.specs.Reachable.{held as held_by}
use Rattle.lxr_pause_promote.specs.Either.{HoldEither, HoldsEither, IsPlaceOf}
use Rattle.lxr_evac_moving.specs.Stages.{EvacuationStage, HasHeap, IsEvacuating, with_changed_tables, with_changes}
use Rattle.lxr_graph.specs.Names.{has}
use Rattle.lxr_evac_moving.specs.declared.registers.Registers.{Registers}
use Rattle.lxr_evac_moving.specs.declared.registers.Registers.TheVariants.{AtLastPause, Now}
use Rattle.lxr_evac_moving.specs.Steps.{HoldNow, HoldsMember, held_names, held_places, with_places}
use Rattle.lxr_evac_moving.proofs.FrameLemmas.{bits_same, evacuating_with, heap_same, lines_same}
use Rattle.lxr_evac_moving.proofs.StageLemmas.{place_some}
use Rattle.lxr_evac_moving.proofs.StandingLemmas.{held_unreclaimed}

-- ---- lists of places

module _ (st : EvacuationStage) (places : List Place) (held : List (Option Name)) (is : HoldEither st.at st.now places held) (k : ℕ) (p : Place) (place_is : slice_get places k ≡ Some p) where
  pub held_there : slice_get held k ≡ Some (slice_index_or held k None)
  held_there = let low = slice_get_within places k p place_is in let many = is.as_many in slice_get-get_or held k None (omega (arith, low, many))

  pub either_there : HoldsEither st.at st.now p.0 (slice_index_or held k None)
  either_there = is.each k p (slice_index_or held k None) place_is held_there

  -- what is written there is where that stands now
  pub either_set : (q : Place) → q.0 ≡ place_word st.now (slice_index_or held k None) → HoldEither st.at st.now (slice_set places k q) held
  either_set q now = record {
    as_many = length-set places k q ∙ is.as_many;
    each = λ j x r place_at held_is. elim (set_cases places k q j x (slice_get_within places k p place_is) place_at) [
      | inl c ↦
          let same : Some (slice_index_or held k None) ≡ Some r = sym held_there ∙ ap (slice_get held) (sym c.0) ∙ held_is in
          let one : slice_index_or held k None ≡ r = cc in
          inl (ap (λ y. y.0) (sym c.1) ∙ now ∙ ap (place_word st.now) one)
      | inr c ↦ is.each j x r c.1 held_is
    ];
  }

  -- then one more holds that
  pub now_set : (q : Place) → q.0 ≡ place_word st.now (slice_index_or held k None) → HoldNow st places held k → HoldNow st (slice_set places k q) held (k + 1)
  now_set q now before = record {
    first = λ j x r below place_at held_is. elim (set_cases places k q j x (slice_get_within places k p place_is) place_at) [
      | inl c ↦
          let same : Some (slice_index_or held k None) ≡ Some r = sym held_there ∙ ap (slice_get held) (sym c.0) ∙ held_is in
          let one : slice_index_or held k None ≡ r = cc in
          ap (λ y. y.0) (sym c.1) ∙ now ∙ ap (place_word st.now) one
      | inr c ↦ let other = c.0 in before.first j x r (omega (arith, other, below)) c.1 held_is
    ];
  }

  -- so it does where that is there already
  pub now_kept : p.0 ≡ place_word st.now (slice_index_or held k None) → HoldNow st places held k → HoldNow st places held (k + 1)
  now_kept now before = record {
    first = λ j x r below place_at held_is. elim (eqb_tells j k) [
      | inl c ↦
          let here : Some p ≡ Some x = sym place_is ∙ ap (slice_get places) (sym c.1) ∙ place_at in
          let there : Some (slice_index_or held k None) ≡ Some r = sym held_there ∙ ap (slice_get held) (sym c.1) ∙ held_is in
          let same : p ≡ x = cc in
          let one : slice_index_or held k None ≡ r = cc in
          ap (λ y. y.0) (sym same) ∙ now ∙ ap (place_word st.now) one
      | inr c ↦ let other = c.1 in before.first j x r (omega (arith, other, below)) place_at held_is
    ];
  }

-- places that each are where what is held stands now
places_now : (now : Name → ℕ) (places : List Place) (held : List (Option Name)) → length places ≡ length held
    → ((k : ℕ) (p : Place) (r : Option Name) → slice_get places k ≡ Some p → slice_get held k ≡ Some r → p.0 ≡ place_word now r) → ArePlacesOf now places held
places_now now [] [] many each = refl
places_now now [] (r ∷ held) many each = absurd (omega (arith, many))
places_now now (p ∷ places) [] many each = absurd (omega (arith, many))
places_now now (p ∷ places) (r ∷ held) many each =
    let here : p.0 ≡ place_word now r = each 0 p r refl refl in
    let rest = places_now now places held (omega (arith, many)) (λ k q x. each (suc k) q x) in
    λ i. here i ∷ rest i

pub all_now : (st : EvacuationStage) (places : List Place) (held : List (Option Name)) (count : ℕ) → HoldEither st.at st.now places held → HoldNow st places held count → length held ≤ count → ArePlacesOf st.now places held
all_now st places held count either is all =
    places_now st.now places held either.as_many (λ k p r place_is held_is. let low = slice_get_within held k r held_is in is.first k p r (omega (arith, low, all)) place_is held_is)

-- ---- a stage

-- nothing but registers has changed
pub record KeepsWords (a b : Space) : Type 0 where
  pub limits : b.limits ≡ a.limits
  pub tables : tables_of b ≡ tables_of a
  pub rest_next : b.rest_next ≡ a.rest_next
  pub rest_end : b.rest_end ≡ a.rest_end
  pub changes : b ≡ with_changes a b

pub evacuating_held : (a b : Space) (m : Moment) (st : EvacuationStage) → IsEvacuating a m st → KeepsWords a b → HoldEither st.at st.now b.registers.items m.state.registers
    → HoldEither st.at st.now b.deferred.items m.last.registers → IsEvacuating b m st
evacuating_held a b m st is keeps registers deferred =
    evacuating_with a b m st st.cleared is (subst (λ t. t ≡ with_changed_tables (tables_of a) t) (sym keeps.tables) refl) keeps.changes (record {
      space = space_alike a b keeps.limits (ap (λ t. t.size) keeps.tables) is.space;
      heap = subst (λ l. HasHeap (tables_of b) l.blocks m st) (sym keeps.limits) (heap_same (tables_of a) (tables_of b) a.limits.blocks m st st.cleared (ap (λ t. t.heap) keeps.tables) is.heap);
      bits = bits_same (tables_of a) (tables_of b) m st (ap (λ t. t.starts) keeps.tables) (ap (λ t. t.marks) keeps.tables) (ap (λ t. t.grays) keeps.tables) (ap (λ t. t.counts) keeps.tables) (ap (λ t. t.unlogged) keeps.tables) is.bits;
      lines = lines_same a b m st (record {
        limits = keeps.limits;
        outs = ap (λ t. t.outs) keeps.tables;
        reuse = ap (λ t. t.reuse) keeps.tables;
        states = ap (λ t. t.states) keeps.tables;
        rest_next = keeps.rest_next;
        rest_end = keeps.rest_end;
      }) (ap (λ t. t.counts) keeps.tables) is.lines;
      registers = registers;
      deferred = deferred;
    })

-- ---- registers, now or at the last pause

-- a register is set
pub registers_keep : (a b : Space) (registers : Registers) (places : List Place) → b ≡ with_places registers a places → KeepsWords a b
registers_keep a b Now places e = record {
  limits = ap (λ (s : Space). s.limits) e;
  tables = ap tables_of e;
  rest_next = ap (λ (s : Space). s.rest_next) e;
  rest_end = ap (λ (s : Space). s.rest_end) e;
  changes = e ∙ ap (λ s. with_changes a s) (sym e);
}
registers_keep a b AtLastPause places e = record {
  limits = ap (λ (s : Space). s.limits) e;
  tables = ap tables_of e;
  rest_next = ap (λ (s : Space). s.rest_next) e;
  rest_end = ap (λ (s : Space). s.rest_end) e;
  changes = e ∙ ap (λ s. with_changes a s) (sym e);
}

pub held_either : (s : Space) (m : Moment) (st : EvacuationStage) (registers : Registers) → IsEvacuating s m st → HoldEither st.at st.now (held_places registers s) (held_names registers m)
held_either s m st Now is = is.registers
held_either s m st AtLastPause is = is.deferred

-- at two spaces of a stage there are as many registers
pub as_many_held : (s now : Space) (m : Moment) (st : EvacuationStage) (registers : Registers) → IsEvacuating s m st → IsEvacuating now m st → length (held_places registers now) ≡ length (held_places registers s)
as_many_held s now m st registers is then_is = (held_either now m st registers then_is).as_many ∙ sym (held_either s m st registers is).as_many

held_member : (s : Space) (m : Moment) (st : EvacuationStage) (registers : Registers) (n : Name) → IsEvacuating s m st → ((k : ℕ) × (slice_get (held_names registers m) k ≡ Some (Some n))) → IsTrue (has m.unreclaimed n)
held_member s m st Now n is held = held_unreclaimed s m st is n held
held_member s m st AtLastPause n is held = is.can.holds.follows.kept n (held_by held)

pub register_member : (s : Space) (m : Moment) (st : EvacuationStage) (registers : Registers) (k : ℕ) (p : Place) → IsEvacuating s m st → slice_get (held_places registers s) k ≡ Some p
    → HoldsMember m st p.0 (slice_index_or (held_names registers m) k None)
register_member s m st registers k p is place_is =
    let either = held_either s m st registers is in
    record {
      either = either_there st (held_places registers s) (held_names registers m) either k p place_is;
      member = λ n e. held_member s m st registers n is (k, held_there st (held_places registers s) (held_names registers m) either k p place_is ∙ ap Some e);
    }

-- a register holds something, or nil, which is what it is to hold
something_or_now : (s : Space) (m : Moment) (st : EvacuationStage) (p : ℕ) (r : Option Name) → IsEvacuating s m st → HoldsMember m st p r → (1 ≤ p) ⊎ (p ≡ place_word st.now r)
something_or_now s m st p None is holds = elim holds.either [ inl e ↦ inr e | inr e ↦ inr e ]
something_or_now s m st p (Some n) is holds = inl (place_some s m st is n p (holds.member n refl) (elim holds.either as (λ z. IsPlaceOf st.at st.now n p) [ inl e ↦ inr e | inr e ↦ inl e ])).0

-- so one that is to hold another place holds something
pub register_some : (s : Space) (m : Moment) (st : EvacuationStage) (registers : Registers) (k q : ℕ) (p : Place) → IsEvacuating s m st → slice_get (held_places registers s) k ≡ Some p
    → q ≡ place_word st.now (slice_index_or (held_names registers m) k None) → q ≢ p.0 → held_at (held_places registers s) k ≢ nil
register_some s m st registers k q p is place_is now differ none = elim (something_or_now s m st p.0 (slice_index_or (held_names registers m) k None) is (register_member s m st registers k p is place_is)) [
  | inl some ↦ let zero_place : p.0 ≡ 0 = ap (λ z. z.0) (sym (get_or_from_slice_get (held_places registers s) k p nil place_is) ∙ none) in absurd (omega (arith, some, zero_place))
  | inr same ↦ absurd (differ (now ∙ sym same))
]

-- and registers that are nil hold what they are to hold
pub registers_passed : (s : Space) (m : Moment) (st : EvacuationStage) (registers : Registers) (from to : ℕ) → IsEvacuating s m st → from ≤ to → to ≤ length (held_places registers s) → AreNil (held_places registers s) from to
    → HoldNow st (held_places registers s) (held_names registers m) from → HoldNow st (held_places registers s) (held_names registers m) to
registers_passed s m st registers from to is low end are = passed_over (HoldNow st (held_places registers s) (held_names registers m)) from to low (λ k above below before.
    let there = nil_there (held_places registers s) from to k are end above below in
    now_kept st (held_places registers s) (held_names registers m) (held_either s m st registers is) k nil there
    (elim (something_or_now s m st 0 (slice_index_or (held_names registers m) k None) is (register_member s m st registers k nil is there)) [ inl some ↦ absurd (omega (arith, some)) | inr same ↦ same ]) before)

-- both lists of registers hold either place where the one that was written does
evacuating_set : (a b : Space) (m : Moment) (st : EvacuationStage) (registers : Registers) (places : List Place) → IsEvacuating a m st → b ≡ with_places registers a places
    → HoldEither st.at st.now places (held_names registers m) → IsEvacuating b m st
evacuating_set a b m st Now places is e either = evacuating_held a b m st is (registers_keep a b Now places e)
    (subst (λ (s : Space). HoldEither st.at st.now s.registers.items m.state.registers) (sym e) either) (subst (λ (s : Space). HoldEither st.at st.now s.deferred.items m.last.registers) (sym e) is.deferred)
evacuating_set a b m st AtLastPause places is e either = evacuating_held a b m st is (registers_keep a b AtLastPause places e)
    (subst (λ (s : Space). HoldEither st.at st.now s.registers.items m.state.registers) (sym e) is.registers) (subst (λ (s : Space). HoldEither st.at st.now s.deferred.items m.last.registers) (sym e) either)

pub places_set : (registers : Registers) (a : Space) (places : List Place) → held_places registers (with_places registers a places) ≡ places
places_set Now a places = refl
places_set AtLastPause a places = refl

pub places_twice : (registers : Registers) (a : Space) (places others : List Place) → with_places registers (with_places registers a places) others ≡ with_places registers a others
places_twice Now a places others = refl
places_twice AtLastPause a places others = refl

pub places_same : (registers : Registers) (a : Space) → a ≡ with_places registers a (held_places registers a)
places_same Now a = refl
places_same AtLastPause a = refl

pub register_set : (a b : Space) (m : Moment) (st : EvacuationStage) (registers : Registers) (k : ℕ) (p q : Place) → IsEvacuating a m st → slice_get (held_places registers a) k ≡ Some p
    → q.0 ≡ place_word st.now (slice_index_or (held_names registers m) k None) → b ≡ with_places registers a (slice_set (held_places registers a) k q) → HoldNow st (held_places registers a) (held_names registers m) k
    → IsEvacuating b m st × HoldNow st (held_places registers b) (held_names registers m) (k + 1)
register_set a b m st registers k p q is place_is now e before =
    let either = held_either a m st registers is in
    let set : List Place = slice_set (held_places registers a) k q in
    let items : held_places registers b ≡ set = ap (held_places registers) e ∙ places_set registers a set in (
      evacuating_set a b m st registers set is e (either_set st (held_places registers a) (held_names registers m) either k p place_is q now),
      subst (λ xs. HoldNow st xs (held_names registers m) (k + 1)) (sym items) (now_set st (held_places registers a) (held_names registers m) either k p place_is q now before),
    )
