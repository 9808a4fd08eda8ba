-- What is looked at: how many names have moved and were kept once one more object of a Chosen block was looked at.
use Rattle.std.proofs.Common.{◌≡◌, ◌≢◌, ℕ, ◌+◌, ◌/◌, ◌<◌, ◌≤◌, refl, sym, ap, ◌∙◌, inl, inr, ◌⊎◌, arith, Bool, true, false, length, nat_eq}
use Rattle.std.specs.Prelude.{◌&&◌, nat_lt, not, IsTrue}
use Rattle.std.proofs.lemmas.Bool.Decides.{leb_tells, nat_tests}
use Rattle.lxr_layout.specs.declared.Name.{Name}
use Rattle.lxr_layout.specs.declared.TheConstants.{GRANULES_IN_BLOCK}
use Rattle.lxr_graph.specs.Distinct.{IsDistinct}
use Rattle.lxr_graph.specs.Names.{has, same_name}
use Rattle.lxr_graph.proofs.NameSets.{same_itself, same_names}
use Rattle.lxr_image.specs.Tables.{Tables}
use Rattle.lxr_image.specs.Spaces.{tables_of}
use Rattle.lxr_image.specs.Reads.{granule_of}
use Rattle.lxr_blocks.specs.States.{state_in}
use Rattle.lxr_model.specs.Moments.{Moment}
use Rattle.lxr_model_counting.proofs.DistinctLemmas.{tested}
use Rattle.lxr_invariant.specs.Lines.{is_chosen}
use Rattle.lxr_evac_moving.specs.Stages.{EvacuationStage, is_kept, kept_names, moved_names, stood_chosen}
use Rattle.lxr_evac_moving.specs.Steps.{NoneBegins, begins_in_chosen}
use Rattle.lxr_evac_moving.proofs.FilterLemmas.{filter_one_more, filter_parts, filter_same, in_filter}

-- what tables tell of where objects stood: at each such place stands a start bit, and the Chosen blocks are those that were
pub record TellsStood (t : Tables) (m : Moment) (st : EvacuationStage) : Type 0 where
  pub starts : (n : Name) → IsTrue (has m.unreclaimed n) → IsTrue (t.starts (granule_of (st.at n)))
  pub chosen : (b : ℕ) → is_chosen (state_in t b) ≡ is_chosen (state_in (tables_of st.found) b)
  pub own : (n u : Name) → IsTrue (has m.unreclaimed n) → IsTrue (has m.unreclaimed u) → granule_of (st.at n) ≡ granule_of (st.at u) → n ≡ u
  pub distinct : IsDistinct m.unreclaimed

-- the stage once all below a granule is looked at, and objects stand at these places
abbrev pub looked_to : EvacuationStage → ℕ → (Name → ℕ) → EvacuationStage
looked_to st k now = record st { now = now; looked = k }

-- ---- tests

below_both : (g from k : ℕ) → from ≤ k → g < from → nat_lt g k ≡ nat_lt g from
below_both g from k past low = let a : nat_lt g k ≡ true = grind (arith, nat_tests) in let b : nat_lt g from ≡ true = grind (arith, nat_tests) in a ∙ sym b

past_both : (g from k : ℕ) → from ≤ k → k ≤ g → nat_lt g k ≡ nat_lt g from
past_both g from k past high = let a : nat_lt g k ≡ false = grind (arith, nat_tests) in let b : nat_lt g from ≡ false = grind (arith, nat_tests) in a ∙ sym b

-- what stood outside these blocks between two granules passes neither test, and all else as it did
kept_test : (chosen still : Bool) (g from k : ℕ) → from ≤ k → (from ≤ g → g < k → chosen ≡ false) → (chosen && (nat_lt g k && still)) ≡ (chosen && (nat_lt g from && still))
kept_test false still g from k past none = refl
kept_test true still g from k past none = elim (leb_tells from g) [
  | inl c ↦ elim (leb_tells k g) [
    | inl d ↦ ap (λ b. b && still) (past_both g from k past d.1)
    | inr d ↦ absurd (let e : true ≡ false = none c.1 d.1 in cc)
  ]
  | inr c ↦ ap (λ b. b && still) (below_both g from k past c.1)
]

not_begun : (chosen start : Bool) → IsTrue start → (chosen && start) ≡ false → chosen ≡ false
not_begun true start is none = absurd (cc)
not_begun false start is none = refl

pub all_three : (a b c : Bool) → IsTrue a → IsTrue b → IsTrue c → (a && (b && c)) ≡ true
all_three true true true x y z = refl
all_three true true false x y z = absurd (cc)
all_three true false c x y z = absurd (cc)
all_three false b c x y z = absurd (cc)

third_false : (a b : Bool) → (a && (b && false)) ≡ false
third_false true true = refl
third_false true false = refl
third_false false b = refl

pub second_false : (a b c : Bool) → b ≡ false → (a && (b && c)) ≡ false
second_false true b c e = ap (λ x. x && c) e
second_false false b c e = refl

module _ (t : Tables) (m : Moment) (st : EvacuationStage) (tells : TellsStood t m st) where
  -- what stood where none begins didn't stand in a Chosen block
  outside : (k : ℕ) → NoneBegins t st.looked k → (n : Name) → IsTrue (has m.unreclaimed n) → st.looked ≤ granule_of (st.at n) → granule_of (st.at n) < k → stood_chosen st n ≡ false
  outside k none n member above below =
      sym (tells.chosen (granule_of (st.at n) / GRANULES_IN_BLOCK))
      ∙ not_begun (is_chosen (state_in t (granule_of (st.at n) / GRANULES_IN_BLOCK))) (t.starts (granule_of (st.at n))) (tells.starts n member) (none (granule_of (st.at n)) above below)

  -- where no more objects begin, the same were kept
  pub kept_further : (k : ℕ) → st.looked ≤ k → NoneBegins t st.looked k → kept_names m (looked_to st k st.now) ≡ kept_names m st
  kept_further k past none = filter_same (is_kept st) (is_kept (looked_to st k st.now)) m.unreclaimed (λ n member.
      kept_test (stood_chosen st n) (nat_eq (st.now n) (st.at n)) (granule_of (st.at n)) st.looked k past (outside k none n member))

  module _ (k : ℕ) (x : Name) (now : Name → ℕ) (past : st.looked ≤ k) (none : NoneBegins t st.looked k) (begins : IsTrue (begins_in_chosen t k)) (member : IsTrue (has m.unreclaimed x))
      (there : granule_of (st.at x) ≡ k) (others : (n : Name) → same_name n x ≡ false → now n ≡ st.now n) where
    differs : (n : Name) → IsTrue (has m.unreclaimed n) → same_name n x ≡ false → granule_of (st.at n) ≢ k
    differs n in_n differ e =
        let same : n ≡ x = tells.own n x in_n member (e ∙ sym there) in
        let told : same_name n x ≡ true = ap (same_name n) (sym same) ∙ same_itself n in
        cc

    -- of others the test tells what it did
    others_kept : (n : Name) → IsTrue (has m.unreclaimed n) → same_name n x ≡ false → is_kept (looked_to st (k + 1) now) n ≡ is_kept st n
    others_kept n in_n differ =
        ap (λ p. stood_chosen st n && (nat_lt (granule_of (st.at n)) (k + 1) && nat_eq p (st.at n))) (others n differ)
        ∙ kept_test (stood_chosen st n) (nat_eq (st.now n) (st.at n)) (granule_of (st.at n)) st.looked (k + 1) (omega (arith, past)) (λ above below.
        let elsewhere = differs n in_n differ in
        outside k none n in_n above (omega (arith, below, elsewhere)))

    others_moved : (n : Name) → IsTrue (has m.unreclaimed n) → same_name n x ≡ false → not (nat_eq (now n) (st.at n)) ≡ not (nat_eq (st.now n) (st.at n))
    others_moved n in_n differ = ap (λ p. not (nat_eq p (st.at n))) (others n differ)

    -- what is kept then was, or is that object
    pub kept_split : (n : Name) → IsTrue (has (kept_names m (looked_to st (k + 1) now)) n) → (n ≡ x) ⊎ IsTrue (has (kept_names m st) n)
    kept_split n h =
        let parts = filter_parts (is_kept (looked_to st (k + 1) now)) m.unreclaimed n h in
        elim (tested (same_name n x)) [
          | inl same ↦ inl (same_names n x same)
          | inr differ ↦ inr (in_filter (is_kept st) m.unreclaimed n parts.0 (sym (others_kept n parts.0 differ) ∙ parts.1))
        ]

    was_unlooked : is_kept st x ≡ false
    was_unlooked = second_false (stood_chosen st x) (nat_lt (granule_of (st.at x)) st.looked) (nat_eq (st.now x) (st.at x)) (grind (arith, nat_tests))

    -- the object at the granule stays
    module _ (still : now x ≡ st.at x) (was : st.now x ≡ st.at x) where
      pub kept_one_more : length (kept_names m (looked_to st (k + 1) now)) ≡ length (kept_names m st) + 1
      kept_one_more = filter_one_more (is_kept st) (is_kept (looked_to st (k + 1) now)) m.unreclaimed x tells.distinct member was_unlooked (all_three (stood_chosen st x)
          (nat_lt (granule_of (st.at x)) (k + 1)) (nat_eq (now x) (st.at x)) stood (grind (arith, nat_tests)) (grind (arith, nat_tests))) others_kept
        where
          stood : IsTrue (stood_chosen st x)
          stood = sym (tells.chosen (granule_of (st.at x) / GRANULES_IN_BLOCK)) ∙ ap (λ g. is_chosen (state_in t (g / GRANULES_IN_BLOCK))) there ∙ begun_chosen (is_chosen (state_in t (k / GRANULES_IN_BLOCK))) (t.starts k) begins
            where
              begun_chosen : (chosen start : Bool) → IsTrue (chosen && start) → IsTrue chosen
              begun_chosen true start is = refl
              begun_chosen false start is = is

      pub moved_same : moved_names m (looked_to st (k + 1) now) ≡ moved_names m st
      moved_same = filter_same (λ n. not (nat_eq (st.now n) (st.at n))) (λ n. not (nat_eq (now n) (st.at n))) m.unreclaimed (λ n in_n. elim (tested (same_name n x)) [
        | inl same ↦ ap (λ p. not (nat_eq p (st.at n))) (let e = same_names n x same in ap now e ∙ still ∙ sym was ∙ ap st.now (sym e))
        | inr differ ↦ others_moved n in_n differ
      ])

    -- or it has moved
    module _ (moved : now x ≢ st.at x) (was : st.now x ≡ st.at x) where
      pub moved_one_more : length (moved_names m (looked_to st (k + 1) now)) ≡ length (moved_names m st) + 1
      moved_one_more = filter_one_more (λ n. not (nat_eq (st.now n) (st.at n))) (λ n. not (nat_eq (now n) (st.at n))) m.unreclaimed x tells.distinct member
          (let e : nat_eq (st.now x) (st.at x) ≡ true = grind (arith, nat_tests) in ap not e) (let e : nat_eq (now x) (st.at x) ≡ false = grind (arith, nat_tests) in ap not e) others_moved

      pub kept_same : kept_names m (looked_to st (k + 1) now) ≡ kept_names m st
      kept_same = filter_same (is_kept st) (is_kept (looked_to st (k + 1) now)) m.unreclaimed (λ n in_n. elim (tested (same_name n x)) [
        | inl same ↦ let e = same_names n x same in ap (is_kept (looked_to st (k + 1) now)) e ∙ is_no ∙ sym was_unlooked ∙ ap (is_kept st) (sym e)
        | inr differ ↦ others_kept n in_n differ
      ])
        where
          is_no : is_kept (looked_to st (k + 1) now) x ≡ false
          is_no = let e : nat_eq (now x) (st.at x) ≡ false = grind (arith, nat_tests) in
              ap (λ b. stood_chosen st x && (nat_lt (granule_of (st.at x)) (k + 1) && b)) e ∙ third_false (stood_chosen st x) (nat_lt (granule_of (st.at x)) (k + 1))
