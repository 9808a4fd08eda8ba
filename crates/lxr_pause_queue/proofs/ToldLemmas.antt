-- What is told is the entry of each unreclaimed name, once.
use Rattle.std.proofs.Common.{◌≡◌, ℕ, zero, suc, ◌*◌, ◌<◌, refl, sym, ap, subst, ◌∙◌, inl, inr, arith, Bool, true, false, List, [], ◌∷◌, ◌++◌, map, IsTrue}
use Rattle.std.specs.Prelude.{slice_index_or}
use Rattle.std.specs.List.{All, AllByRecursion}
use Rattle.std.specs.List.Sorted.{IsPermutation}
use Rattle.std.proofs.lemmas.Bool.{false_from_ne_true, or_cases, or_left, or_right}
use Rattle.std.proofs.lemmas.Bool.Decides.{leb_tells}
use Rattle.std.proofs.lemmas.List.{map-append}
use Rattle.std.proofs.lemmas.List.Elements.{All-from_recursion, recursion_from_All}
use Rattle.std.proofs.lemmas.List.Sorted.{All-permutation, IsPermutation-map}
use Rattle.lxr_base.specs.Roomy.{Roomy}
use Rattle.lxr_layout.specs.declared.Header.TheVariants.{Object}
use Rattle.lxr_layout.specs.declared.Name.{Name}
use Rattle.lxr_layout.specs.declared.TheConstants.{GRANULES_IN_BLOCK}
use Rattle.lxr_layout.specs.Objects.{header_of}
use Rattle.lxr_graph.specs.declared.report.Count.{Count}
use Rattle.lxr_graph.specs.Distinct.{IsDistinct}
use Rattle.lxr_graph.specs.Names.{AreInOrder, has, same_name}
use Rattle.lxr_graph.specs.State.{shape_of}
use Rattle.lxr_graph.proofs.NameLemmas.{same_members}
use Rattle.lxr_graph.proofs.NameSets.{one_list, same_itself, same_names}
use Rattle.lxr_image.specs.declared.space.Space.{Space}
use Rattle.lxr_image.specs.Reads.{granule_of}
use Rattle.lxr_image.specs.Spaces.{tables_of}
use Rattle.lxr_image.specs.Tables.{Tables}
use Rattle.lxr_image.proofs.ReadLemmas.{header_unpacked}
use Rattle.lxr_image.proofs.TableLaws.{no_start_past}
use Rattle.lxr_model.specs.Moments.{Moment}
use Rattle.lxr_model.specs.Reports.{count_entry}
use Rattle.lxr_invariant.specs.Counting.{count_at}
use Rattle.lxr_invariant.specs.Quiescent.{HoldsMoment}
use Rattle.lxr_invariant.proofs.NameLemmas.{distinct_more, has_more, in_first, no_member}
use Rattle.lxr_pause_queue.specs.Counting.{CanCount, ListsCounts}
use Rattle.lxr_pause_queue.specs.Entries.{count_told, entries_below, entry_at, entry_in, standing_entry, with_told}
use Rattle.lxr_pause_queue.proofs.CountedLemmas.{entries_counted}
use Rattle.lxr_pause_queue.proofs.EntryLemmas.{entries_joined, entries_stay, none_below}

-- the name of an entry
abbrev pub name_of : Count → Name
name_of entry = entry.name

module _ (s : Space) (m : Moment) (at : Name → ℕ) (holds : HoldsMoment s m at) where
  abbrev tables : Tables
  tables = tables_of s

  -- the entry of a name
  abbrev entry : Name → Count
  entry = standing_entry tables at

  -- ---- one object

  -- at its place a name's entry is told
  told_of : (n : Name) → IsTrue (has m.unreclaimed n) → entry_at tables (granule_of (at n)) ≡ entry n ∷ []
  told_of n h =
      let stands = holds.image.image.stands n (in_first m.unreclaimed m.made n h) in
      let whole = stands.2.whole in
      let header : header_of (tables.heap (2 * granule_of (at n))) ≡ Object n (shape_of stands.0) = ap header_of whole.header ∙ header_unpacked n (shape_of stands.0) whole.name whole.shape in
      ap (entry_in (count_at tables at n)) header

  one_place : (x n : Name) → IsTrue (has m.unreclaimed x) → IsTrue (has m.unreclaimed n) → granule_of (at x) ≡ granule_of (at n) → x ≡ n
  one_place x n hx hn same =
      let told : entry x ∷ [] ≡ entry n ∷ [] = sym (told_of x hx) ∙ ap (entry_at tables) same ∙ told_of n hn in
      ap (λ es. name_of (slice_index_or es 0 (entry x))) told

  -- ---- all objects

  -- what is told of the objects below a granule is the entries of these names, each once
  record AreTold (k : ℕ) (ns : List Name) : Type 0 where
    told : entries_below tables k ≡ map entry ns
    distinct : IsDistinct ns
    only : (x : Name) → IsTrue (has ns x) → IsTrue (has m.unreclaimed x) × (granule_of (at x) < k)
    each : (x : Name) → IsTrue (has m.unreclaimed x) → granule_of (at x) < k → IsTrue (has ns x)

  told_first : AreTold 0 []
  told_first = record {
    told = none_below tables;
    distinct = tt;
    only = λ x h. no_member x h;
    each = λ x h below. absurd (omega (arith, below));
  }

  told_stay : (k : ℕ) (ns : List Name) → AreTold k ns → tables.starts k ≡ false → AreTold (suc k) ns
  told_stay k ns is none = record {
    told = entries_stay tables k none ∙ is.told;
    distinct = is.distinct;
    only = λ x h. let was = is.only x h in (was.0, let below = was.1 in omega (arith, below));
    each = λ x h below. elim (leb_tells k (granule_of (at x))) [
      | inr c ↦ is.each x h c.1
      | inl c ↦
          let here : granule_of (at x) ≡ k = omega (arith, below, c.1) in
          let begins : IsTrue (tables.starts k) = subst (λ g. IsTrue (tables.starts g)) here (holds.bits.starts.each x h) in
          absurd (cc (begins, none))
    ];
  }

  told_more : (k : ℕ) (ns : List Name) (n : Name) → AreTold k ns → IsTrue (tables.starts k) → IsTrue (has m.unreclaimed n) → granule_of (at n) ≡ k → AreTold (suc k) (ns ++ n ∷ [])
  told_more k ns n is begins hn here =
      let here_told : entry_at tables k ≡ entry n ∷ [] = ap (entry_at tables) (sym here) ∙ told_of n hn in
      record {
        told = entries_joined tables k begins ∙ (λ i. is.told i ++ here_told i) ∙ sym (map-append entry ns (n ∷ []));
        distinct = distinct_more ns n is.distinct (false_from_ne_true (has ns n) (λ h. let below = (is.only n h).1 in absurd (omega (arith, below, here))));
        only = λ x h. elim (or_cases (has ns x) (same_name x n) (sym (has_more ns n x) ∙ h)) [
          | inl old ↦ let was = is.only x old in (was.0, let below = was.1 in omega (arith, below))
          | inr new ↦
              let same : x ≡ n = same_names x n new in
              subst (λ z. IsTrue (has m.unreclaimed z) × (granule_of (at z) < suc k)) (sym same) (hn, omega (arith, here))
        ];
        each = λ x h below. has_more ns n x ∙ elim (leb_tells k (granule_of (at x))) [
          | inr c ↦ or_left (has ns x) (same_name x n) (is.each x h c.1)
          | inl c ↦
              let there : granule_of (at x) ≡ granule_of (at n) = omega (arith, below, c.1, here) in
              or_right (has ns x) (same_name x n) (subst (λ z. IsTrue (same_name z n)) (sym (one_place x n h hn there)) (same_itself n))
        ];
      }

  -- the next granule
  told_next : (k : ℕ) (ns : List Name) → AreTold k ns → (b : Bool) → tables.starts k ≡ b → (more : List Name) × AreTold (suc k) more
  told_next k ns is false none = (ns, told_stay k ns is none)
  told_next k ns is true begins =
      let there = holds.bits.starts.only k begins in
      (ns ++ there.0 ∷ [], told_more k ns there.0 is begins there.1 there.2)

  told_below : (k : ℕ) → (ns : List Name) × AreTold k ns
  told_below zero = ([], told_first)
  told_below (suc k) = let before = told_below k in told_next k before.0 before.1 (tables.starts k) refl

  -- ---- in the order of names

  -- all granules of the heap
  abbrev end : ℕ
  end = GRANULES_IN_BLOCK * s.limits.blocks

  names_of_entries : (ns : List Name) → map name_of (map entry ns) ≡ ns
  names_of_entries [] = refl
  names_of_entries (n ∷ ns) = ap (λ z. n ∷ z) (names_of_entries ns)

  -- a count is the entry of its name
  abbrev IsEntry : Count → Type 0
  IsEntry e = e ≡ entry (name_of e)

  are_entries : (ns : List Name) → AllByRecursion IsEntry (map entry ns)
  are_entries [] = tt
  are_entries (n ∷ ns) = (refl, are_entries ns)

  entries_of_names : (es : List Count) → AllByRecursion IsEntry es → es ≡ map entry (map name_of es)
  entries_of_names [] all = refl
  entries_of_names (e ∷ es) all = λ i. all.0 i ∷ entries_of_names es all.1 i

  pub told_once : IsDistinct (map name_of (entries_below tables end))
  told_once =
      let all = told_below end in
      subst IsDistinct (sym (ap (map name_of) all.1.told ∙ names_of_entries all.0)) all.1.distinct

  -- an unreclaimed object begins in the heap
  begins_within : (n : Name) → IsTrue (has m.unreclaimed n) → granule_of (at n) < end
  begins_within n h = elim (leb_tells end (granule_of (at n))) [
    | inr c ↦ c.1
    | inl c ↦
        let past = no_start_past s.limits s.words (granule_of (at n)) holds.space.size c.1 in
        let begins = holds.bits.starts.each n h in
        absurd (cc (past, begins))
  ]

  names_are : (fs : List Count) → IsPermutation (entries_below tables end) fs → AreInOrder (map name_of fs) → map name_of fs ≡ m.unreclaimed
  names_are fs moved order =
      let all = told_below end in
      let has_all : (q : Name) → has (map name_of fs) q ≡ has all.0 q = λ q.
      same_members (map name_of (entries_below tables end)) (map name_of fs) (IsPermutation-map name_of (entries_below tables end) fs moved) q
      ∙ ap (λ z. has z q) (ap (map name_of) all.1.told ∙ names_of_entries all.0) in
      one_list (map name_of fs) m.unreclaimed order holds.follows.unreclaimed
      (λ q. ((λ h. (all.1.only q (sym (has_all q) ∙ h)).0), (λ h. has_all q ∙ all.1.each q h (begins_within q h))))

  entries_are : (fs : List Count) → IsPermutation (entries_below tables end) fs → AreInOrder (map name_of fs) → fs ≡ map entry m.unreclaimed
  entries_are fs moved order =
      let all = told_below end in
      let told : All IsEntry (entries_below tables end) = subst (All IsEntry) (sym all.1.told) (All-from_recursion IsEntry (map entry all.0) (are_entries all.0)) in
      entries_of_names fs (recursion_from_All IsEntry fs (All-permutation IsEntry (entries_below tables end) fs moved told)) ∙ ap (map entry) (names_are fs moved order)

  pub tells_counts : (fs : List Count) (after : Space) → IsPermutation (entries_below tables end) fs → AreInOrder (map name_of fs) → after ≡ with_told s fs → ListsCounts s after m at
  tells_counts fs after moved order is =
      let items : after.report.told.items ≡ fs = ap (λ (z : Space). z.report.told.items) is in
      record {
        names = ap (map name_of) items ∙ names_are fs moved order;
        entries = items ∙ entries_are fs moved order;
        counts = λ can. items ∙ entries_are fs moved order ∙ entries_counted s m at can;
        space = is ∙ ap (with_told s) (sym items);
      }

-- the space whose list of counts was cleared, filled and sorted
pub sorted_space : (s mid : Space) (cleared : Roomy Count) (es : List Count) (sorted : Roomy Count) → cleared.room ≡ s.report.told.room
    → mid ≡ with_told (record s { report = record s.report { told = cleared } }) es → sorted.room ≡ mid.report.told.room
    → record mid { report = record mid.report { told = sorted } } ≡ with_told s sorted.items
sorted_space s mid cleared es sorted before is room =
    ap (λ (z : Space). record z { report = record z.report { told = sorted } }) is
    ∙ ap (λ r. record s { report = record s.report { told = record { items = sorted.items; room = r } } }) (room ∙ ap (λ (z : Space). z.report.told.room) is ∙ before)

-- ---- counts for proofs alone

-- at whichever places the unreclaimed objects of a moment stand, their counts are the same
module _ (s : Space) (m k : Moment) (at to : Name → ℕ) (can : CanCount s m at) (may : CanCount s k to) where
  -- where an object stands at one of the moments, it stands at the other
  stands_too : (n : Name) → IsTrue (has m.unreclaimed n) → IsTrue (has k.unreclaimed n) × (granule_of (to n) ≡ granule_of (at n))
  stands_too n h =
      let there = may.holds.bits.starts.only (granule_of (at n)) (can.holds.bits.starts.each n h) in
      let told : standing_entry (tables_of s) to there.0 ∷ [] ≡ standing_entry (tables_of s) at n ∷ [] =
      sym (told_of s k to may.holds there.0 there.1) ∙ ap (entry_at (tables_of s)) there.2 ∙ told_of s m at can.holds n h in
      let same : there.0 ≡ n = ap (λ es. name_of (slice_index_or es 0 (standing_entry (tables_of s) at n))) told in
      subst (λ z. IsTrue (has k.unreclaimed z) × (granule_of (to z) ≡ granule_of (at n))) same (there.1, there.2)

  -- with the same count
  placed : (ns : List Name) → ((x : Name) → IsTrue (has ns x) → IsTrue (has m.unreclaimed x)) → map (standing_entry (tables_of s) at) ns ≡ map (standing_entry (tables_of s) to) ns
  placed [] among = refl
  placed (n ∷ ns) among =
      let there : granule_of (to n) ≡ granule_of (at n) = (stands_too n (among n (or_left (same_name n n) (has ns n) (same_itself n)))).1 in
      λ i. record { name = n; count = count_told ((tables_of s).counts (sym there i)) } ∷ placed ns (λ x h. among x (or_right (same_name x n) (has ns x) h)) i

pub same_counts : (s : Space) (m k : Moment) (at to : Name → ℕ) → CanCount s m at → CanCount s k to
    → map (count_entry m.state m.unreclaimed m.stuck) m.unreclaimed ≡ map (count_entry k.state k.unreclaimed k.stuck) k.unreclaimed
same_counts s m k at to can may =
    let names : m.unreclaimed ≡ k.unreclaimed = one_list m.unreclaimed k.unreclaimed can.holds.follows.unreclaimed may.holds.follows.unreclaimed
    (λ q. ((λ h. (stands_too s m k at to can may q h).0), (λ h. (stands_too s k m to at may can q h).0))) in
    sym (entries_counted s m at can) ∙ placed s m k at to can may m.unreclaimed (λ x h. h) ∙ ap (map (standing_entry (tables_of s) to)) names ∙ entries_counted s k to may
