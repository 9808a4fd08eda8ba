-- At a trace's end each reference of a marked object that leads into a Chosen block is remembered: by tracers where the object was marked, and else as
-- the trace was finished. What was left to mark belongs to the snapshot, or has no references.
use Rattle.std.proofs.Common.{◌≡◌, ℕ, ◌/◌, ◌<◌, ◌≤◌, refl, sym, ap, ◌∙◌, inl, inr, ◌⊎◌, arith, Bool, true, false, cond, List, [], ◌∷◌, ◌++◌, IsTrue, length, nat_eq}
use Rattle.std.specs.Prelude.{Some, filter, slice_get}
use Rattle.std.proofs.lemmas.Bool.{and_from}
use Rattle.std.proofs.lemmas.List.Elements.{filter-append}
use Rattle.std.proofs.lemmas.List.Sums.{sum_by-append, sum_by-cons}
use Rattle.std.proofs.lemmas.Map.Views.{any-filter_same}
use Rattle.std.proofs.lemmas.Option.{slice_get_within}
use Rattle.lxr_layout.specs.declared.Name.{Name}
use Rattle.lxr_layout.specs.declared.TheConstants.{GRANULES_IN_BLOCK, REMEMBERED_CURSOR}
use Rattle.lxr_graph.specs.Names.{IsSetOf, has, same_name}
use Rattle.lxr_graph.specs.State.{Graph, object_at, refs_of}
use Rattle.lxr_graph.proofs.NameSets.{not_both, one_set, same_names}
use Rattle.lxr_image.specs.declared.space.Space.{Space}
use Rattle.lxr_image.specs.Tables.{Tables}
use Rattle.lxr_image.specs.Spaces.{tables_of}
use Rattle.lxr_image.specs.Reads.{granule_of}
use Rattle.lxr_blocks.specs.States.{state_in}
use Rattle.lxr_model.specs.Moments.{Moment, Trace, rememberable}
use Rattle.lxr_model.specs.Reachable.{Reachable}
use Rattle.lxr_model.specs.References.{reference_slots}
use Rattle.lxr_model_counting.specs.Distinct.{has_field}
use Rattle.lxr_model_counting.proofs.DistinctLemmas.{tested}
use Rattle.lxr_invariant.specs.AbstractState.{AbstractState}
use Rattle.lxr_invariant.specs.Settled.{IsSettled}
use Rattle.lxr_invariant.specs.Standing.{word_of_field}
use Rattle.lxr_invariant.specs.Tracing.{gray as left_gray, referred as left_referred, HasOverflowed, IsInChosen, IsMarked, IsRemembered, IsToBeMarked, IsUnmarked, TraceHolds, is_unscanned}
use Rattle.lxr_invariant.proofs.NameLemmas.{in_first, in_second}
use Rattle.lxr_invariant.proofs.ScanLemmas.{slots, slots_within}
use Rattle.lxr_pause_trace.specs.Tracing.{FinishesTrace, HasAllToBeMarked}
use Rattle.lxr_pause_trace_laws.specs.Laws.{EndRemembers, RemembersMarked}
use Rattle.lxr_pause_trace_laws.proofs.EndLemmas.{left_inside, left_stands}

-- ---- objects without references

-- whether a name's object has no references
abbrev pub is_bare : Graph → Name → Bool
is_bare g n = nat_eq (slots g n) 0

-- such objects have none together
one_bare : (g : Graph) (n : Name) (ns : List Name) (b : Bool) → is_bare g n ≡ b → reference_slots g ns ≡ 0 → reference_slots g (cond b (n ∷ ns) ns) ≡ 0
one_bare g n ns true bare rest = let more = sum_by-cons (slots g) n ns in let none : slots g n ≡ 0 = grind (arith, bare) in omega (arith, rest, more, none)
one_bare g n ns false other rest = rest

bare_slots : (g : Graph) (ns : List Name) → reference_slots g (filter (is_bare g) ns) ≡ 0
bare_slots g [] = refl
bare_slots g (n ∷ ns) = one_bare g n (filter (is_bare g) ns) (is_bare g n) refl (bare_slots g ns)

-- so names behind others that have none count for nothing
slots_behind : (g : Graph) (p : Name → Bool) (ns ms : List Name) → reference_slots g ms ≡ 0 → reference_slots g (filter p (ns ++ ms)) ≡ reference_slots g (filter p ns)
slots_behind g p ns ms none =
    let both = ap (reference_slots g) (filter-append p ns ms) ∙ sum_by-append (slots g) (filter p ns) (filter p ms) in
    let less = slots_within g p ms in
    omega (arith, both, less, none)

module _ (before after : Space) (g : AbstractState) (trace : Trace) (settled : IsSettled g.moment) (is : TraceHolds before.limits (tables_of before) [] g trace)
    (finishes : FinishesTrace before after g.moment g.at) where
  abbrev m : Moment
  m = g.moment

  abbrev at : Name → ℕ
  at = g.at

  abbrev t : Tables
  t = tables_of before

  abbrev u : Tables
  u = tables_of after

  -- ---- references

  unwritten : (n : Name) (i : ℕ) → has_field m.written (n, i) ≡ false
  unwritten n i = ap (λ ws. has_field ws (n, i)) settled.none_written

  was_unlogged : (n : Name) (i : ℕ) → IsTrue (has m.unreclaimed n) → i < length (refs_of (object_at m.state.graph n)) → IsTrue (t.unlogged (word_of_field at n i))
  was_unlogged n i h within =
      sym (ap (λ z. z.unlogged (word_of_field at n i)) finishes.tables)
      ∙ (finishes.holds.bits.unlogged (word_of_field at n i)).1 (n, i, record { member = h; index = within; unwritten = unwritten n i; word = refl })

  was_chosen : (v : Name) → IsInChosen u at v → IsInChosen t at v
  was_chosen v chosen = sym (ap (λ z. state_in z (granule_of (at v) / GRANULES_IN_BLOCK)) finishes.tables) ∙ chosen

  -- what was remembered is
  kept : (n v : Name) (i : ℕ) → IsTrue (has m.unreclaimed n) → slice_get (refs_of (object_at m.state.graph n)) i ≡ Some (Some v) → IsRemembered before.limits t at n i ⊎ HasOverflowed before.limits t
      → IsRemembered before.limits u at n i ⊎ HasOverflowed before.limits u
  kept n v i h e (inl there) = inl (finishes.remembers.kept n i (Some v) h e there)
  kept n v i h e (inr full) = inr (finishes.remembers.full full)

  fields : (n v : Name) (i : ℕ) → IsTrue (has m.unreclaimed n) → IsMarked u at n → slice_get (refs_of (object_at m.state.graph n)) i ≡ Some (Some v) → IsInChosen u at v
      → IsRemembered before.limits u at n i ⊎ HasOverflowed before.limits u
  fields n v i h marked e chosen = elim ((finishes.marks n h).0 marked) [
    | inl was ↦ kept n v i h e (is.remembered.fields n v i h (inl was) e (was_unlogged n i h (slice_get_within (refs_of (object_at m.state.graph n)) i (Some v) e)) (was_chosen v chosen))
    | inr waits ↦ finishes.remembers.fields n v i waits e chosen
  ]

  -- ---- no more were remembered than may be

  -- the snapshot, and what has no references
  abbrev names : List Name
  names = is.snapshot ++ filter (is_bare m.last.graph) m.unreclaimed

  in_bare : (n : Name) → IsTrue (has m.unreclaimed n) → slots m.last.graph n ≡ 0 → IsTrue (has (filter (is_bare m.last.graph) m.unreclaimed) n)
  in_bare n h none =
      let bare : is_bare m.last.graph n ≡ true = grind (arith, none) in
      any-filter_same (same_name n) (is_bare m.last.graph) (is_bare m.last.graph n) (λ k e. ap (is_bare m.last.graph) (sym (same_names n k e))) m.unreclaimed
      ∙ and_from (is_bare m.last.graph n) (has m.unreclaimed n) bare h

  left_unmarked : (n : Name) → IsToBeMarked t m at n → IsUnmarked t at n
  left_unmarked n (left_gray _ member unmarked gray) = unmarked
  left_unmarked n (left_referred x _ waits f unmarked) = unmarked

  -- garbage whose object wasn't there as the trace began has no references
  bare_garbage : (n : Name) → IsTrue (has trace.unreclaimed n) → has is.snapshot n ≡ false → slots trace.state.graph n ≡ 0 → slots m.last.graph n ≡ 0
  bare_garbage n old other none =
      let stays = is.inside.garbage n (record { member = old; unreachable = λ r. not_both (has is.snapshot n) ((is.reachable.members n).1 r) other }) in
      ap (λ s. slots s.graph n) settled.same ∙ ap length stays.references ∙ none

  all_to_be_marked : HasAllToBeMarked t m at names
  all_to_be_marked n waits =
      let h = left_stands before after m at settled finishes n waits in
      elim (left_inside before after g trace settled is finishes n waits) [
        | inl reached ↦ in_first is.snapshot (filter (is_bare m.last.graph) m.unreclaimed) n ((is.reachable.members n).1 reached)
        | inr younger ↦ elim (is.inside.members n h) [
          | inr marked ↦ not_both (t.marks (granule_of (at n))) marked.1 (left_unmarked n waits)
          | inl old ↦ elim (tested (has is.snapshot n)) [
            | inl k ↦ in_first is.snapshot (filter (is_bare m.last.graph) m.unreclaimed) n k
            | inr other ↦ in_second is.snapshot (filter (is_bare m.last.graph) m.unreclaimed) n (in_bare n h (bare_garbage n old other (ap (λ z. length (refs_of z)) younger.0)))
          ]
        ]
      ]

  few : u.cursors REMEMBERED_CURSOR ≤ rememberable trace is.snapshot
  few =
      let none = bare_slots m.last.graph m.unreclaimed in
      let now = slots_behind m.last.graph (is_unscanned u m at) is.snapshot (filter (is_bare m.last.graph) m.unreclaimed) none in
      let was = slots_behind m.last.graph (is_unscanned t m at) is.snapshot (filter (is_bare m.last.graph) m.unreclaimed) none in
      let finished = finishes.bound names all_to_be_marked in
      let bound = is.remembered.bound in
      omega (arith, now, was, finished, bound)

  overflows : (snapshot : List Name) → IsSetOf snapshot (Reachable trace.state) → HasOverflowed before.limits u → before.limits.remember < rememberable trace snapshot
  overflows snapshot reachable full =
      let same = ap (rememberable trace) (one_set is.reachable reachable) in
      let most = few in
      omega (arith, same, most, full)

  all_remembered : RemembersMarked before.limits u m at trace
  all_remembered = record { fields = fields; entries = finishes.remembers.entries is.remembered.entries; overflows = overflows }

pub end_remembered : EndRemembers
end_remembered before after g trace settled runs is finishes = all_remembered before after g trace settled is finishes
