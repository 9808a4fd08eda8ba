-- Where counting is done and nothing waits, the count that stands at an object's place is that of its references.
use Rattle.std.proofs.Common.{◌≡◌, ℕ, refl, ap, ◌∙◌, arith, Bool, true, false, List, [], ◌∷◌, map, IsTrue}
use Rattle.std.specs.Prelude.{Some, None, if◌then◌else◌}
use Rattle.std.proofs.lemmas.Bool.{lt-ltb, or_left, or_right}
use Rattle.lxr_layout.specs.declared.Name.{Name}
use Rattle.lxr_layout.specs.declared.TheConstants.{DECREMENT_CURSOR, STUCK}
use Rattle.lxr_graph.specs.Names.{has, same_name}
use Rattle.lxr_graph.proofs.NameSets.{same_itself}
use Rattle.lxr_image.specs.declared.space.Space.{Space}
use Rattle.lxr_image.specs.Spaces.{tables_of}
use Rattle.lxr_image.specs.Tables.{Tables}
use Rattle.lxr_model.specs.Moments.{Moment}
use Rattle.lxr_model.specs.References.{references}
use Rattle.lxr_model.specs.Reports.{count_entry}
use Rattle.lxr_invariant.specs.Counting.{count_at, entries_between, undone, waiting_at}
use Rattle.lxr_invariant.proofs.FrameLemmas.{none_undone}
use Rattle.lxr_pause_queue.specs.Counting.{CanCount}
use Rattle.lxr_pause_queue.specs.Entries.{count_told, standing_entry}

module _ (s : Space) (m : Moment) (at : Name → ℕ) (can : CanCount s m at) where
  abbrev tables : Tables
  tables = tables_of s

  none_waits : (p : ℕ) → waiting_at tables p ≡ 0
  none_waits p = ap (λ k. entries_between tables.decs (tables.cursors DECREMENT_CURSOR) k p) can.empty

  counted : (n : Name) → IsTrue (has m.unreclaimed n) → has m.stuck n ≡ false → count_at tables at n ≡ references m.state m.unreclaimed n
  counted n h free =
      let exact = can.holds.counts.exact n h free in
      let waits = none_waits (at n) in
      let names : references m.last (undone tables at m.unreclaimed) n ≡ references m.state m.unreclaimed n =
      ap (λ us. references m.last us n) (none_undone tables at m.unreclaimed can.undecremented.none_done) ∙ ap (λ z. references z m.unreclaimed n) can.settled.same in
      omega (arith, exact, waits, names)

  count_is : (n : Name) → IsTrue (has m.unreclaimed n) → (b : Bool) → has m.stuck n ≡ b → count_told (count_at tables at n) ≡ (if b then None else Some (references m.state m.unreclaimed n))
  count_is n h true stuck = ap count_told (can.holds.counts.stuck n h stuck)
  count_is n h false free =
      ap (λ b. if b then Some (count_at tables at n) else None) (lt-ltb (count_at tables at n) STUCK (can.holds.counts.below n h free))
      ∙ ap Some (counted n h free)

  -- so each unreclaimed object's entry is that of the report
  entries_of : (ns : List Name) → ((x : Name) → IsTrue (has ns x) → IsTrue (has m.unreclaimed x)) → map (standing_entry tables at) ns ≡ map (count_entry m.state m.unreclaimed m.stuck) ns
  entries_of [] among = refl
  entries_of (n ∷ ns) among = λ i.
      record { name = n; count = count_is n (among n (or_left (same_name n n) (has ns n) (same_itself n))) (has m.stuck n) refl i }
      ∷ entries_of ns (λ x h. among x (or_right (same_name x n) (has ns x) h)) i

  pub entries_counted : map (standing_entry tables at) m.unreclaimed ≡ map (count_entry m.state m.unreclaimed m.stuck) m.unreclaimed
  entries_counted = entries_of m.unreclaimed (λ x h. h)
