-- An object is placed beside the members of a state: it has room, blocks keep to the states of their lines, and lines of members are
-- handed out no more often.
use Rattle.std.proofs.Common.{◌≡◌, ℕ, ◌+◌, ◌-◌, ◌/◌, ◌%◌, ◌^◌, ◌<◌, ◌≤◌, refl, sym, ap, subst, ◌∙◌, inl, inr, ◌⊎◌, arith, Bool, cond, true, false}
use Rattle.std.specs.Prelude.{◌&&◌, IsTrue, not}
use Rattle.std.proofs.lemmas.Bool.Decides.{leb_tells}
use Rattle.lxr_layout.specs.declared.TheConstants.{GRANULES_IN_LINE}
use Rattle.lxr_layout.specs.declared.Name.{Name}
use Rattle.lxr_layout.specs.declared.Place.{Place}
use Rattle.lxr_layout.specs.declared.Shape.{Shape}
use Rattle.lxr_layout.specs.Objects.{FitsShape}
use Rattle.lxr_graph.specs.State.{Object}
use Rattle.lxr_graph.specs.Names.{has}
use Rattle.lxr_image.specs.declared.space.Space.{Space}
use Rattle.lxr_image.specs.Spaces.{tables_of}
use Rattle.lxr_image.specs.Reads.{granule_of}
use Rattle.lxr_image.specs.Image.{granules_of}
use Rattle.lxr_image.specs.ImageLaws.{IsRoom}
use Rattle.lxr_blocks.specs.Lines.{is_free}
use Rattle.lxr_blocks.specs.Kept.{IsAmong, IsPlacedBeside, KeepsGranules}
use Rattle.lxr_blocks.specs.Placing.{IsPlaced, IsRest, granule_count}
use Rattle.lxr_blocks.proofs.BesideLemmas.{placed_beside}
use Rattle.lxr_invariant.specs.AbstractState.{AbstractState, members}
use Rattle.lxr_invariant.specs.Lines.{Covers, HasStates}
use Rattle.lxr_invariant.specs.Quiescent.{IsAtRest}
use Rattle.lxr_placing.proofs.StateLemmas.{handed_states}

-- ---- granules in a row

-- an object has a granule
some_granules : (o : Object) → 1 ≤ granules_of o
some_granules o = omega arith

some_granule : (s : Shape) → 1 ≤ granule_count s
some_granule s = omega arith

-- so many in a row from a on and so many from b on that share none lie one behind the other
lie_apart : (a c b e : ℕ) → 1 ≤ c → 1 ≤ e → ((k : ℕ) → a ≤ k → k < a + c → b ≤ k → k < b + e → ⊥) → (a + c ≤ b) ⊎ (b + e ≤ a)
lie_apart a c b e some any none = elim (leb_tells (a + c) b) [
  | inl h ↦ inl h.1
  | inr h ↦ elim (leb_tells (b + e) a) [
    | inl k ↦ inr k.1
    | inr k ↦
        let low = h.1 in let high = k.1 in
        absurd (elim (leb_tells a b) [
          | inl m ↦ let begins = m.1 in none b begins low (omega arith) (omega (arith, any))
          | inr m ↦ let begins = m.1 in none a (omega arith) (omega (arith, some)) (omega (arith, begins)) high
        ])
  ]
]

-- ---- beside the members

-- a member of the state has a granule
abbrev pub IsTakenIn : AbstractState → ℕ → Type 0
IsTakenIn g k = (n : Name) × (o : Object) × IsTrue (has (members g.moment) n) × Covers g.moment.state.graph g.at n o k

-- at rest these granules are kept
members_kept : (s : Space) (g : AbstractState) → IsAtRest s g → KeepsGranules s (IsTakenIn g)
members_kept s g is = record {
  lines = λ k taken. is.lines taken.0 taken.1 k taken.2 taken.3;
  rest = λ k taken. is.safepoint.holds.rest.apart taken.0 taken.1 k taken.2 taken.3;
}

-- so an object is placed beside them
pub placed_apart : (before after : Space) (g : AbstractState) (n : Name) (s : Shape) (p : Place) → IsAtRest before g → FitsShape s → IsPlaced before after n s p → IsPlacedBeside before after (IsTakenIn g) n s p
placed_apart before after g n s p is fits placed = placed_beside before after (IsTakenIn g) n s p is.safepoint.holds.rest.rest fits (members_kept before g is) placed

module _ (before after : Space) (g : AbstractState) (n : Name) (s : Shape) (p : Place) (placed : IsPlacedBeside before after (IsTakenIn g) n s p) where
  -- it has room there
  pub has_room : IsRoom before.limits.blocks g.at g.moment.state.graph (members g.moment) p.0 s
  has_room = record {
    placed = placed.placed;
    in_heap = placed.in_heap;
    in_block = placed.in_block;
    free = λ m a member there.
        lie_apart (granule_of (g.at m)) (granules_of a) (granule_of p.0) (granule_count s) (some_granules a) (some_granule s)
        (λ k low high from below. placed.apart k (m, a, member, record { object = there; first = low; behind = high }) (from, below));
  }

  -- granules that it was placed on are free or of a line that is out
  onto_free : IsRest before → (k : ℕ) → IsAmong (granule_of p.0) (granule_count s) k → IsTrue (is_free (tables_of before) (k / GRANULES_IN_LINE)) ⊎ IsTrue ((tables_of before).outs (k / GRANULES_IN_LINE))
  onto_free rest k among = elim (placed.onto k among) [
    | inl free ↦ inl free
    | inr left ↦ elim rest [
      | inl none ↦ let from = left.0 in let below = left.1 in absurd (omega (arith, none))
      | inr has ↦
          let line = has.in_line in
          let from = left.0 in let below = left.1 in
          inr (subst (λ l. IsTrue ((tables_of before).outs l)) (same_line before.rest_next before.rest_end k line from below) has.out)
    ]
  ]
    where
      same_line : (a b k : ℕ) → a / GRANULES_IN_LINE ≡ (b - 1) / GRANULES_IN_LINE → a ≤ k → k < b → a / GRANULES_IN_LINE ≡ k / GRANULES_IN_LINE
      same_line a b k line low high = omega arith

  -- a line that isn't free is handed out no more often
  pub counter_stays : IsRest before → (line : ℕ) → is_free (tables_of before) line ≡ false → (tables_of after).reuse line ≡ (tables_of before).reuse line
  counter_stays rest line taken = placed.reuse line ∙ unless ((tables_of after).outs line) ((tables_of before).outs line) was
    where
      unless : (now then : Bool) → (IsTrue now → IsTrue then) → cond (now && not then) (((tables_of before).reuse line + 1) % 2 ^ 32) ((tables_of before).reuse line) ≡ (tables_of before).reuse line
      unless false then h = refl
      unless true true h = refl
      unless true false h = absurd (let no : false ≡ true = h refl in cc)

      was : IsTrue ((tables_of after).outs line) → IsTrue ((tables_of before).outs line)
      was out = elim ((placed.outs line).0 out) [
        | inl there ↦ there
        | inr own ↦ elim (onto_free rest own.0 own.1) [
          | inl free ↦ absurd (let no : true ≡ false = sym free ∙ ap (is_free (tables_of before)) own.2 ∙ taken in cc)
          | inr out ↦ subst (λ l. IsTrue ((tables_of before).outs l)) own.2 out
        ]
      ]

-- each block keeps to the state of its lines
pub placed_states : (before after : Space) (n : Name) (s : Shape) (p : Place) → IsPlaced before after n s p → HasStates (tables_of before) before.limits.blocks → HasStates (tables_of after) before.limits.blocks
placed_states before after n s p (inl q) is = subst (λ t. HasStates t before.limits.blocks) (sym q.changes.tables) is
placed_states before after n s p (inr (r, q)) is = subst (λ t. HasStates t before.limits.blocks) (sym q.changes.tables) (handed_states (tables_of before) r before.limits.blocks q.run.run.run.within is)
