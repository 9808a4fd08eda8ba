-- Drawn memory is left by helpers: of tables, who owns a granule reads the cursors of what is drawn alone.
use Rattle.std.proofs.Common.{◌≡◌, ℕ, ◌<◌, ◌≤◌, sym, subst, ◌∙◌, inl, inr, arith, List}
use Rattle.lxr_layout.specs.declared.TheConstants.{FREE_BLOCK_CURSOR, RUN_CURSOR}
use Rattle.lxr_layout.specs.declared.Name.{Name}
use Rattle.lxr_graph.specs.State.{Object}
use Rattle.lxr_image.specs.Tables.{Tables}
use Rattle.lxr_core_access.specs.Decrementers.{Decrementing}
use Rattle.lxr_core_access.specs.Tracers.{Tracing}
use Rattle.lxr_core_invariant.specs.EpochStates.{Beginning, EpochState}
use Rattle.lxr_core_invariant.specs.Decremented.{LeavesTables}
use Rattle.lxr_core_invariant.specs.Drawn.{InHand, InMaking, InSpan, IsUsed, OfMember, Owner, Owns, UndrawnBlock, UndrawnRun, WasServed}
use Rattle.lxr_core_invariant.specs.Laws.{DrawnMemoryIsLeft}

module _ (b : Beginning) (s : EpochState) (u : Tables) (ds : List Decrementing) (ts : List Tracing) (leaves : LeavesTables s.tables u) where
  -- what there is afterwards
  abbrev after : EpochState
  after = record s { tables = u; decrementers = ds; tracers = ts }

  -- the cursors of what is drawn stay
  runs_stay : u.cursors RUN_CURSOR ≡ s.tables.cursors RUN_CURSOR
  runs_stay = leaves.cursors RUN_CURSOR (λ e. absurd (omega arith)) (λ e. absurd (omega arith))

  blocks_stay : u.cursors FREE_BLOCK_CURSOR ≡ s.tables.cursors FREE_BLOCK_CURSOR
  blocks_stay = leaves.cursors FREE_BLOCK_CURSOR (λ e. absurd (omega arith)) (λ e. absurd (omega arith))

  -- who owns a granule owned it
  owned_before : (x : Owner) (g : ℕ) → Owns b after x g → Owns b s x g
  owned_before (UndrawnRun k) g owns = (subst (λ c. c ≤ k) runs_stay owns.0, owns.1)
  owned_before (UndrawnBlock k) g owns = (subst (λ c. c ≤ k) blocks_stay owns.0, owns.1)
  owned_before (InHand i) g owns = owns
  owned_before (InSpan i from) g owns = owns
  owned_before (InMaking i) g owns = owns
  owned_before (OfMember n) g owns = record { member = owns.member; object = owns.object; covers = owns.covers }

  -- what was made lies where it did
  lies_still : (n : Name) (o : Object) → WasServed b s n o → WasServed b after n o
  lies_still n o served = record { stood = served.stood; out = served.out }

  -- a drawn block is used as it was
  used_still : (k : ℕ) → IsUsed b s k → IsUsed b after k
  used_still k (inl hand) = inl hand
  used_still k (inr (inl making)) = inr (inl making)
  used_still k (inr (inr made)) = inr (inr (record { name = made.name; made = made.made; granule = made.granule }))

-- memory stays one maker's
pub drawn_memory_is_left : DrawnMemoryIsLeft
drawn_memory_is_left b s u ds ts is leaves =
    let drawn = is.drawn in
    record {
      drawers = drawn.drawers;
      numbers = record { runs = drawn.numbers.runs ∙ sym (runs_stay b s u ds ts leaves); blocks = drawn.numbers.blocks ∙ sym (blocks_stay b s u ds ts leaves) };
      one = λ g x y has_x has_y. drawn.one g x y (owned_before b s u ds ts leaves x g has_x) (owned_before b s u ds ts leaves y g has_y);
      hands = drawn.hands;
      spans = drawn.spans;
      makes = drawn.makes;
      made = λ n o made there. elim (drawn.made n o made there) [ inl served ↦ inl (lies_still b s u ds ts leaves n o served) | inr lies ↦ inr lies ];
      used = λ k below listed. used_still b s u ds ts leaves k (drawn.used k (subst (λ c. k < c) (blocks_stay b s u ds ts leaves) below) listed);
    }
