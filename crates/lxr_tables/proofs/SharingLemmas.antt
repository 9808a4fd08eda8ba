-- What two full rows own is what threads share of a table and its first seat own, under a rule that holds: here only what is
-- owned, and no code. Assumes `Logic`.
use Rattle.atomic_table.proofs.Names.{◌≡◌, ℕ, ◌*◌, ◌^◌, ◌<◌, List, [], ◌∷◌, ◌++◌, length, sym, refl, ◌∙◌, subst, arith, Val, SProp, ent, ‵, ◌⊛◌, later, some, given, ◌$◌, ◌∵◌, !, qed, by, move, drop, fsplit, fsplit3, fjoin, fpick, feq_l, use0, use1, use2, await, pick, learn, split, RattleType, Ptr, block_ptr, u64, Tuple, Logic, sem, Ura, mem, u64-laws, u64-copy, copy_shared, u64-field, InBlock}
use base.Fml.{Fml}
use base.Logic.{sep, ex, guard}
use types.Kit.{Goal, Seq, Item, updating, now, show, check}
use mir.Val.{vstruct, vcons, vnil, of_list}
use denote.Param.{param}
use denote.Param.Laws.{of_field}
use Rattle.core.specs.Mem.Slots.{slots_items, slots_filled, slots_ptr, slots_len, slots_counts, IsFull}
use Rattle.core.specs.contracts.slots.Slots as slots
use Rattle.core.specs.contracts.mem.manually_drop.ManuallyDrop as kept
use Rattle.core.proofs.mem.Param.{El}
use Rattle.core.proofs.slots.Opens.{row_val, row_had}
use Rattle.atomic_table.specs.Table.{opening}
use Rattle.atomic_table.specs.Seated.{TableId, strip, mine, table_owns}
use Rattle.atomic_table.specs.contracts.shared.Shared as shared
use Rattle.atomic_table.specs.contracts.shared.Seat as seat
use Rattle.atomic_table.specs.declared.shared.TableRule.{Ghosts}
use Rattle.atomic_table.proofs.Fields.{HandData, Token, hand_of, hand_made, token_val, token_made, pair_of}
use Rattle.atomic_table.proofs.Dealing.{deals}
use Rattle.atomic_table.proofs.Raw.{to_strip}
use Rattle.lxr_tables.proofs.LayoutLemmas.{paired}

-- the type of a word, with its laws
abbrev pub words_el : El
words_el = record { row = u64; laws = of_field u64-field u64-laws refl (copy_shared u64-field u64-copy) }

-- the machine value of two rows in a tuple, in a `ManuallyDrop`
abbrev pub rows_val : ℕ → ℕ → ℕ → ℕ → ℕ → ℕ → Val
rows_val b o n c e m = vstruct (vcons (vstruct (vcons (row_val b o n) (vcons (row_val c e m) vnil))) vnil)

-- the type of the rows of words and of slots
abbrev pub Rows : RattleType → RattleType
Rows R = Tuple (slots.the_row u64 ∷ slots.the_row R ∷ [])

module _ (E : El) {M : Type 1} {𝓤 : Ura M} {𝓛 : Logic 𝓤} {K : Type 0} {Γ : List (Item 𝓤)} {G : Goal 𝓤 𝓛.H} where
  -- the rows give up what they own, and their machine value is learned
  pub rows_had : K → (x : (Rows (param 0 E.row)).Denot) (vs : List Val) → IsFull x.0 × IsFull x.1
      → ((b o c e : ℕ) → slots_ptr x.0 ≡ block_ptr b o → slots_ptr x.1 ≡ block_ptr c e → vs ≡ rows_val b o (slots_len x.0) c e (slots_len x.1) ∷ [] → slots_len x.0 < 2 ^ 64 → slots_len x.1 < 2 ^ 64
      → Seq K 𝓛 (‵ (strip u64 (block_ptr b o) (slots_items x.0)) ∷ ‵ (strip (param 0 E.row) (block_ptr c e) (slots_items x.1)) ∷ Γ) G)
      → Seq K 𝓛 (‵ ((kept.the_row (Rows (param 0 E.row))).own_val (record { value = x }) vs) ∷ Γ) G
  rows_had t x vs full k =
      let n₀ = slots_counts x.0 in let n₁ = slots_counts x.1 in
      fpick t (λ us. fsplit t $ feq_l t (λ outer. fsplit t $ fpick t (λ ts. fsplit t $ feq_l t (λ inner. fsplit3 t $
      -- [the words' row; the slots' row; nothing, twice]
      row_had words_el t x.0 ts.0 (λ b o at is fn fit. use1 𝓛 (‵ (strip u64 (block_ptr b o) (slots_items x.0)))
      (to_strip words_el 𝓛 b o (slots_items x.0) (slots_filled x.0) (sym n₀.1 ∙ n₀.0) (λ j lt. full.0 j (omega arith) (omega (arith, n₀.1))) (subst (λ (n : ℕ). n * 8 < 2 ^ 63) n₀.0 fit)) $
      move t (1 ∷ []) $ row_had E t x.1 ts.1.0 (λ c e at' is' fm fit'. use1 𝓛 (‵ (strip (param 0 E.row) (block_ptr c e) (slots_items x.1)))
      (to_strip E 𝓛 c e (slots_items x.1) (slots_filled x.1) (sym n₁.1 ∙ n₁.0) (λ j lt. full.1 j (omega arith) (omega (arith, n₁.1))) (subst (λ (n : ℕ). n * (mem (param 0 E.row)).size < 2 ^ 63) n₁.0 fit')) $
      move t (2 ∷ []) $ drop t $ move t (2 ∷ []) $ drop t $ move t (1 ∷ []) $
      k b o c e at at' (outer ∙ (λ i. vstruct (of_list (inner i ++ [])) ∷ []) ∙ (λ i. vstruct (vcons (vstruct (of_list (is i ++ (is' i ++ [])))) vnil) ∷ [])) fn fm))))))

module _ {M : Type 1} {𝓤 : Ura M} (𝓛 : Logic 𝓤) (R W X Y : RattleType) (g : Ghosts Y.Denot R.Denot W.Denot X.Denot) (key : X.Denot) (w p : Ptr) where
  abbrev SharedRow : RattleType
  SharedRow = shared.the_row R W X Y g

  abbrev SeatRow : RattleType
  SeatRow = seat.the_row R W

  -- the shared table of this name over the pointers of both rows
  abbrev pub Shared-at : TableId → SharedRow.Denot
  Shared-at z = record { words = w; slots = p; marker = record {}; table_id = z; key = key }

  -- its first seat
  abbrev pub Seat-at : TableId → SeatRow.Denot
  Seat-at z = record { marker = record {}; table_id = z; id = 0; me = (g.first key, []) }

  -- the two own what is theirs, and their machine value is the pointers alone
  abbrev pub Both : TableId → Fml
  Both z = (Tuple (SharedRow ∷ SeatRow ∷ [])).own_val (Shared-at z, Seat-at z) (pair_of (hand_of w p) token_val ∷ [])

  -- a table and a seat that are owned are a value of both types
  both_made : (z : TableId) → ent 𝓤 (sep 𝓤 (sem 𝓛 (table_owns R W.coded.code (g.holds key) w p z)) (sem 𝓛 (mine R W.coded.code z 0 (g.first key, [])))) (sem 𝓛 (Both z))
  both_made z = qed 𝓛 (‵ (table_owns R W.coded.code (g.holds key) w p z) ∷ ‵ (mine R W.coded.code z 0 (g.first key, [])) ∷ []) ∵
      use0 𝓛 (‵ ((HandData R W X Y g).own_val (w, (p, (tt, tt))) (hand_of w p ∷ []))) (hand_made R W X Y g 𝓛 w p) $ fjoin ! $ move ! (1 ∷ []) $ use0 𝓛 (‵ ((Token R W).own_val (tt, tt) (token_val ∷ []))) (token_made R W 𝓛) $ fjoin ! $ move ! (1 ∷ 0 ∷ []) $
      by ! (paired 𝓛 SharedRow SeatRow (Shared-at z) (Seat-at z) (hand_of w p) token_val)

  -- the same, with the counts of the rows
  abbrev pub Made : List ℕ → List R.Denot → TableId → SProp 𝓤
  Made ns xs z = guard 𝓤 ((z.words ≡ length ns) × (z.slots ≡ length xs)) (sem 𝓛 (Both z))

  -- full rows, of which the rule holds, are dealt as a table and a seat
  pub shares : (ns : List ℕ) (xs : List R.Denot) → (g.holds key) (opening ns xs (g.first key)) → ent 𝓤 (sep 𝓤 (sem 𝓛 (strip u64 w ns)) (sem 𝓛 (strip R p xs))) (𝓛.H.⇛ (ex 𝓤 (Made ns xs)))
  shares ns xs good = qed 𝓛 (‵ (strip u64 w ns) ∷ ‵ (strip R p xs) ∷ []) ∵ updating ! $
      use2 𝓛 (later (some (λ (z : TableId). given ((z.words ≡ length ns) × (z.slots ≡ length xs) × InBlock w × InBlock p) (‵ (table_owns R W.coded.code (g.holds key) w p z) ⊛ ‵ (mine R W.coded.code z 0 (g.first key, []))))))
      (deals 𝓛 R W.coded (g.holds key) w p ns xs (g.first key) good) $ await ! tt $ pick ! (λ z. learn ! (λ so. split ! $ now ! $ show ! (Made ns xs) z $ check ! (so.0, so.1) $ by ! (both_made z)))
