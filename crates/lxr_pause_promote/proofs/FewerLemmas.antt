-- Lines only become fewer where objects are placed, copied and promoted: what is open then was open, and what was kept is.
use Rattle.std.proofs.Common.{◌≡◌, ◌≢◌, ℕ, ◌+◌, ◌*◌, ◌/◌, ◌%◌, ◌^◌, ◌<◌, ◌≤◌, refl, sym, ap, subst, ◌∙◌, inl, inr, Bool, true, false}
use Rattle.std.specs.Prelude.{◌&&◌, not, IsTrue, if◌then◌else◌}
use Rattle.std.proofs.lemmas.Bool.{false_from_ne_true}
use Rattle.std.proofs.lemmas.Bool.Decides.{eqb_tells}
use Rattle.lxr_layout.specs.declared.Name.{Name}
use Rattle.lxr_layout.specs.declared.Place.{Place}
use Rattle.lxr_layout.specs.declared.Shape.{Shape}
use Rattle.lxr_layout.specs.declared.TheConstants.{GRANULES_IN_LINE, LINES_IN_BLOCK}
use Rattle.lxr_layout.specs.declared.runs.Run.{Run}
use Rattle.lxr_layout.specs.Objects.{FitsShape}
use Rattle.lxr_image.specs.declared.space.Space.{Space}
use Rattle.lxr_image.specs.Tables.{Tables}
use Rattle.lxr_image.specs.Spaces.{Turns, tables_of}
use Rattle.lxr_blocks.specs.declared.states.BlockState.TheVariants.{Chosen}
use Rattle.lxr_blocks.specs.Kept.{KeepsGranules}
use Rattle.lxr_blocks.specs.Lines.{is_free}
use Rattle.lxr_blocks.specs.Placing.{IsPlaced, IsRest}
use Rattle.lxr_blocks.specs.States.{IsOpenRun, KeepsState, is_fixed, state_of}
use Rattle.lxr_blocks.proofs.BesideLemmas.{placed_is_beside}
use Rattle.lxr_blocks.proofs.KeptLemmas.{free_line_is_told}
use Rattle.lxr_invariant.proofs.BlockLemmas.{still_not}
use Rattle.lxr_pause_promote.specs.declared.shortage.Shortage.{Shortage}
use Rattle.lxr_pause_promote.specs.Copying.{Evacuates, with_copy}
use Rattle.lxr_pause_promote.specs.Promotion.{Promotes, marked_between, with_promotion}
use Rattle.lxr_pause_promote.specs.Shortages.{IsShortage}
use Rattle.lxr_pause_promote.proofs.CopyLemmas.{StandsBeside}
use Rattle.lxr_pause_promote.proofs.PlacedLemmas.{marked_zero}

-- ---- states of blocks

pub state_back : (t u : Tables) (b : ℕ) → KeepsState t u b → KeepsState u t b
state_back t u b (inl e) = inl (sym e)
state_back t u b (inr (was, now)) = inr (now, was)

pub states_joined : (t u v : Tables) (b : ℕ) → KeepsState t u b → KeepsState u v b → KeepsState t v b
states_joined t u v b (inl e) (inl f) = inl (f ∙ e)
states_joined t u v b (inl e) (inr (was, now)) = inr (ap (λ k. is_fixed (state_of k)) (sym e) ∙ was, now)
states_joined t u v b (inr (was, now)) (inl f) = inr (was, ap (λ k. is_fixed (state_of k)) f ∙ now)
states_joined t u v b (inr (was, now)) (inr (were, after)) = inr (was, after)

pub states_same : (t u : Tables) (b : ℕ) → u.states ≡ t.states → KeepsState t u b
states_same t u b e = subst (λ f. KeepsState t (record t { states = f }) b) (sym e) (inl refl)

-- ---- lines of tables

-- what is out stays so, and counts only grow from 0
pub record Grows (t u : Tables) : Type 0 where
  pub outs : (line : ℕ) → IsTrue (t.outs line) → IsTrue (u.outs line)
  pub counts : (k : ℕ) → t.counts k ≢ 0 → u.counts k ≢ 0

zero_before : (x y : ℕ) → (x ≢ 0 → y ≢ 0) → y ≡ 0 → x ≡ 0
zero_before x y grows none = elim (eqb_tells x 0) [ inl e ↦ e.1 | inr e ↦ absurd (grows e.1 none) ]

-- a line that is free then was free
pub free_before : (t u : Tables) (n : ℕ) → Grows t u → IsTrue (is_free u n) → IsTrue (is_free t n)
free_before t u n grows free =
    let is = (free_line_is_told u n).0 free in
    (free_line_is_told t n).1 (record {
      in_hand = false_from_ne_true (t.outs n) (λ out. let a = grows.outs n out in let b = is.in_hand in cc);
      uncounted = λ k low. zero_before (t.counts (GRANULES_IN_LINE * n + k)) (u.counts (GRANULES_IN_LINE * n + k)) (grows.counts (GRANULES_IN_LINE * n + k)) (is.uncounted k low);
    })

pub taken_after : (t u : Tables) (n : ℕ) → Grows t u → is_free t n ≡ false → is_free u n ≡ false
taken_after t u n grows taken = false_from_ne_true (is_free u n) (λ free. let a = free_before t u n grows free in cc)

pub open_before : (t u : Tables) (blocks : ℕ) (r : Run) → Grows t u → KeepsState t u r.block → IsOpenRun u blocks r → IsOpenRun t blocks r
open_before t u blocks r grows state is = record {
  run = record { block = is.run.block; within = is.run.within; free = λ i low high. free_before t u (LINES_IN_BLOCK * r.block + i) grows (is.run.free i low high) };
  outside = still_not u t r.block Chosen refl (state_back t u r.block state) is.outside;
}

pub granules_kept : (a b : Space) (taken : ℕ → Type 0) → Grows (tables_of a) (tables_of b) → b.rest_next ≡ a.rest_next → b.rest_end ≡ a.rest_end → KeepsGranules a taken → KeepsGranules b taken
granules_kept a b taken grows next end kept = record {
  lines = λ k h. taken_after (tables_of a) (tables_of b) (k / GRANULES_IN_LINE) grows (kept.lines k h);
  rest = λ k h. elim (kept.rest k h) [ inl low ↦ inl (subst (λ z. k < z) (sym next) low) | inr high ↦ inr (subst (λ z. z ≤ k) (sym end) high) ];
}

-- counts only grow from 0 where lines are marked
pub marked_grows : (f : ℕ → ℕ) (first end k : ℕ) → f k ≢ 0 → marked_between f first end k ≢ 0
marked_grows f first end k some none = some (marked_zero f first end k none)

-- what was handed out since, and what is handed out then, is counted once
pub handed_on : (x y z : Bool) (r f : ℕ) → (IsTrue y → IsTrue x) → (IsTrue z → IsTrue y) → r ≡ (if y && not z then ((f + 1) % 2 ^ 32) else f)
    → (if x && not y then ((r + 1) % 2 ^ 32) else r) ≡ (if x && not z then ((f + 1) % 2 ^ 32) else f)
handed_on true true true r f more was e = e
handed_on true true false r f more was e = e
handed_on true false true r f more was e = absurd (let no : false ≡ true = was refl in cc)
handed_on true false false r f more was e = ap (λ k. (k + 1) % 2 ^ 32) e
handed_on false true z r f more was e = absurd (let no : false ≡ true = more refl in cc)
handed_on false false true r f more was e = absurd (let no : false ≡ true = was refl in cc)
handed_on false false false r f more was e = e

-- ---- lines of spaces

-- lines have only become fewer: in the same heap no block has become Chosen or World or ceased to be so, and no line has become free
pub record HasFewerLines (before after : Space) : Type 0 where
  pub blocks : after.limits.blocks ≡ before.limits.blocks
  pub grows : Grows (tables_of before) (tables_of after)
  pub states : (b : ℕ) → KeepsState (tables_of before) (tables_of after) b

-- free lines in a row outside Chosen blocks were so before
pub was_open_run : (a b : Space) (r : Run) → HasFewerLines a b → IsOpenRun (tables_of b) b.limits.blocks r → IsOpenRun (tables_of a) a.limits.blocks r
was_open_run a b r fewer is =
    open_before (tables_of a) (tables_of b) a.limits.blocks r fewer.grows (fewer.states r.block) (subst (λ z. IsOpenRun (tables_of b) z r) fewer.blocks is)

-- so lines that were wanting still are
pub still_short : (a b : Space) (shortage : Shortage) → HasFewerLines a b → IsShortage a shortage → IsShortage b shortage
still_short a b shortage fewer short q run = short q (was_open_run a b q fewer run)

pub fewer_both : (a b c : Space) → HasFewerLines a b → HasFewerLines b c → HasFewerLines a c
fewer_both a b c first next = record {
  blocks = next.blocks ∙ first.blocks;
  grows = record {
    outs = λ line out. next.grows.outs line (first.grows.outs line out);
    counts = λ k some. next.grows.counts k (first.grows.counts k some);
  };
  states = λ k. states_joined (tables_of a) (tables_of b) (tables_of c) k (first.states k) (next.states k);
}

-- ---- objects that are placed, copied and promoted

-- a call that leaves which lines are out and the states of blocks, and by which counts only grow from 0
pub turns_fewer : (a b : Space) (t : Tables) → Turns a b t → t.outs ≡ (tables_of a).outs → t.states ≡ (tables_of a).states → ((k : ℕ) → (tables_of a).counts k ≢ 0 → t.counts k ≢ 0) → HasFewerLines a b
turns_fewer a b t turns outs states counts = record {
  blocks = ap (λ s. s.limits.blocks) turns.rest;
  grows = record {
    outs = λ line out. subst (λ f. IsTrue (f line)) (sym (ap (λ x. x.outs) turns.tables ∙ outs)) out;
    counts = λ k some. subst (λ x. x.counts k ≢ 0) (sym turns.tables) (counts k some);
  };
  states = λ k. states_same (tables_of a) (tables_of b) k (ap (λ x. x.states) turns.tables ∙ states);
}

-- an object that is placed
pub placed_fewer : (a b : Space) (n : Name) (s : Shape) (p : Place) → IsRest a → FitsShape s → IsPlaced a b n s p → HasFewerLines a b
placed_fewer a b n s p rest fits placed =
    let beside = placed_is_beside a b n s p rest fits placed in
    record {
      blocks = ap (λ x. x.limits.blocks) beside.space;
      grows = record {
        outs = λ line out. (beside.outs line).1 (inl out);
        counts = λ k some. subst (λ x. x.counts k ≢ 0) (sym beside.tables) some;
      };
      states = beside.states;
    }

-- an object that stands where it was placed, while counts elsewhere only grow from 0
pub beside_fewer : (a b : Space) (rest : Tables) (taken : ℕ → Type 0) (p q : Place) (n : Name) (shape : Shape) → StandsBeside a b rest taken p q n shape
    → ((k : ℕ) → (tables_of a).counts k ≢ 0 → rest.counts k ≢ 0) → HasFewerLines a b
beside_fewer a b rest taken p q n shape beside counts = record {
  blocks = ap (λ x. x.limits.blocks) beside.space;
  grows = record {
    outs = λ line out. (beside.outs line).1 (inl out);
    counts = λ k some. subst (λ x. x.counts k ≢ 0) (sym beside.tables) (counts k some);
  };
  states = beside.states;
}

-- an object that is copied
pub evacuated_fewer : (a b : Space) (p q : Place) (n : Name) (shape : Shape) → IsRest a → FitsShape shape → Evacuates a b p q n shape → HasFewerLines a b
evacuated_fewer a b p q n shape rest fits evacuates =
    fewer_both a evacuates.middle b (placed_fewer a evacuates.middle n shape q rest fits evacuates.placed)
    (turns_fewer evacuates.middle b (with_copy (tables_of evacuates.middle) p.0 q.0 shape) evacuates.turns refl refl (λ k some. some))

-- an object that is promoted where it is
pub promotion_fewer : (a b : Space) (p : ℕ) (shape : Shape) → Turns a b (with_promotion (tables_of a) p shape) → HasFewerLines a b
promotion_fewer a b p shape turns = turns_fewer a b (with_promotion (tables_of a) p shape) turns refl refl (λ k some. marked_grows (tables_of a).counts _ _ k some)

-- an object that is promoted, with a copy or without
pub promoted_fewer : (a b : Space) (p q : Place) (n : Name) (shape : Shape) → IsRest a → FitsShape shape → Promotes a b p q n shape → HasFewerLines a b
promoted_fewer a b p q n shape rest fits (inl there) = promotion_fewer a b p.0 shape there.turns
promoted_fewer a b p q n shape rest fits (inr copy) =
    fewer_both a copy.copied b (evacuated_fewer a copy.copied p q n shape rest fits copy.evacuates) (promotion_fewer copy.copied b q.0 shape copy.turns)
