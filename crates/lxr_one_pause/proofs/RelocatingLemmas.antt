-- Where nothing is moved out of Chosen blocks, what a pause does to places is what it does to those of promoted objects. And what it does to
-- places is so whatever the states of blocks and the order of names.
use Rattle.std.proofs.Common.{◌≡◌, ℕ, ◌+◌, ◌%◌, ◌^◌, ◌<◌, refl, sym, ap, subst, ◌∙◌, inl, inr, arith, Bool, true, false, List, [], IsTrue}
use Rattle.std.specs.Prelude.{◌↔◌}
use Rattle.std.proofs.lemmas.Bool.{false_from_ne_true}
use Rattle.lxr_layout.specs.declared.Name.{Name}
use Rattle.lxr_layout.specs.Places.{first_word}
use Rattle.lxr_graph.specs.declared.report.Kind.TheVariants as kind
use Rattle.lxr_graph.specs.Names.{has}
use Rattle.lxr_graph.specs.State.{Graph}
use Rattle.lxr_graph.specs.History.{report_of}
use Rattle.lxr_graph.proofs.NameSets.{in_order-none}
use Rattle.lxr_image.specs.declared.space.Space.{Space}
use Rattle.lxr_image.specs.declared.space.Tally.{Tally}
use Rattle.lxr_image.specs.Tables.{Tables}
use Rattle.lxr_image.specs.Spaces.{tables_of}
use Rattle.lxr_image.proofs.TableLaws.{reuse_fits}
use Rattle.lxr_blocks.specs.States.{IsOpenRun}
use Rattle.lxr_model.specs.Moments.{going_on}
use Rattle.lxr_invariant.specs.AbstractState.{AbstractState}
use Rattle.lxr_invariant.specs.Copied.{CopiesPromoted, HasCopy}
use Rattle.lxr_invariant.specs.Tracing.{HasOverflowed}
use Rattle.lxr_invariant.proofs.NameLemmas.{no_member}
use Rattle.lxr_one_pause.specs.Relocating.{Evacuates, IsEvacuee, Relocates, one_where, rememberable_by}

-- ---- how often a line was handed out

-- a counter goes on by one for a copy, and then for what is moved there
pub counted_by : (before middle after : ℕ) (copied received : Bool) → before < 2 ^ 32 → (IsTrue copied → middle ≡ (before + 1) % 2 ^ 32) → (copied ≡ false → middle ≡ before)
    → (IsTrue received → after ≡ (middle + 1) % 2 ^ 32) → (received ≡ false → after ≡ middle) → after ≡ (before + one_where copied + one_where received) % 2 ^ 32
counted_by before middle after true true small copy none move stay = let a = copy refl in let b = move refl in omega (arith, a, b, small)
counted_by before middle after true false small copy none move stay = let a = copy refl in let b = stay refl in omega (arith, a, b, small)
counted_by before middle after false true small copy none move stay = let a = none refl in let b = move refl in omega (arith, a, b, small)
counted_by before middle after false false small copy none move stay = let a = none refl in let b = stay refl in omega (arith, a, b, small)

-- a truth that fails isn't so
pub fails : {P : Type 0} (b : Bool) → (IsTrue b ↔ P) → (P → ⊥) → b ≡ false
fails b tells never = false_from_ne_true b (λ h. never (tells.0 h))

-- and one that is refuted fails
pub refuted : {P : Type 0} (b : Bool) → (IsTrue b ↔ P) → b ≡ false → P → ⊥
refuted b tells is p = let e : true ≡ false = sym (tells.1 p) ∙ is in cc

-- ---- nothing is moved

zero_more : (n : ℕ) → n ≡ n + 0
zero_more n = omega arith

pub none_counted : (t : Tally) → t ≡ record t { moved = t.moved + 0; kept = t.kept + 0 }
none_counted t i = record t { moved = zero_more t.moved i; kept = zero_more t.kept i }

module _ (s x : Space) (g : AbstractState) (at' : Name → ℕ) (left : List Name) where
  -- nothing is to be moved where no trace ends
  pub none_evacuated : ((j : ℕ) → x.report.kind ≡ kind.End j → ⊥) → Evacuates s x g at' left [] []
  none_evacuated never = record {
    moved_are = record { in_order = in_order-none; members = λ n. ((λ h. no_member n h), (λ e. absurd (never e.0.ends.0 e.0.ends.1))) };
    kept_are = record { in_order = in_order-none; members = λ n. ((λ h. no_member n h), (λ e. absurd (never e.0.ends.0 e.0.ends.1))) };
    few = omega arith;
    away = λ n h. no_member n h;
    wanting = λ n o h. no_member n h;
    all_kept = λ over. refl;
    overflows = λ snapshot e. absurd (never e.0 e.1);
  }

  pub none_relocated : (promoted : List Name) → CopiesPromoted (tables_of s) (tables_of x) g.moment g.at at' promoted → Relocates s x g at' left promoted []
  none_relocated promoted copies = record {
    others = λ n new none. copies.others n new;
    left_behind = λ n new moved apart. copies.left_behind n new moved;
    moved_from = λ n h. no_member n h;
    heap = λ w old new none written apart. copies.heap w old new written;
    counted = λ line copied received copy move.
        counted_by ((tables_of s).reuse line) ((tables_of x).reuse line) ((tables_of x).reuse line) copied received (reuse_fits s.limits s.words line)
        (λ h. let c = copy.0 h in copies.counted line c.0 c.1) (λ none. copies.uncounted line (refuted copied copy none))
        (λ h. let m = move.0 h in no_member m.name m.promoted_is) (λ none. refl);
  }

-- ---- whatever the states of blocks and the order of names

module _ (s x z : Space) (g : AbstractState) (at' : Name → ℕ) (left : List Name) (states : ℕ → ℕ) (tables : tables_of z ≡ record (tables_of x) { states = states }) where
  evacuee_still : (n : Name) → z.report.kind ≡ x.report.kind → IsEvacuee s x g left n → IsEvacuee s z g left n
  evacuee_still n kinds is = record { ends = (is.ends.0, kinds ∙ is.ends.1); stays = is.stays; chosen = is.chosen }

  evacuee_back : (n : Name) → z.report.kind ≡ x.report.kind → IsEvacuee s z g left n → IsEvacuee s x g left n
  evacuee_back n kinds is = record { ends = (is.ends.0, sym kinds ∙ is.ends.1); stays = is.stays; chosen = is.chosen }

  over_still : HasOverflowed x.limits (tables_of x) → HasOverflowed x.limits (tables_of z)
  over_still over = subst (λ t. HasOverflowed x.limits t) (sym tables) over

  over_back : HasOverflowed x.limits (tables_of z) → HasOverflowed x.limits (tables_of x)
  over_back over = subst (λ t. HasOverflowed x.limits t) tables over

  pub evacuates_still : (moved kept : List Name) → z.limits ≡ x.limits → z.report.kind ≡ x.report.kind
      → going_on g.moment (report_of z.report) g.moment.trace ≡ going_on g.moment (report_of x.report) g.moment.trace → Evacuates s x g at' left moved kept → Evacuates s z g at' left moved kept
  evacuates_still moved kept limits kinds same is = record {
    moved_are = record {
      in_order = is.moved_are.in_order;
      members = λ n. ((λ h. let a = (is.moved_are.members n).0 h in (evacuee_still n kinds a.0, a.1)), (λ a. (is.moved_are.members n).1 (evacuee_back n kinds a.0, a.1)));
    };
    kept_are = record {
      in_order = is.kept_are.in_order;
      members = λ n. ((λ h. let a = (is.kept_are.members n).0 h in (evacuee_still n kinds a.0, a.1)), (λ a. (is.kept_are.members n).1 (evacuee_back n kinds a.0, a.1)));
    };
    few = is.few;
    away = is.away;
    wanting = λ n o h object. elim (is.wanting n o h object) [
      | inl over ↦ inl (subst (λ l. HasOverflowed l (tables_of z)) (sym limits) (over_still over))
      | inr short ↦ inr (λ q run. short q (subst (λ t. IsOpenRun (record t { states = (tables_of s).states }) s.limits.blocks q) tables run))
    ];
    all_kept = λ over. is.all_kept (over_back (subst (λ l. HasOverflowed l (tables_of z)) limits over));
    overflows = λ snapshot end over of.
        subst (λ o. z.limits.remember < rememberable_by o snapshot) (sym same)
        (subst (λ l. l.remember < rememberable_by (going_on g.moment (report_of x.report) g.moment.trace) snapshot) (sym limits)
        (is.overflows snapshot (end.0, sym kinds ∙ end.1) (over_back (subst (λ l. HasOverflowed l (tables_of z)) limits over)) of));
  }

  pub relocates_still : (ns ms moved : List Name) → ((n : Name) → has ms n ≡ has ns n) → Relocates s x g at' left ns moved → Relocates s z g at' left ms moved
  relocates_still ns ms moved same is = record {
    others = λ n new none. is.others n (sym (same n) ∙ new) none;
    left_behind = λ n p copied apart. ap (λ (t : Tables). t.heap (first_word (g.at n))) tables ∙ is.left_behind n (sym (same n) ∙ p) copied apart;
    moved_from = λ n h. ap (λ (t : Tables). t.heap (first_word (g.at n))) tables ∙ is.moved_from n h;
    heap = λ w old new elsewhere written unreferred.
        ap (λ (t : Tables). t.heap w) tables ∙ is.heap w (λ n p. old n (same n ∙ p)) (λ n p. new n (same n ∙ p)) elsewhere written unreferred;
    counted = λ line copied received copy move.
        ap (λ (t : Tables). t.reuse line) tables
        ∙ is.counted line copied received (
          λ h. let c = copy.0 h in (copy_named g.moment.state.graph g.at at' ns ms line same c.0, c.1),
          λ c. copy.1 (copy_named g.moment.state.graph g.at at' ms ns line (λ n. sym (same n)) c.0, c.1),
        ) move;
  }
    where
      copy_named : (gr : Graph) (at to : Name → ℕ) (ks bs : List Name) (line : ℕ) → ((n : Name) → has bs n ≡ has ks n) → HasCopy gr at to bs line → HasCopy gr at to ks line
      copy_named gr at to ks bs line alike c = record {
        name = c.name;
        promoted_is = sym (alike c.name) ∙ c.promoted_is;
        moved = c.moved;
        object = c.object;
        granule = c.granule;
        covers = c.covers;
        line_is = c.line_is;
      }
