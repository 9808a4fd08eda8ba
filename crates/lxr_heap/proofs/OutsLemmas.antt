-- Lines that are out are overlapped by what was made since the last pause: an operation hands out none but free ones, and those for an object
-- that it makes.
use Rattle.std.proofs.Common.{◌≡◌, ℕ, ◌+◌, ◌-◌, ◌*◌, ◌/◌, ◌<◌, ◌≤◌, refl, sym, ap, subst, ◌∙◌, inl, inr, arith, Bool, true, false, List, length}
use Rattle.std.specs.Prelude.{◌⊎◌, ◌&&◌, if◌then◌else◌, not, Some, IsTrue}
use Rattle.std.proofs.lemmas.Bool.Decides.{leb_tells}
use Rattle.lxr_layout.specs.declared.Name.{Name}
use Rattle.lxr_layout.specs.declared.TheConstants.{GRANULES_IN_LINE, LINES_IN_BLOCK, REGISTERS}
use Rattle.lxr_layout.specs.declared.runs.Run.{Run}
use Rattle.lxr_layout.specs.Objects.{word_count}
use Rattle.lxr_graph.specs.declared.Op.{Op}
use Rattle.lxr_graph.specs.declared.Op.TheVariants as op
use Rattle.lxr_graph.specs.declared.Reply.{Reply}
use Rattle.lxr_graph.specs.declared.Reply.TheVariants as reply
use Rattle.lxr_graph.specs.Names.{has}
use Rattle.lxr_graph.specs.State.{Graph, Object, State, object_at, shape_of}
use Rattle.lxr_graph.specs.Step.{state_after, step}
use Rattle.lxr_graph.proofs.NameSets.{insert_old, not_both}
use Rattle.lxr_image.specs.declared.space.Space.{Space}
use Rattle.lxr_image.specs.Image.{granules_of}
use Rattle.lxr_image.specs.Reads.{granule_of}
use Rattle.lxr_image.specs.Spaces.{tables_of}
use Rattle.lxr_image.specs.Tables.{Tables}
use Rattle.lxr_blocks.specs.Handing.{first_line, is_between}
use Rattle.lxr_blocks.specs.Lines.{is_free}
use Rattle.lxr_blocks.proofs.HandedLemmas.{outside}
use Rattle.lxr_model.specs.Moments.{Moment, after_call, made_after}
use Rattle.lxr_model_counting.specs.Following.{HasShapeOf}
use Rattle.lxr_model_counting.proofs.ReplyLemmas.{state_after_step}
use Rattle.lxr_model_counting.proofs.StoreLemmas.{step_keeps}
use Rattle.lxr_invariant.specs.AbstractState.{AbstractState, members}
use Rattle.lxr_invariant.specs.Lines.{Covers, IsTakenBy, OutsAreTaken}
use Rattle.lxr_invariant.specs.Quiescent.{IsAtRest}
use Rattle.lxr_invariant.proofs.NameLemmas.{in_either, in_first, in_second}
use Rattle.lxr_direct.specs.Operating.{IsDone, Leaves}

-- a number is between two where it is neither below nor past them
between_tells : (a b w : ℕ) → IsTrue (is_between a b w) → (a ≤ w) × (w < b)
between_tells a b w among = elim (leb_tells a w) [
  | inl high ↦ elim (leb_tells b w) [
    | inl past ↦ not_both (is_between a b w) among (outside a b w (inr past.1))
    | inr within ↦ (high.1, within.1)
  ]
  | inr low ↦ not_both (is_between a b w) among (outside a b w (inl low.1))
]

-- a line among those of a run is one of the run's block
among_run : (block first lines line : ℕ) → IsTrue (is_between (LINES_IN_BLOCK * block + first) (LINES_IN_BLOCK * block + first + lines) line)
    → (first ≤ line - LINES_IN_BLOCK * block) × (line - LINES_IN_BLOCK * block < first + lines) × (LINES_IN_BLOCK * block + (line - LINES_IN_BLOCK * block) ≡ line)
among_run block first lines line among = let both = between_tells (LINES_IN_BLOCK * block + first) (LINES_IN_BLOCK * block + first + lines) line among in (omega (arith, both), omega (arith, both), omega (arith, both))

-- what an operation finds out afterwards was out or free before
out_before : (before after : Space) (s : State) (o : Op) → Leaves before after s 1 o → (line : ℕ) → IsTrue ((tables_of after).outs line)
    → IsTrue ((tables_of before).outs line) ⊎ IsTrue (is_free (tables_of before) line)
out_before before after s (op.New dest shape) made line out =
    let there : IsTrue ((tables_of made.placed).outs line) = subst (λ (t : Tables). IsTrue (t.outs line)) (ap tables_of made.held) out in
    elim made.places [
      | inl rest ↦ inl (subst (λ (t : Tables). IsTrue (t.outs line)) rest.changes.tables there)
      | inr (run, on) ↦ by run.block run.line run.lines on.run.run.run.free (subst (λ (t : Tables). IsTrue (t.outs line)) on.changes.tables there) (is_between (first_line run) (first_line run + run.lines) line) refl
    ]
  where
    by : (block first lines : ℕ) → ((i : ℕ) → first ≤ i → i < first + lines → IsTrue (is_free (tables_of before) (LINES_IN_BLOCK * block + i)))
        → IsTrue (if is_between (LINES_IN_BLOCK * block + first) (LINES_IN_BLOCK * block + first + lines) line then true else (tables_of before).outs line)
        → (c : Bool) → is_between (LINES_IN_BLOCK * block + first) (LINES_IN_BLOCK * block + first + lines) line ≡ c → IsTrue ((tables_of before).outs line) ⊎ IsTrue (is_free (tables_of before) line)
    by block first lines free is true e = let at = among_run block first lines line e in inr (subst (λ l. IsTrue (is_free (tables_of before) l)) at.2 (free (line - LINES_IN_BLOCK * block) at.0 at.1))
    by block first lines free is false e = inl (subst (λ c. IsTrue (if c then true else (tables_of before).outs line)) e is)
out_before before after s o keeps line out = inl (subst (λ (t : Tables). IsTrue (t.outs line)) keeps out)

-- what is made stays so
made_stays : (ns : List Name) (r : Reply) (n : Name) → IsTrue (has ns n) → IsTrue (has (made_after ns r) n)
made_stays ns (reply.New q) n h = insert_old q ns n h
made_stays ns r n h = h

same_granules : (a b : Object) → HasShapeOf b a → granules_of b ≡ granules_of a
same_granules a b same = λ i. word_count (record { refs = same.refs i; values = same.values i }) / 2

module _ (before after : Space) (g : AbstractState) (o : Op) (r : Reply) (rests : IsAtRest before g) (rows : 1 < length g.moment.state.graph) (many : length g.moment.state.registers ≡ REGISTERS) (d : IsDone before after g 1 o r) where
  abbrev s : State
  s = g.moment.state

  abbrev st : State
  st = state_after s 1 o r

  is_step : st ≡ (step s 1 o).0
  is_step = ap (state_after s 1 o) d.reply ∙ state_after_step s 1 o

  -- a granule that an object of a member had it has
  covers_then : (n : Name) (a : Object) (k : ℕ) → IsTrue (has (members g.moment) n) → Covers s.graph g.at n a k → (b : Object) × Covers st.graph d.at n b k
  covers_then n a k member covers =
      let kept = (step_keeps s 1 o rows (omega (arith, many))).shapes n a covers.object in
      let at = ap granule_of (d.stay n member) in (
        kept.0,
        record {
          object = ap (λ (z : State). object_at z.graph n) is_step ∙ kept.1;
          first = subst (λ z. z ≤ k) (sym at) covers.first;
          behind = subst (λ z. k < z) (sym (λ i. at i + same_granules a kept.0 kept.2 i)) covers.behind;
        },
      )

  -- and one that it has it had
  covers_was : (n : Name) (b : Object) (k : ℕ) → IsTrue (has (members g.moment) n) → Covers st.graph d.at n b k → (a : Object) × Covers s.graph g.at n a k
  covers_was n b k member covers =
      let was = rests.safepoint.holds.image.image.stands n member in
      let kept = (step_keeps s 1 o rows (omega (arith, many))).shapes n was.0 was.1 in
      let there : Some kept.0 ≡ Some b = sym kept.1 ∙ sym (ap (λ (z : State). object_at z.graph n) is_step) ∙ covers.object in
      let same : kept.0 ≡ b = cc in
      let at = ap granule_of (d.stay n member) in (
        was.0,
        record {
          object = was.1;
          first = subst (λ z. z ≤ k) at covers.first;
          behind = subst (λ z. k < z) (λ i. at i + (ap granules_of (sym same) ∙ same_granules was.0 kept.0 kept.2) i) covers.behind;
        },
      )

  -- each line that is out then is overlapped by what was made since the last pause
  pub outs_done : OutsAreTaken (tables_of before) s.graph g.at g.moment.made → OutsAreTaken (tables_of after) st.graph d.at (made_after g.moment.made r)
  outs_done outs = record {
    taken = λ line out. elim (out_before before after s o d.leaves line out) [
      | inl was ↦
          let a = outs.taken line was in
          let b = covers_then a.0 a.1 a.2 (in_second g.moment.unreclaimed g.moment.made a.0 a.3) a.4 in
          (a.0, b.0, a.2, made_stays g.moment.made r a.0 a.3, b.1, a.5)
      | inr free ↦
          let a = d.rests.outs.taken line out in
          elim (in_either g.moment.unreclaimed (made_after g.moment.made r) a.0 a.3) [
            | inl old ↦
                let member = in_first g.moment.unreclaimed g.moment.made a.0 old in
                let b = covers_was a.0 a.1 a.2 member a.4 in
                not_both (is_free (tables_of before) line) free (subst (λ l. is_free (tables_of before) l ≡ false) a.5 (rests.lines a.0 b.0 a.2 member b.1))
            | inr new ↦ (a.0, a.1, a.2, new, a.4, a.5)
          ]
    ];
    outside = d.rests.outs.outside;
  }
