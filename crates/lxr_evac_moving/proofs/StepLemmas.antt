-- One more object of a Chosen block is looked at: it is moved, or kept where it is, and what was known of all others stays.
use Rattle.std.proofs.Common.{◌≡◌, ℕ, ◌+◌, ◌/◌, ◌≤◌, refl, sym, ap, subst, ◌∙◌, inl, inr, ◌⊎◌, arith, Bool, true, false}
use Rattle.std.specs.Prelude.{◌&&◌, Some, IsTrue}
use Rattle.std.proofs.lemmas.Bool.Decides.{eqb_tells}
use Rattle.lxr_layout.specs.declared.Name.{Name}
use Rattle.lxr_layout.specs.declared.TheConstants.{GRANULES_IN_BLOCK}
use Rattle.lxr_graph.specs.Names.{has}
use Rattle.lxr_graph.specs.State.{Object, object_at, shape_of}
use Rattle.lxr_image.specs.declared.space.Space.{Space}
use Rattle.lxr_image.specs.Tables.{Tables}
use Rattle.lxr_image.specs.Spaces.{tables_of}
use Rattle.lxr_image.specs.Reads.{granule_of}
use Rattle.lxr_image.specs.Image.{granules_of}
use Rattle.lxr_blocks.specs.declared.states.BlockState.{BlockState}
use Rattle.lxr_blocks.specs.declared.states.BlockState.TheVariants.{Chosen, Free, Partly, Whole, World}
use Rattle.lxr_blocks.specs.Kept.{IsAmong}
use Rattle.lxr_blocks.specs.Placing.{IsFull}
use Rattle.lxr_blocks.specs.States.{KeepsState, is_fixed, state_in, state_of}
use Rattle.lxr_model.specs.Moments.{Moment}
use Rattle.lxr_model_counting.proofs.DistinctLemmas.{in_order_distinct}
use Rattle.lxr_invariant.specs.Lines.{is_chosen}
use Rattle.lxr_invariant.specs.Tracing.{IsInChosen}
use Rattle.lxr_invariant.proofs.PlaceLemmas.{same_object}
use Rattle.lxr_pause_promote.specs.Copying.{StandsKept}
use Rattle.lxr_evac_moving.specs.Stages.{EvacuationStage, HasBitsAndCounts, IsMarkAt, IsMovingAway, IsReferenceAt, IsTaken, granules, kept_names}
use Rattle.lxr_evac_moving.specs.Steps.{IsNextChosen, NoneBegins}
use Rattle.lxr_evac_moving.proofs.LookedLemmas.{TellsStood, kept_further, kept_split, looked_to}
use Rattle.lxr_evac_moving.proofs.StageLemmas.{one_begins, place_has, stands_at}

-- ---- states of blocks

-- what is told to be Chosen is
pub chosen_state : (s : BlockState) → is_chosen s ≡ true → s ≡ Chosen
chosen_state Free e = absurd (cc)
chosen_state Partly e = absurd (cc)
chosen_state Whole e = absurd (cc)
chosen_state Chosen e = refl
chosen_state World e = absurd (cc)

unfixed_unchosen : (s : BlockState) → is_fixed s ≡ false → is_chosen s ≡ false
unfixed_unchosen Free e = refl
unfixed_unchosen Partly e = refl
unfixed_unchosen Whole e = refl
unfixed_unchosen Chosen e = absurd (cc)
unfixed_unchosen World e = refl

-- a block is Chosen where it was
pub still_chosen : (t u : Tables) (b : ℕ) → KeepsState t u b → is_chosen (state_in u b) ≡ is_chosen (state_in t b)
still_chosen t u b (inl e) = ap (λ k. is_chosen (state_of k)) e
still_chosen t u b (inr (was, now)) = unfixed_unchosen (state_in u b) now ∙ sym (unfixed_unchosen (state_in t b) was)

both : (chosen start : Bool) → IsTrue (chosen && start) → IsTrue chosen × IsTrue start
both true start is = (refl, is)
both false start is = absurd (cc)

-- ---- the same, once more is looked at

module _ (s : Space) (m : Moment) (st : EvacuationStage) (k : ℕ) where
  abbrev later : EvacuationStage
  later = looked_to st k st.now

  taken_back : (g : ℕ) → IsTaken m later g → IsTaken m st g
  taken_back g x = record { name = x.name; object = x.object; place = x.place; member = x.member; is = x.is; has_place = x.has_place; among = x.among }

  mark_back : (g : ℕ) → IsMarkAt m later g → IsMarkAt m st g
  mark_back g x = record { name = x.name; object = x.object; place = x.place; member = x.member; is = x.is; has_place = x.has_place; begins = x.begins; behind = x.behind; within = x.within }

  mark_on : (g : ℕ) → IsMarkAt m st g → IsMarkAt m later g
  mark_on g x = record { name = x.name; object = x.object; place = x.place; member = x.member; is = x.is; has_place = x.has_place; begins = x.begins; behind = x.behind; within = x.within }

  reference_back : (w : ℕ) → IsReferenceAt m later w → IsReferenceAt m st w
  reference_back w x = record { name = x.name; index = x.index; place = x.place; member = x.member; within = x.within; has_place = x.has_place; word = x.word }

  reference_on : (w : ℕ) → IsReferenceAt m st w → IsReferenceAt m later w
  reference_on w x = record { name = x.name; index = x.index; place = x.place; member = x.member; within = x.within; has_place = x.has_place; word = x.word }

  bits_on : HasBitsAndCounts (tables_of s) m st → HasBitsAndCounts (tables_of s) m later
  bits_on is = record {
    starts = is.starts;
    starts_only = is.starts_only;
    marks = is.marks;
    marks_only = is.marks_only;
    grays = is.grays;
    grays_only = is.grays_only;
    counts = is.counts;
    lines = λ g mark. is.lines g (mark_back g mark);
    counts_only = λ g nobody nothing. is.counts_only g nobody (λ mark. nothing (mark_on g mark));
    unlogged = λ w. (λ set. reference_on w ((is.unlogged w).0 set), λ r. (is.unlogged w).1 (reference_back w r));
  }

  -- what is kept then is to find no room
  pub looked_on : IsMovingAway s m st → st.looked ≤ k
      → ((n : Name) (o : Object) → IsTrue (has (kept_names m later) n) → object_at m.state.graph n ≡ Some o → IsFull s (shape_of o)) → IsMovingAway s m later
  looked_on is past wanting = record {
    evacuating = record {
      can = is.evacuating.can;
      space = is.evacuating.space;
      apart = record {
        moved = λ n moved. let was = is.evacuating.apart.moved n moved in let low = was.2 in (was.0, was.1, omega (arith, low, past));
        away = is.evacuating.apart.away;
        onto = is.evacuating.apart.onto;
        own = is.evacuating.apart.own;
        apart = is.evacuating.apart.apart;
      };
      heap = record { stands = is.evacuating.heap.stands; left_behind = is.evacuating.heap.left_behind; others = is.evacuating.heap.others };
      bits = bits_on is.evacuating.bits;
      lines = record {
        rest = is.evacuating.lines.rest;
        kept = record { lines = λ g taken. is.evacuating.lines.kept.lines g (taken_back g taken); rest = λ g taken. is.evacuating.lines.kept.rest g (taken_back g taken) };
        outs = is.evacuating.lines.outs;
        reuse = is.evacuating.lines.reuse;
        states = is.evacuating.lines.states;
        free = is.evacuating.lines.free;
        wanting = wanting;
      };
      registers = is.evacuating.registers;
      deferred = is.evacuating.deferred;
      tables = is.evacuating.tables;
      changes = is.evacuating.changes;
    };
    uncleared = is.uncleared;
    unfixed = is.unfixed;
    kept_before = is.kept_before;
  }

-- ---- the next object

-- an object of a Chosen block that was not looked at begins at a granule
pub record IsNextObject (m : Moment) (st : EvacuationStage) (granule : ℕ) : Type 0 where
  pub name : Name
  pub object : Object
  pub member : IsTrue (has m.unreclaimed name)
  pub is : object_at m.state.graph name ≡ Some object
  pub still : st.now name ≡ st.at name
  pub place : st.at name ≡ granule + 1
  pub chosen : IsInChosen (tables_of st.found) st.at name

module _ (a : Space) (m : Moment) (st : EvacuationStage) (is : IsMovingAway a m st) where
  -- the tables tell where objects stood
  pub tells_stood : TellsStood (tables_of a) m st
  tells_stood = record {
    starts = λ n in_n. is.evacuating.bits.starts n (st.at n) in_n (place_has st n (st.at n) is.uncleared (inl refl));
    chosen = λ b. still_chosen (tables_of st.found) (tables_of a) b (is.evacuating.lines.states b);
    own = λ n u in_n in_u same. (one_begins a m st is.evacuating n u (st.at n) (st.at u) in_n in_u (inl refl) (inl refl) same).0;
    distinct = in_order_distinct m.unreclaimed is.evacuating.can.holds.follows.unreclaimed;
  }

  -- where no more objects of Chosen blocks begin, all are looked at
  pub looked_past : (k : ℕ) → st.looked ≤ k → NoneBegins (tables_of a) st.looked k → IsMovingAway a m (looked_to st k st.now)
  looked_past k past none = looked_on a m st k is past (λ n o kept has_o.
      is.evacuating.lines.wanting n o (subst (λ ns. IsTrue (has ns n)) (kept_further (tables_of a) m st tells_stood k past none) kept) has_o)

  module _ (k : ℕ) (next : IsNextChosen (tables_of a) st.looked (granules a) k) where
    next_chosen : state_in (tables_of st.found) (k / GRANULES_IN_BLOCK) ≡ Chosen
    next_chosen = chosen_state (state_in (tables_of st.found) (k / GRANULES_IN_BLOCK))
        (sym (still_chosen (tables_of st.found) (tables_of a) (k / GRANULES_IN_BLOCK) (is.evacuating.lines.states (k / GRANULES_IN_BLOCK)))
        ∙ (both (is_chosen (state_in (tables_of a) (k / GRANULES_IN_BLOCK))) ((tables_of a).starts k) next.is).0)

    -- it is where it stood
    stands_still : (n : Name) (p : ℕ) → IsTrue (has m.unreclaimed n) → (p ≡ st.now n) ⊎ ((p ≡ st.at n) × (st.cleared ≤ granule_of p)) → granule_of p ≡ k → (st.now n ≡ st.at n) × (granule_of (st.at n) ≡ k)
    stands_still n p in_n place there = elim (eqb_tells (st.now n) (st.at n)) [
      | inl e ↦ (e.1, elim place [ inl now ↦ ap granule_of (sym (now ∙ e.1)) ∙ there | inr at ↦ ap granule_of (sym at.0) ∙ there ])
      | inr ne ↦ elim place [
        | inl now ↦ absurd (is.evacuating.apart.away n ne.1 (ap (λ g. state_in (tables_of st.found) (g / GRANULES_IN_BLOCK)) (ap granule_of (sym now) ∙ there) ∙ next_chosen))
        | inr at ↦
            let low = (is.evacuating.apart.moved n ne.1).2 in
            let high = next.reached in
            let here : granule_of (st.at n) ≡ k = ap granule_of (sym at.0) ∙ there in
            absurd (omega (arith, low, high, here))
      ]
    ]

    pub next_object : IsNextObject m st k
    next_object =
        let x = is.evacuating.bits.starts_only k (both (is_chosen (state_in (tables_of a) (k / GRANULES_IN_BLOCK))) ((tables_of a).starts k) next.is).1 in
        let o = is.evacuating.heap.stands x.0 x.2 in
        let at = stands_still x.0 x.1 x.2 x.3 x.4 in
        let some = o.2.placed in
        let here = at.1 in
        let still = at.0 in
        record {
          name = x.0;
          object = o.0;
          member = x.2;
          is = o.1;
          still = at.0;
          place = omega (arith, some, here, still);
          chosen = ap (λ g. state_in (tables_of st.found) (g / GRANULES_IN_BLOCK)) at.1 ∙ next_chosen;
        }

    -- it may be copied
    pub next_kept : StandsKept a (record { 0 = k + 1 }) next_object.name (shape_of next_object.object)
    next_kept = subst (λ p. StandsKept a (record { 0 = p }) next_object.name (shape_of next_object.object)) (next_object.still ∙ next_object.place) (record {
      stands = stands_at a m st is.evacuating next_object.name next_object.object next_object.member next_object.is;
      rest = is.evacuating.lines.rest;
      kept = record { lines = λ g among. is.evacuating.lines.kept.lines g (taken_here g among); rest = λ g among. is.evacuating.lines.kept.rest g (taken_here g among) };
    })
      where
        taken_here : (g : ℕ) → IsAmong (granule_of (st.now next_object.name)) (granules_of next_object.object) g → IsTaken m st g
        taken_here g among = record {
          name = next_object.name;
          object = next_object.object;
          place = st.now next_object.name;
          member = next_object.member;
          is = next_object.is;
          has_place = inl refl;
          among = among;
        }

    -- it finds no room, and is kept
    pub kept_then : IsFull a (shape_of next_object.object) → IsMovingAway a m (looked_to st (k + 1) st.now)
    kept_then full =
        let reached = next.reached in
        looked_on a m st (k + 1) is (omega (arith, reached)) (λ n o kept has_o. elim (kept_split (tables_of a) m st tells_stood k next_object.name st.now next.reached next.passed next.is next_object.member
        (let place = next_object.place in omega (arith, place)) (λ u differ. refl) n kept) [
          | inl same ↦
              let one : next_object.object ≡ o = same_object m.state.graph next_object.name next_object.object o next_object.is (ap (object_at m.state.graph) (sym same) ∙ has_o) in
              subst (λ z. IsFull a (shape_of z)) one full
          | inr old ↦ is.evacuating.lines.wanting n o old has_o
        ])
