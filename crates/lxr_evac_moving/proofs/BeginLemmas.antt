-- The stage at which evacuation begins: nothing has moved, and each object keeps its lines.
use Rattle.std.proofs.Common.{◌≡◌, ℕ, ◌+◌, ◌/◌, ◌%◌, ◌^◌, ◌≤◌, refl, sym, ap, ◌∙◌, inl, inr, arith, Bool, true, false, length, nat_eq}
use Rattle.std.specs.Prelude.{◌&&◌, nat_lt, not, IsTrue, if◌then◌else◌}
use Rattle.std.proofs.lemmas.Bool.Decides.{nat_tests}
use Rattle.lxr_layout.specs.declared.Name.{Name}
use Rattle.lxr_layout.specs.declared.TheConstants.{GRANULES_IN_BLOCK}
use Rattle.lxr_layout.specs.Places.{field_word}
use Rattle.lxr_graph.specs.Names.{has, same_name}
use Rattle.lxr_graph.proofs.NameSets.{same_names}
use Rattle.lxr_image.specs.declared.space.Space.{Space}
use Rattle.lxr_image.specs.Spaces.{tables_of}
use Rattle.lxr_image.specs.Reads.{granule_of}
use Rattle.lxr_blocks.specs.Kept.{KeepsGranules}
use Rattle.lxr_blocks.specs.States.{state_in}
use Rattle.lxr_model.specs.Moments.{Moment}
use Rattle.lxr_model_counting.specs.Distinct.{has_field}
use Rattle.lxr_model_counting.proofs.DistinctLemmas.{in_order_distinct, tested}
use Rattle.lxr_invariant.specs.AbstractState.{members}
use Rattle.lxr_invariant.specs.Lines.{is_chosen}
use Rattle.lxr_invariant.proofs.LandingLemmas.{counted_line}
use Rattle.lxr_invariant.proofs.NameLemmas.{in_first}
use Rattle.lxr_invariant.proofs.PlaceLemmas.{granules_differ}
use Rattle.lxr_pause_promote.proofs.EitherLemmas.{held_began, place_began}
use Rattle.lxr_evac_moving.specs.Evacuation.{CanEvacuate}
use Rattle.lxr_evac_moving.specs.Stages.{AreMovedApart, EvacuationStage, HasBitsAndCounts, HasHeap, HasPlace, IsMovingAway, IsTaken, granules, is_kept, kept_names, moved_names, stood_chosen}
use Rattle.lxr_evac_moving.specs.Steps.{IsNextChosen, NoneBegins, first_stage, last_stage}
use Rattle.lxr_evac_moving.proofs.FilterLemmas.{filter_none}
use Rattle.lxr_evac_moving.proofs.LookedLemmas.{TellsStood, kept_further, kept_one_more, looked_to, second_false}

module _ (s : Space) (m : Moment) (at : Name → ℕ) (can : CanEvacuate s m at) where
  in_members : (n : Name) → IsTrue (has m.unreclaimed n) → IsTrue (has (members m) n)
  in_members n h = in_first m.unreclaimed m.made n h

  -- the tables tell where objects stand
  pub tells_found : (k : ℕ) → TellsStood (tables_of s) m (looked_to (first_stage s at) k at)
  tells_found k = record {
    starts = can.holds.bits.starts.each;
    chosen = λ b. refl;
    own = λ n u in_n in_u same. elim (tested (same_name n u)) [
      | inl is ↦ same_names n u is
      | inr differ ↦ absurd (granules_differ (tables_of s) s.limits.blocks at m.state.graph (members m) can.holds.image.image n u (in_members n in_n) (in_members u in_u) differ same)
    ];
    distinct = in_order_distinct m.unreclaimed can.holds.follows.unreclaimed;
  }

  -- ---- how many objects Chosen blocks have

  pub none_counted : length (kept_names m (looked_to (first_stage s at) 0 at)) ≡ 0
  none_counted = ap length (filter_none (is_kept (looked_to (first_stage s at) 0 at)) m.unreclaimed (λ n member. second_false (stood_chosen (first_stage s at) n) (nat_lt (granule_of (at n)) 0) (nat_eq (at n) (at n))
      (grind (arith, nat_tests))))

  pub none_moved : length (moved_names m (looked_to (first_stage s at) 0 at)) ≡ 0
  none_moved = ap length (filter_none (λ n. not (nat_eq (at n) (at n))) m.unreclaimed (λ n member. let e : nat_eq (at n) (at n) ≡ true = grind (arith, nat_tests) in ap not e))

  pub one_counted : (from k : ℕ) → IsNextChosen (tables_of s) from (granules s) k → length (kept_names m (looked_to (first_stage s at) (k + 1) at)) ≡ length (kept_names m (looked_to (first_stage s at) from at)) + 1
  one_counted from k next =
      let x = can.holds.bits.starts.only k (begun (is_chosen (state_in (tables_of s) (k / GRANULES_IN_BLOCK))) ((tables_of s).starts k) next.is) in
      kept_one_more (tables_of s) m (looked_to (first_stage s at) from at) (tells_found from) k x.0 at next.reached next.passed next.is x.1 x.2 (λ n differ. refl) refl refl
    where
      begun : (chosen start : Bool) → IsTrue (chosen && start) → IsTrue start
      begun true start is = is
      begun false start is = absurd (cc)

  pub all_counted : (from : ℕ) → from ≤ granules s → NoneBegins (tables_of s) from (granules s) → length (kept_names m (last_stage s at at)) ≡ length (kept_names m (looked_to (first_stage s at) from at))
  all_counted from past none = ap length (kept_further (tables_of s) m (looked_to (first_stage s at) from at) (tells_found from) (granules s) past none)

  -- ---- the first stage

  abbrev st : EvacuationStage
  st = first_stage s at

  one_place : (n : Name) (p : ℕ) → HasPlace st n p → p ≡ at n
  one_place n p (inl e) = e
  one_place n p (inr e) = e.0

  same_granule : (n u : Name) → IsTrue (has m.unreclaimed n) → IsTrue (has m.unreclaimed u) → granule_of (at n) ≡ granule_of (at u) → n ≡ u
  same_granule = (tells_found 0).own

  began_apart : AreMovedApart m st
  began_apart = record {
    moved = λ n moved. absurd (moved refl);
    away = λ n moved. absurd (moved refl);
    onto = λ n o k h moved covers. absurd (moved refl);
    own = λ n u p in_n in_u here there. same_granule n u in_n in_u (ap granule_of (sym (place_began at n p here) ∙ place_began at u p there));
    apart = λ n u a b p q in_n in_u has_a has_b here there ne.
        let p_is = place_began at n p here in
        let q_is = place_began at u q there in
        elim (tested (same_name n u)) [
          | inl same ↦ absurd (ne (p_is ∙ ap at (same_names n u same) ∙ sym q_is))
          | inr differ ↦ elim (can.holds.image.image.apart n u a b (in_members n in_n) (in_members u in_u) differ has_a has_b) [
            | inl h ↦ inl (omega (arith, h, p_is, q_is))
            | inr h ↦ inr (omega (arith, h, p_is, q_is))
          ]
        ];
  }

  began_heap : HasHeap (tables_of s) s.limits.blocks m st
  began_heap = record {
    stands = λ n in_n.
        let x = can.holds.image.image.stands n (in_members n in_n) in
        (x.0, x.1, record { placed = x.2.placed; whole = x.2.whole; refs = λ i r e. inl (x.2.refs i r e); values = x.2.values });
    left_behind = λ n moved. absurd (moved refl);
    others = λ w outside unfixed. refl;
  }

  -- no reference was stored to
  unwritten : (n : Name) (i : ℕ) → has_field m.written (n, i) ≡ false
  unwritten n i = ap (λ ws. has_field ws (n, i)) can.settled.none_written

  began_bits : HasBitsAndCounts (tables_of s) m st
  began_bits = record {
    starts = λ n p in_n place. ap (λ z. (tables_of s).starts (granule_of z)) (one_place n p place) ∙ can.holds.bits.starts.each n in_n;
    starts_only = λ k start. let u = can.holds.bits.starts.only k start in (u.0, at u.0, u.1, inl refl, u.2);
    marks = λ n p in_n place. ap (λ z. (tables_of s).marks (granule_of z)) (one_place n p place);
    marks_only = can.holds.bits.marks;
    grays = λ n p in_n place. ap (λ z. (tables_of s).grays (granule_of z)) (one_place n p place);
    grays_only = can.holds.bits.grays;
    counts = λ n p in_n place. ap (λ z. (tables_of s).counts (granule_of z)) (one_place n p place);
    lines = λ k mark.
        let place = one_place mark.name mark.place mark.has_place in
        let behind = mark.behind in
        let within = mark.within in
        can.holds.marks.marked mark.name mark.object k mark.member mark.is (record { begins = mark.begins; behind = omega (arith, behind, place); within = omega (arith, within, place) });
    counts_only = λ k nobody nothing. can.holds.marks.elsewhere k (λ n in_n. nobody n (at n) in_n (inl refl)) (λ n o in_n has_o mark. nothing (record {
      name = n;
      object = o;
      place = at n;
      member = in_n;
      is = has_o;
      has_place = inl refl;
      begins = mark.begins;
      behind = mark.behind;
      within = mark.within;
    }));
    unlogged = λ w. (
      λ set. let u = (can.holds.bits.unlogged w).0 set in
          record { name = u.0; index = u.1; place = at u.0; member = u.2.member; within = u.2.index; has_place = inl refl; word = u.2.word },
      λ r. (can.holds.bits.unlogged w).1 (
        r.name,
        r.index,
        record {
          member = r.member;
          index = r.within;
          unwritten = unwritten r.name r.index;
          word = r.word ∙ ap (λ z. field_word z r.index) (one_place r.name r.place r.has_place);
        },
      ),
    );
  }

  -- each object keeps its lines
  began_kept : KeepsGranules s (IsTaken m st)
  began_kept = record {
    lines = λ k taken.
        let place = one_place taken.name taken.place taken.has_place in
        let first = taken.among.0 in
        let behind = taken.among.1 in
        counted_line (tables_of s) at taken.name taken.object k (can.undecremented.positive taken.name taken.member)
        (λ j mark. can.holds.marks.marked taken.name taken.object j taken.member taken.is mark) (omega (arith, first, place)) (omega (arith, behind, place));
    rest = λ k taken.
        let place = one_place taken.name taken.place taken.has_place in
        let first = taken.among.0 in
        let behind = taken.among.1 in
        can.holds.rest.apart taken.name taken.object k (in_members taken.name taken.member)
        (record { object = taken.is; first = omega (arith, first, place); behind = omega (arith, behind, place) });
  }

  none_kept : (n : Name) → IsTrue (has (kept_names m st) n) → ⊥
  none_kept n h = let none = ap (λ ns. has ns n) (filter_none (is_kept st) m.unreclaimed (λ u member. second_false (stood_chosen st u) (nat_lt (granule_of (at u)) 0) (nat_eq (at u) (at u)) (grind (arith, nat_tests)))) in cc

  handed_none : (x : Bool) (r : ℕ) → r ≡ (if x && not x then ((r + 1) % 2 ^ 32) else r)
  handed_none true r = refl
  handed_none false r = refl

  pub began : IsMovingAway s m st
  began = record {
    evacuating = record {
      can = can;
      space = can.holds.space;
      apart = began_apart;
      heap = began_heap;
      bits = began_bits;
      lines = record {
        rest = can.holds.rest.rest;
        kept = began_kept;
        outs = λ line. (λ out. inl out, λ out. elim out [ inl was ↦ was | inr copy ↦ absurd (copy.moved refl) ]);
        reuse = λ line. handed_none ((tables_of s).outs line) ((tables_of s).reuse line);
        states = λ b. inl refl;
        free = λ b is. (is, λ line of_b out. out);
        wanting = λ n o kept has_o. absurd (none_kept n kept);
      };
      registers = held_began at s.registers.items m.state.registers can.holds.image.registers;
      deferred = held_began at s.deferred.items m.last.registers can.holds.image.deferred;
      tables = refl;
      changes = refl;
    };
    uncleared = refl;
    unfixed = λ w outside. refl;
    kept_before = record { lines = λ k kept. kept.line; rest = λ k kept. kept.rest };
  }
