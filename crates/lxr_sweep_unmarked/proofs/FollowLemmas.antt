-- What is reachable is marked, so it is neither swept nor dies by it; and what is left refers to what is left.
use Rattle.std.proofs.Common.{◌≡◌, ℕ, refl, sym, ap, subst, ◌∙◌, inl, inr, false, true, Bool, List, IsTrue}
use Rattle.std.specs.Prelude.{◌↔◌, ◌&&◌}
use Rattle.std.proofs.lemmas.Bool.{and_from, and_parts}
use Rattle.lxr_layout.specs.declared.Name.{Name}
use Rattle.lxr_graph.specs.Names.{has, without}
use Rattle.lxr_graph.specs.State.{world_name}
use Rattle.lxr_graph.proofs.NameSets.{in_order-without, in_without, not_both, without_parts}
use Rattle.lxr_image.specs.declared.space.Space.{Space}
use Rattle.lxr_image.specs.Spaces.{tables_of}
use Rattle.lxr_image.specs.Reads.{granule_of}
use Rattle.lxr_model.specs.Dead.{Dead}
use Rattle.lxr_model.specs.Moments.{Moment}
use Rattle.lxr_model.specs.Reachable.{Reachable, Refers, held, the_world}
use Rattle.lxr_model.proofs.ReachableLemmas.{dead_apart, dead_parts, reachable_within}
use Rattle.lxr_model_counting.specs.Following.{FollowsPause}
use Rattle.lxr_invariant.specs.Tracing.{IsMarked, IsUnmarked}
use Rattle.lxr_invariant.proofs.NameLemmas.{no_member}
use Rattle.lxr_sweep_unmarked.specs.Sweeping.{CanSweep, swept_moment}

-- the swept names are those of unmarked unreclaimed objects
abbrev pub SweptAre : Space → Moment → (Name → ℕ) → List Name → Type 0
SweptAre s m at swept = (n : Name) → IsTrue (has swept n) ↔ (IsTrue (has m.unreclaimed n) × IsUnmarked (tables_of s) at n)

module _ (s : Space) (m : Moment) (at : Name → ℕ) (can : CanSweep s m at) (swept : List Name) (are : SweptAre s m at swept) where
  -- what is reachable at the pause is unreclaimed and marked
  reachable_marked : (n : Name) → Reachable m.state n → IsTrue (has m.unreclaimed n) × IsMarked (tables_of s) at n
  reachable_marked n reached =
      let follows = can.holds.follows in
      let marks = (tables_of s).marks in
      let kept : (x : Name) → Reachable m.state x → IsTrue (has m.unreclaimed x) = λ x r. follows.kept x (subst (λ z. Reachable z x) (sym can.settled.same) r) in
      let all = reachable_within m.state (λ x. has m.unreclaimed x && marks (granule_of (at x)))
      (record {
        world = and_from (has m.unreclaimed world_name) (marks (granule_of (at world_name))) (follows.stuck world_name follows.world) (can.roots world_name (inl refl));
        registers = λ x h. and_from (has m.unreclaimed x) (marks (granule_of (at x))) (kept x (held h)) (can.roots x (inr h));
        references = λ u x h f.
            let parts = and_parts (has m.unreclaimed u) (marks (granule_of (at u))) h in
            and_from (has m.unreclaimed x) (marks (granule_of (at x))) (follows.closed u x parts.0 (subst (λ z. Refers z.graph u x) (sym can.settled.same) f)) (can.closed u x parts.0 parts.1 f);
      }) n reached in
      and_parts (has m.unreclaimed n) (marks (granule_of (at n))) all

  -- what is marked isn't swept, and what isn't swept is marked
  marked_stays : (n : Name) → IsTrue (has m.unreclaimed n) → IsMarked (tables_of s) at n → IsTrue (has (without m.unreclaimed swept) n)
  marked_stays n in_n marked = in_without m.unreclaimed swept n in_n (λ k. not_both _ marked ((are n).0 k).1)

  pub left_marked : (n : Name) → IsTrue (has (without m.unreclaimed swept) n) → IsTrue (has m.unreclaimed n) × IsMarked (tables_of s) at n
  left_marked n h =
      let parts = without_parts m.unreclaimed swept n h in
      (parts.0, unswept_marked ((tables_of s).marks (granule_of (at n))) (λ no_mark. not_both (has swept n) ((are n).1 (parts.0, no_mark)) parts.1))
    where
      unswept_marked : (b : Bool) → (b ≡ false → ⊥) → IsTrue b
      unswept_marked true never = refl
      unswept_marked false never = absurd (never refl)

  -- what is left refers to what is left
  pub left_closed : (u n : Name) → IsTrue (has (without m.unreclaimed swept) u) → Refers m.last.graph u n → IsTrue (has (without m.unreclaimed swept) n)
  left_closed u n h f =
      let marked = left_marked u h in
      marked_stays n (can.holds.follows.closed u n marked.0 f) (can.closed u n marked.0 marked.1 (subst (λ z. Refers z.graph u n) can.settled.same f))

  -- what is reachable at the last pause isn't swept
  reachable_stays : (n : Name) → Reachable m.last n → IsTrue (has (without m.unreclaimed swept) n)
  reachable_stays n r = let both = reachable_marked n (subst (λ z. Reachable z n) can.settled.same r) in marked_stays n both.0 both.1

  world_stays : has swept world_name ≡ false
  world_stays = (without_parts m.unreclaimed swept world_name (reachable_stays world_name the_world)).1

  module _ (gone : List Name) (dead : (n : Name) → IsTrue (has gone n) ↔ Dead m.last (without m.unreclaimed swept) m.stuck n) where
    abbrev us : List Name
    us = without m.unreclaimed swept

    still_reachable : (n : Name) → Reachable m.last n → IsTrue (has (without us gone) n)
    still_reachable n r = in_without us gone n (reachable_stays n r) (λ k. dead_apart m.last us m.stuck reachable_stays can.holds.follows.world n ((dead n).0 k) r)

    still_in : (n : Name) → IsTrue (has (without us gone) n) → IsTrue (has m.unreclaimed n)
    still_in n h = (without_parts m.unreclaimed swept n (without_parts us gone n h).0).0

    none_made : (n : Name) → IsTrue (has m.made n) → ⊥
    none_made n h = no_member n (ap (λ z. has z n) (sym can.settled.none_made) ∙ h)

    -- the moment after the sweep follows the pause
    pub swept_follows : FollowsPause (swept_moment m swept gone)
    swept_follows =
        let follows = can.holds.follows in
        record {
          unreclaimed = in_order-without us gone (in_order-without m.unreclaimed swept follows.unreclaimed);
          made = follows.made;
          apart = λ n h. absurd (none_made n h);
          kept = still_reachable;
          closed = λ u n h f.
              let parts = without_parts us gone u h in
              in_without us gone n (left_closed u n parts.0 f) (λ k. not_both (has gone u) ((dead u).1 ((dead_parts ((dead n).0 k)).each u parts.0 f)) parts.1);
          world = in_without m.stuck swept world_name follows.world (λ k. not_both (has swept world_name) k world_stays);
          stuck = λ n h.
              let parts = without_parts m.stuck swept n h in
              in_without us gone n (in_without m.unreclaimed swept n (follows.stuck n parts.0) (λ k. not_both (has swept n) k parts.1))
              (λ k. not_both (has m.stuck n) parts.0 (dead_parts ((dead n).0 k)).unstuck);
          held = follows.held;
          referred = follows.referred;
          grows = follows.grows;
          objects = λ n h. follows.objects n (still_in n h);
          young = follows.young;
          unreached = λ n h. follows.unreached n (still_in n h);
          unwritten = λ n i h. follows.unwritten n i (still_in n h);
          written_once = follows.written_once;
          written = λ n i h. let w = follows.written n i h in (still_reachable n w.1, w.1, w.2);
          rows = follows.rows;
          registers = follows.registers;
          registers_were = follows.registers_were;
        }
