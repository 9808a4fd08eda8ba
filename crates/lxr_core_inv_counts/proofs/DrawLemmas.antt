-- What is drawn of the list comes into hand; past its end nothing does.
use Rattle.std.proofs.Common.{◌≡◌, ℕ, ◌+◌, ◌<◌, ◌≤◌, refl, inl, arith, List}
use Rattle.std.specs.Prelude.{Some, slice_get, slice_set}
use Rattle.lxr_layout.specs.declared.limits.Limits.{Limits}
use Rattle.lxr_layout.specs.declared.Name.{Name}
use Rattle.lxr_layout.specs.declared.TheConstants.{DECREMENT_COUNT, DECREMENT_CURSOR}
use Rattle.lxr_image.specs.Tables.{Tables}
use Rattle.lxr_model.specs.Moments.{Moment}
use Rattle.lxr_invariant.specs.Counting.{waiting_at}
use Rattle.lxr_core_access.specs.declared.Access.TheVariants as access
use Rattle.lxr_core_access.specs.Accesses.{done_to}
use Rattle.lxr_core_access.specs.Decrementers.{Decrementing, Rests, Draws, ReadsEntry}
use Rattle.lxr_core_invariant.specs.Counted.{AreCounted, draws_soon, KnowsCounts, handled_by, in_hand}
use Rattle.lxr_core_inv_counts.proofs.HandLemmas.{first_between, none_between}
use Rattle.lxr_core_inv_counts.proofs.GroundLemmas.{IsGround}
use Rattle.lxr_core_inv_counts.proofs.TurnLemmas.{moved}

module _ (l : Limits) (t : Tables) (ds : List Decrementing) (m : Moment) (at : Name → ℕ) (ground : IsGround l t m at) (was : AreCounted l.blocks t ds m at)
    (i count : ℕ) (shows : slice_get ds i ≡ Some (Draws count)) where
  abbrev drew : Tables
  drew = done_to t (access.Draw DECREMENT_CURSOR)

  -- what the draw leaves to be shown
  drawn_counted : (e : Decrementing) → ((n : Name) → waiting_at t (at n) ≡ waiting_at drew (at n) + in_hand t m at e n) → ((place : ℕ) → handled_by e ≡ Some place → ⊥)
      → ((number : ℕ) → e ≡ ReadsEntry number → number ≡ t.cursors DECREMENT_CURSOR) → draws_soon (t.cursors DECREMENT_COUNT) e ≡ 0 → KnowsCounts l.blocks drew m at e → AreCounted l.blocks drew (slice_set ds i e) m at
  drawn_counted e waits handles draws soon own = moved l.blocks t drew ds m at i (Draws count) e was shows (record {
    keeps = record { zeros = λ k z. z; dones = λ k z. z; number = refl };
    decs = refl;
    stuck = λ n h k. refl;
    balanced = λ n h k. record { falls = omega arith; balance = let w = waits n in omega (arith, w) };
    done = was.done;
    dead = was.dead;
    handler = λ j f p there by_f by_e. absurd (handles p by_e);
    cursor = omega arith;
    draws = λ number by. let first = draws number by in (omega (arith, first), omega (arith, first));
    drawn = inl (omega (arith, soon));
    own = own;
  })

  -- the list was at its end
  pub none_counted : count ≤ t.cursors DECREMENT_CURSOR → AreCounted l.blocks drew (slice_set ds i Rests) m at
  none_counted past =
      let all = was.knows i (Draws count) shows in
      drawn_counted Rests
      (λ n.
      let a = none_between t.decs (t.cursors DECREMENT_CURSOR) (t.cursors DECREMENT_COUNT) (at n) (omega (arith, past, all)) in
      let b = none_between t.decs (t.cursors DECREMENT_CURSOR + 1) (t.cursors DECREMENT_COUNT) (at n) (omega (arith, past, all)) in
      omega (arith, a, b))
      (λ p e. absurd (cc)) (λ k e. absurd (cc)) refl tt

  -- its first entry that waits
  pub draw_counted : t.cursors DECREMENT_CURSOR < count → AreCounted l.blocks drew (slice_set ds i (ReadsEntry (t.cursors DECREMENT_CURSOR))) m at
  draw_counted less =
      let all = was.knows i (Draws count) shows in
      let within : t.cursors DECREMENT_CURSOR < t.cursors DECREMENT_COUNT = omega (arith, less, all) in
      drawn_counted (ReadsEntry (t.cursors DECREMENT_CURSOR))
      (λ n. let a = first_between t.decs (t.cursors DECREMENT_CURSOR) (t.cursors DECREMENT_COUNT) (at n) within in omega (arith, a))
      (λ p e. absurd (cc)) (λ k e. cc) refl within
