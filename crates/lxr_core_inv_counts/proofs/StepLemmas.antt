-- Each step of a decrementer keeps counts and pending decrements, and its access may be done: case by case of where a step leads.
use Rattle.std.proofs.Common.{◌≡◌, ℕ, zero, suc, refl, sym, ap, ◌∙◌, inl, inr, Bool, true, List, [], ◌∷◌, nat_eq}
use Rattle.std.specs.Prelude.{Option, Some, None, slice_get, slice_set}
use Rattle.lxr_layout.specs.declared.limits.Limits.{Limits}
use Rattle.lxr_layout.specs.declared.Name.{Name}
use Rattle.lxr_layout.specs.declared.TheConstants.{TRACING_WORD}
use Rattle.lxr_image.specs.Tables.{Tables, changed}
use Rattle.lxr_image.specs.Reads.{granule_of}
use Rattle.lxr_model.specs.Moments.{Moment}
use Rattle.lxr_invariant.proofs.EntryLemmas.{changed_cases}
use Rattle.lxr_core_access.specs.declared.Access.{Access}
use Rattle.lxr_core_access.specs.Accesses.{done_to}
use Rattle.lxr_core_access.specs.Decrementers.{Attempts, Decrementing, DecrementerGoes, DecrementerSteps, Handling, begins, goes_on, decrementer_access, Entry, References, Rests, AsksCount, AsksStart, Claims, ReadsHeader, AsksTracing, ReadsReference, MakesGray, AsksLowered, Lowers, AsksCursor, AsksNumber, Draws, ReadsEntry}
use Rattle.lxr_core_access.specs.Decrementers as goes
use Rattle.lxr_core_invariant.specs.Counted.{AreCounted}
use Rattle.lxr_core_invariant.proofs.ShowingLemmas.{set_here}
use Rattle.lxr_core_inv_counts.proofs.GroundLemmas.{IsGround}
use Rattle.lxr_core_inv_counts.proofs.TurnLemmas.{Looks, counted_still, looked}
use Rattle.lxr_core_inv_counts.proofs.LookLemmas.{count_looks, counted_some, cursor_looks, entry_looks, gray_looks, header_looks, lowered_looks, nil_looks, none_looks, some_looks, started_looks, stuck_looks, traced_looks, tracing_looks, try_looks, untraced_looks}
use Rattle.lxr_core_inv_counts.proofs.ClaimLemmas.{claim_counted}
use Rattle.lxr_core_inv_counts.proofs.LowerLemmas.{lower_counted}
use Rattle.lxr_core_inv_counts.proofs.DrawLemmas.{draw_counted, none_counted}

-- the tables after an access, where there is one
abbrev pub after_access : Tables → Option Access → Tables
after_access t None = t
after_access t (Some access) = done_to t access

-- a bit that was set stays
set_again : (f : ℕ → Bool) (k : ℕ) → f k ≡ true → changed f k true ≡ f
set_again f k set i j = same j i
  where
    same : (j : ℕ) → changed f k true j ≡ f j
    same j = elim (changed_cases f k true j) [ inl q ↦ q.1 ∙ sym (ap f q.0 ∙ set) | inr q ↦ q.1 ]

module _ (l : Limits) (t : Tables) (ds : List Decrementing) (m : Moment) (at : Name → ℕ) (ground : IsGround l t m at) (was : AreCounted l.blocks t ds m at) (i : ℕ) where
  -- it only looks
  look : (d e : Decrementing) → slice_get ds i ≡ Some d → Looks l.blocks t m at d e → AreCounted l.blocks t (slice_set ds i e) m at
  look d e shows looks = looked l.blocks t ds m at i d e was shows looks

  -- it reads a count of 0 of what has a decrement in hand, which never is
  never_zero : (referent : ℕ) (handling : Handling) → slice_get ds i ≡ Some (AsksLowered referent handling) → t.counts (granule_of referent) ≡ 0 → ⊥
  never_zero referent handling shows none =
      counted_some l t ds m at ground was i (AsksLowered referent handling) referent handling shows (λ n. refl) (was.knows i (AsksLowered referent handling) shows).0 none

  -- each step keeps counts and pending decrements
  pub step_counted : (d e : Decrementing) → slice_get ds i ≡ Some d → DecrementerGoes l.blocks t d e → AreCounted l.blocks (after_access t (decrementer_access d)) (slice_set ds i e) m at
  step_counted d e shows (goes.asks_count place) = look d e shows (count_looks l t ds m at ground was place (was.knows i d shows))
  step_counted d e shows (goes.counted place next try) = look d e shows (try_looks l t ds m at ground was d e try (λ n. refl))
  step_counted d e shows (goes.unstarted place uncounted next clear try) = look d e shows (try_looks l t ds m at ground was d e try (λ n. refl))
  step_counted d e shows (goes.started place set) = look d e shows (started_looks l t ds m at ground was place (was.knows i d shows) set)
  step_counted d e shows (goes.claimed_before place next set try) =
      counted_still l.blocks t _ (slice_set ds i e) m at (record { counts = refl; dones = set_again t.dones (granule_of place) set; decs = refl; cursor = refl; number = refl })
      (look d e shows (try_looks l t ds m at ground was d e try (λ n. refl)))
  step_counted d e shows (goes.claims place clear) = claim_counted l t ds m at ground was i place shows clear
  step_counted d e shows (goes.reads_header place n s told) = look d e shows (header_looks l t ds m at ground was place n s (was.knows i d shows) told)
  step_counted d e shows (goes.asks_tracing place refs) = look d e shows (tracing_looks l t ds m at ground was place refs (nat_eq (t.cursors TRACING_WORD) 1) (was.knows i d shows))
  step_counted d e shows (goes.reads_nil place refs index traced nil) = look d e shows (nil_looks l t ds m at ground was place refs index traced (was.knows i d shows) nil)
  step_counted d e shows (goes.reads_untraced place refs index some) = look d e shows (untraced_looks l t ds m at ground was place refs index (was.knows i d shows) some)
  step_counted d e shows (goes.reads_traced place refs index some) = look d e shows (traced_looks l t ds m at ground was place refs index (was.knows i d shows) some)
  step_counted d e shows (goes.makes_gray place refs index referent) =
      counted_still l.blocks t _ (slice_set ds i e) m at (record { counts = refl; dones = refl; decs = refl; cursor = refl; number = refl })
      (look d e shows (gray_looks l t ds m at ground was place refs index referent (was.knows i d shows)))
  step_counted d e shows (goes.keeps_zero referent handling none) = absurd (never_zero referent handling shows none)
  step_counted d e shows (goes.keeps_stuck referent handling full) = look d e shows (stuck_looks l t ds m at ground was referent handling (was.knows i d shows) full)
  step_counted d e shows (goes.asks_lowered referent handling some differs) = look d e shows (lowered_looks l t ds m at ground was referent handling (was.knows i d shows) differs)
  step_counted d e shows (goes.lowers referent handling) = lower_counted l t ds m at ground was i referent handling shows
  step_counted d e shows (goes.asks_cursor) = look d e shows (cursor_looks l t ds m at ground was)
  step_counted d e shows (goes.finds_none cursor past) = look d e shows (none_looks l t ds m at ground was cursor)
  step_counted d e shows (goes.finds_some cursor less) = look d e shows (some_looks l t ds m at ground was cursor less)
  step_counted d e shows (goes.draws_none count past) = none_counted l t ds m at ground was i count shows past
  step_counted d e shows (goes.draws count less) = draw_counted l t ds m at ground was i count shows less
  step_counted d e shows (goes.reads_entry number) = look d e shows (entry_looks l t ds m at ground was number (was.knows i d shows))

-- ---- how a unit begins

set_twice : {A : Type 0} (xs : List A) (i : ℕ) (x y : A) → slice_set (slice_set xs i x) i y ≡ slice_set xs i y
set_twice [] i x y = refl
set_twice (z ∷ xs) zero x y = refl
set_twice (z ∷ xs) (suc i) x y = ap (λ zs. z ∷ zs) (set_twice xs i x y)

-- the decrementers, of which one is about to do a step
pub record IsAbout (blocks : ℕ) (t : Tables) (ds : List Decrementing) (m : Moment) (at : Name → ℕ) (i : ℕ) (about : Decrementing) : Type 0 where
  pub all : List Decrementing
  pub counted : AreCounted blocks t all m at
  pub shows : slice_get all i ≡ Some about
  pub after : (e : Decrementing) → slice_set all i e ≡ slice_set ds i e

-- what is tried first is as good as between two units
pub is_about : (l : Limits) (t : Tables) (ds : List Decrementing) (m : Moment) (at : Name → ℕ) (i : ℕ) (before about : Decrementing) → IsGround l t m at → AreCounted l.blocks t ds m at → slice_get ds i ≡ Some before
    → Attempts l.blocks before about → IsAbout l.blocks t ds m at i about
is_about l t ds m at i before about ground was shows (begins d try) = record {
  all = slice_set ds i about;
  counted = looked l.blocks t ds m at i before about was shows (try_looks l t ds m at ground was before about try (λ n. refl));
  shows = set_here ds i about before shows;
  after = λ e. set_twice ds i about e;
}
is_about l t ds m at i before about ground was shows (goes_on d) = record { all = ds; counted = was; shows = shows; after = λ e. refl }
