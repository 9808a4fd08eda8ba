-- Old values in the logs are of what was reachable at the last pause.
use Rattle.std.proofs.Common.{◌≡◌, ◌≢◌, ℕ, zero, suc, refl, ap, subst, ◌∙◌, arith, List, [], ◌∷◌, IsTrue, get_or}
use Rattle.std.specs.Prelude.{Option, Some, None, map, slice_get}
use Rattle.std.specs.List.{All}
use Rattle.std.proofs.lemmas.List.Elements.{All-map}
use Rattle.std.proofs.lemmas.Map.Views.{All-map-IsPermutation}
use Rattle.std.proofs.lemmas.Option.{get_or_from_slice_get, slice_get-get_or, slice_get-map, slice_get_within}
use Rattle.std.specs.Option.{option_map}
use Rattle.lxr_layout.specs.declared.LogEntry.{LogEntry}
use Rattle.lxr_layout.specs.declared.Name.{Name}
use Rattle.lxr_graph.specs.State.{object_at, refs_of}
use Rattle.lxr_image.specs.Image.{place_word}
use Rattle.lxr_model.specs.Moments.{Field, Moment}
use Rattle.lxr_model.specs.Reachable.{Reachable, referred}
use Rattle.lxr_model_counting.specs.Distinct.{has_field}
use Rattle.lxr_model_counting.specs.Following.{FollowsPause}
use Rattle.lxr_model_counting.proofs.DistinctLemmas.{first_field, later_field}
use Rattle.lxr_invariant.specs.Standing.{AreLogged, entry_of}
use Rattle.lxr_invariant.specs.Tracing.{IsOldValue}

-- each of some fields is one of them
each_field : (ws : List Field) → All (λ w. IsTrue (has_field ws w)) ws
each_field [] k d within = absurd (omega (arith, within))
each_field (w ∷ ws) zero d within = first_field w ws
each_field (w ∷ ws) (suc k) d within = later_field w ws (get_or ws k d) (each_field ws k d (omega (arith, within)))

-- a place is nil, or that of an object that was reachable at the last pause
abbrev pub IsLiveThen : Moment → (Name → ℕ) → ℕ → Type 0
IsLiveThen m at p = p ≢ 0 → (v : Name) × Reachable m.last v × (p ≡ at v)

module _ (m : Moment) (at : Name → ℕ) (follows : FollowsPause m) where
  -- what a reference held is of this kind, since its object was reachable
  held_live : (w : Field) (r : Option Name) → Reachable m.last w.0 → slice_get (refs_of (object_at m.last.graph w.0)) w.1 ≡ Some r → IsLiveThen m at (place_word at r)
  held_live w None reached is some = absurd (some refl)
  held_live w (Some v) reached is some = (v, referred reached (w.1, is), refl)

  written_live : (w : Field) → IsTrue (has_field m.written w) → IsLiveThen m at (entry_of m at w).old.0
  written_live w h =
      let stored = follows.written w.0 w.1 h in
      let rs : List (Option Name) = refs_of (object_at m.last.graph w.0) in
      held_live w (get_or rs w.1 None) stored.1 (slice_get-get_or rs w.1 None stored.2)

  pub old_live : (entries : List LogEntry) (p : ℕ) → AreLogged m at entries → IsOldValue entries p → IsLiveThen m at p
  old_live entries p logs (k, entry, there, is) =
      let each : All (IsLiveThen m at) (map (λ (e : LogEntry). e.old.0) (map (entry_of m at) m.written)) =
      All-map (IsLiveThen m at) (λ (e : LogEntry). e.old.0) (map (entry_of m at) m.written)
      (All-map (λ (e : LogEntry). IsLiveThen m at e.old.0) (entry_of m at) m.written (λ j d within. written_live (get_or m.written j d) (each_field m.written j d within))) in
      let all : All (IsLiveThen m at) (map (λ (e : LogEntry). e.old.0) entries) =
      All-map-IsPermutation (λ (e : LogEntry). e.old.0) (IsLiveThen m at) (map (entry_of m at) m.written) entries logs each in
      let at_k : slice_get (map (λ (e : LogEntry). e.old.0) entries) k ≡ Some p =
      slice_get-map (λ (e : LogEntry). e.old.0) entries k ∙ ap (option_map (λ (e : LogEntry). e.old.0)) there ∙ ap Some is in
      subst (IsLiveThen m at) (get_or_from_slice_get _ k p 0 at_k) (all k 0 (slice_get_within _ k p at_k))
