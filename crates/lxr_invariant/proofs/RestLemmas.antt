-- A space between epochs is at rest, and one at rest is between epochs where nothing was stored to; and entries of logs, which stay where
-- unreclaimed objects keep their places.
use Rattle.std.proofs.Common.{◌≡◌, ℕ, zero, suc, refl, ap, ◌∙◌, List, [], ◌∷◌, map, get_or}
use Rattle.std.specs.Prelude.{Option, Some, None, IsTrue, slice_get}
use Rattle.lxr_layout.specs.declared.Name.{Name}
use Rattle.lxr_graph.specs.Names.{has}
use Rattle.lxr_graph.specs.State.{object_at, refs_of}
use Rattle.lxr_image.specs.declared.space.Space.{Space}
use Rattle.lxr_image.specs.Image.{place_word}
use Rattle.lxr_model.specs.Moments.{Field, Moment}
use Rattle.lxr_model_counting.specs.Distinct.{has_field}
use Rattle.lxr_model_counting.specs.Following.{FollowsPause}
use Rattle.lxr_model_counting.proofs.DistinctLemmas.{first_field, later_field}
use Rattle.lxr_invariant.specs.AbstractState.{AbstractState}
use Rattle.lxr_invariant.specs.Standing.{entry_of}
use Rattle.lxr_invariant.specs.Quiescent.{IsAtRest, IsQuiescent}

pub quiescent_rests : (s : Space) (g : AbstractState) → IsQuiescent s g → IsAtRest s g
quiescent_rests s g is = record { safepoint = is.safepoint; undecremented = is.undecremented; lines = is.lines; outs = is.outs; states = is.states }

pub rests_quiescent : (s : Space) (g : AbstractState) → IsAtRest s g → g.moment.written ≡ [] → IsQuiescent s g
rests_quiescent s g is unwritten = record {
  safepoint = is.safepoint;
  unwritten = unwritten;
  undecremented = is.undecremented;
  lines = is.lines;
  outs = is.outs;
  states = is.states;
}

-- ---- entries of logs

-- entries stay where each does
pub entries_alike : (m k : Moment) (at to : Name → ℕ) (ws : List Field) → ((n : Name) (i : ℕ) → IsTrue (has_field ws (n, i)) → entry_of k to (n, i) ≡ entry_of m at (n, i))
    → map (entry_of k to) ws ≡ map (entry_of m at) ws
entries_alike m k at to [] each = refl
entries_alike m k at to (w ∷ ws) each =
    ap (λ z. z ∷ map (entry_of k to) ws) (each w.0 w.1 (first_field w ws))
    ∙ ap (λ z. entry_of m at w ∷ z) (entries_alike m k at to ws (λ n i h. each n i (later_field w ws (n, i) h)))

-- what a list has at an index keeps its place where all that the list has do
pub same_word : (at to : Name → ℕ) (rs : List (Option Name)) (i : ℕ) → ((q : Name) → slice_get rs i ≡ Some (Some q) → to q ≡ at q) → place_word to (get_or rs i None) ≡ place_word at (get_or rs i None)
same_word at to [] i each = refl
same_word at to (None ∷ rs) zero each = refl
same_word at to (Some q ∷ rs) zero each = each q refl
same_word at to (r ∷ rs) (suc i) each = same_word at to rs i each

-- the entry of an unreclaimed object's field stays where unreclaimed names keep their places, since what it referred to is unreclaimed too
pub entry_stays : (m k : Moment) (at to : Name → ℕ) (n : Name) (i : ℕ) → k.last ≡ m.last → FollowsPause m → ((q : Name) → IsTrue (has m.unreclaimed q) → to q ≡ at q) → IsTrue (has m.unreclaimed n)
    → entry_of k to (n, i) ≡ entry_of m at (n, i)
entry_stays m k at to n i last follows places member =
    let rs : List (Option Name) = refs_of (object_at m.last.graph n) in
    let old = same_word at to rs i (λ q there. places q (follows.closed n q member (i, there))) in
    ap (λ z. record { place = record { 0 = to n }; index = i; old = record { 0 = place_word to (get_or (refs_of (object_at z.graph n)) i None) } }) last
    ∙ ap (λ z. record { place = record { 0 = z }; index = i; old = record { 0 = place_word to (get_or rs i None) } }) (places n member)
    ∙ ap (λ z. record { place = record { 0 = at n }; index = i; old = record { 0 = z } }) old

-- so the entries of what was stored to stay
pub entries_stay : (m k : Moment) (at to : Name → ℕ) → k.last ≡ m.last → FollowsPause m → ((q : Name) → IsTrue (has m.unreclaimed q) → to q ≡ at q) → map (entry_of k to) m.written ≡ map (entry_of m at) m.written
entries_stay m k at to last follows places = entries_alike m k at to m.written (λ n i h. entry_stays m k at to n i last follows places (follows.written n i h).0)
