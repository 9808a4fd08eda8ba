-- How many references tracers are ahead of.
use Rattle.std.proofs.Common.{◌≡◌, ℕ, zero, suc, ◌+◌, refl, ap, arith, List, [], ◌∷◌}
use Rattle.std.specs.Prelude.{Some, slice_get, slice_set}
use Rattle.lxr_layout.specs.declared.Name.{Name}
use Rattle.lxr_model.specs.Moments.{Moment}
use Rattle.lxr_core_access.specs.Tracers.{Tracing, Rests}
use Rattle.lxr_core_invariant.specs.Remembered.{undrawn, undrawn_by}

-- one of them comes to be about to do something else
pub undrawn_set : (m : Moment) (at : Name → ℕ) (ts : List Tracing) (i : ℕ) (d e : Tracing) → slice_get ts i ≡ Some d → undrawn m at (slice_set ts i e) + undrawn_by m at d ≡ undrawn m at ts + undrawn_by m at e
undrawn_set m at [] i d e shows = absurd (cc)
undrawn_set m at (x ∷ ts) zero d e shows = let same : x ≡ d = cc in let own = ap (undrawn_by m at) same in omega (arith, own)
undrawn_set m at (x ∷ ts) (suc i) d e shows = let rest = undrawn_set m at ts i d e shows in omega (arith, rest)

-- where all rest, they are ahead of nothing
pub undrawn_rest : (m : Moment) (at : Name → ℕ) (ts : List Tracing) → ((i : ℕ) (d : Tracing) → slice_get ts i ≡ Some d → d ≡ Rests) → undrawn m at ts ≡ 0
undrawn_rest m at [] rest = refl
undrawn_rest m at (x ∷ ts) rest =
    let own = ap (undrawn_by m at) (rest 0 x refl) in
    let others = undrawn_rest m at ts (λ i d shows. rest (suc i) d shows) in
    omega (arith, own, others)
