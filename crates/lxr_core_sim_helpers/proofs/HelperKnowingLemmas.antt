-- What is said of words that are nil or places of the heap.
use Rattle.std.proofs.Common.{◌≡◌, ℕ, ◌*◌, ◌/◌, ◌≤◌, Bool, true, false, arith, refl, ap, ◌∙◌}
use Rattle.std.specs.Prelude.{Some, None, ◌&&◌, nat_le, if◌then◌else◌}
use Rattle.lxr_layout.specs.declared.limits.Limits.{Limits}
use Rattle.lxr_layout.specs.declared.limits.Regions.{Regions}
use Rattle.lxr_layout.specs.Spaces.{regions_of}
use Rattle.lxr_helper.specs.Words.{referent_in}
use Rattle.lxr_core_invariant.specs.Counted.{IsInHeap}

-- both of two tests hold
both : (c d : Bool) → c ≡ true → d ≡ true → (c && d) ≡ true
both true d h k = k
both false d h k = h

-- a place of the heap is told as one
pub place_told : (l : Limits) (r : Regions) (place : ℕ) → r ≡ regions_of l → IsInHeap l.blocks place → referent_in r place ≡ Some (record { 0 = place })
place_told l r place is low =
    let some = low.0 in
    let within = low.1 in
    let counts : r.counts ≡ 4096 * l.blocks = ap (λ x. x.counts) is ∙ omega arith in
    let first : nat_le 1 place ≡ true = grind (arith, some) in
    let last : nat_le place (r.counts / 2) ≡ true = let h : place ≤ r.counts / 2 = omega (arith, counts, within) in grind (arith, h) in
    ap (λ c. if c then Some (record { 0 = place }) else None) (both (nat_le 1 place) (nat_le place (r.counts / 2)) first last)

-- so is nil as none
pub nil_told : (r : Regions) → referent_in r 0 ≡ None
nil_told r = refl
