use Rattle.std.proofs.Common.{◌≡◌, ◌^◌, ◌<◌, ◌∙◌, arith, eqb, lit≤, subst, sym, w64}
use Rattle.std.specs.Prelude.{◌↔◌, IsBitSet, slice_index}
use Rattle.std.proofs.lemmas.Simd.{bitmask_splat}
use Rattle.lxr_tables.specs.declared.lanes.TheConstants.{LANES}
use Rattle.lxr_tables.proofs.BitLemmas.{mask_within, zero_bits}
use Rattle.lxr_tables.proofs.lanes.zeros_of.Goals as goal

pub returns-clause-told : goal.returns-clause-told
returns-clause-told c i within =
    subst (λ m. IsBitSet m i ↔ (slice_index c.args.lanes i ≡ 0)) (sym (c.from.ensures ∙ bitmask_splat w64 eqb c.args.lanes LANES 0 c.fits-lanes.0 (lit≤ tt)))
    (zero_bits c.args.lanes i (let len = c.fits-lanes.0 in omega arith))

pub returns-clause-within : goal.returns-clause-within
returns-clause-within c =
    subst (λ m. m < 2 ^ LANES) (sym (c.from.ensures ∙ bitmask_splat w64 eqb c.args.lanes LANES 0 c.fits-lanes.0 (lit≤ tt))) (mask_within c.args.lanes LANES c.fits-lanes.0)
