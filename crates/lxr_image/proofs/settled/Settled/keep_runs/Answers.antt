use Rattle.std.proofs.Common.{[], inl, inr, refl, subst, sym}
use Rattle.lxr_image.specs.Settled.{Knows}
use Rattle.lxr_image.proofs.SettledLemmas.{kept_known}
use Rattle.lxr_image.proofs.settled.Settled.keep_runs.Goals as goal

pub returns-then-knows_free-clause-knows : goal.returns-then-knows_free-clause-knows
returns-then-knows_free-clause-knows c t known told =
    let s = c.args.self.now in
    let (blocks, is, trusted) = c.knows_free.ensures c.if-knows_free.true in
    let of = told (sym blocks) in
    elim c.keep.ensures [
      | inl all ↦ subst (λ r. Knows (record s { runs = r }) t) (sym all) (kept_known s t c.args.block c.args.words.now c.args.words.now is trusted of (inl refl) known)
      | inr none ↦ subst (λ r. Knows (record s { runs = r }) t) (sym none) (kept_known s t c.args.block c.args.words.now [] is trusted of (inr refl) known)
    ]
