use Rattle.std.proofs.Common.{◌≡◌, ◌∙◌, ap, sym, refl, arith, true, false}
use Rattle.std.specs.Prelude.{◌&&◌, nat_le}
use Rattle.lxr_image.specs.Reads.{granule_of}
use Rattle.lxr_image.proofs.TableLaws.{no_start_past}
use Rattle.lxr_image.proofs.space.Space.begins.Goals as goal

pub returns-then-self-place-clause-begins : goal.returns-then-self-place-clause-begins
returns-then-self-place-clause-begins c =
    let past = no_start_past c.args.self.now.limits c.args.self.now.words (granule_of c.args.place.0) c.requires.size (omega arith) in
    sym (ap (λ b. nat_le 1 c.args.place.0 && b) past ∙ elim (nat_le 1 c.args.place.0) as (λ b. (b && false) ≡ false) [ true ↦ refl | false ↦ refl ])
