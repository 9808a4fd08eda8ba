use Rattle.std.proofs.Common.{rules, ◌≡◌, ◌∙◌, ap, length, sym}
use Rattle.lxr_image.specs.declared.space.Space.{Space}
use Rattle.lxr_image.specs.Parts.{whole}
use Rattle.lxr_shared_passes.proofs.Ends.{counts-of}
use Rattle.lxr_shared.specs.Sharing.{Sharing}
use Rattle.lxr_shared.proofs.close.close_shared.Goals as goal

pub unseal-requires : goal.unseal-requires
unseal-requires c =
    let same = counts-of c.args.epoch.id c.args.epoch.opening c.args.passes.items c.args.epoch.opening.actors c.requires.order in
    let actors = ap (λ o. length o.opening.actors) c.epoch.view_is in
    let room = c.epoch.invariant.1 in
    let len = c.args.passes.ok in
    record { room = (c.epoch.invariant.0, search rules) }

pub returns-clause-rest : goal.returns-clause-rest
returns-clause-rest c =
    let words = c.close_passes-words.result.0 in
    let is : c.from_parts.result ≡ whole words c.epoch.inside.rest = c.from_parts.ensures ∙ c.end_epoch.ensures.rest words in
    is ∙ ap (λ (e : Sharing). record e.space { words = words }) c.epoch.view_is ∙ ap (λ ws. record c.args.epoch.space { words = ws }) (sym (ap (λ (s : Space). s.words) is))
