use Rattle.std.proofs.Common.{◌≡◌, ◌∙◌, ap, false, sym}
use Rattle.std.specs.Prelude.{◌||◌, not}
use Rattle.std.specs.List.{list_any}
use Rattle.lxr_stations.specs.Wanting.{pass_is_unended, pass_wants}
use Rattle.lxr_stations.proofs.WantedLemmas.{wanted_so}
use Rattle.lxr_stations.proofs.wanted.is_pause_wanted.Goals as goal

pub returns-then-some_wants : goal.returns-then-some_wants
returns-then-some_wants c = (
  λ e. (wanted_so c.args.passes.now).0 (ap (λ b. b || not (list_any pass_is_unended c.args.passes.now)) (sym c.some_wants.ensures ∙ c.if-some_wants.true)),
  λ wanted. c.if-some_wants.true,
)

pub returns-else-some_wants : goal.returns-else-some_wants
returns-else-some_wants c =
    let none : list_any pass_wants c.args.passes.now ≡ false = sym c.some_wants.ensures ∙ c.if-some_wants.false in
    let last = ap (λ b. b || not (list_any pass_is_unended c.args.passes.now)) none in
    (λ e. (wanted_so c.args.passes.now).0 (last ∙ ap not (sym c.some_is_unended.ensures) ∙ e), λ wanted. ap not c.some_is_unended.ensures ∙ sym last ∙ (wanted_so c.args.passes.now).1 wanted)
