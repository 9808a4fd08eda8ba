use Rattle.std.proofs.Common.{◌∙◌, sym, subst}
use Rattle.std.specs.Prelude.{IfOk}
use Rattle.lxr_c_many.specs.Making.{IsWanted}
use Rattle.lxr_c_many.proofs.WantedLemmas.{object_fits, sources_registers}
use Rattle.lxr_c_many.proofs.making.wanted_of.Goals as goal

pub returns-clause-fits : goal.returns-clause-fits
returns-clause-fits c =
    subst (λ r. IfOk r (IsWanted c.args.registers c.args.sources.now c.args.words.now)) (sym c.object_of.ensures)
    (object_fits c.args.registers c.args.dest c.args.sources.now c.args.words.now (sources_registers c.args.registers c.args.dest c.args.sources.now (sym c.are_sources.ensures ∙ c.if-not-are_sources.false)))
