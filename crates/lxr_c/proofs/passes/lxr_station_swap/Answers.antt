use Rattle.lxr_c_base.specs.Requests as asking
use Rattle.lxr_c.proofs.AskingLemmas.{asked_by}
use Rattle.lxr_c.proofs.passes.lxr_station_swap.Goals as goal

pub returns : goal.returns
returns c = (
  c.operate.result,
  asked_by (λ n. asking.swap n c.args.dest c.args.base c.args.index c.args.source) c.args.station.now.held.value c.registers-registers.new.self.held.value c.operate.new.self.held.value c.registers-registers.result c.swap-request.result c.operate.result
      c.registers-registers.ensures.count c.registers-registers.ensures.kept c.swap-request.ensures c.operate.ensures,
  c.number.ensures,
)
