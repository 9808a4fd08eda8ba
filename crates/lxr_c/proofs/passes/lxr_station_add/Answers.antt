use Rattle.lxr_c_base.specs.Requests as asking
use Rattle.lxr_c.proofs.AskingLemmas.{asked_by}
use Rattle.lxr_c.proofs.passes.lxr_station_add.Goals as goal

pub returns : goal.returns
returns c = (
  c.operate.result,
  asked_by (λ n. asking.add n c.args.base c.args.index c.args.word) c.args.station.now.held.value c.registers-registers.new.self.held.value c.operate.new.self.held.value c.registers-registers.result c.add-request.result c.operate.result
      c.registers-registers.ensures.count c.registers-registers.ensures.kept c.add-request.ensures c.operate.ensures,
  c.tell.ensures.0,
  c.tell.ensures.1,
)
