use Rattle.std.proofs.Common.{◌∙◌, ap}
use Rattle.lxr_c_base.specs.Requests as asking
use Rattle.lxr_c_base.specs.Requests.{small_of}
use Rattle.lxr_c.proofs.AskingLemmas.{asked_by}
use Rattle.lxr_c.proofs.passes.lxr_station_store.Goals as goal

pub returns : goal.returns
returns c = (
  c.operate.result,
  asked_by (λ n. small_of (asking.store n c.args.base c.args.index c.args.source)) c.args.station.now.held.value c.registers-registers.new.self.held.value c.operate.new.self.held.value c.registers-registers.result c.small_of-request.result c.operate.result
      c.registers-registers.ensures.count c.registers-registers.ensures.kept (c.small_of-request.ensures ∙ ap small_of c.set_reference.ensures.asked) c.operate.ensures,
  c.number.ensures,
)
