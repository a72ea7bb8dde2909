use Rattle.pair.proofs.Calls.{writes_does}
use Rattle.pair.proofs.manager.Manager.write_ack.Goals as goal

pub returns : goal.returns
returns c = writes_does _ _ _ _ _ _ _ c.write_ack-written.ensures c.hold.ensures.result
