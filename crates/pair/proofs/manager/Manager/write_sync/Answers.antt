use Rattle.pair.proofs.Calls.{writes_does}
use Rattle.pair.proofs.manager.Manager.write_sync.Goals as goal

pub returns : goal.returns
returns c = writes_does _ _ _ _ _ _ _ c.write_sync-written.ensures c.hold.ensures.result
