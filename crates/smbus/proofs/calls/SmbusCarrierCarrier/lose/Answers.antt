use Rattle.std.proofs.Common.{rules}
use Rattle.smbus.proofs.calls.SmbusCarrierCarrier.lose.Goals as goal

pub returns-clause-after : goal.returns-clause-after
returns-clause-after c = search rules
