use Rattle.std.proofs.Common.{rules}
use Rattle.smbus.proofs.calls.SmbusCarrierCarrier.is_up.Goals as goal

pub returns : goal.returns
returns c = search rules
