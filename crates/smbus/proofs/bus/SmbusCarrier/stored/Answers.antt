use Rattle.std.proofs.Common.{rules}
use Rattle.smbus.proofs.bus.SmbusCarrier.stored.Goals as goal

pub returns : goal.returns
returns c = search rules
