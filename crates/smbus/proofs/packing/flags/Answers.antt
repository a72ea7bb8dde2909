use Rattle.std.proofs.Common.{rules}
use Rattle.smbus.proofs.packing.flags.Goals as goal

pub returns : goal.returns
returns c = search rules
