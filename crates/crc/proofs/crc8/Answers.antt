use Rattle.std.proofs.Common.{rules}
use Rattle.crc.specs.Crc.{byte_step8, crc8}
use Rattle.crc.proofs.crc8.Goals as goal

pub returns : goal.returns
unfolding byte_step8 crc8
returns c = search rules
