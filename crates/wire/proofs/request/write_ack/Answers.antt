use Rattle.std.proofs.Common.{rules}
use Rattle.wire.proofs.request.write_ack.Goals as goal

pub returns : goal.returns
returns c = search rules
