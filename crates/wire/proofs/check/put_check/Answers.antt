use Rattle.std.proofs.Common.{rules}
use Rattle.wire.proofs.check.put_check.Goals as goal

pub returns-clause-buffer : goal.returns-clause-buffer
returns-clause-buffer c = search rules
