use Rattle.std.proofs.Common.{rules}
use Rattle.session.proofs.latest.Latest.call.Goals as goal

pub returns-clause-call : goal.returns-clause-call
returns-clause-call c = search rules
