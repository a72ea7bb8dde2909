use Rattle.std.proofs.Common.{rules}
use Rattle.carrier.proofs.deliver.Goals as goal

pub returns-clause-after : goal.returns-clause-after
returns-clause-after g c = search rules
