use Rattle.std.proofs.Common.{rules}
use Rattle.endpoint.proofs.types.Endpoint.step.Goals as goal

pub returns-else-older-full-clause-after : goal.returns-else-older-full-clause-after
returns-else-older-full-clause-after c = search rules
