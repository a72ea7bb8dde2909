use Rattle.std.proofs.Common.{rules}
use Rattle.endpoint.proofs.types.Endpoint.settle.Goals as goal

pub returns-then-any : goal.returns-then-any
returns-then-any c = search rules

pub returns-else-any : goal.returns-else-any
returns-else-any c = search rules
