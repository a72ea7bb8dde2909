use Rattle.std.proofs.Common.{rules}
use Rattle.endpoint.proofs.types.Endpoint.enabled.Goals as goal

pub returns : goal.returns
returns c = search rules
