use Rattle.std.proofs.Common.{rules}
use Rattle.endpoint.proofs.types.Endpoint.since.Goals as goal

pub returns : goal.returns
returns c = search rules
