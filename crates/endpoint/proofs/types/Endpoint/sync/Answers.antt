use Rattle.std.proofs.Common.{rules}
use Rattle.endpoint.proofs.types.Endpoint.sync.Goals as goal

pub returns : goal.returns
returns g c = search rules
