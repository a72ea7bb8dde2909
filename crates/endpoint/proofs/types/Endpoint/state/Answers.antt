use Rattle.std.proofs.Common.{rules}
use Rattle.endpoint.proofs.types.Endpoint.state.Goals as goal

pub returns : goal.returns
returns c = search rules
