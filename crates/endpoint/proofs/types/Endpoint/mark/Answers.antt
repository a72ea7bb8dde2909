use Rattle.std.proofs.Common.{rules}
use Rattle.endpoint.proofs.types.Endpoint.mark.Goals as goal

pub returns-in-Armed : goal.returns-in-Armed
returns-in-Armed c = search rules
