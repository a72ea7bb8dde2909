use Rattle.std.proofs.Common.{rules}
use Rattle.endpoint.proofs.types.Endpoint.tick.Goals as goal

pub returns-in-Again : goal.returns-in-Again
returns-in-Again g c = search rules

pub returns-in-Start : goal.returns-in-Start
returns-in-Start g c = search rules
