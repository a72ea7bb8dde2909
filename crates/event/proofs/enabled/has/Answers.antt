use Rattle.std.proofs.Common.{rules}
use Rattle.event.specs.Identifiers.{has}
use Rattle.event.proofs.enabled.has.Goals as goal

pub returns : goal.returns
unfolding has
returns c = search rules
