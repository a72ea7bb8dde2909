use Rattle.std.proofs.Common.{rules}
use Rattle.event.specs.Sources.{lawful_reading}
use Rattle.event.proofs.id.UniqueId.allows.Goals as goal

pub returns : goal.returns
unfolding lawful_reading
returns c = search rules
