use Rattle.std.proofs.Common.{rules}
use Rattle.event.proofs.key.UniqueIdKey.compare.Goals as goal

pub returns : goal.returns
returns c = search rules
