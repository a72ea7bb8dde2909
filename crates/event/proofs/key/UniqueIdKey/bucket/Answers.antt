use Rattle.std.proofs.Common.{rules}
use Rattle.event.proofs.key.UniqueIdKey.bucket.Goals as goal

pub returns : goal.returns
returns c = search rules
