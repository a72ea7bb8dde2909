use Rattle.std.proofs.Common.{rules}
use Rattle.keys.proofs.U8Key.bucket.Goals as goal

pub returns : goal.returns
returns c = search rules
