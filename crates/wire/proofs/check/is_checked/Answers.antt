use Rattle.std.proofs.Common.{rules}
use Rattle.wire.proofs.Words.{too_short, ends_checked}
use Rattle.wire.proofs.check.is_checked.Goals as goal

pub returns : goal.returns
returns c = let e = ends_checked c.args.bytes.now in let short = too_short c.args.bytes.now in search (rules, short, e)
