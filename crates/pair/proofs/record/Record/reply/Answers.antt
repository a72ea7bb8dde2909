use Rattle.std.proofs.Common.{rules}
use Rattle.pair.proofs.record.Record.reply.Goals as goal

pub returns : goal.returns
returns c = search rules
