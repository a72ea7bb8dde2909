use Rattle.std.proofs.Common.{rules}
use Rattle.event.proofs.made.ReadingDefault.default.Goals as goal

pub returns : goal.returns
returns c = search rules
