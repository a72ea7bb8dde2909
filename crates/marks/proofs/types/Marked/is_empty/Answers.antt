use Rattle.std.proofs.Common.{rules}
use Rattle.marks.proofs.types.Marked.is_empty.Goals as goal

pub returns : goal.returns
returns g c = search rules
