use Rattle.std.proofs.Common.{rules}
use Rattle.syntax.proofs.bytes.is_dash.Goals as goal

pub returns-in_default-2 : goal.returns-in_default-2
returns-in_default-2 c = search rules
