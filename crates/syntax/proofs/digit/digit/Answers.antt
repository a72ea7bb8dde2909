use Rattle.std.proofs.Common.{rules}
use Rattle.syntax.proofs.digit.digit.Goals as goal

pub returns-in-97-to-102 : goal.returns-in-97-to-102
returns-in-97-to-102 c = search rules
