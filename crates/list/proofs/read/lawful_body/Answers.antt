use Rattle.std.proofs.Common.{rules}
use Rattle.list.proofs.read.lawful_body.Goals as goal

pub returns-then-is_body : goal.returns-then-is_body
returns-then-is_body c = search rules
