use Rattle.std.proofs.Common.{rules}
use Rattle.session.proofs.boards.NamedBoardBoard.id.Goals as goal

pub returns-in-Table : goal.returns-in-Table
returns-in-Table c = search rules
