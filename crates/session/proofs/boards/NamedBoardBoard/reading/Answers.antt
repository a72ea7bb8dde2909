use Rattle.std.proofs.Common.{rules}
use Rattle.session.proofs.boards.NamedBoardBoard.reading.Goals as goal

pub returns-in-Drive : goal.returns-in-Drive
returns-in-Drive c = search rules
