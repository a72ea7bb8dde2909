use Rattle.std.proofs.Common.{rules}
use Rattle.session.proofs.boards.NamedBoardBoard.set.Goals as goal

pub returns-in-Drive-clause-taken : goal.returns-in-Drive-clause-taken
returns-in-Drive-clause-taken c = search rules

pub returns-in-Drive-clause-after : goal.returns-in-Drive-clause-after
returns-in-Drive-clause-after c = search rules
