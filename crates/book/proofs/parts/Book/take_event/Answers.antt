use Rattle.std.proofs.Common.{rules}
use Rattle.book.proofs.parts.Book.take_event.Goals as goal

pub returns-in-Settled-Ok : goal.returns-in-Settled-Ok
returns-in-Settled-Ok c = search rules
