use Rattle.std.proofs.Common.{rules}
use Rattle.book.proofs.parts.Book.may_show.Goals as goal

pub returns-in-Waiting : goal.returns-in-Waiting
returns-in-Waiting c = search rules
