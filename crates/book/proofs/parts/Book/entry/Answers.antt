use Rattle.std.proofs.Common.{rules}
use Rattle.book.proofs.parts.Book.entry.Goals as goal

pub returns : goal.returns
returns c = search rules
