use Rattle.std.proofs.Common.{rules}
use Rattle.book.proofs.parts.Book.absorb.Goals as goal

pub returns-then-merge : goal.returns-then-merge
returns-then-merge c = search rules
