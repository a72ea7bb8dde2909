use Rattle.std.proofs.Common.{sym}
use Rattle.book.proofs.Rows.{no_row, row_at}
use Rattle.book.proofs.table.Table.at.Goals as goal

pub returns-then-place-self : goal.returns-then-place-self
returns-then-place-self c = sym (no_row c.args.self.now c.args.place c.if-place-self.true)

pub returns : goal.returns
returns c = sym (row_at c.args.self.now c.args.place _ _ c.if-place-self.false)
