use Rattle.std.proofs.Common.{◌≡◌}
use Rattle.list.specs.View.{left}
use Rattle.protocol.specs.Book.{merge}
use Rattle.book.specs.Tables.{rows}
use Rattle.book.proofs.table.Table.merge.Given as goal

-- what is left, entered, gives what the whole gives
abbrev pub invariant-loop-occurrence : goal.invariant-loop-occurrence
invariant-loop-occurrence l = merge (rows l.self) (left l.occurrence-iterator) ≡ merge (rows l.initial.self) (left l.list)
