-- What the table holds. Assumes nothing.
use Rattle.std.specs.Prelude.{cond, List, [], ◌∷◌, length, take, nat_le}
use Rattle.event.specs.declared.id.UniqueId.{UniqueId}
use Rattle.event.specs.declared.reading.Reading.{Reading}
use Rattle.event.specs.Sources.{Occurrence, occurrence}
use Rattle.event.specs.View.{held}
use Rattle.protocol.specs.Book.{enter}
use Rattle.book.specs.declared.table.Table.{Table}

-- each unique ID with the reading at its place
unfoldable pub paired : List UniqueId → List Reading → List Occurrence
paired [] rs = []
paired (k ∷ ks) [] = []
paired (k ∷ ks) (r ∷ rs) = occurrence k (held r) ∷ paired ks rs

-- the entries of a table
unfoldable pub rows : Table → List Occurrence
rows t = take t.len (paired t.keys t.readings)

-- the entries after one was entered, unless it were the 65th
unfoldable pub entered : Occurrence → List Occurrence → List Occurrence
entered o es = cond (nat_le (length (enter o es)) 64) (enter o es) es
