-- What the code's marks stand for. Assumes nothing.
use Rattle.std.specs.Prelude.{ℕ, cond, List, [], map, Some, None, slice_index_or}
use Rattle.event.specs.Bytes.{Bytes}
use Rattle.event.specs.Identifiers.{bit}
use Rattle.event.specs.Sources.{Occurrence, ids}
use Rattle.event.specs.View.{held}
use Rattle.board.specs.Boards.{Sources}
use Rattle.marks.specs.Marking.{Marking, occurrences}
use Rattle.marks.specs.declared.types.Marks.{Marks}
use Rattle.marks.specs.declared.types.Marked.{Marked}

-- the readings at the places of a set of 64
unfoldable pub shown : (set : ℕ) → List Bytes → Marking
shown set readings place = cond (bit set place) (Some (slice_index_or readings place [])) None

-- the marks of a set and its readings
abbrev pub marks_of : Marks → Marking
marks_of m = shown m.set (map held m.readings)

-- the marked sources of a board, which tells so
abbrev pub occurrences_in : {B : Type 0} → (told : B → Sources) → Marked B → List Occurrence
occurrences_in told m = occurrences (ids (told m.board.now)) (marks_of m.marks.now)
