-- Which marks are lawful, and what holds of their lists. Assumes nothing.
use Rattle.std.specs.Prelude.{◌≡◌, ℕ, true, List, Some}
use Rattle.event.specs.declared.id.UniqueId.{UniqueId}
use Rattle.event.specs.Bytes.{Bytes}
use Rattle.event.specs.Sources.{lawful_reading, ids}
use Rattle.board.specs.Boards.{Sources, at, lawful_board}
use Rattle.list.specs.Lists.{told, lawful_told, listing, read_list}
use Rattle.marks.specs.Marking.{Marking, occurrences}
use Rattle.marks.specs.Written.{marked_list}

-- the reading of each marked source is lawful there
abbrev pub LawfulMarks : List UniqueId → Marking → Type 0
LawfulMarks sources marks = (place : ℕ) (id : UniqueId) (reading : Bytes) → at sources place ≡ Some id → marks place ≡ Some reading → lawful_reading id.identifier reading ≡ true

-- of a lawful board and lawful marks the list is lawful
abbrev pub ListsLawful : Type 0
ListsLawful = (sources : Sources) (marks : Marking) → lawful_board sources ≡ true → LawfulMarks (ids sources) marks → lawful_told (told (occurrences (ids sources) marks)) ≡ true

-- the list of lawful marks reads back
abbrev pub ReadsBack : (transmission : ℕ) → Sources → Marking → Type 0
ReadsBack transmission sources marks =
    LawfulMarks (ids sources) marks → read_list (marked_list transmission sources marks) ≡ Some (listing transmission (told (occurrences (ids sources) marks)))
