-- What the writer of a list leaves. Assumes nothing.
use Rattle.std.specs.Prelude.{◌≡◌, ℕ, ◌<◌, ◌≤◌, Bool, true, false, cond, List, [], ◌∷◌, length, Some, None, Option, nat_le}
use Rattle.event.specs.Bytes.{Bytes, placed}
use Rattle.event.specs.Sources.{Occurrence, ids}
use Rattle.board.specs.Boards.{Sources}
use Rattle.list.specs.Lists.{told, list_bytes}
use Rattle.marks.specs.Marking.{Marking, occurrences}

-- is nothing listed?
abbrev pub nothing_in : List Occurrence → Bool
nothing_in [] = true
nothing_in (o ∷ os) = false

-- the list of the marked sources of a board
abbrev pub marked_list : (transmission : ℕ) → Sources → Marking → Bytes
marked_list transmission sources marks = list_bytes transmission (told (occurrences (ids sources) marks))

-- the answer in numbers: so many bytes were written into a buffer that had the room, or the buffer was too short
abbrev pub Counts : (room written before : ℕ) → Option ℕ → Type 0
Counts room written before None = before < room
Counts room written before (Some n) = (n ≡ written) × (room ≤ before)

-- the bytes were written to the front of a buffer with so much room, and their number is the answer; in a shorter one nothing was written
pub record Written (room : ℕ) (bytes before after : Bytes) (answer : Option ℕ) : Type 0 where
  pub short : length bytes ≤ room
  pub number : answer ≡ cond (nat_le room (length before)) (Some (length bytes)) None
  pub counts : Counts room (length bytes) (length before) answer
  pub buffer : after ≡ cond (nat_le room (length before)) (placed before 0 bytes) before
