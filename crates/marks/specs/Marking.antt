-- Marks: which sources have changed, and the reading at each one's latest change. Assumes nothing.
use Rattle.std.specs.Prelude.{ℕ, suc, cond, List, [], ◌∷◌, Some, None, Option, ◌==◌}
use Rattle.event.specs.declared.id.UniqueId.{UniqueId}
use Rattle.event.specs.Bytes.{Bytes}
use Rattle.event.specs.Sources.{Occurrence, occurrence}

-- for each place of a board nothing, or a reading: that at the latest change there, or for a sync the present one
abbrev pub Marking : Type 0
Marking = (place : ℕ) → Option Bytes

-- no marks
unfoldable pub unmarked : Marking
unmarked place = None

-- f, but for `value` at `key`
unfoldable pub update : {A : Type 0} → (ℕ → A) → (key : ℕ) → A → (ℕ → A)
update f key value k = cond (k == key) value (f k)

-- one more occurrence, if there is a mark
abbrev pub listed : UniqueId → Option Bytes → List Occurrence → List Occurrence
listed id None os = os
listed id (Some reading) os = occurrence id reading ∷ os

-- the marked ones of these sources, of which the first stands at the place k
unfoldable pub listed_from : (k : ℕ) → List UniqueId → Marking → List Occurrence
listed_from k [] marks = []
listed_from k (id ∷ ids) marks = listed id (marks k) (listed_from (suc k) ids marks)

-- the marked sources with the marks' readings, in board order; a mark at a place that the board does not have is not listed
abbrev pub occurrences : List UniqueId → Marking → List Occurrence
occurrences ids marks = listed_from 0 ids marks
