-- What the table board tells, and from which rows it is made. Assumes nothing.
use Rattle.std.specs.Prelude.{not, List, [], ◌∷◌, map, length, Some, None, Ok, Err, Option, Result}
use Rattle.arrayvec.specs.ArrayVec.{ArrayVec}
use Rattle.keys.specs.Keys.{twice}
use Rattle.event.specs.Bytes.{within}
use Rattle.event.specs.Refusals.{Question, ask, first_no}
use Rattle.event.specs.Sources.{same_id, ids, all_lawful}
use Rattle.event.specs.View.{occurrence_of}
use Rattle.event.specs.declared.occurrence.Occurrence.{Occurrence as Row}
use Rattle.event.specs.declared.refusal.Refusal.{Refusal}
use Rattle.event.specs.declared.refusal.Refusal.TheVariants.{RowCount, UnlawfulRow, RowTwice}
use Rattle.board.specs.Boards.{Sources}

-- what rows tell
abbrev pub rows_told : List Row → Sources
rows_told rows = map occurrence_of rows

-- what a table board tells: its rows
abbrev pub table_sources : ArrayVec Row → Sources
table_sources rows = rows_told rows.items

-- the questions of a table board's rows: are there 1 to 64, are all lawful, and does no unique ID stand twice?
abbrev pub row_questions : Sources → List Question
row_questions rows =
    ask (within 1 64 (length rows)) RowCount
    ∷ ask (all_lawful rows) UnlawfulRow
    ∷ ask (not (twice same_id (ids rows))) RowTwice
    ∷ []

-- why rows are refused, if they are
unfoldable pub row_refusal : Sources → Option Refusal
row_refusal rows = first_no (row_questions rows)

-- a board that tells the rows, unless they are refused
abbrev pub board_of : Option Refusal → Sources → Result Sources Refusal
board_of None rows = Ok rows
board_of (Some r) rows = Err r

-- what the board tells that was made, if one was
abbrev pub told_if : {B : Type 0} → (B → Sources) → Result B Refusal → Result Sources Refusal
told_if tell (Ok b) = Ok (tell b)
told_if tell (Err r) = Err r
