-- A change of a board's reading, asked for from outside: its questions, and what it hands back. Assumes nothing.
use Rattle.std.specs.Prelude.{ℕ, List, [], ◌∷◌, length, Some, None, Ok, Err, Option, Result, nat_lt}
use Rattle.event.specs.Bytes.{Bytes}
use Rattle.event.specs.Refusals.{Question, ask, first_no}
use Rattle.event.specs.declared.refusal.Refusal.{Refusal}
use Rattle.event.specs.declared.refusal.Refusal.TheVariants.{NoSuchPlace, UnlawfulReading}
use Rattle.board.specs.Boards.{Sources, takes}

-- the questions of a change: is the place below the count, and is the reading lawful there?
abbrev pub change_questions : Sources → (place : ℕ) → Bytes → List Question
change_questions told place reading =
    ask (nat_lt place (length told)) NoSuchPlace
    ∷ ask (takes told place reading) UnlawfulReading
    ∷ []

-- why a change is refused, if it is
unfoldable pub change_refusal : Sources → (place : ℕ) → Bytes → Option Refusal
change_refusal told place reading = first_no (change_questions told place reading)

-- what a call without a value hands back
abbrev pub handed_back : Option Refusal → Result (Unit {0}) Refusal
handed_back None = Ok tt
handed_back (Some r) = Err r
