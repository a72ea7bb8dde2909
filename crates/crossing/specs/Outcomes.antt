-- How a call tells C its refusal and its count. Assumes nothing.
use Rattle.std.specs.Prelude.{◌≡◌, ℕ, List, Some, None, Ok, Err, Option, Result}
use Rattle.event.specs.Bytes.{Bytes}
use Rattle.event.specs.Outcomes.{Outcome, refusal, over_front}
use Rattle.event.specs.Refusals.{number}
use Rattle.event.specs.Sources.{Occurrence}
use Rattle.event.specs.declared.refusal.Refusal.{Refusal}
use Rattle.board.specs.Tables.{row_refusal}

-- the number of a call's refusal, 0 if there is none
abbrev pub refusal_number : {A : Type 0} → Result A Refusal → ℕ
refusal_number (Ok a) = 0
refusal_number (Err r) = number r

-- what a call counted, 0 if it was refused
abbrev pub count_of : Result ℕ Refusal → ℕ
count_of (Ok n) = n
count_of (Err r) = 0

-- the outcome, unless there was a refusal before
abbrev pub unless_refused : Option Refusal → Outcome → Outcome
unless_refused None o = o
unless_refused (Some r) o = refusal r

-- the outcome of a call on a table board of these rows
abbrev pub of_rows : List Occurrence → Outcome → Outcome
of_rows rows o = unless_refused (row_refusal rows) o

-- a call leaves the outcome's bytes in its buffer, its count, and the number of its refusal
pub record Leaves (o : Outcome) (before after : Bytes) (n result : ℕ) : Type 0 where
  pub number : result ≡ refusal_number o.result
  pub count : n ≡ count_of o.result
  pub buffer : after ≡ over_front o.written before
