-- What a run leaves to C. Assumes nothing.
use Rattle.std.specs.Prelude.{◌≡◌, ℕ, List, Some, None, Err, Option}
use Rattle.event.specs.declared.refusal.Refusal.{Refusal}
use Rattle.event.specs.Bytes.{Bytes}
use Rattle.event.specs.Sources.{Occurrence}
use Rattle.board.specs.Tables.{row_refusal}
use Rattle.measured.specs.Rounds.{Round}
use Rattle.measured.specs.Runs.{Run, run}
use Rattle.crossing.specs.Outcomes.{refusal_number, count_of}

-- a run on a table board of these rows, if they are not refused
abbrev pub on_rows : Option Refusal → (buffer : Bytes) → Run → Run
on_rows None buffer r = r
on_rows (Some e) buffer r = run (Err e) buffer

-- a call leaves the run's buffer, what it counted last, and the number of its refusal
pub record RunsOn (rows : List Occurrence) (r : Run) (before filled : Bytes) (n result : ℕ) : Type 0 where
  pub number : result ≡ refusal_number (on_rows (row_refusal rows) before r).result
  pub count : n ≡ count_of (on_rows (row_refusal rows) before r).result
  pub buffer : filled ≡ (on_rows (row_refusal rows) before r).buffer

-- a call leaves the buffer of its last round, its count, and the number of its refusal
pub record Ends (r : Round) (after : Bytes) (n result : ℕ) : Type 0 where
  pub number : result ≡ refusal_number r.result
  pub count : n ≡ count_of r.result
  pub buffer : after ≡ r.buffer
