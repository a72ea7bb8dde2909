-- Runs of a pair as the code makes them. Assumes nothing.
use Rattle.std.specs.Prelude.{◌≡◌, ℕ, min, cond, ◌&&◌, List, [], ◌∷◌, map, length, replicate, Some, None, Option, Result, nat_le}
use Rattle.event.specs.declared.refusal.Refusal.{Refusal}
use Rattle.event.specs.Bytes.{Bytes}
use Rattle.event.specs.Outcomes.{Outcome, over_front}
use Rattle.protocol.specs.Pair.{Pair, Call, run, outcomes}
use Rattle.protocol.specs.Masking.{compared}
use Rattle.protocol.specs.Promise.{JustSynced, Agree, Alike}
use Rattle.pair.specs.View.{call_to, step_if, outcome_if, result_if, written_if}
use Rattle.pair.specs.declared.call.Task.{Task}
use Rattle.pair.specs.declared.record.Record.{Record}

-- the length of the buffer that is lent
abbrev pub room_of : Task → ℕ
room_of t = min t.room 4224

-- the call of the definitions, if it is one
abbrev pub call_for : Pair → Task → Option Call
call_for p t = call_to p (room_of t) t.call

-- one more call, if it is one
abbrev pub prepend : Option Call → List Call → List Call
prepend None cs = cs
prepend (Some c) cs = c ∷ cs

-- the calls of the definitions that a run makes
abbrev pub calls_in : Pair → List Task → List Call
calls_in p [] = []
calls_in p (t ∷ ts) = prepend (call_for p t) (calls_in (step_if p (call_for p t)) ts)

-- what each hands back; nothing where it is no call
abbrev pub replies_to : Pair → List Task → List (Option Outcome)
replies_to p [] = []
replies_to p (t ∷ ts) = outcome_if p (call_for p t) ∷ replies_to (step_if p (call_for p t)) ts

-- one more outcome, if there is one
abbrev pub prepend_to : Option Outcome → List Outcome → List Outcome
prepend_to None os = os
prepend_to (Some o) os = o ∷ os

-- the outcomes among them
abbrev pub outcomes_among : List (Option Outcome) → List Outcome
outcomes_among [] = []
outcomes_among (o ∷ os) = prepend_to o (outcomes_among os)

-- a record: what was handed back, and the buffer
pub record Note : Type 0 where
  pub reply : Option (Result ℕ Refusal)
  pub bytes : Bytes

-- what a record holds
abbrev pub note_of : Record → Note
note_of r = record { reply = r.reply; bytes = r.buffer }

-- a record of no call: zeros
abbrev pub empty_note : Note
empty_note = record { reply = None; bytes = replicate 4224 0 }

-- what each holds
abbrev pub notes_of : List Record → List Note
notes_of rs = map note_of rs

-- the record after a call with this outcome
abbrev pub note_after : Option Outcome → Note → Note
note_after o n = record { reply = result_if o; bytes = over_front (written_if o) n.bytes }

-- the records after calls with these outcomes; those that are left over stay as they were
abbrev pub notes_after : List (Option Outcome) → List Note → List Note
notes_after [] ns = ns
notes_after (o ∷ os) [] = []
notes_after (o ∷ os) (n ∷ ns) = note_after o n ∷ notes_after os ns

-- the calls that are made: all, or none if there are too few records
abbrev pub recordable : List Task → List Record → List Task
recordable ts rs = cond (nat_le (length ts) (length rs)) ts []

-- a run leaves the pair and the records that the definitions say, and its outcomes are theirs
pub record Ran (p : Pair) (ts : List Task) (after : Pair) (before filled : List Note) : Type 0 where
  pub pair : after ≡ run p (calls_in p ts)
  pub records : filled ≡ notes_after (replies_to p ts) before
  pub outcomes : outcomes_among (replies_to p ts) ≡ outcomes p (calls_in p ts)

-- the calls that are made of two pairs: all, or none if one of them has too few records
abbrev pub recordable_twice : List Task → (first second : List Record) → List Task
recordable_twice ts first second = cond (nat_le (length ts) (length first) && nat_le (length ts) (length second)) ts []

-- if two pairs have just completed the same sync and agree, they make the same calls of the definitions, which bring equal results and bytes and leave them alike
abbrev pub GoOnAlike : (p q : Pair) → List Task → (p' q' : Pair) → Type 0
GoOnAlike p q ts p' q' = (sender : ℕ) (request : Bytes) → JustSynced sender request p → JustSynced sender request q → Agree p q →
    (calls_in p ts ≡ calls_in q ts) × ((compared p (calls_in p ts) ≡ compared q (calls_in q ts)) × Alike p' q')
