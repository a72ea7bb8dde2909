-- Runs of a writer and of an endpoint on one board. Assumes nothing.
use Rattle.std.specs.Prelude.{ℕ, cond, List, [], ◌∷◌, length, Ok, Result, ◌==◌}
use Rattle.event.specs.declared.refusal.Refusal.{Refusal}
use Rattle.event.specs.Bytes.{Bytes}
use Rattle.event.specs.Outcomes.{Outcome, over_front}
use Rattle.event.specs.Sources.{Occurrence, ids}
use Rattle.board.specs.Boards.{Sources}
use Rattle.wire.specs.Writing.{writes_event}
use Rattle.carrier.specs.Carriers.{Line, new_line}
use Rattle.protocol.specs.Endpoint.{Endpoint, new_endpoint, Turn, tick, request}

-- what the last call handed back, and the buffer that all calls write into
pub record Run : Type 0 where
  pub result : Result ℕ Refusal
  pub buffer : Bytes

-- a run of this result and buffer
abbrev pub run : Result ℕ Refusal → Bytes → Run
run result buffer = record { result = result; buffer = buffer }

-- before the first call
abbrev pub at_start : Bytes → Run
at_start buffer = run (Ok 0) buffer

-- after a call
abbrev pub after : Outcome → Bytes → Run
after o buffer = run o.result (over_front o.written buffer)

-- event messages of these occurrences, one for each transmission info
unfoldable pub writes : List Occurrence → (transmissions : List ℕ) → Run → Run
writes os [] r = r
writes os (t ∷ ts) r = writes os ts (after (writes_event (length r.buffer) t os) r.buffer)

-- a step of an endpoint: 0 is a tick, any other number a request of the sender of this number
abbrev pub step : Sources → (message : Bytes) → (number room : ℕ) → Line → Endpoint → Turn
step board message number room line e =
    cond (number == 0) (tick (ids board) room line e) (request room number message board line e)

-- a run goes on with what is left of it
abbrev pub goes_on : (Line → Endpoint → Run → Run) → Turn → Bytes → Run
goes_on next t buffer = next t.line t.endpoint (after t.outcome buffer)

-- the steps in their order
unfoldable pub steps : Sources → (message : Bytes) → (numbers : List ℕ) → Line → Endpoint → Run → Run
steps board message [] line e r = r
steps board message (n ∷ ns) line e r = goes_on (steps board message ns) (step board message n (length r.buffer) line e) r.buffer

-- the steps of a new endpoint on a new line
abbrev pub new_steps : Sources → (message : Bytes) → (numbers : List ℕ) → (buffer : Bytes) → Run
new_steps board message numbers buffer = steps board message numbers new_line new_endpoint (at_start buffer)
