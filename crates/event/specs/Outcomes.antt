-- What a call hands back, and what it leaves in its buffer. Assumes nothing.
use Rattle.std.specs.Prelude.{◌≡◌, ℕ, [], ◌++◌, length, drop, Some, None, Ok, Err, Option, Result}
use Rattle.event.specs.Bytes.{Bytes}
use Rattle.event.specs.declared.refusal.Refusal.{Refusal}

-- a call counts the bytes that it wrote from its buffer's start on, or it is refused
pub record Outcome : Type 0 where
  pub result : Result ℕ Refusal
  pub written : Bytes

-- success: these bytes were written
abbrev pub done : Bytes → Outcome
done bytes = record { result = Ok (length bytes); written = bytes }

-- refused, with the buffer unchanged
abbrev pub refusal : Refusal → Outcome
refusal r = record { result = Err r; written = [] }

-- refused, with bytes left in the buffer
abbrev pub refusal_over : Bytes → Refusal → Outcome
refusal_over bytes r = record { result = Err r; written = bytes }

-- success with these bytes, unless a question was answered no
abbrev pub unless : Option Refusal → Bytes → Outcome
unless None bytes = done bytes
unless (Some r) bytes = refusal r

-- a buffer after bytes were written from its start on; the rest is unchanged
abbrev pub over_front : Bytes → (buffer : Bytes) → Bytes
over_front bytes buffer = bytes ++ drop (length bytes) buffer

-- a call hands back the outcome's result, and leaves in its buffer what the outcome wrote
pub record Gives (o : Outcome) (before after : Bytes) (r : Result ℕ Refusal) : Type 0 where
  pub result : r ≡ o.result
  pub buffer : after ≡ over_front o.written before
