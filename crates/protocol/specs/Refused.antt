-- What a refused call leaves. Assumes nothing.
use Rattle.std.specs.Prelude.{◌≡◌, cond, [], Some, None, Err, Option, ◌==◌}
use Rattle.event.specs.declared.refusal.Refusal.{Refusal}
use Rattle.event.specs.Bytes.{Bytes, within}
use Rattle.event.specs.Refusals.{number}
use Rattle.carrier.specs.Carriers.{Message}
use Rattle.protocol.specs.Book.{blind}
use Rattle.protocol.specs.Pair.{Pair, pair_of, Call, Step, step}

-- the bytes of the message, if there is one
abbrev pub message_bytes : Option Message → Bytes
message_bytes None = []
message_bytes (Some m) = m.bytes

-- a call that is refused leaves all as it was, but an unlawful answer blinds the book, and an unlawful message or one of the
-- remembered generation stays in the buffer
pub record Leaves (p : Pair) (s : Step) (r : Refusal) : Type 0 where
  pub pair : s.pair ≡ pair_of p.endpoint p.line p.board (cond (number r == 28) blind p.book)
  pub buffer : s.outcome.written ≡ cond (within 25 26 (number r)) (message_bytes p.line.message) []

-- every refused call leaves that
abbrev pub RefusalsLeave : Type 0
RefusalsLeave = (p : Pair) (c : Call) (r : Refusal) → (step p c).outcome.result ≡ Err r → Leaves p (step p c) r
