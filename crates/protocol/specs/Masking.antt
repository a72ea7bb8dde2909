-- What two runs are compared by: all but the generations and check words of event messages. Assumes nothing.
use Rattle.std.specs.Prelude.{◌%◌, cond, List, [], ◌∷◌, take, Some, None, Option, slice_set}
use Rattle.event.specs.Bytes.{Bytes, byte, same_bytes}
use Rattle.event.specs.Outcomes.{Outcome}
use Rattle.wire.specs.Checks.{unchecked}
use Rattle.wire.specs.Messages.{event_head}
use Rattle.carrier.specs.Carriers.{Message, message_to}
use Rattle.protocol.specs.Pair.{
  Pair,
  Call,
  changes,
  ticks,
  link_goes_up,
  link_goes_down,
  loses,
  writes_sync,
  writes_ack,
  requests,
  answers,
  gives_up,
  picks_up,
  fetches,
  shows,
  resets,
  step,
}

-- an event message without its check word and with generation 0; other bytes as they are
unfoldable pub masked : Bytes → Bytes
masked bytes = cond (same_bytes (take 4 bytes) event_head) (slice_set (unchecked bytes) 10 (byte bytes 10 % 8)) bytes

-- the same result, with masked bytes
abbrev pub masked_outcome : Outcome → Outcome
masked_outcome o = record { result = o.result; written = masked o.written }

-- what is compared of a call: its result and the bytes that it wrote; ticks, pick-ups and fetches write event messages
abbrev pub compared_of : Call → Outcome → Outcome
compared_of (ticks room) o = masked_outcome o
compared_of (picks_up room) o = masked_outcome o
compared_of (fetches room) o = masked_outcome o
compared_of (changes place r) o = o
compared_of link_goes_up o = o
compared_of link_goes_down o = o
compared_of loses o = o
compared_of (writes_sync items delay retry room) o = o
compared_of (writes_ack room) o = o
compared_of (requests sender bytes room) o = o
compared_of (answers kind bytes) o = o
compared_of (gives_up kind) o = o
compared_of (shows id room) o = o
compared_of resets o = o

-- what is compared of a run, call by call
abbrev pub compared : Pair → List Call → List Outcome
compared p [] = []
compared p (c ∷ cs) = compared_of c (step p c).outcome ∷ compared (step p c).pair cs

-- a message with its destination, masked
abbrev pub masked_message : Option Message → Option Message
masked_message None = None
masked_message (Some m) = Some (message_to m.destination (masked m.bytes))
