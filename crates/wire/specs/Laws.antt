-- What holds of every message. Assumes nothing.
use Rattle.std.specs.Prelude.{◌≡◌, ℕ, ◌+◌, ◌*◌, ◌/◌, ◌%◌, ◌<◌, ◌≤◌, Bool, true, false, List, [], length, Some, Ok}
use Rattle.event.specs.Bytes.{Bytes}
use Rattle.list.specs.Lists.{Told, lawful_told}
use Rattle.wire.specs.Messages.{event_message, Event, read_event, answer_message, Answer, read_answer}
use Rattle.wire.specs.Requests.{request_message, read_request, Sync, Ack}
use Rattle.wire.specs.declared.types.Item.{Item}

-- a lawful event message reads back
abbrev pub EventsReadBack : Type 0
EventsReadBack = (transmission : ℕ) (t : Told) → lawful_told t ≡ true →
    read_event (event_message transmission t) ≡ Some (record { generation = transmission / 8; retries = transmission % 8; told = t })

-- a lawful answer reads back
abbrev pub AnswersReadBack : Type 0
AnswersReadBack = (slot : Bool) (t : Told) → lawful_told t ≡ true → read_answer (answer_message slot t) ≡ Some (record { slot = slot; told = t })

-- these bytes are the only event message of what is read of them
pub record EncodesEvent (bytes : Bytes) (v : Event) : Type 0 where
  pub is : bytes ≡ event_message (v.generation * 8 + v.retries) v.told
  pub few : v.retries < 8
  pub lawful : lawful_told v.told ≡ true

-- these bytes are the only answer of what is read of them
pub record EncodesAnswer (bytes : Bytes) (a : Answer) : Type 0 where
  pub is : bytes ≡ answer_message a.slot a.told
  pub lawful : lawful_told a.told ≡ true

-- an event message that is read is the only encoding of what it says
abbrev pub OnlyEvent : Type 0
OnlyEvent = (bytes : Bytes) (v : Event) → read_event bytes ≡ Some v → EncodesEvent bytes v

-- an answer that is read is the only encoding of what it says
abbrev pub OnlyAnswer : Type 0
OnlyAnswer = (bytes : Bytes) (a : Answer) → read_answer bytes ≡ Some a → EncodesAnswer bytes a

-- a sync as the book writes it is accepted, and read as it was meant
abbrev pub SyncsReadBack : Type 0
SyncsReadBack = (items : List Item) (delay retry : ℕ) → 1 ≤ length items → length items ≤ 64 →
    read_request (request_message delay retry items) ≡ Ok (Sync false items delay retry)

-- so is an ack
abbrev pub AcksReadBack : Type 0
AcksReadBack = read_request (request_message 0 0 []) ≡ Ok (Ack false)
