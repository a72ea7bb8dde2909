-- What the writers of messages leave in their buffers. Assumes nothing.
use Rattle.std.specs.Prelude.{ℕ, Bool, not, List, [], ◌∷◌, length, map, nat_eq, nat_le}
use Rattle.keys.specs.Keys.{twice}
use Rattle.event.specs.Bytes.{within}
use Rattle.event.specs.Sources.{Occurrence}
use Rattle.event.specs.Refusals.{Question, ask, first_no}
use Rattle.event.specs.Outcomes.{Outcome, unless}
use Rattle.event.specs.declared.refusal.Refusal.TheVariants.{AnswerBufferShort, TickBufferShort, RequestBufferShort, ItemCount, IdentifierTwice}
use Rattle.list.specs.Lists.{told}
use Rattle.wire.specs.Messages.{event_message, answer_message}
use Rattle.wire.specs.Requests.{request_message}
use Rattle.wire.specs.declared.types.Item.{Item}

-- an event message of these occurrences, into a buffer of `room` bytes
abbrev pub writes_event : (room transmission : ℕ) → List Occurrence → Outcome
writes_event room transmission os = unless (first_no (ask (nat_le 4111 room) TickBufferShort ∷ [])) (event_message transmission (told os))

-- an answer of these occurrences
abbrev pub writes_answer : (room : ℕ) (slot : Bool) → List Occurrence → Outcome
writes_answer room slot os = unless (first_no (ask (nat_le 4115 room) AnswerBufferShort ∷ [])) (answer_message slot (told os))

-- the identifiers of items
abbrev pub identifiers : List Item → List ℕ
identifiers = map (λ i. i.identifier)

-- what is asked of the items of a sync
abbrev pub item_questions : List Item → List Question
item_questions items = ask (within 1 64 (length items)) ItemCount ∷ ask (not (twice nat_eq (identifiers items))) IdentifierTwice ∷ []

-- a sync of these items
abbrev pub writes_sync : (room : ℕ) → List Item → (delay retry : ℕ) → Outcome
writes_sync room items delay retry = unless (first_no (ask (nat_le 217 room) RequestBufferShort ∷ item_questions items)) (request_message delay retry items)

-- an ack, with delays of zero
abbrev pub writes_ack : (room : ℕ) → Outcome
writes_ack room = unless (first_no (ask (nat_le 217 room) RequestBufferShort ∷ [])) (request_message 0 0 [])
