-- What the values of the reader stand for. Assumes nothing.
use Rattle.std.specs.Prelude.{◌≡◌, List, Some, None, Ok, Err, Option, Result}
use Rattle.event.specs.Bytes.{Bytes}
use Rattle.event.specs.declared.refusal.Refusal.{Refusal}
use Rattle.event.specs.declared.refusal.Refusal.TheVariants.{UnlawfulMessage, UnlawfulAnswer}
use Rattle.list.specs.View.{told_by}
use Rattle.wire.specs.Messages.{Event as EventRead, Answer as AnswerRead}
use Rattle.wire.specs.Requests.{Request, Sync as sync_read, Ack as ack_read, items_in, list_part}
use Rattle.wire.specs.declared.types.Item.{Item}
use Rattle.wire.specs.declared.types.Items.{Items}
use Rattle.wire.specs.declared.types.Message.{Message}
use Rattle.wire.specs.declared.types.Message.TheVariants.{Sync, Ack, Event, Answer}

-- the items that are left
abbrev pub left : Items → List Item
left l = items_in l.number l.rest.now

-- a message as it is read: a request, an event message or an answer
pub data Read : Type 0 where
  request : Request → Read
  event : EventRead → Read
  answer : AnswerRead → Read

-- what a message says
abbrev pub read_by : Message → Read
read_by (Sync slot delays items) = request (sync_read slot (left items) delays.first.0 delays.retry.0)
read_by (Ack slot list) = request (ack_read slot)
read_by (Event generation retries list) = event (record { generation = generation; retries = retries; told = told_by list })
read_by (Answer slot list) = answer (record { slot = slot; told = told_by list })

-- what a reader hands back
abbrev pub reads_by : Result Message Refusal → Result Read Refusal
reads_by (Ok m) = Ok (read_by m)
reads_by (Err r) = Err r

-- an ack has its enable list as it stands in the request
abbrev pub AckHasList : Bytes → Result Message Refusal → Type 0
AckHasList bytes (Ok (Ack slot list)) = list.now ≡ list_part bytes
AckHasList bytes other = Unit {0}

-- a request, or its refusal
abbrev pub request_in : Result Request Refusal → Result Read Refusal
request_in (Ok q) = Ok (request q)
request_in (Err r) = Err r

-- an event message, or the refusal of what is none
abbrev pub event_in : Option EventRead → Result Read Refusal
event_in None = Err UnlawfulMessage
event_in (Some v) = Ok (event v)

-- an answer, or the refusal of what is none
abbrev pub answer_in : Option AnswerRead → Result Read Refusal
answer_in None = Err UnlawfulAnswer
answer_in (Some a) = Ok (answer a)
