-- The endpoint: the drive's end. Assumes nothing.
use Rattle.std.specs.Prelude.{ℕ, ◌+◌, ◌*◌, ◌%◌, min, Bool, true, false, cond, not, ◌&&◌, ◌||◌, List, [], ◌∷◌, length, Some, None, Option, ◌==◌, nat_le, nat_lt}
use Rattle.event.specs.declared.id.UniqueId.{UniqueId}
use Rattle.event.specs.declared.refusal.Refusal.{Refusal}
use Rattle.event.specs.declared.refusal.Refusal.TheVariants.{AnswerBufferShort, TickBufferShort, NoSuchPlace, UnlawfulReading}
use Rattle.event.specs.Bytes.{Bytes}
use Rattle.event.specs.Delays.{seconds_in_ticks, tenths_in_ticks}
use Rattle.event.specs.Identifiers.{Words, nothing, has, switched, any}
use Rattle.event.specs.Outcomes.{Outcome, done, refusal}
use Rattle.event.specs.Sources.{Occurrence, lawful_reading, ids}
use Rattle.board.specs.Boards.{Sources, at}
use Rattle.list.specs.Lists.{told, over}
use Rattle.marks.specs.Marking.{Marking, unmarked, update, occurrences}
use Rattle.wire.specs.declared.types.Item.{Item}
use Rattle.wire.specs.Messages.{event_message, answer_message}
use Rattle.wire.specs.Requests.{Request, Sync, Ack, request_of, request_refusal}
use Rattle.carrier.specs.Carriers.{Line, takes, after_put, withdrawn}
use Rattle.protocol.specs.declared.types.State.{State}
use Rattle.protocol.specs.declared.types.State.TheVariants.{Off, Armed, Sending, Failed}

-- the drive's end
pub record Endpoint : Type 0 where
  pub state : State
  -- the identifiers of the enabled events
  pub enabled : Words
  -- the delay before the first attempt, in seconds
  pub delay : ℕ
  -- the delay before each further attempt, in tenths of a second
  pub retry : ℕ
  -- the marks of the present message, or of the next one
  pub prior : Marking
  -- the marks of changes since the present message was first sent
  pub since : Marking
  -- of the latest message
  pub generation : ℕ
  -- where messages are put to
  pub destination : ℕ
  -- the failure bit
  pub failure : Bool

-- what a call of the endpoint leaves of it and of its carrier, and what it hands back
pub record Turn : Type 0 where
  pub endpoint : Endpoint
  pub line : Line
  pub outcome : Outcome

-- an endpoint and a carrier, and what is handed back
abbrev pub turn : Endpoint → Line → Outcome → Turn
turn e line o = record { endpoint = e; line = line; outcome = o }

-- an endpoint of these parts
abbrev pub endpoint_of : State → (enabled : Words) (delay retry : ℕ) (prior since : Marking) (generation destination : ℕ) (failure : Bool) → Endpoint
endpoint_of s enabled delay retry prior since g d failure = record {
  state = s;
  enabled = enabled;
  delay = delay;
  retry = retry;
  prior = prior;
  since = since;
  generation = g;
  destination = d;
  failure = failure;
}

-- a new endpoint
abbrev pub new_endpoint : Endpoint
new_endpoint = endpoint_of Off nothing 0 0 unmarked unmarked 0 0 false

-- ONE PART REPLACED, OR A FEW

-- in another state
abbrev pub in_state : State → Endpoint → Endpoint
in_state s e = endpoint_of s e.enabled e.delay e.retry e.prior e.since e.generation e.destination e.failure

-- with other enables and delays
abbrev pub configured : (enabled : Words) (delay retry : ℕ) → Endpoint → Endpoint
configured enabled delay retry e = endpoint_of e.state enabled delay retry e.prior e.since e.generation e.destination e.failure

-- with other marks
abbrev pub marked : (prior since : Marking) → Endpoint → Endpoint
marked prior since e = endpoint_of e.state e.enabled e.delay e.retry prior since e.generation e.destination e.failure

-- of another generation
abbrev pub numbered : (generation : ℕ) → Endpoint → Endpoint
numbered g e = endpoint_of e.state e.enabled e.delay e.retry e.prior e.since g e.destination e.failure

-- to another destination
abbrev pub toward : (destination : ℕ) → Endpoint → Endpoint
toward d e = endpoint_of e.state e.enabled e.delay e.retry e.prior e.since e.generation d e.failure

-- with another failure bit
abbrev pub flagged : (failure : Bool) → Endpoint → Endpoint
flagged failure e = endpoint_of e.state e.enabled e.delay e.retry e.prior e.since e.generation e.destination failure

-- CHANGE

-- the mark of a change, by the state: in prior when Armed, in since when Sending or Failed
abbrev pub mark : State → (place : ℕ) → Bytes → Endpoint → Endpoint
mark Off place r e = e
mark (Armed age) place r e = marked (update e.prior place (Some r)) e.since e
mark (Sending attempt waited) place r e = marked e.prior (update e.since place (Some r)) e
mark Failed place r e = marked e.prior (update e.since place (Some r)) e

-- this source at this place has a reading now, which may be the one that it had: it is marked if its event is enabled
abbrev pub changed : UniqueId → (place : ℕ) → Bytes → Endpoint → Endpoint
changed id place r e = cond (has e.enabled id.identifier) (mark e.state place r e) e

-- the endpoint after a change, by the source at the place: it stays as it was if the board does not take the reading
abbrev pub change : Option UniqueId → (place : ℕ) → Bytes → Endpoint → Endpoint
change None place r e = e
change (Some id) place r e = cond (lawful_reading id.identifier r) (changed id place r e) e

-- what a change hands back, by the source at the place
abbrev pub change_outcome : Option UniqueId → Bytes → Outcome
change_outcome None r = refusal NoSuchPlace
change_outcome (Some id) r = cond (lawful_reading id.identifier r) (done []) (refusal UnlawfulReading)

-- TICK

-- failure: the message is withdrawn, the marks are kept
abbrev pub fail : (written : Bytes) → Line → Endpoint → Turn
fail written line e = turn (flagged true (in_state Failed e)) (withdrawn line) (done written)

-- a tick that puts nothing
abbrev pub stay : Line → Endpoint → Turn
stay line e = turn e line (done [])

-- the first attempt of the next generation
abbrev pub begun : Endpoint → Endpoint
begun e = numbered ((e.generation + 1) % 32) (in_state (Sending 1 0) e)

-- transmission info: the generation in bits 7:3, the retry count in bits 2:0
abbrev pub transmission : (generation retries : ℕ) → ℕ
transmission generation retries = generation * 8 + retries

-- is anything listed?
abbrev pub any_listed : List Occurrence → Bool
any_listed os = not (length os == 0)

-- ticks, by the unique IDs of the board's sources
module _ (sources : List UniqueId) where
  -- the endpoint's event message, with a retry count
  abbrev pub message_of : (retries : ℕ) → Endpoint → Bytes
  message_of retries e = event_message (transmission e.generation retries) (told (occurrences sources e.prior))

  -- an attempt
  abbrev pub send : (retries : ℕ) → Line → Endpoint → Turn
  send retries line e = turn e (after_put line e.destination (message_of retries e)) (done (message_of retries e))

  -- the first attempt; failure if its put is not taken and none would follow
  abbrev pub start : Line → Endpoint → Turn
  start line e =
      cond (not (takes line (message_of 0 (begun e))) && tenths_in_ticks e.retry == 0)
      (fail (message_of 0 (begun e)) line (begun e))
      (send 0 line (begun e))

  -- the next attempt, or failure after the eighth
  abbrev pub again : (attempt : ℕ) → Line → Endpoint → Turn
  again attempt line e = cond (nat_lt attempt 8) (send attempt line (in_state (Sending (attempt + 1) 0) e)) (fail [] line e)

  -- what a tick does, by the state
  abbrev pub timed : State → Line → Endpoint → Turn
  timed Off line e = stay line e
  timed (Armed age) line e =
      let full = seconds_in_ticks e.delay in
      let older = min (age + 1) full in
      cond (older == full && any_listed (occurrences sources e.prior)) (start line e) (stay line (in_state (Armed older) e))
  timed (Sending attempt waited) line e =
      cond (tenths_in_ticks e.retry == 0) (stay line e)
      (cond (nat_lt (waited + 1) (tenths_in_ticks e.retry)) (stay line (in_state (Sending attempt (waited + 1)) e)) (again attempt line e))
  timed Failed line e = stay line e

  -- one tick of 100 ms, with a buffer of `room` bytes
  abbrev pub tick : (room : ℕ) → Line → Endpoint → Turn
  tick room line e = cond (nat_le 4111 room) (timed e.state line e) (turn e line (refusal TickBufferShort))

-- REQUESTS

-- has a source this identifier?
unfoldable pub known : (identifier : ℕ) → List UniqueId → Bool
known identifier [] = false
known identifier (id ∷ ids) = identifier == id.identifier || known identifier ids

-- one item: it switches its identifier on or off; it is ignored if no source has the identifier
abbrev pub applied : List UniqueId → Item → Words → Words
applied sources i enabled = cond (known i.identifier sources) (switched i.on i.identifier enabled) enabled

-- the items in their order
unfoldable pub enabling : List UniqueId → List Item → Words → Words
enabling sources [] enabled = enabled
enabling sources (i ∷ is) enabled = enabling sources is (applied sources i enabled)

-- the reading of a source, if its event is enabled
abbrev pub present_of : Words → Option Occurrence → Option Bytes
present_of enabled None = None
present_of enabled (Some s) = cond (has enabled s.id.identifier) (Some s.reading) None

-- every enabled source with its present reading
unfoldable pub present : Words → Sources → Marking
present enabled board place = present_of enabled (at board place)

-- the marks that an ack reports: those since the present message
abbrev pub reportable : State → Marking → Marking
reportable Off since = unmarked
reportable (Armed age) since = unmarked
reportable (Sending attempt waited) since = since
reportable Failed since = since

-- what the answer to a request lists
abbrev pub report : Request → Sources → Endpoint → Marking
report (Sync slot items delay retry) board e = present (enabling (ids board) items e.enabled) board
report (Ack slot) board e = reportable e.state e.since

-- the occurrences of the answer
abbrev pub reported : Request → Sources → Endpoint → List Occurrence
reported q board e = occurrences (ids board) (report q board e)

-- the slot bit of a request, which its answer repeats
abbrev pub slot_of_request : Request → Bool
slot_of_request (Sync slot items delay retry) = slot
slot_of_request (Ack slot) = slot

-- the answer to a request, in bytes
abbrev pub reply : Request → Sources → Endpoint → Bytes
reply q board e = answer_message (slot_of_request q) (told (reported q board e))

-- the destination, once a request of `sender` leaves these events enabled
abbrev pub addressed : (enabled : Words) → (sender : ℕ) → Endpoint → ℕ
addressed enabled sender e = cond (any enabled) sender e.destination

-- what the endpoint becomes by a sync
abbrev pub synced : (sender : ℕ) → (enabled : Words) → (delay retry : ℕ) → Endpoint → Endpoint
synced sender enabled delay retry e =
    let s = cond (any enabled) (Armed 0) Off in
    flagged false (toward (addressed enabled sender e) (marked unmarked unmarked (configured enabled delay retry (in_state s e))))

-- what it becomes by an ack
abbrev pub acked : (sender : ℕ) → State → (prior since : Marking) → Endpoint → Endpoint
acked sender s prior since e = toward (addressed e.enabled sender e) (marked prior since (in_state s e))

-- an ack without overflow, by the state
abbrev pub acknowledge : (sender : ℕ) → State → Line → Endpoint → Outcome → Turn
acknowledge sender Off line e o = turn (acked sender Off e.prior e.since e) line o
acknowledge sender (Armed age) line e o = turn (acked sender (Armed age) e.prior e.since e) line o
acknowledge sender (Sending attempt waited) line e o = turn (acked sender (Armed 0) unmarked unmarked e) (withdrawn line) o
acknowledge sender Failed line e o = turn (acked sender (Armed 0) unmarked unmarked e) (withdrawn line) o

-- a request without overflow
abbrev pub accept : (sender : ℕ) → Request → Sources → Line → Endpoint → Outcome → Turn
accept sender (Sync slot items delay retry) board line e o = turn (synced sender (enabling (ids board) items e.enabled) delay retry e) (withdrawn line) o
accept sender (Ack slot) board line e o = acknowledge sender e.state line e o

-- a request that is accepted; if its answer overflows, the answer is all that comes of it
abbrev pub handle : (sender : ℕ) → Request → Sources → Line → Endpoint → Turn
handle sender q board line e =
    let o = done (reply q board e) in
    cond (over (reported q board e)) (turn e line o) (accept sender q board line e o)

-- the refusal of a request, with an answer buffer of `room` bytes
abbrev pub refusal_of : (room : ℕ) → Bytes → Option Refusal
refusal_of room bytes = cond (nat_le 4115 room) (request_refusal bytes) (Some AnswerBufferShort)

-- a request, by whether it is refused
abbrev pub requested : Option Refusal → (sender : ℕ) → Bytes → Sources → Line → Endpoint → Turn
requested None sender bytes board line e = handle sender (request_of bytes) board line e
requested (Some r) sender bytes board line e = turn e line (refusal r)

-- a request of `sender`
abbrev pub request : (room sender : ℕ) → Bytes → Sources → Line → Endpoint → Turn
request room sender bytes board line e = requested (refusal_of room bytes) sender bytes board line e

-- RESET

-- nothing is enabled or marked; the generation and the failure bit stay
abbrev pub reset : Line → Endpoint → Turn
reset line e = turn (marked unmarked unmarked (configured nothing e.delay e.retry (in_state Off e))) (withdrawn line) (done [])
