-- Worked cases: bytes, sets and states that the definitions must give. Assumes nothing.
use Rattle.std.specs.Prelude.{◌≡◌, ℕ, zero, suc, true, false, List, [], ◌∷◌, ◌++◌, take, drop, replicate, Some, None}
use Rattle.event.specs.declared.id.UniqueId.{UniqueId}
use Rattle.event.specs.Bytes.{Bytes}
use Rattle.event.specs.Identifiers.{Words, nothing}
use Rattle.event.specs.Sources.{Occurrence, occurrence}
use Rattle.list.specs.Lists.{told, these, overflow, list_bytes}
use Rattle.marks.specs.Marking.{unmarked, update}
use Rattle.wire.specs.declared.types.Item.{Item}
use Rattle.wire.specs.declared.types.Kind.TheVariants.{Sync, Ack}
use Rattle.wire.specs.Messages.{answer_message}
use Rattle.wire.specs.Requests.{enable_list, items_in, request_message}
use Rattle.carrier.specs.Carriers.{Line, linked}
use Rattle.board.specs.Boards.{Sources, lawful_board}
use Rattle.protocol.specs.declared.types.State.{State}
use Rattle.protocol.specs.declared.types.State.TheVariants.{Armed, Sending, Failed}
use Rattle.protocol.specs.Endpoint.{Endpoint, endpoint_of, transmission, enabling, tick}
use Rattle.protocol.specs.Book.{shown}
use Rattle.protocol.specs.Pair.{Pair, new_pair, Call, writes_sync, writes_ack, requests, answers, changes, ticks, picks_up, run}
use Rattle.protocol.specs.History.{new_history}
use Rattle.protocol.specs.Promise.{Given, JustSynced, Agree}

-- SOURCES AND ENDPOINTS OF THE CASES

-- the composite temperature of the subsystem
abbrev pub temperature : UniqueId
temperature = record { identifier = 0x06; scope = 2; info = 0 }

-- its reading of 1Eh
abbrev pub warm : Occurrence
warm = occurrence temperature (0x1E ∷ [])

-- a vendor's source in this namespace, with a reading of so many bytes
abbrev pub vendor_with : (namespace length : ℕ) → Occurrence
vendor_with namespace n = occurrence (record { identifier = 0xC0; scope = 0; info = namespace }) (replicate n 0)

-- so many of those, each with a reading of 64 bytes
abbrev pub full_ones : ℕ → List Occurrence
full_ones zero = []
full_ones (suc k) = vendor_with k 64 ∷ full_ones k

-- an endpoint that is armed with a delay of 0, with this retry delay and with the temperature marked
abbrev pub armed_with : (retry : ℕ) → Endpoint
armed_with retry = endpoint_of (Armed 0) nothing 0 retry (update unmarked 0 (Some (0x1E ∷ []))) unmarked 0 9 false

-- its states after each of so many ticks
abbrev pub states_after : (count : ℕ) → Line → Endpoint → List State
states_after zero line e = []
states_after (suc n) line e =
    let t = tick (temperature ∷ []) 4111 line e in
    t.endpoint.state ∷ states_after n t.line t.endpoint

-- the identifiers that an enable list of so many items, in these bytes, switches on
abbrev pub switched_on : (count : ℕ) → Bytes → Words
switched_on count bytes = enabling (temperature ∷ []) (items_in count (drop 5 bytes)) nothing

-- THE TABLE

-- what the definitions give, and what it must be
pub data Row : Type 0 where
  bytes : (computed expected : Bytes) → Row
  words : (computed expected : Words) → Row
  states : (computed expected : List State) → Row

-- the rows hold
abbrev pub Holds : List Row → Type 0
Holds [] = Unit {0}
Holds (bytes computed expected ∷ rows) = (computed ≡ expected) × Holds rows
Holds (words computed expected ∷ rows) = (computed ≡ expected) × Holds rows
Holds (states computed expected ∷ rows) = (computed ≡ expected) × Holds rows

-- the worked cases
abbrev pub table : List Row
table =
    -- the list of one occurrence, generation 1
    bytes (list_bytes (transmission 1 0) (told (warm ∷ [])))
    (0x01 ∷ 0x00 ∷ 0x11 ∷ 0x00 ∷ 0x00 ∷ 0x07 ∷ 0x08 ∷ 0x09 ∷ 0x01 ∷ 0x00 ∷ 0x06 ∷ 0x00 ∷ 0x00 ∷ 0x00 ∷ 0x00 ∷ 0x02 ∷ 0x1E ∷ [])
    -- the header of a list that overflowed, generation 31
    ∷ bytes (list_bytes (transmission 31 0) overflow) (0x00 ∷ 0x00 ∷ 0x00 ∷ 0x00 ∷ 0x80 ∷ 0x07 ∷ 0xF8 ∷ [])
    -- vendor readings, 55 of 64 bytes, one of 63 and one of 0: a body of 4,096 bytes fits, and the total is 4,103
    ∷ bytes (take 7 (list_bytes 0 (told (full_ones 55 ++ (vendor_with 55 63 ∷ vendor_with 56 0 ∷ []))))) (57 ∷ 0x00 ∷ 0x07 ∷ 0x10 ∷ 0x00 ∷ 0x07 ∷ 0x00 ∷ [])
    -- 56 of 64 bytes and one of 0: a body of 4,097 bytes overflows
    ∷ bytes (list_bytes 0 (told (full_ones 56 ++ (vendor_with 56 0 ∷ [])))) (0x00 ∷ 0x00 ∷ 0x00 ∷ 0x00 ∷ 0x80 ∷ 0x07 ∷ 0x00 ∷ [])
    -- an enable list that switches the composite temperature on: as it is written, and what it does
    ∷ bytes (enable_list (record { identifier = 0x06; on = true } ∷ [])) (0x01 ∷ 0x00 ∷ 0x08 ∷ 0x00 ∷ 0x05 ∷ 0x03 ∷ 0x06 ∷ 0x80 ∷ [])
    ∷ words (switched_on 1 (0x01 ∷ 0x00 ∷ 0x08 ∷ 0x00 ∷ 0x05 ∷ 0x03 ∷ 0x06 ∷ 0x80 ∷ [])) (0x40 ∷ 0 ∷ 0 ∷ 0 ∷ [])
    -- one that switches it on, then off: it is off
    ∷ words (switched_on 2 (0x02 ∷ 0x00 ∷ 0x0B ∷ 0x00 ∷ 0x05 ∷ 0x03 ∷ 0x06 ∷ 0x80 ∷ 0x03 ∷ 0x06 ∷ 0x00 ∷ [])) nothing
    -- retry delay 2, no ack: the first attempt at a tick, the last 14 ticks later, failure 16 ticks later
    ∷ states (states_after 17 (linked true None) (armed_with 2)) (
    Sending 1 0 ∷ Sending 1 1
    ∷ Sending 2 0 ∷ Sending 2 1
    ∷ Sending 3 0 ∷ Sending 3 1
    ∷ Sending 4 0 ∷ Sending 4 1
    ∷ Sending 5 0 ∷ Sending 5 1
    ∷ Sending 6 0 ∷ Sending 6 1
    ∷ Sending 7 0 ∷ Sending 7 1
    ∷ Sending 8 0 ∷ Sending 8 1
    ∷ Failed ∷ []
    )
    -- retry delay 0, link down: failure in the same tick
    ∷ states (states_after 1 (linked false None) (armed_with 0)) (Failed ∷ [])
    ∷ []

-- the definitions give what the table says
abbrev pub WorkedCases : Type 0
WorkedCases = Holds table

-- WHAT IS GIVEN CAN BE HAD

-- a board with the temperature alone
abbrev pub one_source : Sources
one_source = warm ∷ []

-- the item that switches it on
abbrev pub on : Item
on = record { identifier = 0x06; on = true }

-- the sync is written, handed in and answered
abbrev pub syncing : (reading : ℕ) → List Call
syncing reading =
    writes_sync (on ∷ []) 0 0 217
    ∷ requests 9 (request_message 0 0 (on ∷ [])) 4115
    ∷ answers Sync (answer_message false (these (occurrence temperature (reading ∷ []) ∷ [])))
    ∷ []

-- the temperature changes to 1Fh, the endpoint sends it, and the book picks it up
abbrev pub changing : List Call
changing = changes 0 (0x1F ∷ []) ∷ ticks 4111 ∷ picks_up 4224 ∷ []

-- the message is acknowledged
abbrev pub acknowledging : List Call
acknowledging =
    writes_ack 217
    ∷ requests 9 (request_message 0 0 []) 4115
    ∷ answers Ack (answer_message false (these []))
    ∷ []

-- a run under what is given, after which the book shows the change
pub record ChangeIsShown : Type 0 where
  pub lawful : lawful_board one_source ≡ true
  pub given : Given (new_pair one_source (linked true None)) new_history (syncing 0x1E ++ (changing ++ acknowledging))
  pub shows : shown (run (new_pair one_source (linked true None)) (syncing 0x1E ++ (changing ++ acknowledging))).book temperature ≡ Some (0x1F ∷ [])

-- two pairs that have just completed the same sync and agree, one of them with a message in its past
pub record TwoPasts : Type 0 where
  pub first : Pair
  pub second : Pair
  pub once : JustSynced 9 (request_message 0 0 (on ∷ [])) first
  pub again : JustSynced 9 (request_message 0 0 (on ∷ [])) second
  pub agree : Agree first second
  pub generations : (first.endpoint.generation ≡ 0) × (second.endpoint.generation ≡ 1)
