-- What holds after every call. Assumes nothing.
use Rattle.std.proofs.Common.{◌≡◌, ℕ, ◌<◌, Bool, true, false, ◌⊎◌, List, Some as some, None as none, Option}
use Rattle.event.specs.declared.id.UniqueId.{UniqueId}
use Rattle.event.specs.Bytes.{Bytes}
use Rattle.event.specs.Identifiers.{Words, has}
use Rattle.event.specs.Sources.{Occurrence, occurrence, lawful_reading, ids}
use Rattle.board.specs.Boards.{Sources, at}
use Rattle.list.specs.Lists.{these, told}
use Rattle.marks.specs.Lawful.{LawfulMarks}
use Rattle.marks.specs.Marking.{Marking, occurrences}
use Rattle.wire.specs.declared.types.Kind.TheVariants.{Sync as sync, Ack as ack}
use Rattle.wire.specs.Messages.{event_message, read_event, answer_message, read_answer}
use Rattle.wire.specs.Requests.{kind_of}
use Rattle.carrier.specs.Carriers.{Message}
use Rattle.protocol.specs.declared.types.State.{State}
use Rattle.protocol.specs.declared.types.State.TheVariants.{Off, Armed, Sending, Failed}
use Rattle.protocol.specs.declared.types.Phase.{Phase}
use Rattle.protocol.specs.declared.types.Phase.TheVariants.{Blind, Settled, Holding, Waiting}
use Rattle.protocol.specs.Book.{find, merge}
use Rattle.protocol.specs.Endpoint.{Endpoint, transmission, message_of}
use Rattle.protocol.specs.History.{History}
use Rattle.protocol.specs.Pair.{Pair}
use Rattle.protocol.specs.Promise.{Marked, Had}
use Rattle.promises.proofs.Lists.{Distinct}

-- each source's reading is lawful
abbrev pub LawfulReadings : Sources → Type 0
LawfulReadings b = (p : ℕ) (s : Occurrence) → at b p ≡ some s → lawful_reading s.id.identifier s.reading ≡ true

-- what lawful sources bring: no two share a unique ID, and what is written of them is read back
pub record Laws (us : List UniqueId) : Type 0 where
  pub distinct : Distinct us
  pub events : (g n : ℕ) (m : Marking) → n < 8 → LawfulMarks us m → let t = told (occurrences us m) in
      read_event (event_message (transmission g n) t) ≡ some (record { generation = g; retries = n; told = t })
  pub answers : (slot : Bool) (m : Marking) → LawfulMarks us m → let t = told (occurrences us m) in
      read_answer (answer_message slot t) ≡ some (record { slot = slot; told = t })

-- the board has this reading of the source at the place now
abbrev pub Now : Sources → (q : ℕ) → UniqueId → Bytes → Type 0
Now b q u r = at b q ≡ some (occurrence u r)

-- a mark's reading is lawful, and the board's present one unless a newer mark stands
pub record Right (us : List UniqueId) (enabled : Words) (prior since : Marking) (b : Sources) : Type 0 where
  pub same : ids b ≡ us
  pub board : LawfulReadings b
  pub prior-lawful : LawfulMarks us prior
  pub since-lawful : LawfulMarks us since
  pub since_now : (q : ℕ) (u : UniqueId) (r : Bytes) → at us q ≡ some u → has enabled u.identifier ≡ true → since q ≡ some r → Now b q u r
  pub prior_now : (q : ℕ) (u : UniqueId) (r : Bytes) → at us q ≡ some u → has enabled u.identifier ≡ true → prior q ≡ some r → since q ≡ none → Now b q u r

abbrev pub Unmarked : Marking → Type 0
Unmarked m = (q : ℕ) → m q ≡ none

-- what the state says of enables and marks
abbrev pub Quiet : State → Words → Marking → Marking → Type 0
Quiet Off enabled prior since = ((i : ℕ) → has enabled i ≡ false) × Unmarked prior × Unmarked since
Quiet (Armed age) enabled prior since = Unmarked since
Quiet (Sending attempt waited) enabled prior since = Unit {0}
Quiet Failed enabled prior since = Unit {0}

-- entries that are fresh or marked, and that the boards h had, as they had the marks
pub record Shows (us : List UniqueId) (h : List Sources) (es : List Occurrence) (enabled : Words) (prior since : Marking) (b : Sources) : Type 0 where
  pub now : (q : ℕ) (u : UniqueId) (r : Bytes) → at us q ≡ some u → has enabled u.identifier ≡ true → find u es ≡ some r →
      Now b q u r ⊎ (Marked prior q ⊎ Marked since q)
  pub had : (u : UniqueId) (r : Bytes) → find u es ≡ some r → (q : ℕ) × Had h q (occurrence u r)
  pub prior_had : (q : ℕ) (u : UniqueId) (r : Bytes) → at us q ≡ some u → prior q ≡ some r → Had h q (occurrence u r)
  pub since_had : (q : ℕ) (u : UniqueId) (r : Bytes) → at us q ≡ some u → since q ≡ some r → Had h q (occurrence u r)

-- a message that the endpoint may have put
abbrev pub OwnOne : (us : List UniqueId) → State → Endpoint → Message → Type 0
OwnOne us Off e m = ⊥
OwnOne us (Armed age) e m = ⊥
OwnOne us (Sending attempt waited) e m = (n : ℕ) × (n < 8) × (m.bytes ≡ message_of us n e)
OwnOne us Failed e m = ⊥

-- only the endpoint's own present message is on the carrier
abbrev pub Own : (us : List UniqueId) → Endpoint → Option Message → Type 0
Own us e message = (m : Message) → message ≡ some m → OwnOne us e.state e m

abbrev pub NotArmed : State → Type 0
NotArmed Off = Unit {0}
NotArmed (Armed age) = ⊥
NotArmed (Sending attempt waited) = Unit {0}
NotArmed Failed = Unit {0}

-- the book holds the present message: its marks' readings stand in the entries
abbrev pub Held : (us : List UniqueId) → List Occurrence → Endpoint → Type 0
Held us es e = NotArmed e.state × ((q : ℕ) (u : UniqueId) (r : Bytes) → at us q ≡ some u → e.prior q ≡ some r → find u es ≡ some r)

abbrev pub Knows : (us : List UniqueId) → List Sources → List Occurrence → Endpoint → Sources → Option Message → Type 0
Knows us h es e b message = Shows us h es e.enabled e.prior e.since b × Own us e message

abbrev pub Sound : (us : List UniqueId) → Endpoint → Sources → Type 0
Sound us e b = Right us e.enabled e.prior e.since b × Quiet e.state e.enabled e.prior e.since × (e.generation < 32)

-- this answer has these occurrences
abbrev pub Says : Bytes → List Occurrence → Type 0
Says bytes os = (slot : Bool) × (read_answer bytes ≡ some (record { slot = slot; told = these os }))

-- what the book has learned, by its phase and by whether its request is answered
abbrev pub Learned : (us : List UniqueId) → Phase → Option Bytes → (accepted completed : List Sources) → List Occurrence → Endpoint → Sources → Option Message → Type 0
Learned us Blind a h d es e b l = Unit {0}
Learned us Settled a h d es e b l = Knows us d es e b l
Learned us Holding a h d es e b l = Knows us d es e b l × Held us es e
Learned us (Waiting sync) none h d es e b l = Unit {0}
Learned us (Waiting sync) (some a) h d es e b l = (os : List Occurrence) → Says a os → Knows us h os e b l
Learned us (Waiting ack) none h d es e b l = Knows us d es e b l × Held us es e
Learned us (Waiting ack) (some a) h d es e b l = (os : List Occurrence) → Says a os → Knows us d (merge es os) e b l

-- what is awaited is a request of the kind that the book waits for
abbrev pub Awaiting : Phase → Option Bytes → Type 0
Awaiting Blind a = a ≡ none
Awaiting Settled a = a ≡ none
Awaiting Holding a = a ≡ none
Awaiting (Waiting kind) a = (bytes : Bytes) → a ≡ some bytes → kind_of bytes ≡ kind

-- of a pair with these sources, and of what went before
abbrev pub Inv : (us : List UniqueId) → Pair → History → Type 0
Inv us p h = Sound us p.endpoint p.board
    × Learned us p.book.phase h.answer h.accepted h.completed p.book.entries p.endpoint p.board p.line.message
    × Awaiting p.book.phase h.awaited
