-- The book: the manager's end. Assumes nothing.
use Rattle.std.specs.Prelude.{ℕ, Bool, true, false, cond, not, List, [], ◌∷◌, length, Some, None, Option, ◌==◌, nat_le}
use Rattle.event.specs.declared.id.UniqueId.{UniqueId}
use Rattle.event.specs.declared.refusal.Refusal.{Refusal}
use Rattle.event.specs.declared.refusal.Refusal.TheVariants.{
  RequestBufferShort,
  StillAwaiting,
  NotHolding,
  BookBlind,
  MessageBufferShort,
  NoMessage,
  UnlawfulMessage,
  SameGeneration,
  NoneAwaited,
  UnlawfulAnswer,
  ReadingBufferShort,
  UnknownSource,
}
use Rattle.event.specs.Bytes.{Bytes}
use Rattle.event.specs.Outcomes.{Outcome, done, refusal, refusal_over}
use Rattle.event.specs.Refusals.{Question, ask, first_no}
use Rattle.event.specs.Sources.{Occurrence, same_id}
use Rattle.list.specs.Lists.{Told, these, overflow}
use Rattle.wire.specs.declared.types.Item.{Item}
use Rattle.wire.specs.declared.types.Kind.{Kind}
use Rattle.wire.specs.declared.types.Kind.TheVariants.{Sync as sync, Ack as ack}
use Rattle.wire.specs.Messages.{Event, read_event, Answer, read_answer}
use Rattle.wire.specs.Requests.{request_message}
use Rattle.wire.specs.Writing.{item_questions}
use Rattle.carrier.specs.Carriers.{Message}
use Rattle.protocol.specs.declared.types.Phase.{Phase}
use Rattle.protocol.specs.declared.types.Phase.TheVariants.{Blind, Settled, Holding, Waiting}

-- ENTRIES

-- the reading that is entered for a source
unfoldable pub find : UniqueId → List Occurrence → Option Bytes
find id [] = None
find id (e ∷ es) = cond (same_id id e.id) (Some e.reading) (find id es)

-- replaces the entry of a source, or adds one at the end
unfoldable pub enter : Occurrence → List Occurrence → List Occurrence
enter o [] = o ∷ []
enter o (e ∷ es) = cond (same_id o.id e.id) (o ∷ es) (e ∷ enter o es)

-- enters each occurrence, in their order
unfoldable pub merge : List Occurrence → List Occurrence → List Occurrence
merge es [] = es
merge es (o ∷ os) = merge (enter o es) os

-- THE BOOK

-- the manager's end
pub record Book : Type 0 where
  pub phase : Phase
  pub entries : List Occurrence
  -- the generation of the latest message since the last completed sync
  pub remembered : Option ℕ

-- a book of these parts
abbrev pub book_of : Phase → List Occurrence → Option ℕ → Book
book_of phase entries remembered = record { phase = phase; entries = entries; remembered = remembered }

-- the book in another phase
abbrev pub in_phase : Phase → Book → Book
in_phase phase k = book_of phase k.entries k.remembered

-- a blind book, a new one too: it has no entries and remembers no generation
abbrev pub blind : Book
blind = book_of Blind [] None

-- what a call of the book leaves, and what it hands back
pub record BookTurn : Type 0 where
  pub book : Book
  pub outcome : Outcome

-- a book, and what is handed back
abbrev pub book_turn : Book → Outcome → BookTurn
book_turn k o = record { book = k; outcome = o }

-- a book of these entries; it is blind if there is a 65th
abbrev pub up_to64 : Phase → List Occurrence → Option ℕ → Book
up_to64 phase es g = cond (nat_le (length es) 64) (book_of phase es g) blind

-- PHASES

-- is nothing awaited?
abbrev pub awaits_nothing : Phase → Bool
awaits_nothing Blind = true
awaits_nothing Settled = true
awaits_nothing Holding = true
awaits_nothing (Waiting kind) = false

-- is a message held?
abbrev pub is_holding : Phase → Bool
is_holding Blind = false
is_holding Settled = false
is_holding Holding = true
is_holding (Waiting kind) = false

-- is nothing known?
abbrev pub is_blind : Phase → Bool
is_blind Blind = true
is_blind Settled = false
is_blind Holding = false
is_blind (Waiting kind) = false

-- are two requests of one kind?
abbrev pub same_kind : Kind → Kind → Bool
same_kind sync sync = true
same_kind sync ack = false
same_kind ack sync = false
same_kind ack ack = true

-- is a request of this kind awaited?
abbrev pub awaits : Kind → Phase → Bool
awaits kind Blind = false
awaits kind Settled = false
awaits kind Holding = false
awaits kind (Waiting awaited) = same_kind awaited kind

-- WRITE A REQUEST

-- what is asked before a sync is written
abbrev pub sync_questions : Phase → (room : ℕ) → List Item → List Question
sync_questions phase room items = ask (nat_le 217 room) RequestBufferShort ∷ ask (awaits_nothing phase) StillAwaiting ∷ item_questions items

-- what is asked before an ack is written
abbrev pub ack_questions : Phase → (room : ℕ) → List Question
ack_questions phase room = ask (nat_le 217 room) RequestBufferShort ∷ ask (awaits_nothing phase) StillAwaiting ∷ ask (is_holding phase) NotHolding ∷ []

-- the book waits for the answer to what it wrote, unless the writing is refused
abbrev pub writes : Option Refusal → Kind → Bytes → Book → BookTurn
writes None kind bytes k = book_turn (in_phase (Waiting kind) k) (done bytes)
writes (Some r) kind bytes k = book_turn k (refusal r)

-- a sync of these items is written, with the delay in seconds and the retry delay in tenths of a second
abbrev pub write_sync : List Item → (delay retry room : ℕ) → Book → BookTurn
write_sync items delay retry room k = writes (first_no (sync_questions k.phase room items)) sync (request_message delay retry items) k

-- an ack is written, with delays of zero
abbrev pub write_ack : (room : ℕ) → Book → BookTurn
write_ack room k = writes (first_no (ack_questions k.phase room)) ack (request_message 0 0 []) k

-- TAKE AN ANSWER

-- a sync's answer replaces all entries and forgets the generation, an ack's replaces or adds entries
abbrev pub answered_to : Kind → List Occurrence → Book → Book
answered_to sync os k = book_of Settled os None
answered_to ack os k = up_to64 Settled (merge k.entries os) k.remembered

-- overflow blinds
abbrev pub answer_told : Kind → Told → Book → Book
answer_told kind (these os) k = answered_to kind os k
answer_told kind overflow k = blind

-- an unlawful answer blinds too, and is refused
abbrev pub answer_read : Kind → Option Answer → Book → BookTurn
answer_read kind None k = book_turn blind (refusal UnlawfulAnswer)
answer_read kind (Some a) k = book_turn (answer_told kind a.told k) (done [])

-- an answer, with a receipt of this kind, by the phase
abbrev pub answered : Phase → Kind → Bytes → Book → BookTurn
answered phase kind bytes k = cond (awaits kind phase) (answer_read kind (read_answer bytes) k) (book_turn k (refusal NoneAwaited))

-- an answer, with a receipt of this kind
abbrev pub take_answer : Kind → Bytes → Book → BookTurn
take_answer kind bytes k = answered k.phase kind bytes k

-- a receipt of this kind is given up
abbrev pub give_up : Kind → Book → BookTurn
give_up kind k = cond (awaits kind k.phase) (book_turn blind (done [])) (book_turn k (refusal NoneAwaited))

-- PICK UP A MESSAGE

-- is it the remembered generation?
abbrev pub remembers : Option ℕ → (generation : ℕ) → Bool
remembers None g = false
remembers (Some h) g = h == g

-- a new message's occurrences, in Settled
abbrev pub learn : Book → (generation : ℕ) → Told → Book
learn k g (these os) = up_to64 Holding (merge k.entries os) (Some g)
learn k g overflow = blind

-- what a message of another generation makes of the book; a pick-up in Blind or Waiting was refused before
abbrev pub hears : Phase → Book → Event → Book
hears Blind k v = blind
hears Settled k v = learn k v.generation v.told
hears Holding k v = blind
hears (Waiting kind) k v = blind

-- a message that was fetched, and the event that is read of it
abbrev pub heard : Phase → Bytes → Option Event → Book → BookTurn
heard phase bytes None k = book_turn k (refusal_over bytes UnlawfulMessage)
heard phase bytes (Some v) k =
    cond (remembers k.remembered v.generation) (book_turn k (refusal_over bytes SameGeneration)) (book_turn (hears phase k v) (done bytes))

-- the message on the carrier, if there is one
abbrev pub found : Phase → Option Message → Book → BookTurn
found phase None k = book_turn k (refusal NoMessage)
found phase (Some m) k = heard phase m.bytes (read_event m.bytes) k

-- what is asked before a message is fetched
abbrev pub pick_up_questions : Phase → (room : ℕ) → List Question
pick_up_questions phase room = ask (awaits_nothing phase) StillAwaiting ∷ ask (not (is_blind phase)) BookBlind ∷ ask (nat_le 4224 room) MessageBufferShort ∷ []

-- a pick-up, by whether it is refused before
abbrev pub finds : Option Refusal → Phase → Option Message → Book → BookTurn
finds None phase message k = found phase message k
finds (Some r) phase message k = book_turn k (refusal r)

-- a pick-up of what lies on the carrier
abbrev pub pick_up : (room : ℕ) → Option Message → Book → BookTurn
pick_up room message k = finds (first_no (pick_up_questions k.phase room)) k.phase message k

-- SHOW A SOURCE

-- the reading that the book shows of a source, by the phase
abbrev pub shown_in : Phase → List Occurrence → UniqueId → Option Bytes
shown_in Blind es id = None
shown_in Settled es id = find id es
shown_in Holding es id = find id es
shown_in (Waiting kind) es id = None

-- the reading that the book shows of a source
abbrev pub shown : Book → UniqueId → Option Bytes
shown k id = shown_in k.phase k.entries id

-- what is asked before a source is shown
abbrev pub show_questions : Phase → (room : ℕ) → List Question
show_questions phase room = ask (awaits_nothing phase) StillAwaiting ∷ ask (not (is_blind phase)) BookBlind ∷ ask (nat_le 64 room) ReadingBufferShort ∷ []

-- a showing, by whether it is refused before and by what is shown
abbrev pub reads : Option Refusal → Option Bytes → Outcome
reads None None = refusal UnknownSource
reads None (Some r) = done r
reads (Some r) shown = refusal r

-- a showing
abbrev pub show : (room : ℕ) → UniqueId → Book → Outcome
show room id k = reads (first_no (show_questions k.phase room)) (shown k id)
