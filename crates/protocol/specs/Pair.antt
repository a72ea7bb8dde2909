-- An endpoint and a book, with one board and one carrier, and the calls of them. Assumes nothing.
use Rattle.std.specs.Prelude.{ℕ, List, [], ◌∷◌}
use Rattle.event.specs.declared.id.UniqueId.{UniqueId}
use Rattle.event.specs.Bytes.{Bytes}
use Rattle.event.specs.Outcomes.{Outcome, done}
use Rattle.event.specs.Sources.{ids}
use Rattle.board.specs.Boards.{Sources, at, after_set}
use Rattle.wire.specs.declared.types.Item.{Item}
use Rattle.wire.specs.declared.types.Kind.{Kind}
use Rattle.carrier.specs.Carriers.{Line, linked_up, linked_down, withdrawn, fetched}
use Rattle.protocol.specs.Endpoint.{Endpoint, new_endpoint, change, change_outcome, tick, request, reset, Turn}
use Rattle.protocol.specs.Book.{Book, blind, BookTurn, write_sync, write_ack, take_answer, give_up, pick_up, show}

-- the four parts
pub record Pair : Type 0 where
  pub endpoint : Endpoint
  -- the carrier, as it is to its users
  pub line : Line
  -- the board: what it tells
  pub board : Sources
  pub book : Book

-- a pair of these parts
abbrev pub pair_of : Endpoint → Line → Sources → Book → Pair
pair_of e line board k = record { endpoint = e; line = line; board = board; book = k }

-- a new pair: the endpoint Off, the book blind, the board and the carrier as they are
abbrev pub new_pair : Sources → Line → Pair
new_pair board line = pair_of new_endpoint line board blind

-- a call, with all that is handed in: readings, bytes, senders, and `room`, the length of the buffer
pub data Call : Type 0 where
  -- the source at a place has this reading now
  changes : (place : ℕ) → Bytes → Call
  -- 100 ms have passed
  ticks : (room : ℕ) → Call
  -- the link comes up, goes down, loses what lies on it
  link_goes_up link_goes_down loses : Call
  -- the book writes a request
  writes_sync : List Item → (delay retry : ℕ) → (room : ℕ) → Call
  writes_ack : (room : ℕ) → Call
  -- a request is handed in to the endpoint
  requests : (sender : ℕ) → Bytes → (room : ℕ) → Call
  -- an answer is handed in to the book, with a receipt of this kind
  answers : Kind → Bytes → Call
  -- a receipt of this kind is given up
  gives_up : Kind → Call
  -- the book picks up what lies on the carrier
  picks_up : (room : ℕ) → Call
  -- what lies on the carrier is fetched, and the book does not hear of it
  fetches : (room : ℕ) → Call
  -- the book shows a source
  shows : UniqueId → (room : ℕ) → Call
  -- the endpoint is reset
  resets : Call

-- what a call leaves, and what it hands back
pub record Step : Type 0 where
  pub pair : Pair
  pub outcome : Outcome

-- the endpoint has acted
abbrev pub acted : Turn → Pair → Step
acted t p = record { pair = pair_of t.endpoint t.line p.board p.book; outcome = t.outcome }

-- the book has acted
abbrev pub noted : BookTurn → Pair → Step
noted t p = record { pair = pair_of p.endpoint p.line p.board t.book; outcome = t.outcome }

-- something has happened to the carrier
abbrev pub carried : Line → Pair → Step
carried line p = record { pair = pair_of p.endpoint line p.board p.book; outcome = done [] }

-- nothing has changed
abbrev pub rested : Outcome → Pair → Step
rested o p = record { pair = p; outcome = o }

-- a change of the source at a place
abbrev pub change_at : (place : ℕ) → Bytes → Pair → Step
change_at place r p = record {
  pair = pair_of (change (at (ids p.board) place) place r p.endpoint) p.line (after_set p.board place r) p.book;
  outcome = change_outcome (at (ids p.board) place) r;
}

-- one call of the pair
abbrev pub step : Pair → Call → Step
step p (changes place r) = change_at place r p
step p (ticks room) = acted (tick (ids p.board) room p.line p.endpoint) p
step p link_goes_up = carried (linked_up p.line) p
step p link_goes_down = carried (linked_down p.line) p
step p loses = carried (withdrawn p.line) p
step p (writes_sync items delay retry room) = noted (write_sync items delay retry room p.book) p
step p (writes_ack room) = noted (write_ack room p.book) p
step p (requests sender bytes room) = acted (request room sender bytes p.board p.line p.endpoint) p
step p (answers kind bytes) = noted (take_answer kind bytes p.book) p
step p (gives_up kind) = noted (give_up kind p.book) p
step p (picks_up room) = noted (pick_up room p.line.message p.book) p
step p (fetches room) = rested (fetched room p.line.message) p
step p (shows id room) = rested (show room id p.book) p
step p resets = acted (reset p.line p.endpoint) p

-- the pair after a list of calls
abbrev pub run : Pair → List Call → Pair
run p [] = p
run p (c ∷ cs) = run (step p c).pair cs

-- what each call of a list hands back
abbrev pub outcomes : Pair → List Call → List Outcome
outcomes p [] = []
outcomes p (c ∷ cs) = (step p c).outcome ∷ outcomes (step p c).pair cs
