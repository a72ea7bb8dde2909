-- What a call of the book leaves and hands back, as a turn of the book. Assumes nothing.
use Rattle.std.specs.Prelude.{◌≡◌, ℕ, not, List, [], ◌∷◌, None, Ok, Err, Option, Result, nat_le}
use Rattle.event.specs.declared.refusal.Refusal.{Refusal}
use Rattle.event.specs.declared.refusal.Refusal.TheVariants.{RequestBufferShort, StillAwaiting, BookBlind}
use Rattle.event.specs.Bytes.{Bytes}
use Rattle.event.specs.Outcomes.{over_front}
use Rattle.event.specs.Refusals.{Question, ask}
use Rattle.event.specs.Sources.{Occurrence}
use Rattle.board.specs.Boards.{at}
use Rattle.wire.specs.declared.types.Kind.{Kind}
use Rattle.protocol.specs.declared.types.Phase.{Phase}
use Rattle.protocol.specs.declared.types.Phase.TheVariants.{Blind, Settled, Holding, Waiting}
use Rattle.protocol.specs.Book.{Book, BookTurn, awaits_nothing, is_blind}
use Rattle.book.specs.declared.parts.Receipt.{Receipt}
use Rattle.book.specs.View.{handed}

-- a call that works in a buffer does the turn: the book after it, the result, and every byte of the buffer
pub record Does (t : BookTurn) (k : Book) (before after : Bytes) (r : Result ℕ Refusal) : Type 0 where
  pub book : k ≡ t.book
  pub result : r ≡ t.outcome.result
  pub buffer : after ≡ over_front t.outcome.written before

-- a call that spends a receipt does the turn
pub record Spends (t : BookTurn) (k : Book) (r : Result ℕ Refusal) : Type 0 where
  pub book : k ≡ t.book
  pub result : r ≡ t.outcome.result

-- with a receipt of this kind, unless it is refused
abbrev pub with_receipt : Kind → Result ℕ Refusal → Result (ℕ × Kind) Refusal
with_receipt kind (Ok n) = Ok (n, kind)
with_receipt kind (Err r) = Err r

-- a call that writes a request of this kind does the turn, and hands out a receipt of the kind
pub record Writes (kind : Kind) (t : BookTurn) (k : Book) (before after : Bytes) (r : Result (ℕ × Receipt) Refusal) : Type 0 where
  pub book : k ≡ t.book
  pub result : handed r ≡ with_receipt kind t.outcome.result
  pub buffer : after ≡ over_front t.outcome.written before

-- what is asked before any request is written
abbrev pub request_questions : Phase → (room : ℕ) → List Question
request_questions phase room = ask (nat_le 217 room) RequestBufferShort ∷ ask (awaits_nothing phase) StillAwaiting ∷ []

-- what is asked before anything is picked up or shown
abbrev pub open_questions : Phase → List Question
open_questions phase = ask (awaits_nothing phase) StillAwaiting ∷ ask (not (is_blind phase)) BookBlind ∷ []

-- the entry at a place, by the phase: in Blind and Waiting nothing is shown
abbrev pub entry_in : Phase → List Occurrence → (place : ℕ) → Option Occurrence
entry_in Blind es place = None
entry_in Settled es place = at es place
entry_in Holding es place = at es place
entry_in (Waiting kind) es place = None

-- the entry that the book shows at a place
abbrev pub entry_at : Book → (place : ℕ) → Option Occurrence
entry_at k place = entry_in k.phase k.entries place
