-- The three promises of a pair, after every list of calls. Assumes nothing.
use Rattle.std.specs.Prelude.{◌≡◌, ℕ, true, ◌⊎◌, List, [], ◌∷◌, Some, None, Ok}
use Rattle.event.specs.declared.id.UniqueId.{UniqueId}
use Rattle.event.specs.Bytes.{Bytes}
use Rattle.event.specs.Identifiers.{has}
use Rattle.event.specs.Outcomes.{done}
use Rattle.event.specs.Sources.{Occurrence, occurrence}
use Rattle.board.specs.Boards.{Sources, at, lawful_board}
use Rattle.marks.specs.Marking.{Marking}
use Rattle.wire.specs.declared.types.Item.{Item}
use Rattle.wire.specs.declared.types.Kind.TheVariants.{Sync}
use Rattle.carrier.specs.Carriers.{Line}
use Rattle.protocol.specs.declared.types.Phase.TheVariants.{Settled}
use Rattle.protocol.specs.Book.{shown}
use Rattle.protocol.specs.Pair.{
  Pair,
  new_pair,
  Call,
  changes,
  ticks,
  link_goes_up,
  link_goes_down,
  loses,
  writes_sync,
  writes_ack,
  requests,
  answers,
  gives_up,
  picks_up,
  fetches,
  shows,
  resets,
  step,
  run,
  outcomes,
}
use Rattle.protocol.specs.History.{History, new_history, after_call, after_calls}
use Rattle.protocol.specs.Masking.{compared, masked_message}

-- WHAT IS GIVEN

-- the call is not refused
abbrev pub Succeeds : Pair → Call → Type 0
Succeeds p c = (n : ℕ) × ((step p c).outcome.result ≡ Ok n)

-- an accepted request is the one that is still awaited, once; an answer that is taken is the endpoint's own to it
abbrev pub Fair : Call → Pair → History → Type 0
Fair (requests sender bytes room) p h = Succeeds p (requests sender bytes room) → (h.awaited ≡ Some bytes) × (h.answer ≡ None)
Fair (answers kind bytes) p h = Succeeds p (answers kind bytes) → h.answer ≡ Some bytes
Fair (changes place r) p h = Unit {0}
Fair (ticks room) p h = Unit {0}
Fair link_goes_up p h = Unit {0}
Fair link_goes_down p h = Unit {0}
Fair loses p h = Unit {0}
Fair (writes_sync items delay retry room) p h = Unit {0}
Fair (writes_ack room) p h = Unit {0}
Fair (gives_up kind) p h = Unit {0}
Fair (picks_up room) p h = Unit {0}
Fair (fetches room) p h = Unit {0}
Fair (shows id room) p h = Unit {0}
Fair resets p h = Unit {0}

-- each call of the list is fair
abbrev pub Given : Pair → History → List Call → Type 0
Given p h [] = Unit {0}
Given p h (c ∷ cs) = Fair c p h × Given (step p c).pair (after_call p c h) cs

-- THE FIRST TWO PROMISES

-- the source at a place is marked
abbrev pub Marked : Marking → (place : ℕ) → Type 0
Marked marks place = (r : Bytes) × (marks place ≡ Some r)

-- if the book shows a source whose event is enabled, it shows the board's present reading of it, or the endpoint still marks that source
abbrev pub PresentOrMarked : Pair → Type 0
PresentOrMarked p = (place : ℕ) (source : Occurrence) (r : Bytes) → at p.board place ≡ Some source →
    has p.endpoint.enabled source.id.identifier ≡ true → shown p.book source.id ≡ Some r →
    (r ≡ source.reading) ⊎ (Marked p.endpoint.prior place ⊎ Marked p.endpoint.since place)

-- one of the boards had this source with this reading at the place
abbrev pub Had : List Sources → (place : ℕ) → Occurrence → Type 0
Had [] place source = ⊥
Had (board ∷ boards) place source = (at board place ≡ Some source) ⊎ Had boards place source

-- if the book shows a reading of a source, the board had it there at some moment since the book's last completed sync was accepted
abbrev pub WasSo : Pair → History → Type 0
WasSo p h = (id : UniqueId) (r : Bytes) → shown p.book id ≡ Some r → (place : ℕ) × Had h.completed place (occurrence id r)

-- the first promise: of every pair that was new, with any lawful board and any carrier, after every list of calls
abbrev pub BookShowsPresent : Type 0
BookShowsPresent = (board : Sources) (line : Line) (calls : List Call) → lawful_board board ≡ true →
    let new = new_pair board line in Given new new_history calls → PresentOrMarked (run new calls)

-- the second promise, of the same pairs
abbrev pub BookShowsWhatWas : Type 0
BookShowsWhatWas = (board : Sources) (line : Line) (calls : List Call) → lawful_board board ≡ true →
    let new = new_pair board line in Given new new_history calls → WasSo (run new calls) (after_calls new calls new_history)

-- THE THIRD PROMISE

-- p was new, went through some calls, and has just completed a sync: the book wrote it as these bytes, the endpoint accepted
-- them from this sender, and the book took the answer that this wrote, which did not overflow, since that would have blinded it
pub record JustSynced (sender : ℕ) (request : Bytes) (p : Pair) : Type 0 where
  pub board : Sources
  pub lawful : lawful_board board ≡ true
  pub line : Line
  pub calls : List Call
  pub items : List Item
  pub delay : ℕ
  pub retry : ℕ
  pub writing_room : ℕ
  pub answer_room : ℕ
  pub answer : Bytes
  pub last : let before = run (new_pair board line) calls in
      let three = writes_sync items delay retry writing_room ∷ requests sender request answer_room ∷ answers Sync answer ∷ [] in
      (outcomes before three ≡ done request ∷ done answer ∷ done [] ∷ []) × (p ≡ run before three)
  pub settled : p.book.phase ≡ Settled

-- two pairs agree in board, link and enabled events
pub record Agree (p q : Pair) : Type 0 where
  pub board : p.board ≡ q.board
  pub link : p.line.link ≡ q.line.link
  pub enabled : p.endpoint.enabled ≡ q.endpoint.enabled

-- two pairs have the same message on the carrier, save its generation and check word, the same marks, and show the same
pub record Alike (p q : Pair) : Type 0 where
  pub message : masked_message p.line.message ≡ masked_message q.line.message
  pub prior : p.endpoint.prior ≡ q.endpoint.prior
  pub since : p.endpoint.since ≡ q.endpoint.since
  pub showings : (id : UniqueId) → shown p.book id ≡ shown q.book id

-- if two pairs have just completed the same sync and agree, every equal later list of calls brings equal results and bytes, and leaves them alike
abbrev pub SyncStartsAnew : Type 0
SyncStartsAnew = (sender : ℕ) (request : Bytes) (p q : Pair) → JustSynced sender request p → JustSynced sender request q → Agree p q →
    (calls : List Call) → (compared p calls ≡ compared q calls) × Alike (run p calls) (run q calls)
