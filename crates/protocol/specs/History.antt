-- What went before, as far as the promises speak of it: what is awaited, and which boards there were. Assumes nothing.
use Rattle.std.specs.Prelude.{ℕ, List, [], ◌∷◌, Some, None, Ok, Err, Option, Result}
use Rattle.event.specs.Bytes.{Bytes}
use Rattle.event.specs.declared.refusal.Refusal.{Refusal}
use Rattle.board.specs.Boards.{Sources}
use Rattle.wire.specs.declared.types.Kind.{Kind}
use Rattle.wire.specs.declared.types.Kind.TheVariants.{Sync as sync, Ack as ack}
use Rattle.wire.specs.Requests.{kind_of}
use Rattle.protocol.specs.declared.types.Phase.{Phase}
use Rattle.protocol.specs.declared.types.Phase.TheVariants.{Blind, Settled, Holding, Waiting}
use Rattle.protocol.specs.Pair.{
  Pair,
  Call,
  changes,
  ticks,
  link_goes_up,
  link_goes_down,
  loses,
  writes_sync,
  writes_ack,
  requests,
  answers,
  gives_up,
  picks_up,
  fetches,
  shows,
  resets,
  Step,
  step,
}

-- what went before
pub record History : Type 0 where
  -- the bytes that the awaited request's writing wrote
  pub awaited : Option Bytes
  -- the bytes that this request's acceptance wrote, once it is accepted
  pub answer : Option Bytes
  -- the boards of all moments since a sync was last accepted, the latest first
  pub accepted : List Sources
  -- the boards of all moments since the last completed sync was accepted
  pub completed : List Sources

-- a history of these parts
abbrev pub history_of : (awaited answer : Option Bytes) (accepted completed : List Sources) → History
history_of awaited answer accepted completed = record { awaited = awaited; answer = answer; accepted = accepted; completed = completed }

-- of a new pair: nothing is awaited, and no sync was accepted
abbrev pub new_history : History
new_history = history_of None None [] []

-- a request is awaited until its receipt is spent: as long as the book waits
abbrev pub while_waiting : Phase → Option Bytes → Option Bytes
while_waiting Blind bytes = None
while_waiting Settled bytes = None
while_waiting Holding bytes = None
while_waiting (Waiting kind) bytes = bytes

-- one more moment, with this phase of the book and this board
abbrev pub later : Phase → Sources → History → History
later phase board s = history_of (while_waiting phase s.awaited) (while_waiting phase s.answer) (board ∷ s.accepted) (board ∷ s.completed)

-- the book has written a request: what it wrote is awaited, and nothing was accepted of it yet
abbrev pub wrote : Result ℕ Refusal → Bytes → History → History
wrote (Ok n) bytes s = history_of (Some bytes) None s.accepted s.completed
wrote (Err r) bytes s = s

-- the moments since a sync was last accepted, once a request of this kind is: its acceptance is the first of them
abbrev pub begins : Kind → List Sources → List Sources
begins sync boards = []
begins ack boards = boards

-- the endpoint has accepted a request of this kind, and what it wrote is its answer
abbrev pub accepts : Result ℕ Refusal → Kind → Bytes → History → History
accepts (Ok n) kind bytes s = history_of s.awaited (Some bytes) (begins kind s.accepted) s.completed
accepts (Err r) kind bytes s = s

-- a sync is completed when its answer settles the book; the moments since its acceptance count from then on
abbrev pub completes : (before after : Phase) → (accepted completed : List Sources) → List Sources
completes (Waiting sync) Settled accepted completed = accepted
completes (Waiting sync) Blind accepted completed = completed
completes (Waiting sync) Holding accepted completed = completed
completes (Waiting sync) (Waiting kind) accepted completed = completed
completes (Waiting ack) after accepted completed = completed
completes Blind after accepted completed = completed
completes Settled after accepted completed = completed
completes Holding after accepted completed = completed

-- the book has taken an answer
abbrev pub takes : (before after : Phase) → History → History
takes before after s = history_of s.awaited s.answer s.accepted (completes before after s.accepted s.completed)

-- what a call adds, by what it left
abbrev pub adds : Call → Pair → Step → History → History
adds (writes_sync items delay retry room) p t s = wrote t.outcome.result t.outcome.written s
adds (writes_ack room) p t s = wrote t.outcome.result t.outcome.written s
adds (requests sender bytes room) p t s = accepts t.outcome.result (kind_of bytes) t.outcome.written s
adds (answers kind bytes) p t s = takes p.book.phase t.pair.book.phase s
adds (gives_up kind) p t s = s
adds (picks_up room) p t s = s
adds (changes place r) p t s = s
adds (ticks room) p t s = s
adds link_goes_up p t s = s
adds link_goes_down p t s = s
adds loses p t s = s
adds (fetches room) p t s = s
adds (shows id room) p t s = s
adds resets p t s = s

-- the history after a call: what it adds, and one more moment
abbrev pub after_call : Pair → Call → History → History
after_call p c s = later (step p c).pair.book.phase (step p c).pair.board (adds c p (step p c) s)

-- the history after a list of calls
abbrev pub after_calls : Pair → List Call → History → History
after_calls p [] s = s
after_calls p (c ∷ cs) s = after_calls (step p c).pair cs (after_call p c s)
