-- What the values of the code stand for, and what a call leaves. Assumes nothing.
use Rattle.std.specs.Prelude.{◌≡◌, ℕ, [], Some, None, Option, Result}
use Rattle.event.specs.declared.refusal.Refusal.{Refusal}
use Rattle.event.specs.Bytes.{Bytes}
use Rattle.event.specs.Outcomes.{Outcome, over_front}
use Rattle.board.specs.Boards.{Sources}
use Rattle.carrier.specs.Carriers.{Line}
use Rattle.wire.specs.declared.types.Kind.{Kind}
use Rattle.protocol.specs.Pair.{
  Pair,
  pair_of,
  Call,
  changes,
  ticks,
  link_goes_up,
  link_goes_down,
  loses,
  writes_sync,
  writes_ack,
  requests,
  answers,
  gives_up,
  picks_up,
  fetches,
  shows,
  resets,
  step,
}
use Rattle.endpoint.specs.View.{as_endpoint}
use Rattle.pair.specs.Receipts.{awaited}
use Rattle.pair.specs.declared.call.Call.{Call as Told}
use Rattle.pair.specs.declared.call.Call.TheVariants.{
  Change,
  Tick,
  LinkUp,
  LinkDown,
  Lose,
  WriteSync,
  WriteAck,
  Request,
  Answer,
  GiveUp,
  PickUp,
  Fetch,
  Show,
  Reset,
}
use Rattle.pair.specs.declared.pair.Pair.{Pair as Kept}

-- the pair of the definitions that the code's stands for: what the board tells, and what lies on the carrier
abbrev pub pair_in : {B C : Type 0} → (B → Sources) → (C → Line) → Kept B C → Pair
pair_in told carried p = pair_of (as_endpoint p.endpoint) (carried p.carrier) (told p.board) p.manager.book

-- an answer with the receipt under way; without one it is no call
abbrev pub answer_if : Option Kind → Bytes → Option Call
answer_if None bytes = None
answer_if (Some kind) bytes = Some (answers kind bytes)

-- a giving up of the receipt under way; without one it is no call
abbrev pub give_up_if : Option Kind → Option Call
give_up_if None = None
give_up_if (Some kind) = Some (gives_up kind)

-- the call of the definitions, with a buffer of `room` bytes, while a request of this kind is awaited
abbrev pub call_of : Option Kind → (room : ℕ) → Told → Option Call
call_of kind room (Change place reading) = Some (changes place reading.now)
call_of kind room Tick = Some (ticks room)
call_of kind room LinkUp = Some link_goes_up
call_of kind room LinkDown = Some link_goes_down
call_of kind room Lose = Some loses
call_of kind room (WriteSync items delays) = Some (writes_sync items.now delays.first.0 delays.retry.0 room)
call_of kind room WriteAck = Some (writes_ack room)
call_of kind room (Request sender message) = Some (requests sender message.now room)
call_of kind room (Answer bytes) = answer_if kind bytes.now
call_of kind room GiveUp = give_up_if kind
call_of kind room PickUp = Some (picks_up room)
call_of kind room Fetch = Some (fetches room)
call_of kind room (Show id) = Some (shows id room)
call_of kind room Reset = Some resets

-- the call of the definitions to this pair; the receipt under way is that of the request which its book awaits
abbrev pub call_to : Pair → (room : ℕ) → Told → Option Call
call_to p room call = call_of (awaited p.book.phase) room call

-- the pair after a call, if it is one
abbrev pub step_if : Pair → Option Call → Pair
step_if p None = p
step_if p (Some c) = (step p c).pair

-- what a call hands back, if it is one
abbrev pub outcome_if : Pair → Option Call → Option Outcome
outcome_if p None = None
outcome_if p (Some c) = Some (step p c).outcome

-- its result
abbrev pub result_if : Option Outcome → Option (Result ℕ Refusal)
result_if None = None
result_if (Some o) = Some o.result

-- the bytes that it wrote
abbrev pub written_if : Option Outcome → Bytes
written_if None = []
written_if (Some o) = o.written

-- a call leaves the pair, hands back the result, and leaves in its buffer what the definitions say
pub record Steps (p : Pair) (c : Option Call) (after : Pair) (before filled : Bytes) (r : Option (Result ℕ Refusal)) : Type 0 where
  pub pair : after ≡ step_if p c
  pub result : r ≡ result_if (outcome_if p c)
  pub buffer : filled ≡ over_front (written_if (outcome_if p c)) before
