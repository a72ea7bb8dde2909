-- Which call of a pair an action of a script is, and what it leaves. Assumes nothing.
use Rattle.std.specs.Prelude.{ℕ, Bool, true, false, cond, min, take, Some, None, Ok, Option, Result, vec_items}
use Rattle.event.specs.Bytes.{Bytes}
use Rattle.event.specs.declared.refusal.Refusal.{Refusal}
use Rattle.wire.specs.declared.types.Kind.{Kind}
use Rattle.protocol.specs.Pair.{
  Pair,
  Call,
  changes,
  ticks,
  link_goes_up,
  link_goes_down,
  loses,
  writes_sync,
  writes_ack,
  requests,
  picks_up,
  fetches,
  shows,
  resets,
}
use Rattle.pair.specs.Receipts.{awaited}
use Rattle.pair.specs.Runs.{Note, note_of, note_after, empty_note}
use Rattle.pair.specs.View.{pair_in, answer_if, give_up_if, call_of, outcome_if}
use Rattle.pair.specs.declared.call.Call.{Call as Told}
use Rattle.pair.specs.declared.record.Record.{Record}
use Rattle.script.specs.declared.command.Action.{Action}
use Rattle.script.specs.declared.command.Action.TheVariants.{
  Change,
  Tick,
  Up,
  Down,
  Lose,
  Reset,
  Sync,
  Ack,
  Hand,
  Take,
  GiveUp,
  PickUp,
  Fetch,
  Show,
  Packets,
}
use Rattle.session.specs.declared.latest.Latest.{Latest}
use Rattle.session.specs.declared.session.Session.{Session}
use Rattle.session.specs.Named.{told_by, carried_by}

-- the call of the definitions that an action is, with a buffer of `room` bytes, while a request of this kind is awaited. A message that is not said is the request last written, or the latest answer. Telling the packets is no call
abbrev pub asked : Latest → Option Kind → (room : ℕ) → Action → Option Call
asked l kind room (Change place reading) = Some (changes place (vec_items reading))
asked l kind room (Tick count) = Some (ticks room)
asked l kind room Up = Some link_goes_up
asked l kind room Down = Some link_goes_down
asked l kind room Lose = Some loses
asked l kind room Reset = Some resets
asked l kind room (Sync delays items) = Some (writes_sync (vec_items items) delays.first.0 delays.retry.0 room)
asked l kind room Ack = Some (writes_ack room)
asked l kind room (Hand sender None) = Some (requests sender (vec_items l.request) room)
asked l kind room (Hand sender (Some message)) = Some (requests sender (vec_items message) room)
asked l kind room (Take None) = answer_if kind (vec_items l.answer)
asked l kind room (Take (Some message)) = answer_if kind (vec_items message)
asked l kind room GiveUp = give_up_if kind
asked l kind room PickUp = Some (picks_up room)
asked l kind room Fetch = Some (fetches room)
asked l kind room (Show id) = Some (shows id room)
asked l kind room Packets = None

-- is an action a call of a pair? Telling the packets is none
abbrev pub is_call : Action → Bool
is_call Packets = false
is_call other = true

-- the bytes that a call wrote, if it succeeded; else these
abbrev pub written_or : Bytes → Option (Result ℕ Refusal) → Bytes → Bytes
written_or old (Some (Ok count)) buffer = take count buffer
written_or old other buffer = old

-- the request last written, after a call with this record
abbrev pub request_after : Latest → Action → Note → Bytes
request_after l (Sync delays items) n = written_or (vec_items l.request) n.reply n.bytes
request_after l Ack n = written_or (vec_items l.request) n.reply n.bytes
request_after l other n = vec_items l.request

-- the endpoint's latest answer, after a call with this record
abbrev pub answer_after : Latest → Action → Note → Bytes
answer_after l (Hand sender message) n = written_or (vec_items l.answer) n.reply n.bytes
answer_after l other n = vec_items l.answer

-- the call of the definitions that a pair's call is, if there is one
abbrev pub call_if : Option Kind → (room : ℕ) → Option Told → Option Call
call_if kind room None = None
call_if kind room (Some call) = call_of kind room call

-- the pair of the definitions that stands in a session
abbrev pub pair_of_session : Session → Pair
pair_of_session s = pair_in told_by carried_by s.pair

-- the call that an action is in a session, where these are taken up; at most 4,224 bytes are lent to it
abbrev pub asked_with : Latest → Session → (room : ℕ) → Action → Option Call
asked_with l s room action = asked l (awaited s.pair.manager.book.phase) (min room 4224) action

-- the call that an action is in a session
abbrev pub asked_in : Session → (room : ℕ) → Action → Option Call
asked_in s room action = asked_with s.latest s room action

-- what a record holds, if there is one
abbrev pub note_if : Option Record → Option Note
note_if None = None
note_if (Some r) = Some (note_of r)

-- the record of an action which is this call to this pair, if it is a call of a pair at all
abbrev pub note_left : Pair → Option Call → Action → Option Note
note_left p c action = cond (is_call action) (Some (note_after (outcome_if p c) empty_note)) None
