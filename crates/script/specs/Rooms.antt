-- The buffers that calls work in. Assumes nothing.
use Rattle.std.specs.Prelude.{ℕ, ◌-◌, Bool, cond, ◌&&◌, List, [], length, take, slice_index_or, nat_lt, Some, None, Ok, Err, Option, Result, codes}
use Rattle.std.specs.Option.{unwrap_or}
use Rattle.std.specs.Borrow.{Bor}
use Rattle.std.specs.Str.{bytes_eq}
use Rattle.event.specs.Bytes.{Bytes}
use Rattle.script.specs.declared.command.Action.{Action}
use Rattle.script.specs.declared.command.Action.TheVariants.{Tick, Ack, PickUp, Fetch, Show}
use Rattle.syntax.specs.declared.fault.Fault.{Fault}
use Rattle.syntax.specs.declared.fault.Fault.TheVariants.{NoRoom}
use Rattle.syntax.specs.Lines.{texts}
use Rattle.syntax.specs.Numbers.{usize_max, number_of}
use Rattle.script.specs.Said.{SaidAction, said_change, said_sync, said_hand, said_take, said_other, action_said, ◌>>=◌}

-- the length of the buffer that an action with no vector asks for
abbrev pub asked_plain : Action → Option ℕ
asked_plain (Tick count) = Some 4111
asked_plain Ack = Some 217
asked_plain PickUp = Some 4224
asked_plain Fetch = Some 4224
asked_plain (Show id) = Some 64
asked_plain other = None

-- the length of the buffer that a call asks for; none if it works in no buffer
abbrev pub asked_for : SaidAction → Option ℕ
asked_for (said_change place reading) = None
asked_for (said_sync delay retry items) = Some 217
asked_for (said_hand sender message) = Some 4115
asked_for (said_take message) = None
asked_for (said_other action) = asked_plain action

-- the same of an action with vectors
abbrev pub asked_by : Action → Option ℕ
asked_by action = asked_for (action_said action)

-- the length of the buffer that is lent: what the script says, or else what the call asks for; a call that works in no buffer takes none
abbrev pub room_for : (asked said : Option ℕ) → Result ℕ Fault
room_for (Some length) said = Ok (unwrap_or said length)
room_for None None = Ok 0
room_for None (Some length) = Err NoRoom

-- does a word say that a room follows?
abbrev pub is_room : Bytes → Bool
is_room word = bytes_eq word (codes "room")

-- the words of a call, and the room of this length
abbrev pub with_room : (call : List Bytes) → (length : Bytes) → Result (List Bytes × Option ℕ) Fault
with_room call length = number_of 10 usize_max length >>= (λ room. Ok (call, Some room))

-- the words of a call before its room, and the room: three words or more may end in `room` and a length
abbrev pub roomed : List Bytes → Result (List Bytes × Option ℕ) Fault
roomed words =
    cond (nat_lt 2 (length words) && is_room (slice_index_or words (length words - 2) []))
    (with_room (take (length words - 2) words) (slice_index_or words (length words - 1) []))
    (Ok (words, None))

-- words and a room, as the bytes that they are
abbrev pub room_said : Bor (List (Bor Bytes)) × Option ℕ → List Bytes × Option ℕ
room_said said = (texts said.0.now, said.1)
