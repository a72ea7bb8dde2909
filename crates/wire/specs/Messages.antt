-- Event messages and answers: how they are written, and what is read of them. Assumes nothing.
use Rattle.std.specs.Prelude.{ℕ, ◌+◌, ◌/◌, ◌%◌, Bool, cond, ◌&&◌, [], ◌∷◌, ◌++◌, length, take, drop, Some, None, Option, ◌==◌}
use Rattle.event.specs.Bytes.{Bytes, byte, same_bytes}
use Rattle.list.specs.Lists.{Told, Listing, list_bytes, read_list}
use Rattle.wire.specs.Checks.{checked, unchecked, is_checked}

-- the list between a head and the right check word
unfoldable pub read_framed : (head : Bytes) → Bytes → Option Listing
read_framed head bytes = cond (same_bytes (take (length head) bytes) head && is_checked bytes) (read_list (drop (length head) (unchecked bytes))) None

-- EVENT MESSAGES

-- what stands before the list of an event message
abbrev pub event_head : Bytes
event_head = 0x84 ∷ 0x28 ∷ 0 ∷ 0 ∷ []

-- an event message; the transmission info has the generation in bits 7:3 and the retry count in bits 2:0
unfoldable pub event_message : (transmission : ℕ) → Told → Bytes
event_message transmission t = checked (event_head ++ list_bytes transmission t)

-- an event message as it is read
pub record Event : Type 0 where
  pub generation : ℕ
  pub retries : ℕ
  pub told : Told

-- the event of a list that is read
abbrev pub event_of : Option Listing → Option Event
event_of None = None
event_of (Some l) = Some (record { generation = l.transmission / 8; retries = l.transmission % 8; told = l.told })

-- an event message is lawful if it is exactly this, its list lawful
unfoldable pub read_event : Bytes → Option Event
read_event bytes = event_of (read_framed event_head bytes)

-- ANSWERS

-- the slot bit as a number
abbrev pub slot_bit : (slot : Bool) → ℕ
slot_bit slot = cond slot 1 0

-- what stands before the list of an answer to a request of this slot bit
abbrev pub answer_head : (slot : Bool) → Bytes
answer_head slot = 0x84 ∷ (0x88 + slot_bit slot) ∷ 0 ∷ 0 ∷ 0 ∷ 0 ∷ 0 ∷ 0 ∷ []

-- an answer; its list's transmission info is zero
unfoldable pub answer_message : (slot : Bool) → Told → Bytes
answer_message slot t = checked (answer_head slot ++ list_bytes 0 t)

-- an answer as it is read
pub record Answer : Type 0 where
  pub slot : Bool
  pub told : Told

-- the slot bit of a message
abbrev pub slot_of : Bytes → Bool
slot_of bytes = byte bytes 1 % 2 == 1

-- the answer of a list that is read
abbrev pub answer_of : (slot : Bool) → Option Listing → Option Answer
answer_of slot None = None
answer_of slot (Some l) = cond (l.transmission == 0) (Some (record { slot = slot; told = l.told })) None

-- an answer is lawful if it is exactly this, its list lawful
unfoldable pub read_answer : Bytes → Option Answer
read_answer bytes = answer_of (slot_of bytes) (read_framed (answer_head (slot_of bytes)) bytes)
