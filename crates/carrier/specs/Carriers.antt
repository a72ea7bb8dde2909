-- What a carrier means: a link, and at most one message on it. Assumes nothing.
use Rattle.std.specs.Prelude.{ℕ, Bool, true, false, cond, ◌&&◌, [], ◌∷◌, length, Some, None, Option, nat_le}
use Rattle.event.specs.Bytes.{Bytes, within}
use Rattle.event.specs.Outcomes.{Outcome, done, refusal}
use Rattle.event.specs.declared.refusal.Refusal.TheVariants.{MessageBufferShort, NoMessage}

-- a message and the endpoint ID that it goes to
pub record Message : Type 0 where
  pub destination : ℕ
  pub bytes : Bytes

-- a message to this destination
abbrev pub message_to : (destination : ℕ) → Bytes → Message
message_to destination bytes = record { destination = destination; bytes = bytes }

-- what a carrier is to its users: a link and what lies on it
pub record Line : Type 0 where
  -- is the link up?
  pub link : Bool
  -- the message that lies there, if one does
  pub message : Option Message

-- a line of this link and message
abbrev pub linked : Bool → Option Message → Line
linked up message = record { link = up; message = message }

-- a new carrier: up and empty
abbrev pub new_line : Line
new_line = linked true None

-- the lengths that a message may have
abbrev pub message_fits : Bytes → Bool
message_fits bytes = within 1 4224 (length bytes)

-- does what lies there have such a length?
abbrev pub lying_fits : Option Message → Bool
lying_fits None = true
lying_fits (Some m) = message_fits m.bytes

-- is a put taken: is the link up, and does the message fit?
abbrev pub takes : Line → Bytes → Bool
takes line bytes = line.link && message_fits bytes

-- after a put: one that is taken replaces what lies there, any other changes nothing
abbrev pub after_put : Line → (destination : ℕ) → Bytes → Line
after_put line destination bytes = cond (takes line bytes) (linked line.link (Some (message_to destination bytes))) line

-- after a withdrawal, or a loss: nothing lies there
abbrev pub withdrawn : Line → Line
withdrawn line = linked line.link None

-- link up changes the link alone
abbrev pub linked_up : Line → Line
linked_up line = linked true line.message

-- link down leaves nothing lying
abbrev pub linked_down : Line → Line
linked_down line = linked false None

-- what lies there, copied
abbrev pub lies : Option Message → Outcome
lies None = refusal NoMessage
lies (Some m) = done m.bytes

-- a fetch copies what lies there and leaves it, if the buffer has room for any message
abbrev pub fetched : (room : ℕ) → Option Message → Outcome
fetched room message = cond (nat_le 4224 room) (lies message) (refusal MessageBufferShort)

-- a message that is kept whole; without a byte nothing lies there
abbrev pub kept : (destination : ℕ) → Bytes → Option Message
kept destination [] = None
kept destination (b ∷ bs) = Some (message_to destination (b ∷ bs))
