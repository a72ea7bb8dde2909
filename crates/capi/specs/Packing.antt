-- What the carriers tell C of one message. Assumes nothing.
use Rattle.std.specs.Prelude.{ℕ, cond, List, length, Ok, Err, Result}
use Rattle.event.specs.declared.refusal.Refusal.{Refusal}
use Rattle.event.specs.declared.refusal.Refusal.TheVariants.{AddressTooHigh}
use Rattle.event.specs.Bytes.{Bytes}
use Rattle.event.specs.Outcomes.{Outcome, done, refusal}
use Rattle.carrier.specs.Carriers.{Line, new_line, after_put, fetched}
use Rattle.smbus.specs.declared.packet.Addresses.{Addresses}
use Rattle.smbus.specs.Packets.{packets_on, chosen}
use Rattle.smbus.specs.Seen.{Seen, seen_as, low_addresses}

-- a new line after a message was put on it
abbrev pub laid : (destination : ℕ) → Bytes → Line
laid destination bytes = after_put new_line destination bytes

-- the value, if both addresses are below 128
abbrev pub between : {A : Type 0} → Addresses → A → Result A Refusal
between a x = cond (low_addresses a) (Ok x) (Err AddressTooHigh)

-- a new SMBus carrier after a message was put on it
abbrev pub sent : Addresses → (destination : ℕ) → Bytes → Result Seen Refusal
sent a destination bytes = between a (seen_as a (laid destination bytes))

-- the packets of the message
abbrev pub packets_sent : Addresses → (destination : ℕ) → Bytes → List Bytes
packets_sent a destination bytes = packets_on a (laid destination bytes)

-- how many they are
abbrev pub counted : Addresses → (destination : ℕ) → Bytes → Result ℕ Refusal
counted a destination bytes = between a (length (packets_sent a destination bytes))

-- the one of this number, if it fits into so many bytes
abbrev pub packet_sent : Addresses → (destination : ℕ) → Bytes → (number room : ℕ) → Bytes
packet_sent a destination bytes number room = chosen (packets_sent a destination bytes) number room

-- an outcome, if both addresses are below 128
abbrev pub between_low : Addresses → Outcome → Outcome
between_low a o = cond (low_addresses a) o (refusal AddressTooHigh)

-- that packet is copied
abbrev pub packet_copied : Addresses → (destination : ℕ) → Bytes → (number room : ℕ) → Outcome
packet_copied a destination bytes number room = between_low a (done (packet_sent a destination bytes number room))

-- what lies there is fetched from the carrier
abbrev pub delivered : Addresses → (destination : ℕ) → Bytes → (room : ℕ) → Outcome
delivered a destination bytes room = between_low a (fetched room (laid destination bytes).message)
