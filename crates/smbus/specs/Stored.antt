-- What the rows of the SMBus carrier stand for. Assumes nothing.
use Rattle.std.specs.Prelude.{◌≡◌, ℕ, ◌+◌, List, map, take}
use Rattle.event.specs.Bytes.{Bytes}
use Rattle.carrier.specs.Carriers.{message_to}
use Rattle.smbus.specs.Packets.{packets, payloads}
use Rattle.smbus.specs.declared.packet.Addresses.{Addresses}
use Rattle.smbus.specs.declared.packet.Packet.{Packet}

-- the bytes of a packet
abbrev pub held : Packet → Bytes
held p = take (8 + p.len + 1) p.bytes

-- the packets that are stored: the first so many of a row
abbrev pub stored : (count : ℕ) → List Packet → List Bytes
stored count row = map held (take count row)

-- every packet is the defined one of the message that they bring
abbrev pub Defined : Addresses → (destination : ℕ) → List Bytes → Type 0
Defined a destination ps = ps ≡ packets a (message_to destination (payloads ps))
