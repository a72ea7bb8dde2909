-- The SMBus packets of a message. Assumes nothing.
use Rattle.std.specs.Prelude.{◌≡◌, ℕ, ◌+◌, ◌-◌, ◌*◌, ◌/◌, ◌%◌, cond, List, [], ◌∷◌, ◌++◌, map, length, take, drop, Some, None, Option, ◌==◌, nat_le, slice_index_or}
use Rattle.std.specs.List.{range_with_len, flat_map}
use Rattle.crc.specs.Crc.{crc8}
use Rattle.event.specs.Bytes.{Bytes}
use Rattle.carrier.specs.Carriers.{Message, Line, message_to}
use Rattle.smbus.specs.declared.packet.Addresses.{Addresses}

-- how many packets so many bytes take, 64 in each
abbrev pub packet_count : (bytes : ℕ) → ℕ
packet_count bytes = (bytes + 63) / 64

-- the payload of a packet by its number: the next 64 bytes of the message, or all that are left
abbrev pub payload : Bytes → (number : ℕ) → Bytes
payload message number = take 64 (drop (64 * number) message)

-- the flag byte: bit 7 in the first packet, bit 6 in the last, bits 5:4 the number modulo 4, bit 3 one, bits 2:0 the tag, zero
abbrev pub flags : (number count : ℕ) → ℕ
flags number count = cond (number == 0) 128 0 + cond (number + 1 == count) 64 0 + number % 4 * 16 + 8

-- the eight bytes before the payload, for so many bytes of it
abbrev pub header : Addresses → (destination : ℕ) → (size number count : ℕ) → Bytes
header a destination size number count =
    (a.destination * 2) ∷ 0x0F ∷ (size + 5) ∷ (a.source * 2 + 1) ∷ 0x01 ∷ destination ∷ a.id ∷ flags number count ∷ []

-- some bytes, and CRC-8 over them
abbrev pub checked : Bytes → Bytes
checked bytes = bytes ++ (crc8 bytes ∷ [])

-- the packet of a message by its number
unfoldable pub packet : Addresses → Message → (number : ℕ) → Bytes
packet a m number =
    let part = payload m.bytes number in
    checked (header a m.destination (length part) number (packet_count (length m.bytes)) ++ part)

-- all packets of a message, by their numbers from 0 on
unfoldable pub packets : Addresses → Message → List Bytes
packets a m = map (packet a m) (range_with_len 0 (packet_count (length m.bytes)))

-- the payload that a packet has between its header and its check
abbrev pub payload_of : Bytes → Bytes
payload_of bytes = take (length bytes - 9) (drop 8 bytes)

-- the payloads of packets, one after the other
unfoldable pub payloads : List Bytes → Bytes
payloads ps = flat_map payload_of ps

-- the message that packets bring
abbrev pub brought : (destination : ℕ) → List Bytes → Option Message
brought destination [] = None
brought destination (p ∷ ps) = Some (message_to destination (payloads (p ∷ ps)))

-- the packets of a message, if there is one
abbrev pub packets_of : Addresses → Option Message → List Bytes
packets_of a None = []
packets_of a (Some m) = packets a m

-- the packets of what lies on a line
abbrev pub packets_on : Addresses → Line → List Bytes
packets_on a line = packets_of a line.message

-- the bytes of a message, if there is one
abbrev pub bytes_of : Option Message → Bytes
bytes_of None = []
bytes_of (Some m) = m.bytes

-- the bytes of what lies on a line
abbrev pub bytes_on : Line → Bytes
bytes_on line = bytes_of line.message

-- the payloads of the packets, joined in the order of their numbers, are the message
abbrev pub PayloadsJoin : Addresses → Line → Type 0
PayloadsJoin a line = payloads (packets_on a line) ≡ bytes_on line

-- the packet of this number, if it fits into so many bytes; else none
abbrev pub chosen : List Bytes → (number room : ℕ) → Bytes
chosen ps number room = cond (nat_le (length (slice_index_or ps number [])) room) (slice_index_or ps number []) []

-- how long a packet is that was chosen, if one was
abbrev pub copied_length : Bytes → Option ℕ
copied_length [] = None
copied_length (b ∷ bs) = Some (length (b ∷ bs))
