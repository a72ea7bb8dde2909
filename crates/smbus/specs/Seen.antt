-- The SMBus carrier as its users see it. Assumes nothing.
use Rattle.std.specs.Prelude.{ℕ, Bool, cond, ◌&&◌, Ok, Err, Result, nat_lt}
use Rattle.event.specs.declared.refusal.Refusal.{Refusal}
use Rattle.event.specs.declared.refusal.Refusal.TheVariants.{AddressTooHigh}
use Rattle.carrier.specs.Carriers.{Line, linked, new_line}
use Rattle.smbus.specs.Packets.{brought}
use Rattle.smbus.specs.Stored.{stored}
use Rattle.smbus.specs.declared.packet.Addresses.{Addresses}
use Rattle.smbus.specs.declared.bus.SmbusCarrier.{SmbusCarrier}

-- these SMBus addresses, and this endpoint ID of the sender
abbrev pub addressed : (destination source id : ℕ) → Addresses
addressed destination source id = record { destination = destination; source = source; id = id }

-- the line of the carrier: what lies there is what the stored packets bring
abbrev pub line_of : SmbusCarrier → Line
line_of s = linked s.up (brought s.destination (stored s.count s.row))

-- the carrier: its addresses, and its line
pub record Seen : Type 0 where
  pub addresses : Addresses
  pub line : Line

-- a carrier of these addresses and this line
abbrev pub seen_as : Addresses → Line → Seen
seen_as a line = record { addresses = a; line = line }

-- what is seen of a carrier
abbrev pub seen : SmbusCarrier → Seen
seen s = seen_as s.addresses (line_of s)

-- what is seen of a carrier, if it was made
abbrev pub seen_if : Result SmbusCarrier Refusal → Result Seen Refusal
seen_if (Ok s) = Ok (seen s)
seen_if (Err r) = Err r

-- are both addresses below 128?
abbrev pub low_addresses : Addresses → Bool
low_addresses a = nat_lt a.destination 128 && nat_lt a.source 128

-- a carrier is made, up and empty, if both addresses are below 128
abbrev pub made : Addresses → Result Seen Refusal
made a = cond (low_addresses a) (Ok (seen_as a new_line)) (Err AddressTooHigh)
