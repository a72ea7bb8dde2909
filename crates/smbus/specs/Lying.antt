-- What stored packets bring. Assumes nothing.
use Rattle.std.specs.Prelude.{◌≡◌, ℕ, suc, ◌<◌, ◌≤◌, Bool, true, false, cond, List, [], ◌∷◌, map, length, take, Some, None, Option, nat_le, slice_index_or, refl}
use Rattle.std.proofs.Common.{sym, ap, subst, ◌∙◌, zero-add, arith, length-take, le-leb}
use Rattle.std.proofs.lemmas.List.{get_or_past, get_or-map, length-map}
use Rattle.std.proofs.lemmas.Bool.{cond-true, cond-false, lt-leb}
use Rattle.std.proofs.lemmas.List.FromFn.{length-map-range_with_len, get_or-map-range_with_len}
use Rattle.event.specs.Bytes.{Bytes}
use Rattle.carrier.specs.Carriers.{Message, message_to, lying_fits}
use Rattle.carrier.proofs.Lines.{fits}
use Rattle.smbus.specs.declared.packet.Addresses.{Addresses}
use Rattle.smbus.specs.Packets.{packet_count, packet, packets, packets_of, packets_on, bytes_of, payloads, brought, chosen, copied_length}
use Rattle.smbus.specs.Stored.{held, stored, Defined}
use Rattle.smbus.specs.declared.packet.Packet.{Packet}
use Rattle.smbus.specs.declared.bus.SmbusCarrier.{SmbusCarrier}
use Rattle.smbus.specs.Seen.{line_of}
use Rattle.smbus.specs.Joins.{payloads_join}

-- how many packets a message has
pub length_packets : (a : Addresses) (m : Message) → length (packets a m) ≡ packet_count (length m.bytes)
unfolding packets
length_packets a m = length-map-range_with_len (packet a m) 0 (packet_count (length m.bytes))

-- packets bring a message, if there is one
pub brought_some : (destination : ℕ) (ps : List Bytes) → 0 < length ps → brought destination ps ≡ Some (message_to destination (payloads ps))
brought_some destination [] h = absurd (omega arith)
brought_some destination (p ∷ ps) h = refl

-- the packets of a message bring it
pub brought_packets : (a : Addresses) (destination : ℕ) (bytes : Bytes) (ps : List Bytes) → ps ≡ packets a (message_to destination bytes) → 0 < length bytes → brought destination ps ≡ Some (message_to destination bytes)
brought_packets a destination bytes ps e h =
    let m = message_to destination bytes in
    let count : length ps ≡ packet_count (length bytes) = ap length e ∙ length_packets a m in
    brought_some destination ps (omega arith)
    ∙ ap (λ (b : Bytes). Some (message_to destination b)) (ap payloads e ∙ payloads_join a m)

-- the packets of a message are the defined ones of what they bring
pub defined_packets : (a : Addresses) (destination : ℕ) (bytes : Bytes) (ps : List Bytes) → ps ≡ packets a (message_to destination bytes) → Defined a destination ps
defined_packets a destination bytes ps e =
    e ∙ ap (λ (b : Bytes). packets a (message_to destination b)) (sym (ap payloads e ∙ payloads_join a (message_to destination bytes)))

-- where no packet is stored, each is the defined one
pub defined_none : (a : Addresses) (destination : ℕ) → Defined a destination []
unfolding packets payloads
defined_none a destination = refl

-- nor is there one in a row of which none is stored
pub defined_empty : (a : Addresses) (destination : ℕ) (row : List Packet) → Defined a destination (stored 0 row)
defined_empty a destination row = defined_none a destination

-- what at most 66 packets bring fits
pub brought_fits : (a : Addresses) (destination : ℕ) (ps : List Bytes) → length ps ≤ 66 → Defined a destination ps → lying_fits (brought destination ps) ≡ true
brought_fits a destination [] h e = refl
brought_fits a destination (p ∷ ps) h e =
    let bytes = payloads (p ∷ ps) in
    let count : suc (length ps) ≡ packet_count (length bytes) = ap length e ∙ length_packets a (message_to destination bytes) in
    fits bytes (omega arith) (omega arith)

-- a carrier stores at most 66 packets
pub few_stored : (s : SmbusCarrier) → length (take s.count s.row) ≤ 66
few_stored s = omega (arith, length-take s.count s.row, s.few)

-- what lies on the carrier fits
pub line_fits : (s : SmbusCarrier) → lying_fits (line_of s).message ≡ true
line_fits s = brought_fits s.addresses s.destination (stored s.count s.row) (omega (arith, length-map (take s.count s.row) held, few_stored s)) s.defined

-- the packets of what lies there are the stored ones
pub packets_stored : (a : Addresses) (destination : ℕ) (ps : List Bytes) → Defined a destination ps → packets_of a (brought destination ps) ≡ ps
packets_stored a destination [] e = refl
packets_stored a destination (p ∷ ps) e = sym e

-- the payloads of the packets of what lies there are its bytes
pub payloads_lying : (a : Addresses) (lying : Option Message) → payloads (packets_of a lying) ≡ bytes_of lying
unfolding payloads
payloads_lying a None = refl
payloads_lying a (Some m) = payloads_join a m

-- the packets that a carrier stores are those of what lies there
pub shown : (s : SmbusCarrier) (row : List Packet) → row ≡ take s.count s.row → packets_on s.addresses (line_of s) ≡ map held row
shown s row e = packets_stored s.addresses s.destination (stored s.count s.row) s.defined ∙ sym (ap (map held) e)

-- the packet of a number is the one that is stored there
pub shown_at : (s : SmbusCarrier) (row : List Packet) (number : ℕ) (p : Packet) → row ≡ take s.count s.row → number < length row → p ≡ slice_index_or row number p → slice_index_or (packets_on s.addresses (line_of s)) number [] ≡ held p
shown_at s row number p r lt e =
    ap (λ (ps : List Bytes). slice_index_or ps number []) (shown s row r)
    ∙ get_or-map held row number p [] lt
    ∙ ap held (sym e)

-- no packet is empty, so one that is copied has a length
pub copied_packet : (a : Addresses) (m : Message) (number : ℕ) → copied_length (packet a m number) ≡ Some (length (packet a m number))
unfolding packet
copied_packet a m number = refl

-- and so has each that is stored
pub copied_stored : (s : SmbusCarrier) (number : ℕ) (p : Bytes) → number < length (stored s.count s.row) → slice_index_or (packets_on s.addresses (line_of s)) number [] ≡ p → copied_length p ≡ Some (length p)
unfolding packets
copied_stored s number p lt e =
    let m = message_to s.destination (payloads (stored s.count s.row)) in
    let count = packet_count (length m.bytes) in
    let here : number < count = omega (arith, ap length s.defined, length_packets s.addresses m) in
    let is : packet s.addresses m number ≡ p =
    sym (get_or-map-range_with_len (packet s.addresses m) 0 count number number [] here (zero-add number))
    ∙ sym (ap (λ (ps : List Bytes). slice_index_or ps number []) (shown s (take s.count s.row) refl ∙ s.defined))
    ∙ e in
    let P : Bytes → Type 0 = λ b. copied_length b ≡ Some (length b) in subst P is (copied_packet s.addresses m number)

-- a choice between two that are the same
cond_same : (b : Bool) (p : Bytes) → cond b p p ≡ p
cond_same true p = refl
cond_same false p = refl

-- there is no packet of this number
pub chosen_none : (ps : List Bytes) (number room : ℕ) → length ps ≤ number → chosen ps number room ≡ []
chosen_none ps number room h =
    ap (λ (p : Bytes). cond (nat_le (length p) room) p []) (get_or_past ps number [] h) ∙ cond_same (nat_le 0 room) []

-- the packet of this number is too long
pub chosen_long : (ps : List Bytes) (number room : ℕ) (p : Bytes) → slice_index_or ps number [] ≡ p → room < length p → chosen ps number room ≡ []
chosen_long ps number room p e h =
    ap (λ (b : Bytes). cond (nat_le (length b) room) b []) e ∙ cond-false (nat_le (length p) room) p [] (lt-leb (length p) room h)

-- the packet of this number fits
pub chosen_fits : (ps : List Bytes) (number room : ℕ) (p : Bytes) → slice_index_or ps number [] ≡ p → length p ≤ room → chosen ps number room ≡ p
chosen_fits ps number room p e h =
    ap (λ (b : Bytes). cond (nat_le (length b) room) b []) e ∙ cond-true (nat_le (length p) room) p [] (le-leb (length p) room h)
