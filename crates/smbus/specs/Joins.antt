-- A message in packets: the parts of a packet, and the payloads joined. Assumes nothing.
use Rattle.std.specs.Prelude.{◌≡◌, ℕ, zero, suc, ◌+◌, ◌-◌, ◌*◌, ◌<◌, ◌≤◌, List, [], ◌∷◌, ◌++◌, map, length, take, drop, slice_index_or, slice_set, refl}
use Rattle.std.proofs.Common.{sym, ap, subst, ◌∙◌, append_assoc, zero-add, add-one, arith, length-append, take-add, take_all}
use borrow.Rule.Slice.PartMut.{put_mid, post_of}
use Rattle.std.specs.List.{range_with_len}
use Rattle.std.proofs.lemmas.List.{take_at, drop_at, length_push, take_more, take_more_set, map_push, flat_map_more, take-take, drop-take, length-take-le}
use Rattle.std.proofs.lemmas.Slice.{take-put_mid}
use Rattle.std.proofs.lemmas.List.FromFn.{map-range_with_len_more}
use Rattle.crc.specs.Crc.{crc8}
use Rattle.event.specs.Bytes.{Bytes, placed}
use Rattle.event.specs.Outcomes.{over_front}
use Rattle.event.proofs.Placed.{placed_copy, one_more, length-placed}
use Rattle.carrier.specs.Carriers.{Message}
use Rattle.smbus.specs.declared.packet.Addresses.{Addresses}
use Rattle.smbus.specs.declared.packet.Packet.{Packet}
use Rattle.smbus.specs.Stored.{held, stored}
use Rattle.smbus.specs.Packets.{packet_count, payload, header, checked, packet, packets, payload_of, payloads}

-- the payload of a packet that stands in a row
pub payload_held : (len : ℕ) (row : Bytes) → len ≤ 64 → length row ≡ 73 → take (8 + len - 8) (drop 8 row) ≡ payload_of (take (8 + len + 1) row)
payload_held len row h l =
    let whole = take (8 + len + 1) row in
    let long : length whole ≡ 8 + len + 1 = length-take-le (8 + len + 1) row (omega arith) in
    let less : length whole - 9 ≡ len = omega arith in
    let here : 8 + len - 8 ≡ len = omega arith in
    let more : 8 + len + 1 ≡ 8 + (len + 1) = omega arith in
    let back : drop 8 whole ≡ take (len + 1) (drop 8 row) = ap (λ (n : ℕ). drop 8 (take n row)) more ∙ drop-take 8 (len + 1) row in
    ap (λ (n : ℕ). take n (drop 8 row)) here
    ∙ sym (ap (λ (n : ℕ). take n (drop 8 whole)) less ∙ ap (take len) back ∙ take-take len (len + 1) (drop 8 row) (omega arith))

-- a header and a payload in a row
pub laid_front : (row front part : Bytes) (k l : ℕ) → length front ≡ 8 → take (8 + length part) (put_mid 8 l (put_mid 0 k row front) part) ≡ front ++ part
laid_front row front part k l h =
    let first = put_mid 0 k row front in
    take-put_mid 8 l first part (8 + length part) refl (omega (arith, length-append front (post_of 0 k row)))
    ∙ ap (λ (b : Bytes). b ++ part) (take_at front _ 8 h)

-- a header, a payload and the check over both in a row
pub laid : (row front part xs ys : Bytes) (l check : ℕ) → length row ≡ 73 → length front ≡ 8 → length part ≤ 64 → xs ≡ front → ys ≡ part → l ≡ length part
    → check ≡ crc8 (take (8 + length part - 0) (put_mid 8 l (put_mid 0 8 row xs) ys))
    → take (8 + length part + 1) (slice_set (put_mid 8 l (put_mid 0 8 row xs) ys) (8 + length part) check) ≡ checked (front ++ part)
laid row front part xs ys l check r f p e g n z =
    let all = put_mid 8 l (put_mid 0 8 row xs) ys in
    let ends : take (8 + length part) all ≡ front ++ part =
    ap (λ (b : Bytes). take (8 + length part) (put_mid 8 l (put_mid 0 8 row b) ys)) e
    ∙ ap (λ (b : Bytes). take (8 + length part) (put_mid 8 l (put_mid 0 8 row front) b)) g
    ∙ laid_front row front part 8 l f in
    let first = placed_copy row 0 8 xs front e (sym f) in
    let second = placed_copy (put_mid 0 8 row xs) 8 l ys part g n in
    let one : length (put_mid 0 8 row xs) ≡ 73 = ap length first ∙ length-placed row 0 front (omega arith) ∙ r in
    let two : length all ≡ 73 = ap length second ∙ length-placed (put_mid 0 8 row xs) 8 part (omega arith) ∙ one in
    let long : 8 + length part < length all = omega arith in
    let whole : 8 + length part - 0 ≡ 8 + length part = omega arith in
    take_more_set all (8 + length part) check long
    ∙ ap (λ (b : Bytes). b ++ (check ∷ [])) ends
    ∙ ap (λ (v : ℕ). (front ++ part) ++ (v ∷ [])) (z ∙ ap (λ (k : ℕ). crc8 (take k all)) whole ∙ ap crc8 ends)

-- what lies between a header and a check
pub between : (front part : Bytes) (check : ℕ) → length front ≡ 8 → payload_of ((front ++ part) ++ (check ∷ [])) ≡ part
between front part check h =
    let whole = (front ++ part) ++ (check ∷ []) in
    let long : length whole ≡ 9 + length part = length_push (front ++ part) check ∙ ap (λ (n : ℕ). n + 1) (length-append front part) ∙ omega arith in
    let less : length whole - 9 ≡ length part = omega arith in
    let back : drop 8 whole ≡ part ++ (check ∷ []) = ap (drop 8) (append_assoc front part (check ∷ [])) ∙ drop_at front (part ++ (check ∷ [])) 8 h in
    ap (λ (n : ℕ). take n (drop 8 whole)) less ∙ ap (take (length part)) back ∙ take_at part (check ∷ []) (length part) refl

-- the payload of a packet is the part of the message by its number
pub payload_packet : (a : Addresses) (m : Message) (number : ℕ) → payload_of (packet a m number) ≡ payload m.bytes number
unfolding packet
payload_packet a m number =
    let part = payload m.bytes number in
    let front = header a m.destination (length part) number (packet_count (length m.bytes)) in
    between front part (crc8 (front ++ part)) refl

-- the payloads of one packet more
pub payloads_push : (ps : List Bytes) (p : Bytes) → payloads (ps ++ (p ∷ [])) ≡ payloads ps ++ payload_of p
unfolding payloads
payloads_push ps p = sym (flat_map_more payload_of [] ps p)

-- the payloads of the first so many packets
first_payloads : (a : Addresses) (m : Message) (n : ℕ) → payloads (map (packet a m) (range_with_len 0 n)) ≡ take (64 * n) m.bytes
unfolding payloads
first_payloads a m zero = refl
first_payloads a m (suc n) =
    let f = packet a m in
    let P : ℕ → Type 0 = λ k. payloads (map f (range_with_len 0 k)) ≡ take (64 * k) m.bytes in
    subst P (add-one n)
    (ap payloads (map-range_with_len_more f 0 n n (zero-add n))
    ∙ payloads_push (map f (range_with_len 0 n)) (f n)
    ∙ ap (λ (l : Bytes). l ++ payload_of (f n)) (first_payloads a m n)
    ∙ ap (λ (l : Bytes). take (64 * n) m.bytes ++ l) (payload_packet a m n)
    ∙ sym (take-add (64 * n) 64 m.bytes)
    ∙ ap (λ (k : ℕ). take k m.bytes) (omega arith))

-- the payloads of all packets of a message are the message
pub payloads_join : (a : Addresses) (m : Message) → payloads (packets a m) ≡ m.bytes
unfolding packets
payloads_join a m =
    first_payloads a m (packet_count (length m.bytes))
    ∙ take_all (64 * packet_count (length m.bytes)) m.bytes (omega arith)

-- a copy behind what stands at the start of a buffer
pub copied_more : (before buffer front part ys : Bytes) (at k : ℕ) → buffer ≡ over_front front before → at ≡ length front → ys ≡ part → k ≡ length part → put_mid at k buffer ys ≡ over_front (front ++ part) before
copied_more before buffer front part ys at k e n g l = placed_copy buffer at k ys part g l ∙ ap (λ (b : Bytes). placed b at part) e ∙ one_more before front part at n

-- one packet more of a row
pub stored_more : (row : List Packet) (i : ℕ) (p : Packet) → i < length row → p ≡ slice_index_or row i p → stored (i + 1) row ≡ stored i row ++ (held p ∷ [])
stored_more row i p lt e =
    ap (map held) (take_more row i p lt)
    ∙ map_push held (take i row) (slice_index_or row i p)
    ∙ ap (λ (x : Packet). stored i row ++ (held x ∷ [])) (sym e)

-- a packet that is stored behind the others
pub stored_set : (row : List Packet) (i : ℕ) (p : Packet) → i < length row → stored (i + 1) (slice_set row i p) ≡ stored i row ++ (held p ∷ [])
stored_set row i p lt = ap (map held) (take_more_set row i p lt) ∙ map_push held (take i row) p
