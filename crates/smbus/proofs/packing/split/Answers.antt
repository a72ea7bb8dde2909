use Rattle.std.proofs.Common.{◌≡◌, ℕ, ◌+◌, ◌*◌, ◌<◌, List, [], ◌∷◌, ◌++◌, map, length, take, drop, min, slice_set, sym, ap, ◌∙◌, zero-add, arith, rules, length-drop}
use Rattle.std.specs.List.{range_with_len}
use Rattle.std.proofs.lemmas.List.{take_at, drop_at, take_min, drop_min, drop-drop}
use Rattle.std.proofs.lemmas.List.FromFn.{map-range_with_len_more}
use Rattle.event.specs.Bytes.{Bytes}
use Rattle.carrier.specs.Carriers.{Message, message_to}
use Rattle.smbus.specs.declared.packet.Addresses.{Addresses}
use Rattle.smbus.specs.Packets.{packet, packets, packet_count, payload, header, checked}
use Rattle.smbus.specs.Stored.{held, stored}
use Rattle.smbus.specs.Joins.{stored_set}
use Rattle.smbus.proofs.packing.split.Goals as goal

-- the next chunk, and what is left behind it
cut : (rest part more : Bytes) (k : ℕ) → rest ≡ part ++ more → length part ≡ min k (length rest) → (part ≡ take k rest) × (more ≡ drop k rest)
cut rest part more k e l = (
  sym (ap (take (min k (length rest))) e ∙ take_at part more _ l) ∙ take_min k rest,
  sym (ap (drop (min k (length rest))) e ∙ drop_at part more _ l) ∙ drop_min k rest,
)

-- the packet that is made of a header and a part
made_of : (a : Addresses) (m : Message) (n number count : ℕ) (part front p : Bytes) → number ≡ n → count ≡ packet_count (length m.bytes) → part ≡ payload m.bytes n
    → front ≡ header a m.destination (length part) number count → p ≡ checked (front ++ part) → p ≡ packet a m n
unfolding packet
made_of a m n number count part front p h i j k l = cc

pub loop-number-preserved : goal.loop-number-preserved
loop-number-preserved c =
    let message = c.args.message.now in
    let m = message_to c.args.destination message in
    let f = packet c.args.addresses m in
    let row = c.loop-number.row in
    let n = c.loop-number.number-iterator.count in
    let rest = c.loop-number.number-iterator.iter.rest.now in
    let part = c.in-Some.payload.now in
    let step = c.in-Some.ensures.steps in
    let long = step.0.1.1 ∙ ap (λ (k : ℕ). min k (length rest)) c.loop-number.invariant.size in
    let parts = cut rest part c.next.new.self.iter.rest.now 64 step.0.1.0 long in
    let count : c.div_ceil-count.result ≡ packet_count (length message) = omega arith in
    let is =
    made_of c.args.addresses m n c.in-Some.number c.div_ceil-count.result part c.header-header.result (held c.new.result)
    step.1 count (parts.0 ∙ ap (take 64) c.loop-number.invariant.rest) c.header-header.ensures c.new.ensures in
    let here : n < length row = omega (arith, step.0.1.2, ap length c.loop-number.invariant.rest, length-drop (64 * n) message, c.loop-number.invariant.few, c.loop-number.invariant.whole) in
    record {
      size = cc;
      rest =
          parts.1
          ∙ ap (drop 64) c.loop-number.invariant.rest
          ∙ drop-drop 64 (64 * n) message
          ∙ ap (λ (k : ℕ). drop k message) (omega (arith, step.2));
      few = omega (arith, step.0.1.2, step.2, ap length c.loop-number.invariant.rest, length-drop (64 * n) message);
      whole = search rules;
      made =
          ap (λ (k : ℕ). stored k (slice_set row c.in-Some.number c.new.result)) step.2
          ∙ ap (λ (k : ℕ). stored (n + 1) (slice_set row k c.new.result)) step.1
          ∙ stored_set row n c.new.result here
          ∙ ap (λ (ps : List Bytes). ps ++ (held c.new.result ∷ [])) c.loop-number.invariant.made
          ∙ ap (λ (p : Bytes). map f (range_with_len 0 n) ++ (p ∷ [])) is
          ∙ sym (map-range_with_len_more f 0 n n (zero-add n))
          ∙ ap (λ (k : ℕ). map f (range_with_len 0 k)) (sym step.2);
    }

pub returns : goal.returns
unfolding packets
returns c =
    let message = c.args.message.now in
    let n = c.loop-number.number-iterator.count in
    let f = packet c.args.addresses (message_to c.args.destination message) in
    let all : n ≡ packet_count (length message) =
    omega (arith, c.in-None.ensures.steps.0.1.0, ap length c.loop-number.invariant.rest, length-drop (64 * n) message, c.loop-number.invariant.few) in
    let count : c.div_ceil-count.result ≡ packet_count (length message) = omega arith in
    record {
      count = count;
      all =
          ap (λ (k : ℕ). stored k c.loop-number.row) (count ∙ sym all)
          ∙ c.loop-number.invariant.made
          ∙ ap (λ (k : ℕ). map f (range_with_len 0 k)) all;
    }
