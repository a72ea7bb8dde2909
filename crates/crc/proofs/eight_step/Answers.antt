use Rattle.std.proofs.Common.{◌≡◌, ℕ, List, get_or, ap, w64, div-one, arith}
use lib.Bits.{bit_xor, xor_lt}
use Rattle.std.specs.Int.{to_le_bytes}
use Rattle.std.proofs.Math.Nat.{div-eq_of_lt}
use Rattle.std.proofs.lemmas.Nat.{le_bytes_8}
use Rattle.crc.proofs.Steps.{bytes_in, eight_rows}
use Rattle.crc.proofs.eight_step.Goals as goal

pub returns : goal.returns
returns c =
    let register = c.args.register in
    let bytes = c.args.bytes.now in
    let word = c.from_le_bytes.result in
    let read : to_le_bytes w64 word ≡ bytes = le_bytes_8 bytes word (omega arith) c.fits-bytes c.from_le_bytes.ensures in
    let rows = eight_rows (bit_xor register word) (div-eq_of_lt (xor_lt 64 register word (omega arith) c.from_le_bytes.type_inv)) in
    let folded = bytes_in 8 0 register word (div-eq_of_lt c.from_le_bytes.type_inv) in
    let whole = div-one word in
    let byte = λ (k : ℕ). ap (λ (l : List ℕ). get_or l k 0) c.to_le_bytes.ensures in
    let b0 = byte 0 in
    let b1 = byte 1 in
    let b2 = byte 2 in
    let b3 = byte 3 in
    let b4 = byte 4 in
    let b5 = byte 5 in
    let b6 = byte 6 in
    let b7 = byte 7 in
    cc
