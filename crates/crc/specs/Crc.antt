-- The two cyclic redundancy checks, a bit at a time, by their polynomials: CRC-32C of 1EDC6F41h, from the lowest bit on, and CRC-8 of 07h, from the highest bit on. Assumes nothing.
use Rattle.std.specs.Prelude.{ℕ, zero, suc, ◌*◌, ◌/◌, ◌%◌, List, fold, bit_xor}

-- a step taken n times
unfoldable pub repeated : (ℕ → ℕ) → ℕ → ℕ → ℕ
repeated step zero register = register
repeated step (suc n) register = repeated step n (step register)

-- CRC-32C, one bit: the register of 32 bits shifts down, and where the bit that leaves it is 1 the polynomial is subtracted.
-- The polynomial is 1EDC6F41h. The lowest bit of a byte comes first, so the register has its highest power at bit 0,
-- and the polynomial too: the 32 bits of 1EDC6F41h in the opposite order are 82F63B78h.
unfoldable pub bit_step : ℕ → ℕ
bit_step register = bit_xor (register / 2) (0x82F63B78 * (register % 2))

-- CRC-32C, one byte: it is added to the low bits of the register, and eight bit steps follow
unfoldable pub byte_step : ℕ → ℕ → ℕ
byte_step register byte = repeated bit_step 8 (bit_xor register byte)

-- CRC-32C of some bytes: the register starts with every bit 1, and its complement is the check
unfoldable pub crc32c : List ℕ → ℕ
crc32c bytes = bit_xor (fold byte_step 0xFFFFFFFF bytes) 0xFFFFFFFF

-- CRC-8, one bit: the register of eight bits shifts up, and where the bit that leaves it is 1 the polynomial 07h is subtracted
unfoldable pub bit_step8 : ℕ → ℕ
bit_step8 register = bit_xor (register * 2 % 256) (0x07 * (register / 128))

-- CRC-8, one byte: it is added to the register, and eight bit steps follow
unfoldable pub byte_step8 : ℕ → ℕ → ℕ
byte_step8 register byte = repeated bit_step8 8 (bit_xor register byte)

-- CRC-8 of some bytes: the register starts at 00h, and is the check at the end
unfoldable pub crc8 : List ℕ → ℕ
crc8 bytes = fold byte_step8 0x00 bytes
