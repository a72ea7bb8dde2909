-- The laws of the register of CRC-32C: its steps are linear over exclusive or, so bytes can be taken apart. Assumes nothing.
use Rattle.std.proofs.Common.{◌≡◌, ℕ, zero, suc, ◌+◌, ◌*◌, ◌/◌, ◌%◌, ◌^◌, ◌<◌, fold, sym, refl, ap, ◌∙◌, suc-add, add-zero, add-suc, mul-zero, mul-suc, add_comm, zero-add, mul-one, pow-suc, div-one, arith, lit<}
use lib.Bits.{bit_xor, xor_assoc, xor_comm, xor_zero_r, xor_self, xor_shr, xor_mod, xor_shifted, shifted_half, shifted_even}
use Rattle.std.specs.Int.{byte_at, bytes_low_first}
use Rattle.std.proofs.Math.Nat.{div-div-eq-div-mul}
use Rattle.std.proofs.lemmas.Nat.{mod_below, shr_split, pow_pos}
use Rattle.crc.specs.Crc.{repeated, bit_step, byte_step}

-- the register after n bit steps
abbrev after : ℕ → ℕ → ℕ
after = repeated bit_step

times_xor : (p x y : ℕ) → x < 2 → y < 2 → p * bit_xor x y ≡ bit_xor (p * x) (p * y)
times_xor p zero y h k = sym (ap (λ (a : ℕ). bit_xor a (p * y)) (mul-zero p))
times_xor p (suc zero) zero h k = sym (ap (λ (a : ℕ). bit_xor (p * 1) a) (mul-zero p) ∙ xor_zero_r (p * 1))
times_xor p (suc zero) (suc zero) h k = mul-zero p ∙ sym (xor_self (p * 1))
times_xor p (suc zero) (suc (suc y)) h k = absurd (omega arith)
times_xor p (suc (suc x)) y h k = absurd (omega arith)

swap_inner : (a b c d : ℕ) → bit_xor (bit_xor a b) (bit_xor c d) ≡ bit_xor (bit_xor a c) (bit_xor b d)
swap_inner a b c d =
    xor_assoc a b (bit_xor c d)
    ∙ ap (λ (x : ℕ). bit_xor a x) (sym (xor_assoc b c d) ∙ ap (λ (x : ℕ). bit_xor x d) (xor_comm b c) ∙ xor_assoc c b d)
    ∙ sym (xor_assoc a c (bit_xor b d))

step_xor : (a b : ℕ) → bit_step (bit_xor a b) ≡ bit_xor (bit_step a) (bit_step b)
unfolding bit_step
step_xor a b =
    (λ i. bit_xor (xor_shr a b 1 i) (0x82F63B78 * xor_mod a b 1 i))
    ∙ ap (λ (x : ℕ). bit_xor (bit_xor (a / 2) (b / 2)) x) (times_xor 0x82F63B78 (a % 2) (b % 2) (mod_below a 2 (omega arith)) (mod_below b 2 (omega arith)))
    ∙ swap_inner (a / 2) (b / 2) (0x82F63B78 * (a % 2)) (0x82F63B78 * (b % 2))

step_even : (c : ℕ) → c % 2 ≡ 0 → bit_step c ≡ c / 2
unfolding bit_step
step_even c e = ap (λ (b : ℕ). bit_xor (c / 2) (0x82F63B78 * b)) e ∙ xor_zero_r (c / 2)

after_xor : (n a b : ℕ) → after n (bit_xor a b) ≡ bit_xor (after n a) (after n b)
unfolding repeated
after_xor zero a b = refl
after_xor (suc n) a b = ap (after n) (step_xor a b) ∙ after_xor n (bit_step a) (bit_step b)

after_add : (m n x : ℕ) → after n (after m x) ≡ after (m + n) x
unfolding repeated
after_add zero n x = ap (λ (k : ℕ). after k x) (sym (zero-add n))
after_add (suc m) n x = after_add m n (bit_step x) ∙ ap (λ (k : ℕ). after k x) (sym (suc-add m n))

-- what stands above n bits comes down
after_shifted : (n x : ℕ) → after n (x * 2 ^ n) ≡ x
unfolding repeated
after_shifted zero x = mul-one x
after_shifted (suc n) x = ap (after n) (step_even (x * 2 ^ suc n) (shifted_even x n) ∙ shifted_half x n) ∙ after_shifted n x

pub after-split : (n c : ℕ) → repeated bit_step n c ≡ bit_xor (c / 2 ^ n) (repeated bit_step n (c % 2 ^ n))
after-split n c =
    ap (after n) (sym (xor_shifted (c / 2 ^ n) n (c % 2 ^ n) (mod_below c (2 ^ n) (pow_pos n)) ∙ shr_split c n))
    ∙ after_xor n (c / 2 ^ n * 2 ^ n) (c % 2 ^ n)
    ∙ ap (λ (x : ℕ). bit_xor x (after n (c % 2 ^ n))) (after_shifted n (c / 2 ^ n))

-- the lowest byte of a register apart from the rest of it
low_byte : (n c : ℕ) → after (8 + n) c ≡ bit_xor (after (8 + n) (c % 256)) (after n (c / 256))
low_byte n c =
    sym (after_add 8 n c) ∙ ap (after n) (after-split 8 c) ∙ after_xor n (c / 256) (after 8 (c % 256))
    ∙ ap (λ (x : ℕ). bit_xor (after n (c / 256)) x) (after_add 8 n (c % 256))
    ∙ xor_comm (after n (c / 256)) (after (8 + n) (c % 256))

-- byte i of a number, and what stands above it
above : (i w : ℕ) → (w / 256 ^ i % 256 ≡ byte_at i w) × (w / 256 ^ i / 256 ≡ w / 256 ^ suc i)
above zero w = let whole = div-one w in (cc, cc)
above (suc i) w = (refl, div-div-eq-div-mul w (256 ^ suc i) 256 ∙ ap (λ (d : ℕ). w / d) (sym (pow-suc 256 (suc i))))

-- a byte into the register, where the sum has more bytes above it
byte_below : (c w : ℕ) → after 8 (bit_xor c w) ≡ bit_xor (byte_step c (w % 256)) (w / 256)
unfolding byte_step
byte_below c w =
    let low = w % 256 in
    let high = w / 256 * 256 in
    let parts = xor_shifted (w / 256) 8 low (mod_below w 256 (lit< tt)) ∙ shr_split w 8 in
    let turned = xor_comm high low in
    let joined = xor_assoc c low high in
    let apart = after_xor 8 (bit_xor c low) high in
    let down = after_shifted 8 (w / 256) in
    cc

-- k bytes of a number, from byte i on, where it has none above them
pub bytes_in : (k i c w : ℕ) → w / 256 ^ (i + k) ≡ 0 → fold byte_step c (bytes_low_first i k w) ≡ repeated bit_step (8 * k) (bit_xor c (w / 256 ^ i))
unfolding repeated
bytes_in zero i c w e =
    let none = ap (λ (k : ℕ). w / 256 ^ k) (sym (add-zero i)) ∙ e in
    let same = xor_zero_r c in
    let no_step = mul-zero 8 in
    cc
bytes_in (suc k) i c w e =
    let (here, up) = above i w in
    let next = bytes_in k (suc i) (byte_step c (byte_at i w)) w (ap (λ (n : ℕ). w / 256 ^ n) (suc-add i k ∙ sym (add-suc i k)) ∙ e) in
    let below = byte_below c (w / 256 ^ i) in
    let steps = after_add 8 (8 * k) (bit_xor c (w / 256 ^ i)) in
    let count = mul-suc 8 k ∙ add_comm (8 * k) 8 in
    cc

-- a row of the tables for byte i of a number
row : (n i w sum : ℕ) → bit_xor sum (after (8 + n) (w / 256 ^ i)) ≡ bit_xor (bit_xor sum (after (8 + n) (byte_at i w))) (after n (w / 256 ^ suc i))
row n i w sum =
    let apart = low_byte n (w / 256 ^ i) in
    let joined = xor_assoc sum (after (8 + n) (byte_at i w)) (after n (w / 256 ^ suc i)) in
    let (here, up) = above i w in
    cc

-- the rows for the eight bytes of a number
pub eight_rows : (w : ℕ) → w / 256 ^ 8 ≡ 0 →
    bit_xor (bit_xor (bit_xor (bit_xor (bit_xor (bit_xor (bit_xor
    (repeated bit_step 64 (byte_at 0 w))
    (repeated bit_step 56 (byte_at 1 w)))
    (repeated bit_step 48 (byte_at 2 w)))
    (repeated bit_step 40 (byte_at 3 w)))
    (repeated bit_step 32 (byte_at 4 w)))
    (repeated bit_step 24 (byte_at 5 w)))
    (repeated bit_step 16 (byte_at 6 w)))
    (repeated bit_step 8 (byte_at 7 w))
    ≡ repeated bit_step 64 w
unfolding repeated
eight_rows w e =
    let s0 = after 64 (byte_at 0 w) in
    let s1 = bit_xor s0 (after 56 (byte_at 1 w)) in
    let s2 = bit_xor s1 (after 48 (byte_at 2 w)) in
    let s3 = bit_xor s2 (after 40 (byte_at 3 w)) in
    let s4 = bit_xor s3 (after 32 (byte_at 4 w)) in
    let s5 = bit_xor s4 (after 24 (byte_at 5 w)) in
    let s6 = bit_xor s5 (after 16 (byte_at 6 w)) in
    let s7 = bit_xor s6 (after 8 (byte_at 7 w)) in
    let first : after 64 w ≡ bit_xor s0 (after 56 (w / 256 ^ 1)) = low_byte 56 w in
    let end = ap (bit_xor s7) e ∙ xor_zero_r s7 in
    sym (first ∙ row 48 1 w s0 ∙ row 40 2 w s1 ∙ row 32 3 w s2 ∙ row 24 4 w s3 ∙ row 16 5 w s4 ∙ row 8 6 w s5 ∙ row 0 7 w s6 ∙ end)
