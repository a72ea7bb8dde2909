-- The digits of a word after `|` and `&`, and a set of 256 after one of its bits is written.
use Rattle.std.proofs.Common.{◌≡◌, ℕ, zero, suc, ◌+◌, ◌-◌, ◌*◌, ◌/◌, ◌%◌, ◌^◌, ◌<◌, ◌≤◌, Bool, true, false, cond, eqb, List, length, get_or, set, sym, refl, ap, ◌∙◌, subst, ⊎_elim, add-mul, arith, get_or-set_other, get_or-set_same, eq-eqb, ne_eqb}
use native.Mathlib.Nat.{div-eq_of_lt}
use lib.Bits.{bit_and, bit_or, or_zero_r, and_zero_r}
use Rattle.std.proofs.lemmas.Nat.{or_shr, or_mod, and_shr, and_mod, shl-shr, pow-add, pow_below, pow_pos, mod_below, shr_split, shr_below, div-mul-add}
use Rattle.std.proofs.lemmas.Bool.{cases_eq, cases_lt}
use Rattle.event.specs.Identifiers.{Words, bit, has, switched}

or_one : (d : ℕ) → d < 2 → bit_or d 1 ≡ 1
or_one zero h = refl
or_one (suc zero) h = refl
or_one (suc (suc d)) h = absurd (omega arith)

and_one : (d : ℕ) → d < 2 → bit_and d 1 ≡ d
and_one zero h = refl
and_one (suc zero) h = refl
and_one (suc (suc d)) h = absurd (omega arith)

two_pos : 0 < 2
two_pos = omega arith

or_digit : (a b m : ℕ) → bit_or a b / 2 ^ m % 2 ≡ bit_or (a / 2 ^ m % 2) (b / 2 ^ m % 2)
or_digit a b m = ap (λ (k : ℕ). k % 2) (or_shr a b m) ∙ or_mod (a / 2 ^ m) (b / 2 ^ m) 1

and_digit : (a b m : ℕ) → bit_and a b / 2 ^ m % 2 ≡ bit_and (a / 2 ^ m % 2) (b / 2 ^ m % 2)
and_digit a b m = ap (λ (k : ℕ). k % 2) (and_shr a b m) ∙ and_mod (a / 2 ^ m) (b / 2 ^ m) 1

pow_same : (k : ℕ) → 2 ^ k / 2 ^ k % 2 ≡ 1
pow_same k =
    let e : 2 ^ k ≡ 1 * 2 ^ k = omega arith in
    ap (λ (x : ℕ). x / 2 ^ k % 2) e ∙ ap (λ (x : ℕ). x % 2) (shl-shr 1 k)

pow_above : (d m : ℕ) → 2 ^ ((d + 1) + m) / 2 ^ m % 2 ≡ 0
pow_above d m =
    ap (λ (x : ℕ). x / 2 ^ m % 2) (pow-add 2 (d + 1) m)
    ∙ ap (λ (x : ℕ). x % 2) (shl-shr (2 ^ (d + 1)) m)
    ∙ ap (λ (x : ℕ). x % 2) (pow-add 2 d 1)
    ∙ (omega arith)

strict : (k m : ℕ) → m ≤ k → (m ≡ k → ⊥) → m < k
strict k m h ne = ⊎_elim (λ l. l) (λ l. absurd (ne (omega arith))) (cases_lt m k)

pow_other : (k m : ℕ) → (m ≡ k → ⊥) → 2 ^ k / 2 ^ m % 2 ≡ 0
pow_other k m ne =
    ⊎_elim
    (λ h. ap (λ (x : ℕ). x % 2) (div-eq_of_lt (pow_below k m h)))
    (λ h. let g : m < k = strict k m h ne in let e : k ≡ (k - m - 1 + 1) + m = omega arith in ap (λ (x : ℕ). 2 ^ x / 2 ^ m % 2) e ∙ pow_above (k - m - 1) m)
    (cases_lt k m)

-- the complement at 64 bits: x is q * 2 ^ m + r
flip_parity : (p q : ℕ) → q < p * 2 → (p * 2 - 1 - q) % 2 ≡ 1 - q % 2
flip_parity p q h = omega arith

-- n = (p * 2) * t is 2 ^ 64, t is 2 ^ m, x = q * t + r
flip_split : (p q r t : ℕ) → q < p * 2 → r < t → (p * 2) * t - 1 - (q * t + r) ≡ (p * 2 - 1 - q) * t + (t - 1 - r)
flip_split p q r t h k =
    let s = p * 2 - 1 - q in
    let e : p * 2 ≡ s + q + 1 = omega arith in
    let f : (p * 2) * t ≡ s * t + q * t + 1 * t = ap (λ (x : ℕ). x * t) e ∙ add-mul (s + q) 1 t ∙ ap (λ (x : ℕ). x + 1 * t) (add-mul s q t) in
    omega arith

flip_digit : (x m d : ℕ) → 64 ≡ (d + 1) + m → x < 2 ^ 64 → (2 ^ 64 - 1 - x) / 2 ^ m % 2 ≡ 1 - x / 2 ^ m % 2
flip_digit x m d e h =
    let q = x / 2 ^ m in
    let r = x % 2 ^ m in
    let p = 2 ^ d in
    let n : 2 ^ 64 ≡ (p * 2) * 2 ^ m = ap (λ (k : ℕ). 2 ^ k) e ∙ pow-add 2 (d + 1) m ∙ ap (λ (k : ℕ). k * 2 ^ m) (pow-add 2 d 1) in
    let hr : r < 2 ^ m = mod_below x (2 ^ m) (pow_pos m) in
    let hq : q < p * 2 = subst (λ (k : ℕ). q < k) (pow-add 2 d 1) (shr_below x (d + 1) m (subst (λ (k : ℕ). x < 2 ^ k) e h)) in
    let xs : q * 2 ^ m + r ≡ x = shr_split x m in
    let hs : 2 ^ m - 1 - r < 2 ^ m = omega arith in
    ap (λ (k : ℕ). (k - 1 - x) / 2 ^ m % 2) n
    ∙ ap (λ (k : ℕ). ((p * 2) * 2 ^ m - 1 - k) / 2 ^ m % 2) (sym xs)
    ∙ ap (λ (k : ℕ). k / 2 ^ m % 2) (flip_split p q r (2 ^ m) hq hr)
    ∙ ap (λ (k : ℕ). k % 2) (div-mul-add (p * 2 - 1 - q) (2 ^ m) (2 ^ m - 1 - r) hs)
    ∙ flip_parity p q hq

-- one word: bit k set or cleared, and bit m read

pub set_same : (w k : ℕ) → bit (bit_or w (2 ^ k)) k ≡ true
set_same w k =
    ap (λ (x : ℕ). eqb x 1) (or_digit w (2 ^ k) k ∙ ap (bit_or (w / 2 ^ k % 2)) (pow_same k) ∙ or_one (w / 2 ^ k % 2) (mod_below (w / 2 ^ k) 2 two_pos))

pub set_other : (w k m : ℕ) → (m ≡ k → ⊥) → bit (bit_or w (2 ^ k)) m ≡ bit w m
set_other w k m ne =
    ap (λ (x : ℕ). eqb x 1) (or_digit w (2 ^ k) m ∙ ap (bit_or (w / 2 ^ m % 2)) (pow_other k m ne) ∙ or_zero_r (w / 2 ^ m % 2))

pub clear_same : (w k : ℕ) → k < 64 → bit (bit_and w (2 ^ 64 - 1 - 2 ^ k)) k ≡ false
clear_same w k h =
    ap (λ (x : ℕ). eqb x 1)
    (and_digit w (2 ^ 64 - 1 - 2 ^ k) k
    ∙ ap (bit_and (w / 2 ^ k % 2)) (flip_digit (2 ^ k) k (63 - k) (omega arith) (pow_below k 64 h) ∙ ap (λ (x : ℕ). 1 - x) (pow_same k))
    ∙ and_zero_r (w / 2 ^ k % 2))

pub clear_other : (w k m : ℕ) → k < 64 → m < 64 → (m ≡ k → ⊥) → bit (bit_and w (2 ^ 64 - 1 - 2 ^ k)) m ≡ bit w m
clear_other w k m h l ne =
    ap (λ (x : ℕ). eqb x 1)
    (and_digit w (2 ^ 64 - 1 - 2 ^ k) m
    ∙ ap (bit_and (w / 2 ^ m % 2)) (flip_digit (2 ^ k) m (63 - m) (omega arith) (pow_below k 64 h) ∙ ap (λ (x : ℕ). 1 - x) (pow_other k m ne))
    ∙ and_one (w / 2 ^ m % 2) (mod_below (w / 2 ^ m) 2 two_pos))

-- the whole set: word i / 64 replaced by v, where v has bit i % 64 as b and its other bits as they were

pub word_put : (s : List ℕ) (i v : ℕ) (b : Bool) → i / 64 < length s → bit v (i % 64) ≡ b
    → ((m : ℕ) → m < 64 → (m ≡ i % 64 → ⊥) → bit v m ≡ bit (get_or s (i / 64) 0) m)
    → (j : ℕ) → has (set s (i / 64) v) j ≡ cond (eqb j i) b (has s j)
unfolding has
word_put s i v b h same other j =
    ⊎_elim
    (λ e. ap (λ (x : ℕ). has (set s (i / 64) v) x) e ∙ ap (λ (x : ℕ). bit x (i % 64)) (get_or-set_same s (i / 64) v 0 h) ∙ same ∙ sym (ap (λ (t : Bool). cond t b (has s j)) (eq-eqb j i e)))
    (λ ne. ⊎_elim
    (λ w. let far : j % 64 ≡ i % 64 → ⊥ = λ q. ne (omega arith) in
    ap (λ (x : ℕ). bit (get_or (set s (i / 64) v) x 0) (j % 64)) w
    ∙ ap (λ (x : ℕ). bit x (j % 64)) (get_or-set_same s (i / 64) v 0 h)
    ∙ other (j % 64) (mod_below j 64 (omega arith)) far
    ∙ ap (λ (x : ℕ). bit (get_or s x 0) (j % 64)) (sym w)
    ∙ sym (ap (λ (t : Bool). cond t b (has s j)) (ne_eqb j i ne)))
    (λ w. ap (λ (x : ℕ). bit x (j % 64)) (get_or-set_other s (i / 64) (j / 64) v 0 w)
    ∙ sym (ap (λ (t : Bool). cond t b (has s j)) (ne_eqb j i ne)))
    (cases_eq (j / 64) (i / 64)))
    (cases_eq j i)

-- an identifier is switched, and no other
pub switches : (words : Words) (i : ℕ) (on : Bool) → i / 64 < length words → (j : ℕ) → has (switched on i words) j ≡ cond (eqb j i) on (has words j)
unfolding switched
switches words i true h j =
    let k = i % 64 in
    let w = get_or words (i / 64) 0 in
    word_put words i (bit_or w (2 ^ k)) true h (set_same w k) (λ m _ ne. set_other w k m ne) j
switches words i false h j =
    let k = i % 64 in
    let w = get_or words (i / 64) 0 in
    let l : k < 64 = mod_below i 64 (omega arith) in
    word_put words i (bit_and w (2 ^ 64 - 1 - 2 ^ k)) false h (clear_same w k l) (λ m g ne. clear_other w k m l g ne) j
