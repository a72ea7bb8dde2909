-- Numbers in bytes, the lowest first. Assumes nothing.
use Rattle.std.proofs.Common.{◌≡◌, ℕ, ◌+◌, ◌*◌, ◌/◌, ◌%◌, ◌^◌, ◌<◌, [], ◌∷◌, sym, ap, ◌∙◌, subst, mod-eq_of_lt, arith, lit<}
use Rattle.std.proofs.lemmas.Nat.{div-add-mod', shr-shr, div_below, div-mul-add, mod-mul-add}
use Rattle.event.specs.Bytes.{le32, four}

sum_up : (n x y z a b c d : ℕ) → d ≡ z → x * 256 + a ≡ n → y * 256 + b ≡ x → z * 256 + c ≡ y → four a b c d ≡ n
sum_up n x y z a b c d p q r s = omega arith

pub four-le32 : (n : ℕ) → n < 2 ^ 32 → four (n % 256) (n / 256 % 256) (n / 65536 % 256) (n / 16777216 % 256) ≡ n
four-le32 n h =
    let top : n / 16777216 < 256 = div_below n 16777216 256 (lit< tt) h in
    let t : n / 16777216 % 256 ≡ n / 16777216 = mod-eq_of_lt top in
    let a : n / 256 * 256 + n % 256 ≡ n = div-add-mod' n 256 in
    let b : n / 256 / 256 * 256 + n / 256 % 256 ≡ n / 256 = div-add-mod' (n / 256) 256 in
    let c : n / 65536 / 256 * 256 + n / 65536 % 256 ≡ n / 65536 = div-add-mod' (n / 65536) 256 in
    let d : n / 256 / 256 ≡ n / 65536 = shr-shr n 8 8 in
    let e : n / 65536 / 256 ≡ n / 16777216 = shr-shr n 16 8 in
    sum_up n (n / 256) (n / 65536) (n / 16777216) (n % 256) (n / 256 % 256) (n / 65536 % 256) (n / 16777216 % 256) t a
    (subst (λ (x : ℕ). x * 256 + n / 256 % 256 ≡ n / 256) d b) (subst (λ (x : ℕ). x * 256 + n / 65536 % 256 ≡ n / 65536) e c)

horner : (a b c d : ℕ) → four a b c d ≡ ((d * 256 + c) * 256 + b) * 256 + a
horner a b c d = omega arith

pub le32-four : (a b c d : ℕ) → a < 256 → b < 256 → c < 256 → d < 256 → le32 (four a b c d) ≡ a ∷ b ∷ c ∷ d ∷ []
le32-four a b c d ha hb hc hd =
    let n = four a b c d in
    let h = horner a b c d in
    let q1 : n / 256 ≡ (d * 256 + c) * 256 + b = ap (λ (x : ℕ). x / 256) h ∙ div-mul-add ((d * 256 + c) * 256 + b) 256 a ha in
    let q2 : n / 65536 ≡ d * 256 + c = sym (shr-shr n 8 8) ∙ ap (λ (x : ℕ). x / 256) q1 ∙ div-mul-add (d * 256 + c) 256 b hb in
    let q3 : n / 16777216 ≡ d = sym (shr-shr n 16 8) ∙ ap (λ (x : ℕ). x / 256) q2 ∙ div-mul-add d 256 c hc in
    let r0 : n % 256 ≡ a = ap (λ (x : ℕ). x % 256) h ∙ mod-mul-add ((d * 256 + c) * 256 + b) 256 a ha in
    let r1 : n / 256 % 256 ≡ b = ap (λ (x : ℕ). x % 256) q1 ∙ mod-mul-add (d * 256 + c) 256 b hb in
    let r2 : n / 65536 % 256 ≡ c = ap (λ (x : ℕ). x % 256) q2 ∙ mod-mul-add d 256 c hc in
    let r3 : n / 16777216 % 256 ≡ d = ap (λ (x : ℕ). x % 256) q3 ∙ mod-eq_of_lt hd in
    λ i. r0 i ∷ r1 i ∷ r2 i ∷ r3 i ∷ []
