-- The code's marks as a function of the place. Assumes nothing.
use Rattle.std.proofs.Common.{◌≡◌, ℕ, zero, suc, ◌+◌, ◌*◌, ◌/◌, ◌%◌, ◌^◌, ◌<◌, ◌≤◌, Bool, true, false, cond, eqb, ◌⊎◌, List, [], ◌∷◌, map, length, get_or, set, Some, None, sym, refl, ap, ◌∙◌, inl, inr, lt_of_lt_of_le, arith, get_or-set_other, get_or-set_same, pow_mono}
use mathlib.Core.Path.{fun_ext}
use native.Mathlib.Nat.{mod-one, div-eq_of_lt}
use lib.Bits.{bit_or}
use lib.Count.{ones, ones_step}
use Rattle.std.proofs.lemmas.Bool.Decides.{eqb_tells}
use Rattle.std.proofs.lemmas.List.{get_or-map, map-set, length-map}
use Rattle.std.proofs.lemmas.Nat.{mod-pow-add, mod-mul-add, div-mul-add, mod_below, pow_pos, shr-shr}
use Rattle.event.specs.declared.id.UniqueId.{UniqueId}
use Rattle.event.specs.declared.reading.Reading.{Reading}
use Rattle.event.specs.Bytes.{Bytes}
use Rattle.event.specs.Identifiers.{bit}
use Rattle.event.specs.Sources.{Occurrence}
use Rattle.event.specs.View.{held}
use Rattle.event.proofs.Digits.{set_same, set_other}
use Rattle.marks.specs.Marking.{unmarked, update, listed, listed_from}
use Rattle.marks.specs.View.{shown}

zero_bit : (m : ℕ) → bit 0 m ≡ false
zero_bit m = ap (λ (x : ℕ). eqb (x % 2) 1) (div-eq_of_lt (pow_pos m))

-- a word of 64 bits has no bit at a place of 64 or more
pub far_bit : (w p : ℕ) → w < 2 ^ 64 → 64 ≤ p → bit w p ≡ false
far_bit w p h l = ap (λ (x : ℕ). eqb (x % 2) 1) (div-eq_of_lt (lt_of_lt_of_le h (pow_mono l)))

pub shown-none : (rs : List Bytes) → shown 0 rs ≡ unmarked
unfolding shown unmarked
shown-none rs = fun_ext (λ p. ap (λ (b : Bool). cond b (Some (get_or rs p [])) None) (zero_bit p))

mark-at : (w : ℕ) (rs : List Bytes) (p : ℕ) (r : List ℕ) → p < length rs → (q : ℕ) → shown (bit_or w (2 ^ p)) (set rs p r) q ≡ update (shown w rs) p (Some r) q
unfolding shown update
mark-at w rs p r h q = go (eqb_tells q p)
  where
    go : ((eqb q p ≡ true) × (q ≡ p)) ⊎ ((eqb q p ≡ false) × (q ≡ p → ⊥)) → shown (bit_or w (2 ^ p)) (set rs p r) q ≡ update (shown w rs) p (Some r) q
    go (inl t) =
        ap (shown (bit_or w (2 ^ p)) (set rs p r)) t.1
        ∙ ap (λ (b : Bool). cond b (Some (get_or (set rs p r) p [])) None) (set_same w p)
        ∙ ap Some (get_or-set_same rs p r [] h)
        ∙ sym (ap (λ (b : Bool). cond b (Some r) (shown w rs q)) t.0)
    go (inr t) =
        ap (λ (b : Bool). cond b (Some (get_or (set rs p r) q [])) None) (set_other w p q t.1)
        ∙ ap (λ (x : List ℕ). cond (bit w q) (Some x) None) (get_or-set_other rs p q r [] t.1)
        ∙ sym (ap (λ (b : Bool). cond b (Some r) (shown w rs q)) t.0)

pub shown-mark : (w : ℕ) (rs : List Bytes) (p : ℕ) (r : List ℕ) → p < length rs → shown (bit_or w (2 ^ p)) (set rs p r) ≡ update (shown w rs) p (Some r)
shown-mark w rs p r h = fun_ext (mark-at w rs p r h)

-- the same, of the code's own readings
pub marked_more : (w v : ℕ) (rs : List Reading) (p : ℕ) (x : Reading) → p < length rs → v ≡ 2 ^ p → shown (bit_or w v) (map held (set rs p x)) ≡ update (shown w (map held rs)) p (Some (held x))
marked_more w v rs p x h e =
    let long : p < length (map held rs) = simp length-map h in
    (λ i. shown (bit_or w (e i)) (map-set held rs p x i)) ∙ shown-mark w (map held rs) p (held x) long

pub shown_yes : (w : ℕ) (rs : List Reading) (p : ℕ) (d : Reading) → p < length rs → bit w p ≡ true → shown w (map held rs) p ≡ Some (held (get_or rs p d))
unfolding shown
shown_yes w rs p d h e = ap (λ (b : Bool). cond b (Some (get_or (map held rs) p [])) None) e ∙ ap Some (get_or-map held rs p d [] h)

pub shown_no : (w : ℕ) (rs : List Bytes) (p : ℕ) → bit w p ≡ false → shown w rs p ≡ None
unfolding shown
shown_no w rs p e = ap (λ (b : Bool). cond b (Some (get_or rs p [])) None) e

-- how many are listed

listed-length : (w k : ℕ) (rs : List Bytes) (u : UniqueId) (os : List Occurrence) → length (listed u (shown w rs k) os) ≡ w / 2 ^ k % 2 + length os
unfolding shown
listed-length w k rs u os = go (w / 2 ^ k % 2) (mod_below (w / 2 ^ k) 2 (omega arith))
  where
    go : (b : ℕ) → b < 2 → length (listed u (cond (eqb b 1) (Some (get_or rs k [])) None) os) ≡ b + length os
    go zero h = omega arith
    go (suc zero) h = omega arith
    go (suc (suc b)) h = absurd (omega arith)

-- the ones below 2 ^ suc n: the lowest, and those above it
ones_below : (x n : ℕ) → ones (x % 2 ^ suc n) ≡ x % 2 + ones (x / 2 % 2 ^ n)
ones_below x n =
    let step : 2 ^ suc n ≡ 2 ^ (n + 1) = ap (λ (k : ℕ). 2 ^ k) (omega arith) in
    let low : x % 2 ^ 1 < 2 = mod_below x 2 (omega arith) in
    let whole : x % 2 ^ suc n ≡ (x / 2 % 2 ^ n) * 2 + x % 2 = ap (λ (k : ℕ). x % k) step ∙ mod-pow-add x n 1 in
    ap ones whole
    ∙ ones_step ((x / 2 % 2 ^ n) * 2 + x % 2)
    ∙ (λ i. mod-mul-add (x / 2 % 2 ^ n) 2 (x % 2) low i + ones (div-mul-add (x / 2 % 2 ^ n) 2 (x % 2) low i))

ones_none : ones 0 ≡ 0
unfolding ones
ones_none = refl

pub number_is : (k : ℕ) (us : List UniqueId) (w : ℕ) (rs : List Bytes) → length (listed_from k us (shown w rs)) ≡ ones (w / 2 ^ k % 2 ^ length us)
unfolding listed_from
number_is k [] w rs = sym (ap ones (mod-one (w / 2 ^ k)) ∙ ones_none)
number_is k (u ∷ us) w rs =
    let next : w / 2 ^ suc k ≡ w / 2 ^ k / 2 = ap (λ (j : ℕ). w / 2 ^ j) (omega arith) ∙ sym (shr-shr w k 1) in
    listed-length w k rs u (listed_from (suc k) us (shown w rs))
    ∙ ap (λ (n : ℕ). w / 2 ^ k % 2 + n) (number_is (suc k) us w rs)
    ∙ ap (λ (x : ℕ). w / 2 ^ k % 2 + ones (x % 2 ^ length us)) next
    ∙ sym (ones_below (w / 2 ^ k) (length us))
