-- Of the set of enabled identifiers. Assumes nothing.
use Rattle.std.proofs.Common.{◌≡◌, ℕ, zero, suc, ◌/◌, ◌%◌, ◌^◌, true, false, eqb, ◌⊎◌, [], ◌∷◌, get_or, refl, ap, ◌∙◌, inl, inr, true≢false}
use native.Mathlib.Nat.{zero-div}
use Rattle.std.proofs.lemmas.Bool.Decides.{eqb_tells}
use Rattle.event.specs.Identifiers.{Words, has, any}

zero_words : (words : Words) → any words ≡ false → (k : ℕ) → get_or words k 0 ≡ 0
zero_words [] e k = refl
zero_words (word ∷ words) e k = go (eqb_tells word 0) e k (zero_words words)
  where
    go : ((eqb word 0 ≡ true) × (word ≡ 0)) ⊎ ((eqb word 0 ≡ false) × (word ≡ 0 → ⊥)) → any (word ∷ words) ≡ false → (k : ℕ) →
        (any words ≡ false → (k : ℕ) → get_or words k 0 ≡ 0) → get_or (word ∷ words) k 0 ≡ 0
    go (inl h) e zero rest = h.1
    go (inl h) e (suc k) rest = rest (rw h.0 at e) k
    go (inr h) e k rest = absurd (true≢false (rw h.0 at e))

-- where no word has a bit, no identifier is in the set
pub none_in : (words : Words) → any words ≡ false → (i : ℕ) → has words i ≡ false
unfolding has
none_in words e i =
    ap (λ (x : ℕ). eqb (x / 2 ^ (i % 64) % 2) 1) (zero_words words e (i / 64)) ∙ ap (λ (x : ℕ). eqb (x % 2) 1) (zero-div (2 ^ (i % 64)))
