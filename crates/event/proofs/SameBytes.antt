-- The test whether two strings of bytes are the same. Assumes nothing.
use Rattle.std.proofs.Common.{◌≡◌, Bool, true, false, eqb, [], ◌∷◌, length, sym, refl, ap, ◌∙◌}
use Rattle.std.proofs.lemmas.Bool.{false≢true, eqb-true, eq-eqb, false_from_ne_true, and_parts, and_from}
use Rattle.event.specs.Bytes.{Bytes, same_bytes}

-- the same bytes are the same
pub same_refl : (s : Bytes) → same_bytes s s ≡ true
same_refl [] = refl
same_refl (b ∷ bs) = and_from _ _ (eq-eqb b b refl) (same_refl bs)

-- bytes that are the same are equal
pub same_is : (a b : Bytes) → same_bytes a b ≡ true → a ≡ b
same_is [] [] e = refl
same_is [] (b ∷ bs) e = absurd (false≢true e)
same_is (a ∷ rest) [] e = absurd (false≢true e)
same_is (a ∷ rest) (b ∷ bs) e =
    let both = and_parts (eqb a b) (same_bytes rest bs) e in
    let x = eqb-true a b both.0 in
    let y = same_is rest bs both.1 in
    λ i. x i ∷ y i

-- equal bytes are the same
pub same_from : (a b : Bytes) → a ≡ b → same_bytes a b ≡ true
same_from a b e = ap (same_bytes a) (sym e) ∙ same_refl a

-- strings of unlike lengths differ
pub same_length : (a b : Bytes) → (length a ≡ length b → ⊥) → same_bytes a b ≡ false
same_length a b ne = false_from_ne_true (same_bytes a b) (λ e. ne (ap length (same_is a b e)))

-- a test for equality is this one
pub same_decides : (r : Bool) (a b : Bytes) → (r ≡ true → a ≡ b) → (a ≡ b → r ≡ true) → r ≡ same_bytes a b
same_decides true a b is to = sym (same_from a b (is refl))
same_decides false a b is to = sym (false_from_ne_true (same_bytes a b) (λ e. false≢true (to (same_is a b e))))
