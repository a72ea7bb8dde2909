-- Tests that are the same, and what does not pass one. Assumes nothing.
use Rattle.std.proofs.Common.{◌≡◌, Bool, true, false, cond, Some, None, sym, refl}

-- two tests that hold in the same cases
pub same_test : (a b : Bool) → (a ≡ true → b ≡ true) → (b ≡ true → a ≡ true) → a ≡ b
same_test true b f g = sym (f refl)
same_test false true f g = g refl
same_test false false f g = refl

-- what did not pass a test
pub not_passed : {A : Type 0} (v : Bool) (a : A) → cond v (Some a) None ≡ None → v ≡ false
not_passed true a e = absurd (cc)
not_passed false a e = refl
