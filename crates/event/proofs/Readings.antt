-- Lawful readings are short. Assumes nothing.
use Rattle.std.proofs.Common.{◌≡◌, ℕ, ◌≤◌, Bool, true, false, cond, leb, length, Some, None, ap, ◌∙◌, arith}
use Rattle.std.proofs.lemmas.Bool.{le-leb, false_from_ne_true}
use Rattle.std.proofs.lemmas.Bool.Decides.{nat_tests}
use Rattle.std.proofs.lemmas.Option.{none-some}
use Rattle.event.specs.Bytes.{Bytes}
use Rattle.event.specs.Sources.{lawful_reading}

-- a lawful reading has at most 64 bytes
pub reading-short : (identifier : ℕ) (reading : Bytes) → lawful_reading identifier reading ≡ true → length reading ≤ 64
unfolding lawful_reading
reading-short identifier reading e = grind (arith, nat_tests)

-- no source may have a reading that is too long to keep
pub too_long : (identifier : ℕ) (r : Bytes) → None ≡ cond (leb (length r) 64) (Some r) None → lawful_reading identifier r ≡ false
too_long identifier r e = false_from_ne_true _ (λ is. none-some r (e ∙ ap (λ (b : Bool). cond b (Some r) None) (le-leb (length r) 64 (reading-short identifier r is))))
