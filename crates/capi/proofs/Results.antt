-- Two results that are the same. Assumes nothing.
use Rattle.std.proofs.Common.{◌≡◌, Bool, true, false, Ok, Err, Result, sym, ap}
use Rattle.std.proofs.lemmas.Bool.{false≢true}
use Rattle.event.specs.declared.refusal.Refusal.{Refusal}

abbrev value_or : {A : Type 0} → A → Result A Refusal → A
value_or d (Ok x) = x
value_or d (Err r) = d

abbrev refusal_or : {A : Type 0} → Refusal → Result A Refusal → Refusal
refusal_or d (Ok x) = d
refusal_or d (Err r) = r

abbrev is_ok : {A : Type 0} → Result A Refusal → Bool
is_ok (Ok x) = true
is_ok (Err r) = false

pub same_value : {A : Type 0} (x y : A) → ◌≡◌ {A = Result A Refusal} (Ok x) (Ok y) → x ≡ y
same_value x y e = ap (value_or x) e

pub same_refusal : {A : Type 0} (r s : Refusal) → ◌≡◌ {A = Result A Refusal} (Err r) (Err s) → r ≡ s
same_refusal r s e = ap (refusal_or r) e

pub no_refusal : {A : Type 0} (x : A) (r : Refusal) → Ok x ≡ Err r → ⊥
no_refusal x r e = false≢true (sym (ap is_ok e))
