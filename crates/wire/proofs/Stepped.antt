-- The items of an enable list, one step at a time. Assumes nothing.
use Rattle.std.proofs.Common.{◌≡◌, ℕ, zero, suc, ◌+◌, ◌<◌, ◌≤◌, Bool, true, false, cond, ◌&&◌, eqb, [], ◌∷◌, length, drop, refl, ap, ◌∙◌, add-one, arith}
use lib.Dec.{eqb-suc-suc, eqb-zero-suc}
use Rattle.std.proofs.lemmas.Bool.Decides.{nat_tests}
use Rattle.event.specs.Bytes.{Bytes, byte}
use Rattle.wire.specs.Requests.{has_item, item_at, items_fit, items_in}

-- no item stands at the front
pub in_none : (part : Bytes) → (3 ≤ byte part 0 → byte part 0 ≤ length part → ⊥) → (n : ℕ) → items_in n part ≡ []
unfolding items_in
in_none part h zero = refl
in_none part h (suc n) =
    let none : has_item part ≡ false = grind (arith, nat_tests) in
    ap (λ (b : Bool). cond b (item_at part ∷ items_in n (drop (byte part 0) part)) []) none

-- one does
pub in_more : (part : Bytes) → 3 ≤ byte part 0 → byte part 0 ≤ length part → (n : ℕ) → items_in (n + 1) part ≡ item_at part ∷ items_in n (drop (byte part 0) part)
unfolding items_in
in_more part low high n =
    let there : has_item part ≡ true = grind (arith, nat_tests) in
    ap (λ (k : ℕ). items_in k part) (add-one n) ∙ ap (λ (b : Bool). cond b (item_at part ∷ items_in n (drop (byte part 0) part)) []) there

-- so many items fit if so many are read
pub fit_by_number : (n : ℕ) (part : Bytes) → eqb (length (items_in n part)) n ≡ items_fit n part
unfolding items_in items_fit
fit_by_number zero part = refl
fit_by_number (suc n) part =
    let rest = drop (byte part 0) part in
    let more = fit_by_number n rest in
    elim (has_item part) as (λ (b : Bool). eqb (length (cond b (item_at part ∷ items_in n rest) [])) (suc n) ≡ (b && items_fit n rest)) [
      | true ↦ eqb-suc-suc (length (items_in n rest)) n ∙ more
      | false ↦ eqb-zero-suc n
    ]

-- none are left
pub in_end : (n : ℕ) (part : Bytes) → n < 1 → items_in n part ≡ []
unfolding items_in
in_end zero part h = refl
in_end (suc n) part h = absurd (omega arith)
