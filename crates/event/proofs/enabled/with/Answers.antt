use Rattle.std.proofs.Common.{◌≡◌, ℕ, ◌-◌, ◌*◌, ◌/◌, ◌%◌, ◌^◌, ◌<◌, Bool, true, false, cond, List, length, get_or, set, sym, ap, ◌∙◌, arith, rules}
use lib.Bits.{bit_or, bit_and}
use Rattle.std.proofs.lemmas.Nat.{one_shl, mod_below}
use Rattle.event.specs.Identifiers.{Words, has, switched, Switches}
use Rattle.event.proofs.Digits.{switches}
use Rattle.event.proofs.enabled.with.Goals as goal

-- the bit of an identifier in its word
the-bit : (i : ℕ) → 1 * 2 ^ (i % 64) % 2 ^ 64 ≡ 2 ^ (i % 64)
the-bit i = one_shl (i % 64) 64 (mod_below i 64 (omega arith))

-- the bit is set or cleared in the word at the place
written : (on b : Bool) (s : Words) (i place : ℕ) → on ≡ b → place ≡ i / 64 →
    (let word = get_or s place 0 in let bit = 1 * 2 ^ (i % 64) % 2 ^ 64 in set s place (cond b (bit_or word bit) (bit_and word (2 ^ 64 - 1 - bit)))) ≡ switched on i s
unfolding switched
written on b s i place is at =
    λ k. set s (at k) (cond (sym is k) (bit_or (get_or s (at k) 0) (the-bit i k)) (bit_and (get_or s (at k) 0) (2 ^ 64 - 1 - the-bit i k)))

-- so the identifier is switched, and no other
others-stay : (on : Bool) (i : ℕ) (s after : Words) → i / 64 < length s → after ≡ switched on i s → Switches on i s after
others-stay on i s after h e j _ = ap (λ (l : List ℕ). has l j) e ∙ switches s i on h j

pub returns-then-on : goal.returns-then-on
returns-then-on c =
    let e = written c.args.on true c.args.set c.args.identifier c.from-place.result c.if-on.true c.from-place.ensures in
    record { words = e; others = others-stay c.args.on c.args.identifier c.args.set _ (search rules) e }

pub returns-else-on : goal.returns-else-on
returns-else-on c =
    let e = written c.args.on false c.args.set c.args.identifier c.from-place.result c.if-on.false c.from-place.ensures in
    record { words = e; others = others-stay c.args.on c.args.identifier c.args.set _ (search rules) e }
