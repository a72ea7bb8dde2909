use Rattle.std.proofs.Common.{◌≡◌, ℕ, ◌<◌, ◌≤◌, Bool, true, false, length, get_or, List, map, Some, None, sym, refl, ap, ◌∙◌, arith}
use Rattle.std.specs.Bool.{then_some}
use Rattle.event.specs.declared.reading.Reading.{Reading}
use Rattle.event.specs.Identifiers.{bit}
use Rattle.event.specs.View.{held, held_if}
use Rattle.marks.specs.View.{shown}
use Rattle.marks.proofs.Shown.{shown_yes, shown_no}
use Rattle.marks.proofs.types.Marks.get.Goals as goal

-- the place is past the readings
past : (b : Bool) (set : ℕ) (rs : List Reading) (place : ℕ) → b ≡ bit set place → (b ≡ true → place < 64) → length rs ≡ 64 → length rs ≤ place → None ≡ shown set (map held rs) place
past true set rs place e below whole h = let l = below refl in absurd (omega arith)
past false set rs place e below whole h = sym (shown_no set (map held rs) place (sym e))

-- the reading of the place, if its bit is set
here : (b : Bool) (set : ℕ) (rs : List Reading) (place : ℕ) (x : Reading) → b ≡ bit set place → place < length rs → x ≡ get_or rs place x → held_if (then_some b x) ≡ shown set (map held rs) place
here true set rs place x e h is = ap (λ (r : Reading). Some (held r)) is ∙ sym (shown_yes set rs place x h (sym e))
here false set rs place x e h is = sym (shown_no set (map held rs) place (sym e))

pub returns : goal.returns
returns c =
    ap held_if c.then_some.ensures ∙ here _ c.args.self.now.set c.args.self.now.readings c.args.place _ c.is_set.ensures.is c.in_ok-get.ensures.lookup.3.0 c.in_ok-get.ensures.lookup.1

pub returns-in_err-get : goal.returns-in_err-get
returns-in_err-get c =
    ap held_if c.from_residual.ensures ∙ past c.is_set.result c.args.self.now.set c.args.self.now.readings c.args.place c.is_set.ensures.is c.is_set.ensures.below c.args.self.now.whole c.in_err-get.ensures.lookup.3
