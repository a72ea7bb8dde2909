use Rattle.std.proofs.Common.{◌≡◌, ℕ, suc, ◌-◌, Bool, false, eqb, List, [], ◌∷◌, length, Some, None, Option, MatchOption, Bor, sym, ap, ◌∙◌, arith, rules}
use Rattle.std.proofs.iter.Yields.{nat_range_steps}
use Rattle.std.specs.Iterator.{Yields}
use Rattle.std.specs.List.{FoldsTo}
use Rattle.std.specs.declared.ops.Range.{Range}
use Rattle.event.specs.Bytes.{Bytes}
use Rattle.list.specs.Reader.{is_body}
use Rattle.list.proofs.Bodies.{body-none}
use Rattle.list.proofs.read.is_body.Goals as goal

-- what is left decides, after each turn
along : {F : Type 0} (turn : F × Bor Bytes → ℕ → F × Bor Bytes → Type 0)
    → ((p : F × Bor Bytes) (x : ℕ) (q : F × Bor Bytes) → turn p x q → (n : ℕ) → is_body (suc n) p.1.now ≡ is_body n q.1.now)
    → (xs : List ℕ) (s t : Range ℕ) (p q : F × Bor Bytes) → Yields nat_range_steps s xs t → FoldsTo turn p xs q
    → is_body (t.end - t.start) q.1.now ≡ is_body (s.end - s.start) p.1.now
along turn more [] s t p q y f = λ i. is_body ((sym y i).end - (sym y i).start) (sym f i).1.now
along turn more (x ∷ xs) s t p q y f =
    let j = y.0 in
    let step = y.1 in
    let one : s.end - s.start ≡ suc (j.end - j.start) = omega (arith, step.0, step.1.0, step.1.2) in
    along turn more xs j t f.0 q y.2 f.2 ∙ sym (more p x f.0 f.1 _) ∙ ap (λ (k : ℕ). is_body k p.1.now) (sym one)

-- at the end of the range no byte may be left; before it, no occurrence stood there
ends : {W : Type 0} {B : ℕ → Type 0} (o : Option ℕ) (t u : Range ℕ) (a : Bytes) (v : Bool) → nat_range_steps t o u → MatchOption o W B
    → (W → v ≡ eqb (length a) 0) → ((x : ℕ) → B x → (v ≡ false) × ((n : ℕ) → is_body (suc n) a ≡ false)) → v ≡ is_body (t.end - t.start) a
ends None t u a v step w whole broken = whole w ∙ sym (body-none a) ∙ ap (λ (k : ℕ). is_body k a) (sym step.1.0)
ends (Some x) t u a v step b whole broken =
    let p = broken x b in
    let one : t.end - t.start ≡ suc (t.end - t.start - 1) = omega (arith, step.1.0) in
    p.0 ∙ sym (p.1 _) ∙ ap (λ (k : ℕ). is_body k a) (sym one)

pub returns : goal.returns
returns c =
    let ran = c.try_fold.ensures.ran in
    let last = ran.4 in
    let all : c.args.number - 0 ≡ c.args.number = omega arith in
    ends ran.1 last.0 c.try_fold.new.self ran.3.now c.is_some_and.result last.2 ran.6 (λ w. search rules) (λ x b. (search rules, search rules))
    ∙ along _ (λ p x q k. search rules) ran.0 _ last.0 _ (_, ran.3) last.1 ran.5
    ∙ ap (λ (k : ℕ). is_body k c.args.bytes.now) all
