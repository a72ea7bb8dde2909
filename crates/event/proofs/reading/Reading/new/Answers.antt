-- The bytes stand before zeros up to the 64th.
use Rattle.std.proofs.Common.{◌≡◌, ℕ, Bool, true, cond, leb, List, ◌++◌, length, take, drop, replicate, Some, None, refl, sym, ap, ◌∙◌, arith}
use Rattle.std.proofs.lemmas.List.{take_at, length-append, length-drop, length-replicate}
use Rattle.std.proofs.lemmas.Bool.Decides.{nat_tests}
use Rattle.event.proofs.reading.Reading.new.Goals as goal

-- the zeros after n bytes
abbrev zeros : ℕ → List ℕ
zeros n = drop n (replicate 64 0)

pub returns : goal.returns
returns c =
    let bytes = c.args.bytes.now in
    let e = ap (λ (l : List ℕ). take (length bytes) (l ++ zeros (length bytes))) c.copy_from_slice.ensures.after ∙ take_at bytes (zeros (length bytes)) _ refl in
    let short : leb (length bytes) 64 ≡ true = grind (arith, nat_tests) in
    ap Some e ∙ sym (ap (λ (b : Bool). cond b (Some bytes) None) short)

pub invariant_of-result : goal.invariant_of-result
invariant_of-result c = record {
  short = omega arith;
  whole = ap (λ (l : List ℕ). length (l ++ zeros (length c.args.bytes.now))) c.copy_from_slice.ensures.after ∙ simp (length-append, length-drop, length-replicate) (omega arith);
}
