use Rattle.std.proofs.Common.{◌≡◌, ◌-◌, ◌^◌, ◌<◌, length, Ok, Err, MatchResult, sym, ◌∙◌, arith, rules, false-eqb}
use Rattle.std.proofs.lemmas.Result.{err_from_is_err_and, MatchResult-weaker}
use Rattle.syntax.specs.declared.fault.Fault.TheVariants.{NoNumber, OutOfRange}
use Rattle.syntax.proofs.Values.{missing, digit_more, digit_none, digits_all, turned, number_is}
use Rattle.syntax.proofs.number.number.Goals as goal

pub returns-in_err-digit : goal.returns-in_err-digit
returns-in_err-digit g c =
    let some : 0 < length c.args.word.now = omega (arith, false-eqb _ 0 c.if-is_empty.ensures) in
    let p = err_from_is_err_and c.from_residual.result c.from_residual.ensures.1 in
    let none = digit_none c.args.base g.T.Unsigned.greatest c.loop-byte.value c.loop-byte.byte-index c.args.word.now c.loop-byte-test.true (sym c.in_err-digit.ensures.ok_part ∙ c.digit_in.ensures) in
    let fault = missing c.digit_in.result NoNumber c.in_err-digit.field-0.0 c.in_err-digit.ensures.value in
    rw (p.1, p.2, fault)
    (sym (number_is c.args.base g.T.Unsigned.greatest c.args.word.now some ∙ sym c.loop-byte.invariant.said ∙ none))

pub loop-byte-preserved : goal.loop-byte-preserved
loop-byte-preserved g c =
    let low = g.met.T.Unsigned.laws.low in
    record {
      capped = omega arith;
      said =
          digit_more c.args.base g.T.Unsigned.greatest (2 ^ 64) c.loop-byte.value c.in_ok-digit.digit c.min-value.result c.loop-byte.byte-index c.args.word.now c.requires.low low c.loop-byte-test.true (sym c.in_ok-digit.ensures.ok_part ∙ c.digit_in.ensures) (cc)
          ∙ c.loop-byte.invariant.said;
    }

pub returns : goal.returns
returns g c =
    let some : 0 < length c.args.word.now = omega (arith, false-eqb _ 0 c.if-is_empty.ensures) in
    let held = g.met.T.Unsigned.laws.held c.loop-byte.value c.try_from.result c.try_from.ensures in
    let e : MatchResult c.try_from.result (λ v. c.map_err.result ≡ Ok v) (λ _. c.map_err.result ≡ Err OutOfRange) =
    MatchResult-weaker c.try_from.result c.map_err.ensures.cases (λ x p. p) (λ y p. search rules) in
    turned g.T.Unsigned.greatest g.T.Unsigned.number c.loop-byte.value c.try_from.result c.map_err.result held e
    ∙ sym (number_is c.args.base g.T.Unsigned.greatest c.args.word.now some ∙ sym c.loop-byte.invariant.said ∙ digits_all c.args.base g.T.Unsigned.greatest c.loop-byte.value c.loop-byte.byte-index c.args.word.now c.loop-byte-test.false)
