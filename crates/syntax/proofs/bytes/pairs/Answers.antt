use Rattle.std.proofs.Common.{◌≡◌, ◌+◌, ◌*◌, ◌/◌, ◌<◌, [], ◌∷◌, length, vec_items, drop, sym, refl, ap, ◌∙◌, inr, arith, true-eqb, false-eqb}
use Rattle.std.proofs.lemmas.Slice.{pushed}
use Rattle.std.proofs.lemmas.Result.{err_from_is_err_and}
use Rattle.syntax.specs.declared.fault.Fault.TheVariants.{NoDigits}
use Rattle.syntax.proofs.Values.{missing}
use Rattle.syntax.proofs.Rows.{after, said_by, after_none, said_by-chunks, pair_turn, pair-first, pair-second, pairs_even, pairs_odd}
use Rattle.syntax.proofs.bytes.pairs.Goals as goal

pub loop-high-init : goal.loop-high-init
loop-high-init c =
    let word = c.args.word.now in
    let twos = c.as_chunks.result.0.now in
    let over = c.as_chunks.result.1.now in
    ap (λ l. after l (said_by over twos)) c.new-bytes.ensures.items
    ∙ after_none (said_by over twos)
    ∙ ap (λ l. said_by l twos) c.as_chunks.ensures.back
    ∙ ap (said_by (drop (length word / 2 * 2) word)) c.as_chunks.ensures.front
    ∙ said_by-chunks (length word / 2) word refl

pub returns-in_err-high : goal.returns-in_err-high
returns-in_err-high c =
    let p = err_from_is_err_and c.from_residual.result c.from_residual.ensures.1 in
    let fault = missing c.digit.result NoDigits c.in_err-high.field-0.0 c.in_err-high.ensures.value in
    rw (p.1, p.2, fault)
    (inr (sym c.loop-high.invariant ∙ pair-first (vec_items c.loop-high.bytes) c.as_chunks.result.1.now c.as_chunks.result.0.now c.loop-high.high-index c.loop-high-test.true (sym c.in_err-high.ensures.ok_part ∙ c.digit.ensures)))

pub returns-in_err-low : goal.returns-in_err-low
returns-in_err-low c =
    let p = err_from_is_err_and c.from_residual-in_err-low.result c.from_residual-in_err-low.ensures.1 in
    let fault = missing c.digit-in-loop-high.result NoDigits c.in_err-low.field-0.0 c.in_err-low.ensures.value in
    rw (p.1, p.2, fault)
    (inr (sym c.loop-high.invariant ∙ pair-second (vec_items c.loop-high.bytes) c.as_chunks.result.1.now c.as_chunks.result.0.now c.loop-high.high-index c.in_ok-high.high c.loop-high-test.true (sym c.in_ok-high.ensures.ok_part ∙ c.digit.ensures) (sym c.in_err-low.ensures.ok_part ∙ c.digit-in-loop-high.ensures)))

pub loop-high-preserved : goal.loop-high-preserved
loop-high-preserved c =
    pair_turn (vec_items c.loop-high.bytes) (vec_items c.push.new.self) c.as_chunks.result.1.now c.as_chunks.result.0.now c.loop-high.high-index c.in_ok-high.high c.in_ok-low.low c.loop-high-test.true
    (sym c.in_ok-high.ensures.ok_part ∙ c.digit.ensures)
    (sym c.in_ok-low.ensures.ok_part ∙ c.digit-in-loop-high.ensures)
    (pushed ((c.in_ok-high.high * 16 + c.in_ok-low.low) ∷ []) refl c.in_ok-push.was c.push.ensures.items)
    ∙ c.loop-high.invariant

pub returns-then-not-is_empty : goal.returns-then-not-is_empty
returns-then-not-is_empty c =
    let some : 0 < length c.as_chunks.result.1.now = omega (arith, false-eqb _ 0 c.if-not-is_empty.ensures) in
    inr (sym c.loop-high.invariant ∙ pairs_odd (vec_items c.loop-high.bytes) c.as_chunks.result.1.now c.as_chunks.result.0.now c.loop-high.high-index c.loop-high-test.false some)

pub returns : goal.returns
returns c =
    let none : length c.as_chunks.result.1.now ≡ 0 = true-eqb _ 0 c.if-not-is_empty.ensures in
    sym c.loop-high.invariant ∙ pairs_even (vec_items c.loop-high.bytes) c.as_chunks.result.1.now c.as_chunks.result.0.now c.loop-high.high-index c.loop-high-test.false none
