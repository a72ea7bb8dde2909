use Rattle.std.proofs.Common.{◌+◌, drop, ap, ◌∙◌}
use Rattle.event.specs.Bytes.{Bytes}
use Rattle.carrier.specs.Carriers.{after_put}
use Rattle.carrier.specs.Mailboxes.{line_of}
use Rattle.measured.specs.Rounds.{Round, round, rounds, picked}
use Rattle.measured.proofs.Calls.{round_more, round_end}
use Rattle.measured.proofs.rounds.go_round.Goals as goal

pub loop-number-preserved : goal.loop-number-preserved
loop-number-preserved c =
    let even = c.args.even.now in
    let odd = c.args.odd.now in
    let answer = c.args.answer.now in
    let ns = c.args.numbers.now in
    let i = c.loop-number.number-index in
    let rest = drop (i + 1) ns in
    let line = line_of c.loop-number.carrier in
    let r = round c.loop-number.book c.loop-number.last c.loop-number.buffer in
    (λ t. rounds even odd answer rest (c.round-last.ensures.line t) (c.round-last.ensures.round c.loop-number.last t))
    ∙ ap (λ (m : Bytes). rounds even odd answer rest (after_put line 0 m) (picked answer (after_put line 0 m) r)) c.choose-message.ensures
    ∙ round_more even odd answer ns i line r c.loop-number-test.true
    ∙ c.loop-number.invariant

pub returns-clause-result : goal.returns-clause-result
returns-clause-result c =
    let r = round c.loop-number.book c.loop-number.last c.loop-number.buffer in
    ap (λ (x : Round). x.result) (round_end c.args.even.now c.args.odd.now c.args.answer.now c.args.numbers.now c.loop-number.number-index (line_of c.loop-number.carrier) r c.loop-number-test.false ∙ c.loop-number.invariant)

pub returns-clause-buffer : goal.returns-clause-buffer
returns-clause-buffer c =
    let r = round c.loop-number.book c.loop-number.last c.loop-number.buffer in
    ap (λ (x : Round). x.buffer) (round_end c.args.even.now c.args.odd.now c.args.answer.now c.args.numbers.now c.loop-number.number-index (line_of c.loop-number.carrier) r c.loop-number-test.false ∙ c.loop-number.invariant)
