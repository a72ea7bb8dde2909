use Rattle.std.proofs.Common.{◌≡◌, drop}
use Rattle.carrier.specs.Mailboxes.{line_of}
use Rattle.measured.specs.Rounds.{round, rounds, new_rounds}
use Rattle.measured.proofs.rounds.go_round.Given as goal

-- the rounds that are left give what the whole gives
abbrev pub invariant-loop-number : goal.invariant-loop-number
invariant-loop-number l =
    rounds l.even l.odd l.answer (drop l.number-index l.numbers) (line_of l.carrier) (round l.book l.last l.buffer)
    ≡ new_rounds l.opening l.even l.odd l.answer l.numbers l.fn.buffer
