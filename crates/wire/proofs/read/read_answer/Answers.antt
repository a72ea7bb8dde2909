use Rattle.wire.proofs.MessagesBack.{only-answer, answer_framed}
use Rattle.std.proofs.Common.{rules}
use Rattle.wire.proofs.read.read_answer.Goals as goal

pub returns-in_err-read : goal.returns-in_err-read
returns-in_err-read c =
    let framed = answer_framed c.args.bytes.now _ _ _ (search) c.answer_head.ensures c.read_framed.ensures in
    record { said = rw framed (search rules); only = only-answer }

pub returns : goal.returns
returns c =
    let framed = answer_framed c.args.bytes.now _ _ _ (search) c.answer_head.ensures c.read_framed.ensures in
    record { said = rw framed (search rules); only = only-answer }
