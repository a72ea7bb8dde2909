use Rattle.std.proofs.Common.{◌≡◌, Err, Option, rules}
use Rattle.event.specs.declared.refusal.Refusal.TheVariants.{UnlawfulAnswer}
use Rattle.wire.specs.Messages.{Answer}
use Rattle.wire.specs.View.{reads_by, answer_in}
use Rattle.protocol.specs.Book.{answer_read}
use Rattle.book.specs.Turns.{Spends}
use Rattle.book.proofs.Answered.{answer-lawful}
use Rattle.book.proofs.parts.Book.take_answer.Goals as goal

pub take_list-requires : goal.take_list-requires
take_list-requires c =
    let read = c.in-Ok-Answer.ensures in
    answer-lawful c.args.bytes.now _ c.in-Ok-Answer.list read.only read.said (search rules)

pub returns-in_default : goal.returns-in_default
returns-in_default c =
    let k = c.args.self.now in
    let refused : (o : Option Answer) → reads_by c.read_answer.result ≡ answer_in o → Spends (answer_read c.args.kind o k) c.go_blind.new.self (Err UnlawfulAnswer) = λ o e. search rules in
    refused _ c.read_answer.ensures.said
