-- The list of an answer that is read is lawful. Assumes nothing.
use Rattle.std.proofs.Common.{◌≡◌, true, Some, None, Ok, Option, Result, subst}
use Rattle.event.specs.Bytes.{Bytes}
use Rattle.list.specs.Lists.{lawful_told}
use Rattle.list.specs.View.{told_by}
use Rattle.list.specs.declared.types.Occurrences.{Occurrences}
use Rattle.list.specs.declared.types.Overflow.{Overflow}
use Rattle.wire.specs.Laws.{OnlyAnswer}
use Rattle.wire.specs.Messages.{Answer as AnswerRead, read_answer}
use Rattle.wire.specs.View.{answer, read_by, answer_in}
use Rattle.wire.specs.declared.types.Message.{Message}
use Rattle.wire.specs.declared.types.Message.TheVariants.{Sync, Ack, Event, Answer}

-- what is read of an answer
answer-is : (o : Option AnswerRead) (a : AnswerRead) → Ok (answer a) ≡ answer_in o → o ≡ Some a
answer-is None a e = absurd (cc)
answer-is (Some b) a e = cc

-- the list of an answer
abbrev pub list_in : Message → Option (Result Occurrences Overflow)
list_in (Sync slot delays items) = None
list_in (Ack slot list) = None
list_in (Event generation retries list) = None
list_in (Answer slot list) = Some list

-- the list of an answer that is read is lawful
pub answer-lawful : (bytes : Bytes) (m : Message) (l : Result Occurrences Overflow) → OnlyAnswer → Ok (read_by m) ≡ answer_in (read_answer bytes) → list_in m ≡ Some l → lawful_told (told_by l) ≡ true
answer-lawful bytes (Sync slot delays items) l only e f = absurd (cc)
answer-lawful bytes (Ack slot list) l only e f = absurd (cc)
answer-lawful bytes (Event generation retries list) l only e f = absurd (cc)
answer-lawful bytes (Answer slot list) l only e f =
    let same : list ≡ l = cc in
    subst (λ (x : Result Occurrences Overflow). lawful_told (told_by x) ≡ true) same (only bytes _ (answer-is (read_answer bytes) _ e)).lawful
