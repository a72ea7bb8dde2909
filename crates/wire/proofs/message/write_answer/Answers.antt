use Rattle.std.proofs.Common.{◌+◌, ◌++◌, length, subst}
use Rattle.event.specs.Bytes.{Bytes}
use Rattle.event.specs.declared.refusal.Refusal.TheVariants.{AnswerBufferShort}
use Rattle.list.specs.Lists.{told, list_bytes}
use Rattle.marks.specs.View.{occurrences_in}
use Rattle.marks.specs.Written.{Written}
use Rattle.wire.specs.Checks.{checked}
use Rattle.wire.specs.Messages.{answer_message}
use Rattle.wire.proofs.Buffers.{written_gives}
use Rattle.wire.proofs.MessagesBack.{answers_read_back}
use Rattle.wire.proofs.message.write_answer.Goals as goal

pub returns : goal.returns
unfolding answer_message
returns g c =
    let l = list_bytes 0 (told (occurrences_in g.B.Board.told c.args.marked.now)) in
    let wrote = subst (λ (h : Bytes). Written (length h + 4107) (checked (h ++ l)) c.args.buffer.now c.write_framed.new.buffer c.write_framed.result) c.answer_head.ensures c.write_framed.ensures in
    record { wrote = written_gives 4115 AnswerBufferShort _ _ _ _ _ wrote c.ok_or.ensures.value; back = answers_read_back }
