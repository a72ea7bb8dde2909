use Rattle.event.specs.declared.refusal.Refusal.TheVariants.{TickBufferShort}
use Rattle.wire.specs.Messages.{event_message}
use Rattle.wire.proofs.Buffers.{written_gives}
use Rattle.wire.proofs.MessagesBack.{events_read_back}
use Rattle.wire.proofs.message.write_event.Goals as goal

pub returns : goal.returns
unfolding event_message
returns g c = record { wrote = written_gives 4111 TickBufferShort _ _ _ _ _ c.write_framed.ensures c.ok_or.ensures.value; back = events_read_back }
