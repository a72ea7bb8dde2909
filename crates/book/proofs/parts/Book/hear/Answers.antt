use Rattle.std.proofs.Common.{◌≡◌, Err, Option, rules}
use Rattle.event.specs.declared.refusal.Refusal.TheVariants.{SameGeneration}
use Rattle.wire.specs.Messages.{Event}
use Rattle.wire.specs.View.{reads_by, event_in}
use Rattle.protocol.specs.Book.{heard}
use Rattle.book.specs.Turns.{Spends}
use Rattle.book.proofs.parts.Book.hear.Goals as goal

pub returns-then-remembers : goal.returns-then-remembers
returns-then-remembers c =
    let k = c.args.self.now in
    let same : (o : Option Event) → reads_by c.read_event.result ≡ event_in o → Spends (heard k.phase c.args.bytes.now o k) k (Err SameGeneration) = λ o e. search rules in
    same _ c.read_event.ensures.said
