-- The first two promises. Assumes nothing.
use Rattle.event.specs.Sources.{ids}
use Rattle.wire.specs.Laws.{EventsReadBack, AnswersReadBack}
use Rattle.protocol.specs.Pair.{new_pair, run}
use Rattle.protocol.specs.History.{new_history, after_calls}
use Rattle.protocol.specs.Promise.{BookShowsPresent, BookShowsWhatWas}
use Rattle.promises.proofs.Lawful.{readings_of, laws_of}
use Rattle.promises.proofs.Steps.{runs, starts, shows-present, shows_what_was}

pub book-shows-present : EventsReadBack → AnswersReadBack → BookShowsPresent
book-shows-present events answers b c calls lawful given =
    let new = new_pair b c in
    shows-present (ids b) (run new calls) (after_calls new calls new_history)
    (runs (ids b) (laws_of events answers b lawful) new new_history calls given (starts b c (readings_of b lawful)))

pub book-shows-what-was : EventsReadBack → AnswersReadBack → BookShowsWhatWas
book-shows-what-was events answers b c calls lawful given =
    let new = new_pair b c in
    shows_what_was (ids b) (run new calls) (after_calls new calls new_history)
    (runs (ids b) (laws_of events answers b lawful) new new_history calls given (starts b c (readings_of b lawful)))
