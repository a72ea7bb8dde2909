use Rattle.promises.proofs.book_shows_present.Goals as goal
use Rattle.promises.proofs.Right.{book-shows-present}
use Rattle.wire.proofs.MessagesBack.{events_read_back, answers_read_back}

pub returns : goal.returns
returns c = book-shows-present events_read_back answers_read_back
