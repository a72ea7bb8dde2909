use Rattle.promises.proofs.book_shows_what_was.Goals as goal
use Rattle.promises.proofs.Right.{book-shows-what-was}
use Rattle.wire.proofs.MessagesBack.{events_read_back, answers_read_back}

pub returns : goal.returns
returns c = book-shows-what-was events_read_back answers_read_back
