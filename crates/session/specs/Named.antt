-- What a named board tells, and what a named carrier carries. Assumes nothing.
use Rattle.board.specs.Boards.{Sources}
use Rattle.board.specs.Told.{drive_told, table_told}
use Rattle.carrier.specs.Carriers.{Line}
use Rattle.carrier.specs.Mailboxes.{line_of as mailbox_line}
use Rattle.smbus.specs.Seen.{line_of as smbus_line}
use Rattle.session.specs.declared.boards.NamedBoard.{NamedBoard}
use Rattle.session.specs.declared.boards.NamedBoard.TheVariants.{Drive, Table}
use Rattle.session.specs.declared.carriers.NamedCarrier.{NamedCarrier}
use Rattle.session.specs.declared.carriers.NamedCarrier.TheVariants.{Mailbox, Smbus}

-- what a named board tells
abbrev pub told_by : NamedBoard → Sources
told_by (Drive b) = drive_told b
told_by (Table b) = table_told b

-- what a named carrier carries
abbrev pub carried_by : NamedCarrier → Line
carried_by (Mailbox m) = mailbox_line m
carried_by (Smbus s) = smbus_line s
