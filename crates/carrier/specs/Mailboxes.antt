-- The mailbox as its users see it. Assumes nothing.
use Rattle.std.specs.Prelude.{take}
use Rattle.carrier.specs.Carriers.{Line, linked, kept}
use Rattle.carrier.specs.declared.mailbox.Mailbox.{Mailbox}

-- the line of a mailbox: the message that it keeps lies there
abbrev pub line_of : Mailbox → Line
line_of m = linked m.up (kept m.destination (take m.len m.bytes))
