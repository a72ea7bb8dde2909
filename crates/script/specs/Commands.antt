-- What the lines of a script say. Assumes nothing.
use Rattle.std.specs.Prelude.{ℕ, cond, List, [], ◌∷◌, length, Some, None, Ok, Err, Option, Result, codes}
use Rattle.std.specs.Str.{bytes_eq}
use Rattle.event.specs.Bytes.{Bytes}
use Rattle.script.specs.declared.command.Action.TheVariants.{Tick}
use Rattle.script.specs.declared.command.Command.{Command}
use Rattle.script.specs.declared.command.Command.TheVariants.{DriveBoard, TableBoard, Mailbox, Smbus}
use Rattle.syntax.specs.declared.fault.Fault.{Fault}
use Rattle.syntax.specs.declared.fault.Fault.TheVariants.{UnknownWord, WordMissing, WordTooMany}
use Rattle.syntax.specs.Lines.{spaced}
use Rattle.syntax.specs.Numbers.{number_of}
use Rattle.syntax.specs.Strings.{bytes_of}
use Rattle.script.specs.Actions.{miscount, id_of, action_of}
use Rattle.script.specs.Rooms.{asked_for, room_for, roomed}
use Rattle.script.specs.Said.{SaidAction, said_other, SaidCommand, said_row, said_call, command_said, ◌>>=◌}

-- the call as the record repeats it: a tick without its count
abbrev pub text_of : SaidAction → List Bytes → Bytes
text_of (said_other (Tick count)) words = codes "tick"
text_of action words = spaced words

-- a call of these words, and the room that it says
abbrev pub called : List Bytes → Option ℕ → Result SaidCommand Fault
called [] said = Err WordMissing
called (name ∷ rest) said = do
  action ← action_of name rest
  room ← room_for (asked_for action) said
  Ok (said_call action (text_of action (name ∷ rest)) room)

-- a call, which may end in its room
abbrev pub call_of : List Bytes → Result SaidCommand Fault
call_of words = roomed words >>= (λ p. called p.0 p.1)

-- the drive board: its controller ID
abbrev pub drive_of : List Bytes → Result Command Fault
drive_of (id ∷ []) = number_of 16 65535 id >>= (λ controller. Ok (DriveBoard controller))
drive_of words = Err (miscount (length words) 1)

-- a command that has no more words
abbrev pub bare : Command → List Bytes → Result Command Fault
bare command [] = Ok command
bare command (w ∷ ws) = Err WordTooMany

-- a board: its name, and for the drive board the controller ID
abbrev pub board_of : List Bytes → Result Command Fault
board_of [] = Err WordMissing
board_of (name ∷ rest) =
    cond (bytes_eq name (codes "table")) (bare TableBoard rest) (cond (bytes_eq name (codes "drive")) (drive_of rest) (Err UnknownWord))

-- the row that four words say
abbrev pub row_by : (identifier scope info reading : Bytes) → Result SaidCommand Fault
row_by identifier scope info reading = do
  id ← id_of identifier scope info
  bytes ← bytes_of reading
  Ok (said_row id bytes)

-- a row of the table board: unique ID, reading
abbrev pub row_of : List Bytes → Result SaidCommand Fault
row_of (identifier ∷ scope ∷ info ∷ reading ∷ []) = row_by identifier scope info reading
row_of words = Err (miscount (length words) 4)

-- the SMBus carrier that three words say: destination address, source address, source endpoint ID
abbrev pub smbus_by : (first second third : Bytes) → Result Command Fault
smbus_by first second third = do
  destination ← number_of 16 255 first
  source ← number_of 16 255 second
  id ← number_of 16 255 third
  Ok (Smbus destination source id)

-- the SMBus carrier: destination address, source address, source endpoint ID
abbrev pub smbus_of : List Bytes → Result Command Fault
smbus_of (first ∷ second ∷ third ∷ []) = smbus_by first second third
smbus_of words = Err (miscount (length words) 3)

-- a carrier: its name, and for the SMBus carrier the two addresses and the endpoint ID
abbrev pub carrier_of : List Bytes → Result Command Fault
carrier_of [] = Err WordMissing
carrier_of (name ∷ rest) =
    cond (bytes_eq name (codes "mailbox")) (bare Mailbox rest) (cond (bytes_eq name (codes "smbus")) (smbus_of rest) (Err UnknownWord))

-- the command of words: its name, and the words after it; any other name is that of a call
abbrev pub command_of : List Bytes → Result SaidCommand Fault
command_of [] = Err WordMissing
command_of (name ∷ rest) =
    cond (bytes_eq name (codes "board")) (board_of rest >>= (λ command. Ok (command_said command)))
    (cond (bytes_eq name (codes "row")) (row_of rest)
    (cond (bytes_eq name (codes "carrier")) (carrier_of rest >>= (λ command. Ok (command_said command)))
    (call_of (name ∷ rest))))

-- the command of a line's words; none if there are no words
abbrev pub line_of : List Bytes → Result (Option SaidCommand) Fault
line_of [] = Ok None
line_of (name ∷ rest) = command_of (name ∷ rest) >>= (λ command. Ok (Some command))
