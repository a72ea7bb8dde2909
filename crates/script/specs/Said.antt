-- Actions and commands, with lists for their vectors. Assumes nothing.
use Rattle.std.specs.Prelude.{ℕ, Ok, Err, Option, Result, List, option_map, vec_items}
use Rattle.event.specs.Bytes.{Bytes}
use Rattle.event.specs.declared.id.UniqueId.{UniqueId}
use Rattle.wire.specs.declared.types.Item.{Item}
use Rattle.script.specs.declared.command.Action.{Action}
use Rattle.script.specs.declared.command.Action.TheVariants.{Change, Sync, Hand, Take}
use Rattle.script.specs.declared.command.Command.{Command}
use Rattle.script.specs.declared.command.Command.TheVariants.{Row, Call}
use Rattle.syntax.specs.declared.fault.Fault.{Fault}

-- what words say of an action; one that has no vector is itself
pub data SaidAction : Type 0 where
  said_change : (place : ℕ) → (reading : Bytes) → SaidAction
  said_sync : (delay retry : ℕ) → (items : List Item) → SaidAction
  said_hand : (sender : ℕ) → (message : Option Bytes) → SaidAction
  said_take : (message : Option Bytes) → SaidAction
  said_other : Action → SaidAction

-- an action, as words say it
abbrev pub action_said : Action → SaidAction
action_said (Change place reading) = said_change place (vec_items reading)
action_said (Sync delays items) = said_sync delays.first.0 delays.retry.0 (vec_items items)
action_said (Hand sender message) = said_hand sender (option_map vec_items message)
action_said (Take message) = said_take (option_map vec_items message)
action_said other = said_other other

-- what words say of a command; one that has no vector is itself
pub data SaidCommand : Type 0 where
  said_row : UniqueId → (reading : Bytes) → SaidCommand
  said_call : SaidAction → (text : Bytes) → (room : ℕ) → SaidCommand
  said_plain : Command → SaidCommand

-- a command, as words say it
abbrev pub command_said : Command → SaidCommand
command_said (Row id reading) = said_row id (vec_items reading)
command_said (Call action text room) = said_call (action_said action) (vec_items text) room
command_said other = said_plain other

-- one result and then another; the first fault counts
infixl 10 ◌>>=◌
abbrev pub ◌>>=◌ : {A B : Type 0} → Result A Fault → (A → Result B Fault) → Result B Fault
Ok value >>= f = f value
Err fault >>= f = Err fault
