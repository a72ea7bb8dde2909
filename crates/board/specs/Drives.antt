-- What the drive board tells: a source of each event from 00h to 0Bh, in this order. Assumes nothing.
use Rattle.std.specs.Prelude.{◌≡◌, ℕ, Bool, [], ◌∷◌}
use Rattle.event.specs.Bytes.{Bytes}
use Rattle.event.specs.Sources.{occurrence}
use Rattle.event.specs.declared.id.UniqueId.{UniqueId}
use Rattle.board.specs.Boards.{Sources, takes, after_set}
use Rattle.board.specs.declared.status.DriveStatus.{DriveStatus}

-- an event of the controller
abbrev pub of_controller : (identifier controller : ℕ) → UniqueId
of_controller identifier controller = record { identifier = identifier; scope = 1; info = controller }

-- an event of the whole subsystem
abbrev pub of_subsystem : (identifier : ℕ) → UniqueId
of_subsystem identifier = record { identifier = identifier; scope = 2; info = 0 }

-- an event of the NVMe-MI port 0
abbrev pub of_port : (identifier : ℕ) → UniqueId
of_port identifier = record { identifier = identifier; scope = 4; info = 0x10000 }

-- what a drive's board tells, from its controller ID and its statuses; 04h, 05h and 0Ah have an empty reading
unfoldable pub drive_sources : DriveStatus → Sources
drive_sources d =
    occurrence (of_controller 0x00 d.controller) (d.controller_ready ∷ [])
    ∷ occurrence (of_controller 0x01 d.controller) (d.controller_fatal ∷ [])
    ∷ occurrence (of_controller 0x02 d.controller) (d.shutdown_status ∷ [])
    ∷ occurrence (of_controller 0x03 d.controller) (d.controller_enable ∷ [])
    ∷ occurrence (of_controller 0x04 d.controller) []
    ∷ occurrence (of_subsystem 0x05) []
    ∷ occurrence (of_subsystem 0x06) (d.composite_temperature ∷ [])
    ∷ occurrence (of_subsystem 0x07) (d.drive_life_used ∷ [])
    ∷ occurrence (of_subsystem 0x08) (d.available_spare ∷ [])
    ∷ occurrence (of_subsystem 0x09) (d.smart_warnings ∷ [])
    ∷ occurrence (of_subsystem 0x0A) []
    ∷ occurrence (of_port 0x0B) (d.link_active ∷ [])
    ∷ []

-- the drive of a new board: every status is zero
abbrev pub at_rest : (controller : ℕ) → DriveStatus
at_rest controller = record {
  controller = controller;
  controller_ready = 0;
  controller_fatal = 0;
  shutdown_status = 0;
  controller_enable = 0;
  composite_temperature = 0;
  drive_life_used = 0;
  available_spare = 0;
  smart_warnings = 0;
  link_active = 0;
}

-- what a new drive board tells
unfoldable pub new_drive : (controller : ℕ) → Sources
new_drive controller = drive_sources (at_rest controller)

-- a set hands back whether it was taken, and leaves the sources after it
pub record Sets (told : Sources) (place : ℕ) (reading : Bytes) (taken : Bool) (after : Sources) : Type 0 where
  pub answer : taken ≡ takes told place reading
  pub leaves : after ≡ after_set told place reading
