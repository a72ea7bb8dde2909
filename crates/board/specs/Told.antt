-- What each kind of board tells. Assumes nothing.
use Rattle.board.specs.Boards.{Sources}
use Rattle.board.specs.Drives.{drive_sources}
use Rattle.board.specs.Tables.{table_sources}
use Rattle.board.specs.declared.drive.DriveBoard.{DriveBoard}
use Rattle.board.specs.declared.table.TableBoard.{TableBoard}

-- a drive board tells its statuses
abbrev pub drive_told : DriveBoard → Sources
drive_told b = drive_sources b.status

-- a table board tells its rows
abbrev pub table_told : TableBoard → Sources
table_told b = table_sources b.rows
