use Rattle.std.proofs.Common.{ap, ◌∙◌, arith}
use Rattle.board.specs.Boards.{lawful_board}
use Rattle.board.specs.Drives.{new_drive}
use Rattle.board.proofs.Drives.{new_lawful}
use Rattle.board.proofs.drive.DriveBoard.new.Goals as goal

pub returns : goal.returns
unfolding new_drive
returns c = cc

pub invariant_of-result : goal.invariant_of-result
unfolding new_drive
invariant_of-result c = record { lawful = ap lawful_board (cc) ∙ new_lawful c.args.controller (omega arith) }
