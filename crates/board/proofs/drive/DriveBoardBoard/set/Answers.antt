use Rattle.std.proofs.Common.{ap, ◌∙◌}
use Rattle.board.specs.Boards.{lawful_board}
use Rattle.board.specs.Drives.{drive_sources}
use Rattle.board.proofs.Rereads.{lawful-after}
use Rattle.board.proofs.drive.DriveBoardBoard.set.Goals as goal

pub invariant_of-self : goal.invariant_of-self
invariant_of-self c =
    let board = c.args.self.now in
    record { lawful = ap lawful_board c.set.ensures.leaves ∙ lawful-after (drive_sources board.status) c.args.place c.args.reading.now board.lawful }
