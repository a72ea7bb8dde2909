-- Each arm changes the reading at its place.
use Rattle.std.proofs.Common.{refl, arith}
use Rattle.event.specs.Sources.{lawful_reading}
use Rattle.board.specs.Boards.{at, takes, reread}
use Rattle.board.specs.Drives.{drive_sources}
use Rattle.board.proofs.Drives.{put_sets, empty_sets, past_sets}
use Rattle.board.proofs.status.DriveStatus.set.Goals as goal

pub returns-in-0 : goal.returns-in-0
unfolding drive_sources takes at lawful_reading reread
returns-in-0 c = put_sets 0 1 _ c.in-0.is c.put.ensures.taken c.put.ensures.after refl refl refl

pub returns-in-1 : goal.returns-in-1
unfolding drive_sources takes at lawful_reading reread
returns-in-1 c = put_sets 1 1 _ c.in-1.is c.put-in-1.ensures.taken c.put-in-1.ensures.after refl refl refl

pub returns-in-2 : goal.returns-in-2
unfolding drive_sources takes at lawful_reading reread
returns-in-2 c = put_sets 2 7 _ c.in-2.is c.put-in-2.ensures.taken c.put-in-2.ensures.after refl refl refl

pub returns-in-3 : goal.returns-in-3
unfolding drive_sources takes at lawful_reading reread
returns-in-3 c = put_sets 3 3 _ c.in-3.is c.put-in-3.ensures.taken c.put-in-3.ensures.after refl refl refl

pub returns-in-4 : goal.returns-in-4
unfolding drive_sources takes at lawful_reading reread
returns-in-4 c = empty_sets 4 c.in-4.is c.is_empty.ensures refl refl

pub returns-in-5 : goal.returns-in-5
unfolding drive_sources takes at lawful_reading reread
returns-in-5 c = empty_sets 5 c.in-5.is c.is_empty-in-5.ensures refl refl

pub returns-in-6 : goal.returns-in-6
unfolding drive_sources takes at lawful_reading reread
returns-in-6 c = put_sets 6 255 _ c.in-6.is c.put-in-6.ensures.taken c.put-in-6.ensures.after refl refl refl

pub returns-in-7 : goal.returns-in-7
unfolding drive_sources takes at lawful_reading reread
returns-in-7 c = put_sets 7 255 _ c.in-7.is c.put-in-7.ensures.taken c.put-in-7.ensures.after refl refl refl

pub returns-in-8 : goal.returns-in-8
unfolding drive_sources takes at lawful_reading reread
returns-in-8 c = put_sets 8 255 _ c.in-8.is c.put-in-8.ensures.taken c.put-in-8.ensures.after refl refl refl

pub returns-in-9 : goal.returns-in-9
unfolding drive_sources takes at lawful_reading reread
returns-in-9 c = put_sets 9 255 _ c.in-9.is c.put-in-9.ensures.taken c.put-in-9.ensures.after refl refl refl

pub returns-in-10 : goal.returns-in-10
unfolding drive_sources takes at lawful_reading reread
returns-in-10 c = empty_sets 10 c.in-10.is c.is_empty-in-10.ensures refl refl

pub returns-in-11 : goal.returns-in-11
unfolding drive_sources takes at lawful_reading reread
returns-in-11 c = put_sets 11 1 _ c.in-11.is c.put-in-11.ensures.taken c.put-in-11.ensures.after refl refl refl

pub returns-in_default : goal.returns-in_default
unfolding drive_sources
returns-in_default c = past_sets (drive_sources c.args.self.now) c.args.place c.args.reading.now (omega arith)
